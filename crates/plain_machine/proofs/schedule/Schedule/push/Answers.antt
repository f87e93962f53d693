use Rattle.std.proofs.Common.{ap, ◌≡◌, ◌∙◌, ◌++◌, ◌∷◌, []}
use Rattle.plain_machine.specs.Packed.{moves_of}
use Rattle.plain_machine.proofs.PackedMoves.{put_rise, put_same, pushed_moves, pushed_rise}
use Rattle.std.specs.Prelude.{OnErr, Result, Ok, Err}
use Rattle.plain_text.specs.declared.memory.NoMemory.{NoMemory}
use Rattle.plain_machine.proofs.schedule.Schedule.push.Goals as goal

OnErr-same : {X : Type 0} (r : Result X NoMemory) {A : Type 0} → A → OnErr r A
OnErr-same (Ok x) a = tt
OnErr-same (Err e) a = a

pub invariant_of-self-in_err-push : goal.invariant_of-self-in_err-push
invariant_of-self-in_err-push c =
    rw c.in_err-push.ensures.err (put_rise c.self.inside.answers c.self.inside.packed c.self.invariant c.args.plain.answer
    c.in_ok-place.place c.put_answer.new.answers c.in_ok-place.ensures.ok)

pub returns-in_err-push-clause-err : goal.returns-in_err-push-clause-err
returns-in_err-push-clause-err c =
    let same : moves_of c.put_answer.new.answers c.push.new.self ≡ c.args.self.now =
    ap (moves_of c.put_answer.new.answers) c.in_err-push.ensures.err
    ∙ put_same c.self.inside.answers c.self.inside.packed c.self.invariant c.args.plain.answer c.in_ok-place.place
    c.put_answer.new.answers c.in_ok-place.ensures.ok ∙ c.self.view_is in
    OnErr-same c.from_residual-in_err-push.result same

pub invariant_of-self-2 : goal.invariant_of-self-2
invariant_of-self-2 c =
    rw c.in_ok-push.ensures.ok (pushed_rise c.self.inside.answers c.self.inside.packed c.self.invariant
    c.args.plain.answer c.args.plain.thread c.in_ok-place.place c.put_answer.new.answers c.in_ok-place.ensures.ok)

pub returns-clause-ok : goal.returns-clause-ok
returns-clause-ok c =
    ap (moves_of c.put_answer.new.answers) c.in_ok-push.ensures.ok
    ∙ pushed_moves c.self.inside.answers c.self.inside.packed c.self.invariant c.args.plain.answer c.args.plain.thread
    c.in_ok-place.place c.put_answer.new.answers c.in_ok-place.ensures.ok
    ∙ ap (λ l. l ++ c.args.plain ∷ []) c.self.view_is
