use Rattle.std.proofs.Common.{rules, ◌≡◌, ◌+◌, ◌∙◌, arith, ap, sym, subst, None, Ok, Err}
use Rattle.input_logger.specs.Inputs.{input_at}
use Rattle.plain_machine.specs.declared.plain_move.PlainMove.{PlainMove}
use Rattle.plain_player.specs.Playing.{next_input}
use Rattle.plain_player.proofs.NextInputs.{input_there}
use Rattle.plain_player.proofs.PlayedOn.{SoFar, history_of, made_more, not_made}
use Rattle.plain_player.proofs.whole.play.Goals as goal

-- a move for a place that is not there
abbrev none_move : PlainMove
none_move = record { thread = 0; answer = None }

pub step-requires-clause-input : goal.step-requires-clause-input
step-requires-clause-input g c κs within =
    let m = g.P.Program.meaning c.args.program.now in
    let fed = c.args.inputs.now in
    let so = c.loop-index.invariant.so_far in
    input_there m fed fed.threads so.steps c.loop-index.player _ _ c.input-input.result
    (history_of m fed c.args.schedule.now c.loop-index.index c.loop-index.player c.loop-index.emissions so) so.stands
    (c.input-input.ensures ∙ ap (input_at fed _) c.next_input.ensures)

pub returns-in-Err : goal.returns-in-Err
returns-in-Err g c =
    let m = g.P.Program.meaning c.args.program.now in
    let fed = c.args.inputs.now in
    let bad : c.step.result ≡ Err c.in-Err.error = search rules in
    rw c.fault_of.ensures (not_made m fed c.args.schedule.now c.loop-index.index
    (omega (arith, c.loop-index-test.true, c.len-index-end.ensures)) c.at-plain.result none_move
    (c.at-plain.ensures none_move) c.loop-index.player c.step.new.self
    c.loop-index.emissions c.loop-index.invariant.so_far c.step.result
    (λ inputs threads steps stands given. c.step.ensures.follows inputs threads steps stands
    ((c.input-input.ensures ∙ ap (input_at fed _) c.next_input.ensures) ∙ given)) c.in-Err.error bad)

pub loop-index-preserved : goal.loop-index-preserved
loop-index-preserved g c =
    let m = g.P.Program.meaning c.args.program.now in
    let fed = c.args.inputs.now in
    let good : c.step.result ≡ Ok c.in-Ok.sent = search rules in
    let more = made_more m fed c.args.schedule.now c.loop-index.index
    (omega (arith, c.loop-index-test.true, c.len-index-end.ensures)) c.at-plain.result none_move
    (c.at-plain.ensures none_move) c.loop-index.player c.step.new.self
    c.loop-index.emissions c.loop-index.invariant.so_far c.step.result
    (λ inputs threads steps stands given. c.step.ensures.follows inputs threads steps stands
    ((c.input-input.ensures ∙ ap (input_at fed _) c.next_input.ensures) ∙ given)) c.in-Ok.sent good in
    record {
      fits = search rules;
      made = search rules;
      so_far = subst (λ l. SoFar m fed c.args.schedule.now (c.loop-index.index + 1) c.step.new.self l)
          (sym c.in_ok-note.ensures) more;
    }
