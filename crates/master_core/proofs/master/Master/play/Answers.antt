use Rattle.std.proofs.Common.{subst, sym, ◌∙◌}
use Rattle.std.specs.Prelude.{slice_index_or}
use Rattle.plain_machine.specs.declared.local.Move.{Move}
use Rattle.master_core.specs.Effects.{Played}
use Rattle.master_core.proofs.AnswerLemmas.{in_turn}
use Rattle.master_core.proofs.master.Master.play.Goals as goal

pub returns-in-Follow : goal.returns-in-Follow
returns-in-Follow g c d x =
    let m = g.P.Program.meaning c.args.program.now in
    subst (λ (next : Move). Played m c.args.thread c.args.turn c.args.answer c.args.packet.now c.args.place
    (slice_index_or c.args.self.now.threads c.args.thread d) x c.args.self.now c.touch.result c.touch.new.self next)
    (sym (c.requires.next ∙ c.in-Access.is))
    (in_turn c.args.turn c.args.self.now c.touch.result c.touch.new.self _ c.in-Follow.is (c.touch.ensures d x))

pub returns-in-Follow-turn : goal.returns-in-Follow-turn
returns-in-Follow-turn g c d x =
    let m = g.P.Program.meaning c.args.program.now in
    subst (λ (next : Move). Played m c.args.thread c.args.turn c.args.answer c.args.packet.now c.args.place
    (slice_index_or c.args.self.now.threads c.args.thread d) x c.args.self.now c.look.result c.look.new.self next)
    (sym (c.requires.next ∙ c.in-Read.is))
    (in_turn c.args.turn c.args.self.now c.look.result c.look.new.self _ c.in-Follow-turn.is (c.look.ensures d x))

pub returns-in-Clock : goal.returns-in-Clock
returns-in-Clock g c d x =
    let m = g.P.Program.meaning c.args.program.now in
    subst (λ (next : Move). Played m c.args.thread c.args.turn c.args.answer c.args.packet.now c.args.place
    (slice_index_or c.args.self.now.threads c.args.thread d) x c.args.self.now c.hear.result c.hear.new.self next)
    (sym (c.requires.next ∙ c.in-Clock.is)) (c.hear.ensures d)

pub returns-in-Draw : goal.returns-in-Draw
returns-in-Draw g c d x =
    let m = g.P.Program.meaning c.args.program.now in
    subst (λ (next : Move). Played m c.args.thread c.args.turn c.args.answer c.args.packet.now c.args.place
    (slice_index_or c.args.self.now.threads c.args.thread d) x c.args.self.now c.hear-in-Draw.result
    c.hear-in-Draw.new.self next) (sym (c.requires.next ∙ c.in-Draw.is)) (c.hear-in-Draw.ensures d)
