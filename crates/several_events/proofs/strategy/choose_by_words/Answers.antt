use Rattle.std.proofs.Common.{arith}
use Rattle.several_events.proofs.Choices.{next_chosen}
use Rattle.several_events.proofs.strategy.choose_by_words.Goals as goal

pub returns-clause-next : goal.returns-clause-next
returns-clause-next g c =
    next_chosen (g.P.Program.meaning c.args.core.now.program) c.args.core.now c.args.words c.choose_next-event.new.words
    c.args.left c.choose_next-event.result (omega arith) c.choose_next-event.ensures.chosen
    c.choose_next-event.ensures.words c.choose_next-event.ensures.single
