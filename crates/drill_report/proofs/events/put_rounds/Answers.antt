use Rattle.std.proofs.Common.{append_assoc, ap, sym, ◌∙◌, ◌++◌}
use Rattle.drill_report.specs.Events.{repeated}
use Rattle.drill_report.proofs.Repeating.{repeated_next}
use Rattle.drill_report.proofs.events.put_rounds.Goals as goal

pub rounds-preserved : goal.rounds-preserved
rounds-preserved c =
    c.in_ok-put_round.ensures
    ∙ ap (λ l. l ++ c.args.round.now) c.rounds.invariant
    ∙ append_assoc c.args.events.now (repeated c.rounds.counter c.args.round.now) c.args.round.now
    ∙ ap (λ l. c.args.events.now ++ l) (sym (repeated_next c.rounds.counter c.args.round.now))
