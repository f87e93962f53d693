use Rattle.std.proofs.Common.{◌≡◌, ◌++◌}
use Rattle.drill_report.specs.Events.{repeated}
use Rattle.drill_report.proofs.events.put_rounds.Given as goal

-- the rounds so far stand behind the events before
abbrev pub invariant-rounds : goal.invariant-rounds
invariant-rounds l = l.events ≡ l.fn.events ++ repeated l.counter l.round
