use Rattle.std.proofs.Common.{◌≡◌, ◌++◌, take}
use Rattle.drill_report.proofs.events.put_round.Given as goal

-- the events so far stand behind those before
abbrev pub invariant-loop-event : goal.invariant-loop-event
invariant-loop-event l = l.events ≡ l.fn.events ++ take l.event-index l.round
