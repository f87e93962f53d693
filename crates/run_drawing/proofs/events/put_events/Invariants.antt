use Rattle.std.proofs.Common.{◌≡◌, ◌++◌, drop}
use Rattle.run_drawing.specs.Picture.{at_first, events_from}
use Rattle.run_drawing.specs.Standing.{drawn_by}
use Rattle.run_drawing.proofs.events.put_events.Given as goal

-- with those that are left, all are there
abbrev pub invariant-loop-index : goal.invariant-loop-index
invariant-loop-index l =
    l.out ++ events_from l.threads (drawn_by l.state) (drop l.index l.notes)
    ≡ l.fn.out ++ events_from l.threads at_first l.notes
