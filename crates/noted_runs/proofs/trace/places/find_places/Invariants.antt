use Rattle.std.proofs.Common.{take}
use Rattle.noted_runs.specs.Places.{HasPlaces}
use Rattle.noted_runs.proofs.trace.places.find_places.Given as goal

-- the places of the names so far
abbrev pub invariant-loop-index : goal.invariant-loop-index
invariant-loop-index l = HasPlaces l.threads (take l.index l.names) l.lists.items
