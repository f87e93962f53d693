use Rattle.std.proofs.Common.{◌≡◌, take}
use Rattle.var_locks.specs.Openings.{places_of}
use Rattle.var_locks.proofs.opening.first_places.Given as goal

abbrev pub invariant-loop-var : goal.invariant-loop-var
invariant-loop-var g l = l.places.items ≡ places_of (take l.var l.vars)
