use Rattle.system_images.specs.Building.{Turns}
use Rattle.system_images.proofs.BuildingLemmas.{MovedTo}
use Rattle.system_images.proofs.building.turn_epochs.Given as goal

-- so many masters crashed
abbrev pub invariant-turns : goal.invariant-turns
invariant-turns g l = MovedTo g.P.Program.meaning (Turns l.counter) l.fn.core l.core
