use Rattle.std.proofs.Common.{take}
use Rattle.system_images.specs.Building.{MakesAll}
use Rattle.system_images.proofs.BuildingLemmas.{MovedTo}
use Rattle.system_images.proofs.building.make_moves.Given as goal

-- the first moves are made
abbrev pub invariant-loop-index : goal.invariant-loop-index
invariant-loop-index g l = MovedTo g.P.Program.meaning (MakesAll (take l.index l.moves)) l.fn.core l.core
