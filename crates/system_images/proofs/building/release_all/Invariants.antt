use Rattle.std.proofs.Common.{take}
use Rattle.system_images.specs.Building.{ReleasesAll}
use Rattle.system_images.proofs.BuildingLemmas.{MovedTo}
use Rattle.system_images.proofs.building.release_all.Given as goal

-- the first outputs are released
abbrev pub invariant-loop-index : goal.invariant-loop-index
invariant-loop-index g l = MovedTo g.P.Program.meaning (ReleasesAll (take l.index l.outputs)) l.fn.core l.core
