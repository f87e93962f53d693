use Rattle.std.proofs.Common.{◌≡◌, take}
use Rattle.system_images.proofs.imaging.copy_moves.Given as goal

-- the first ones are copied
abbrev pub invariant-loop-index : goal.invariant-loop-index
invariant-loop-index l = l.copy ≡ take l.index l.moves
