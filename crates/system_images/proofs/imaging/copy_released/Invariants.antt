use Rattle.std.proofs.Common.{◌≡◌, take}
use Rattle.system_images.proofs.imaging.copy_released.Given as goal

-- the first ones are copied
abbrev pub invariant-loop-output : goal.invariant-loop-output
invariant-loop-output l = l.copy ≡ take l.output-index l.released
