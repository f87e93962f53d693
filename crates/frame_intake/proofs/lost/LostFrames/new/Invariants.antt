use Rattle.std.proofs.Common.{reverse, take}
use Rattle.frame_intake.specs.Lost.{HaveLost}
use Rattle.frame_intake.proofs.lost.LostFrames.new.Given as goal

abbrev pub invariant-loop-frame : goal.invariant-loop-frame
invariant-loop-frame l = HaveLost l.keys.keys (reverse (take l.frame-index l.lost))
