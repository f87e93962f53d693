use Rattle.std.proofs.Common.{◌≡◌}
use Rattle.box_program.specs.Hands.{FitsProgram}
use Rattle.system_images.proofs.FarLemmas.{FarTo}
use Rattle.system_images.proofs.judging.play_far.Given as goal

-- the player stands for the moves so far, and so many bytes were sent out
abbrev pub invariant-loop-index : goal.invariant-loop-index
invariant-loop-index g l = record {
  fits : FitsProgram (g.P.Program.meaning l.program) (g.P.Program.fits l.program) (λ value. value) l.player.values;
  made : l.player.made ≡ l.index;
  far : FarTo (g.P.Program.meaning l.program) l.inputs l.moves l.index l.player l.bytes;
}
