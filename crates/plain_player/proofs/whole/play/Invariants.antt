use Rattle.std.proofs.Common.{◌≡◌}
use Rattle.box_program.specs.Hands.{FitsProgram}
use Rattle.plain_player.proofs.PlayedOn.{SoFar}
use Rattle.plain_player.proofs.whole.play.Given as goal

-- the player stands for the moves so far, and has sent out these packets
abbrev pub invariant-loop-index : goal.invariant-loop-index
invariant-loop-index g l = record {
  fits : FitsProgram (g.P.Program.meaning l.program) (g.P.Program.fits l.program) (λ value. value) l.player.values;
  made : l.player.made ≡ l.index;
  so_far : SoFar (g.P.Program.meaning l.program) l.inputs l.schedule l.index l.player l.emissions;
}
