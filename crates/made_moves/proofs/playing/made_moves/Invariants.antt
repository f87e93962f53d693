use Rattle.std.proofs.Common.{◌≡◌, length}
use Rattle.box_program.specs.Hands.{FitsProgram}
use Rattle.made_moves.proofs.SoFar.{IsNoted}
use Rattle.made_moves.proofs.playing.made_moves.Given as goal

-- the player stands for the moves so far, and what they did is noted
abbrev pub invariant-loop-index : goal.invariant-loop-index
invariant-loop-index g l = record {
  fits : FitsProgram (g.P.Program.meaning l.program) (g.P.Program.fits l.program) (λ value. value) l.player.values;
  moves : l.player.made ≡ l.index;
  as_many : length l.made ≡ l.index;
  so_far : IsNoted (g.P.Program.meaning l.program) l.inputs l.moves l.index l.player l.made;
}
