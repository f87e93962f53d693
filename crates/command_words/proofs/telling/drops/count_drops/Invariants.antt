use Rattle.std.proofs.Common.{◌≡◌}
use Rattle.box_program.specs.Hands.{FitsProgram}
use Rattle.command_words.proofs.telling.drops.count_drops.Given as goal

-- the values fit the program, and the player made each move so far
abbrev pub invariant-loop-index : goal.invariant-loop-index
invariant-loop-index g l = record {
  fits : FitsProgram (g.P.Program.meaning l.program) (g.P.Program.fits l.program) (λ value. value) l.player.values;
  made : l.player.made ≡ l.index;
}
