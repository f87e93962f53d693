use Rattle.std.proofs.Common.{◌≡◌, length}
use Rattle.box_program.specs.Hands.{FitsProgram}
use Rattle.master_core.specs.Mastered.{value_of}
use Rattle.bench.proofs.moves.play_all.Given as goal

-- the program fits the variables, and there is one thread
abbrev pub invariant-loop-packet : goal.invariant-loop-packet
invariant-loop-packet g l = record {
  fits : FitsProgram (g.P.Program.meaning l.program) (g.P.Program.fits l.program) value_of l.master.vars;
  threads : length l.master.threads ≡ 1;
}
