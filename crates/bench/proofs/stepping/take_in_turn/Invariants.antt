use Rattle.std.proofs.Common.{◌≡◌, length}
use Rattle.box_program.specs.Hands.{FitsProgram}
use Rattle.master_core.specs.Mastered.{value_of}
use Rattle.bench.proofs.stepping.take_in_turn.Given as goal

-- the program fits the variables, and there are so many threads
abbrev pub invariant-loop-thread : goal.invariant-loop-thread
invariant-loop-thread g l = record {
  fits : FitsProgram (g.P.Program.meaning l.program) (g.P.Program.fits l.program) value_of l.master.vars;
  threads : length l.master.threads ≡ l.threads;
}
