use Rattle.std.proofs.Common.{◌≡◌, length}
use Rattle.box_program.specs.Hands.{FitsProgram}
use Rattle.master_core.specs.Mastered.{value_of}
use Rattle.test_locks.proofs.halfway.leave.Given as goal

-- the values stay values of the program, and the threads stay
abbrev pub invariant-loop-trace : goal.invariant-loop-trace
invariant-loop-trace g l = record {
  fits : FitsProgram (g.P.Program.meaning l.program) (g.P.Program.fits l.program) value_of l.master.vars;
  threads : length l.master.threads ≡ length l.initial.master.threads;
}
