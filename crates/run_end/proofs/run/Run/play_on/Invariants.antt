use Rattle.box_program.specs.Hands.{FitsProgram}
use Rattle.master_core.specs.Mastered.{value_of}
use Rattle.run_end.specs.Playing.{SendsUpTo}
use Rattle.run_end.proofs.Rooms.{moves_left}
use Rattle.run_end.proofs.Ways.{IsOnWay}
use Rattle.run_end.proofs.run.Run.play_on.Given as goal

-- whatever leads to the output from the beginning leads to it from here
abbrev pub invariant-moves : goal.invariant-moves
invariant-moves g l = record {
  fits : FitsProgram (g.P.Program.meaning l.program) (g.P.Program.fits l.program) value_of l.self.master.vars;
  sends : IsOnWay (SendsUpTo (g.P.Program.meaning l.program) l.inputs l.thread l.number)
      (SendsUpTo (g.P.Program.meaning l.program) l.inputs l.thread l.number) (g.P.Program.meaning l.program)
      l.initial.self.master l.initial.self.schedule l.self.master l.self.schedule;
}

abbrev pub decreases-moves : goal.decreases-moves
decreases-moves g l = moves_left l.self.master l.thread
