use Rattle.box_program.specs.Hands.{FitsProgram}
use Rattle.master_core.specs.Mastered.{value_of}
use Rattle.run_end.specs.Playing.{SendsAll}
use Rattle.run_end.proofs.Ways.{IsOnWay, SendsRest}
use Rattle.run_end.proofs.run.Run.send_all.Given as goal

-- what all threads lead to from the beginning, those that are left lead to from here
abbrev pub invariant-threads : goal.invariant-threads
invariant-threads g l = record {
  fits : FitsProgram (g.P.Program.meaning l.program) (g.P.Program.fits l.program) value_of l.self.master.vars;
  sends : IsOnWay (SendsAll (g.P.Program.meaning l.program) l.inputs l.numbers)
      (SendsRest (g.P.Program.meaning l.program) l.inputs l.numbers l.thread) (g.P.Program.meaning l.program)
      l.initial.self.master l.initial.self.schedule l.self.master l.self.schedule;
}
