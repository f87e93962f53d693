use Rattle.box_program.specs.Hands.{FitsProgram}
use Rattle.master_core.specs.Mastered.{value_of}
use Rattle.std.proofs.Common.{drop}
use Rattle.run_end.specs.Playing.{LeadsBy}
use Rattle.run_end.proofs.Ways.{IsOnWay}
use Rattle.run_end.proofs.run.Run.follow.Given as goal

-- what all entries lead to from the beginning, those that are left lead to from here
abbrev pub invariant-entries : goal.invariant-entries
invariant-entries g l = record {
  fits : FitsProgram (g.P.Program.meaning l.program) (g.P.Program.fits l.program) value_of l.self.master.vars;
  leads : IsOnWay (LeadsBy (g.P.Program.meaning l.program) l.inputs l.order)
      (LeadsBy (g.P.Program.meaning l.program) l.inputs (drop l.entry-index l.order)) (g.P.Program.meaning l.program)
      l.initial.self.master l.initial.self.schedule l.self.master l.self.schedule;
}
