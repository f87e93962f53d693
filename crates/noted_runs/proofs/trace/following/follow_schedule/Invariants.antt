use Rattle.std.proofs.Common.{◌≡◌}
use Rattle.box_program.specs.Hands.{FitsProgram}
use Rattle.noted_runs.proofs.Followed.{Followed}
use Rattle.noted_runs.proofs.trace.following.follow_schedule.Given as goal

-- the player made the moves so far, and the lists have what became of the inputs
abbrev pub invariant-loop-index : goal.invariant-loop-index
invariant-loop-index g l = record {
  fits : FitsProgram (g.P.Program.meaning l.program) (g.P.Program.fits l.program) (λ value. value) l.player.values;
  made : l.player.made ≡ l.index;
  followed : Followed l.register (g.P.Program.meaning l.program) l.inputs l.schedule l.index l.player l.lists.items;
}
