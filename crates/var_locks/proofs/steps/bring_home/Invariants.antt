use Rattle.var_locks.specs.Codes.{note_code}
use Rattle.var_locks.specs.Views.{note_on}
use Rattle.var_locks.proofs.steps.bring_home.Given as goal

abbrev pub ghosts-bring_as : goal.ghosts-bring_as
ghosts-bring_as g a = record {
  note = (note_code g.row.P-Value.coded).code
      (note_on a.made.before.now a.made.after.now a.made.trace.now a.token.now.me.0);
}
