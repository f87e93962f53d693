use Rattle.std.specs.Prelude.{option_copied}
use Rattle.var_locks.specs.Codes.{note_code}
use Rattle.var_locks.specs.Notes.{own_note}
use Rattle.var_locks.proofs.steps.note_move.Given as goal

abbrev pub ghosts-note_as : goal.ghosts-note_as
ghosts-note_as g a = record {
  note = (note_code g.row.P-Value.coded).code
      (own_note a.made.before.now a.made.after.now a.made.trace.now (option_copied a.packet));
}
