use Rattle.std.proofs.Common.{◌≡◌, ap, ◌∙◌}
use Rattle.std.specs.Prelude.{option_copied}
use Rattle.master_core.specs.declared.parts.VarPart.{VarPart}
use Rattle.atomic_table.specs.Table.{Me}
use Rattle.var_locks.specs.declared.view.Note.{Note}
use Rattle.var_locks.specs.declared.view.View.{View}
use Rattle.var_locks.specs.Codes.{note_code}
use Rattle.var_locks.specs.Notes.{own_note}
use Rattle.var_locks.specs.Views.{noted_view}
use Rattle.var_locks.proofs.steps.note_move.Goals as goal

pub returns-clause-noted : goal.returns-clause-noted
returns-clause-noted g c =
    let k = c.note_as.ensures.noted in
    let n : Note g.row.P-Value.Denot =
    own_note c.args.made.before.now c.args.made.after.now c.args.made.trace.now (option_copied c.args.packet) in
    let same : k.0 ≡ n = (note_code g.row.P-Value.coded).inj k.0 n k.1 in
    k.2
    ∙ ap (λ (z : Note g.row.P-Value.Denot).
    let r : Me (VarPart g.row.P-Value.Denot) (View g.row.P-Value.Denot) =
    (noted_view c.args.token.now.me.0 z, c.args.token.now.me.1) in
    r) same
