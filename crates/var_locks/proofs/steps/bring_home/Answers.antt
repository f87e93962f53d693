use Rattle.std.proofs.Common.{ℕ, ◌≡◌, List, ap, ◌∙◌}
use Rattle.master_core.specs.declared.parts.VarPart.{VarPart}
use Rattle.atomic_table.specs.Table.{Me, rest}
use Rattle.var_locks.specs.declared.view.Note.{Note}
use Rattle.var_locks.specs.declared.view.View.{View}
use Rattle.var_locks.specs.Codes.{note_code}
use Rattle.var_locks.specs.Views.{note_on, noted_view}
use Rattle.var_locks.proofs.steps.bring_home.Goals as goal

pub returns-clause-brought : goal.returns-clause-brought
returns-clause-brought g c =
    let k = c.bring_as.ensures.brought in
    let n : Note g.row.P-Value.Denot =
    note_on c.args.made.before.now c.args.made.after.now c.args.made.trace.now c.args.token.now.me.0 in
    let same : k.0 ≡ n = (note_code g.row.P-Value.coded).inj k.0 n k.1 in
    k.2
    ∙ (ap (λ (z : Note g.row.P-Value.Denot).
    let r : Me (VarPart g.row.P-Value.Denot) (View g.row.P-Value.Denot) =
    (noted_view c.args.token.now.me.0 z, rest c.args.token.now.me.1) in
    r) same
    ∙ ap (λ (l : List (ℕ × VarPart g.row.P-Value.Denot)).
    let r : Me (VarPart g.row.P-Value.Denot) (View g.row.P-Value.Denot) =
    (noted_view c.args.token.now.me.0 n, rest l) in
    r) c.requires.next.5)
