use Rattle.std.proofs.Common.{◌∷◌, subst, ap, ◌∙◌}
use Rattle.master_core.specs.declared.parts.VarPart.{VarPart}
use Rattle.atomic_table.specs.Table.{Me}
use Rattle.var_locks.specs.declared.view.View.{View}
use Rattle.var_locks.specs.Views.{with_hand}
use Rattle.var_locks.specs.Plays.{Finds}
use Rattle.var_locks.proofs.steps.take_up.Goals as goal

pub returns-in-Some-try_take-clause-taken : goal.returns-in-Some-try_take-clause-taken
returns-in-Some-try_take-clause-taken g c =
    let t = c.in-Some-try_take.ensures.taken in
    let same = c.loop.invariant.2 in (
      t.0,
      subst (λ (w : View g.row.P-Value.Denot).
          Finds g.P.Program.fits g.row.P.coded g.J.Round.program w c.args.var c.in-Some-try_take.word t.0)
          (ap (λ (m : Me (VarPart g.row.P-Value.Denot) (View g.row.P-Value.Denot)). m.0) same) t.1,
      t.2
          ∙ ap (λ (me : Me (VarPart g.row.P-Value.Denot) (View g.row.P-Value.Denot)).
          let r : Me (VarPart g.row.P-Value.Denot) (View g.row.P-Value.Denot) =
          (with_hand me.0 c.args.var t.0, (c.args.var, t.0) ∷ me.1) in
          r) same,
    )
