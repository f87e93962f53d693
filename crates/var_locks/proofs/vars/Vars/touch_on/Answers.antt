use Rattle.std.proofs.Common.{◌≡◌, sym, ap, ◌∙◌, subst, [], ◌∷◌, false}
use Rattle.std.specs.Prelude.{slice_index, ◌≤◌}
use Rattle.master_core.specs.declared.parts.VarPart.{VarPart}
use Rattle.master_core.specs.declared.parts.ThreadPart.{ThreadPart}
use Rattle.atomic_table.specs.Table.{Me}
use Rattle.var_locks.specs.declared.view.View.{View}
use Rattle.var_locks.specs.Views.{with_hand}
use Rattle.var_locks.specs.Seats.{share_of}
use Rattle.var_locks.specs.TouchedParts.{Comes, HasThread, HasTaken}
use Rattle.var_locks.proofs.Taking.{in_hand, taken_by}
use Rattle.var_locks.proofs.vars.Vars.touch_on.Goals as goal

pub take_up-word-requires-clause-idle : goal.take_up-word-requires-clause-idle
take_up-word-requires-clause-idle g c κs within =
    let rests = subst (λ (me : Me (VarPart g.row.P-Value.Denot) (View g.row.P-Value.Denot)).
    HasThread me c.args.access.thread c.args.part.now) (sym c.loop.invariant.2) c.requires.rests in (
      share_of c.loop.token.me.0 c.args.access.thread c.args.part.now false,
      record { alone = rests.alone; empty = rests.empty },
    )

pub try_on-tried-requires-clause-taken : goal.try_on-tried-requires-clause-taken
try_on-tried-requires-clause-taken g c κs within =
    let inv = c.loop.invariant in
    let rests = subst (λ (me : Me (VarPart g.row.P-Value.Denot) (View g.row.P-Value.Denot)).
    HasThread me c.args.access.thread c.args.part.now) (sym inv.2) c.requires.rests in
    let t = c.take_up-word.ensures.taken in (
      t.0,
      subst (λ (part : ThreadPart). HasTaken g.P.Program.fits g.row.P.coded g.J.Round.program c.args.access
          c.take_up-word.result part c.take_up-word.new.token.me t.0) (sym inv.3)
          (taken_by c.loop.token.me c.args.access c.args.part.now rests t.0 g.P.Program.fits g.row.P.coded
          g.J.Round.program c.take_up-word.result t.1 c.take_up-word.new.token.me t.2),
    )

pub returns-in-Some-tried-clause-comes : goal.returns-in-Some-tried-clause-comes
returns-in-Some-tried-clause-comes g c =
    let inv = c.loop.invariant in
    let t = c.take_up-word.ensures.taken in
    let a = c.args.access in
    let m = g.P.Program.meaning c.args.setting.now.program.now in
    let taken : c.take_up-word.new.token.me ≡ (with_hand c.args.token.now.me.0 a.var t.0, (a.var, t.0) ∷ []) =
    t.2
    ∙ (ap (λ (me : Me (VarPart g.row.P-Value.Denot) (View g.row.P-Value.Denot)).
    let r : Me (VarPart g.row.P-Value.Denot) (View g.row.P-Value.Denot) =
    (with_hand me.0 a.var t.0, (a.var, t.0) ∷ me.1) in
    r) inv.2
    ∙ in_hand c.args.token.now.me a c.args.part.now c.requires.rests t.0) in (
      t.0,
      subst (λ (me : Me (VarPart g.row.P-Value.Denot) (View g.row.P-Value.Denot)).
          slice_index me.0.seen a.var ≤ t.0.places) inv.2 t.1.seen,
      subst (λ (me : Me (VarPart g.row.P-Value.Denot) (View g.row.P-Value.Denot)). Comes m g.J.Round.guide a
          c.args.part.now c.try_on-tried.new.part me c.try_on-tried.new.token.me c.in-Some-tried.touched) taken
          (subst (λ (part : ThreadPart). Comes m g.J.Round.guide a part c.try_on-tried.new.part
          c.take_up-word.new.token.me c.try_on-tried.new.token.me c.in-Some-tried.touched) inv.3
          c.in-Some-tried.ensures.comes),
    )
