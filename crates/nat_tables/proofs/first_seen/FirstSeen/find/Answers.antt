use Rattle.std.proofs.Common.{◌≡◌, ◌∙◌, sym, ap}
use Rattle.nat_tables.proofs.RowLemmas.{absent_unplaced, absent_elsewhere, stands_there, found_kept}
use Rattle.nat_tables.proofs.first_seen.FirstSeen.find.Goals as goal

pub returns-in_err-at : goal.returns-in_err-at
returns-in_err-at g c =
    let kept = found_kept g.K.PartialEq.eq g.met.K.Eq.laws c.self.inside.indexed _ _ _ c.if-not-self.false c.self.invariant in
    rw (c.from_residual.ensures, ← c.self.view_is)
    (absent_unplaced g.K.PartialEq.eq g.met.K.Eq.laws c.args.key.now _ _ _ kept
    (sym c.in_err-at.ensures.value))

pub returns-in_err-own : goal.returns-in_err-own
returns-in_err-own g c =
    let kept = found_kept g.K.PartialEq.eq g.met.K.Eq.laws c.self.inside.indexed _ _ _ c.if-not-self.false c.self.invariant in
    rw (c.from_residual-in_err-own.ensures, ← c.self.view_is)
    (absent_elsewhere g.K.PartialEq.eq g.met.K.Eq.laws c.args.key.now _ _ _ c.in_ok-at.field-0.now kept
    (sym c.in_ok-at.ensures.value)
    (λ entry is. absurd (let none = rw (← c.self.view_is) at c.in_err-own.ensures in cc)))

pub returns-then-eq : goal.returns-then-eq
returns-then-eq g c =
    let kept = found_kept g.K.PartialEq.eq g.met.K.Eq.laws c.self.inside.indexed _ _ _ c.if-not-self.false c.self.invariant in
    rw (← c.self.view_is)
    (stands_there g.K.PartialEq.eq g.met.K.Eq.laws c.args.key.now c.in_ok-own.own c.in_ok-own.value _ _ _
    c.in_ok-at.field-0.now kept (sym c.in_ok-at.ensures.value)
    (rw (← c.self.view_is) at (sym c.in_ok-own.ensures)) (sym c.if-eq.ensures))

pub returns-else-eq : goal.returns-else-eq
returns-else-eq g c =
    let kept = found_kept g.K.PartialEq.eq g.met.K.Eq.laws c.self.inside.indexed _ _ _ c.if-not-self.false c.self.invariant in
    rw (← c.self.view_is)
    (absent_elsewhere g.K.PartialEq.eq g.met.K.Eq.laws c.args.key.now _ _ _ c.in_ok-at.field-0.now kept
    (sym c.in_ok-at.ensures.value)
    (λ entry is.
    let same : (c.in_ok-own.own, c.in_ok-own.value) ≡ entry =
    (let own = rw (← c.self.view_is) at c.in_ok-own.ensures in cc) in
    ap (λ e. g.K.PartialEq.eq c.args.key.now e.0) (sym same) ∙ sym c.if-eq.ensures))
