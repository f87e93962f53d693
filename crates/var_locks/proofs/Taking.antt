-- A seat takes a variable, and gives it back.
use Rattle.std.proofs.Common.{◌≡◌, ℕ, List, [], ◌∷◌, sym, ap, ◌∙◌, Option}
use base.Stored.{Gv}
use Rattle.std.specs.Coded.{Coded}
use Rattle.master_core.specs.declared.parts.VarPart.{VarPart}
use Rattle.master_core.specs.declared.parts.ThreadPart.{ThreadPart}
use Rattle.atomic_table.specs.Table.{Me}
use Rattle.var_locks.specs.declared.view.Held.{Held}
use Rattle.var_locks.specs.declared.view.View.{View}
use Rattle.var_locks.specs.Views.{with_hand, empty_hand}
use Rattle.var_locks.specs.Plays.{Finds}
use Rattle.var_locks.specs.declared.touching.Access.{Access}
use Rattle.var_locks.specs.TouchedParts.{HasThread, HasTaken}

module _ {V : Type 0} (me : Me (VarPart V) (View V)) (a : Access) (part : ThreadPart)
    (rests : HasThread me a.thread part) (x : VarPart V) where
  pub in_hand : (let r : Me (VarPart V) (View V) = (with_hand me.0 a.var x, (a.var, x) ∷ me.1) in
      let s : Me (VarPart V) (View V) = (with_hand me.0 a.var x, (a.var, x) ∷ []) in r ≡ s)
  in_hand =
      ap (λ (l : List (ℕ × VarPart V)). let r : Me (VarPart V) (View V) = (with_hand me.0 a.var x, (a.var, x) ∷ l) in r)
      rests.slots

  pub taken_by : {P : Type 0} (fits : P → ℕ → V → Type 0) (c : Coded P) (program : Gv) (word : ℕ)
      → Finds fits c program me.0 a.var word x → (new : Me (VarPart V) (View V))
      → new ≡ (with_hand me.0 a.var x, (a.var, x) ∷ me.1) → HasTaken fits c program a word part new x
  taken_by fits c program word finds new is = record {
    before = me.0;
    finds = finds;
    token = is ∙ in_hand;
    alone = rests.alone;
  }

  pub given_back : (taken new : Me (VarPart V) (View V)) → taken ≡ (with_hand me.0 a.var x, (a.var, x) ∷ me.1)
      → new ≡ (empty_hand taken.0, []) → new ≡ me
  given_back taken new is back =
      back
      ∙ (ap (λ (m : Me (VarPart V) (View V)). let r : Me (VarPart V) (View V) = (empty_hand m.0, []) in r) is
      ∙ (ap (λ (h : Option (Held V)).
      let r : Me (VarPart V) (View V) =
      (record { shares = me.0.shares; hand = h; seen = me.0.seen; missing = me.0.missing }, []) in
      r) (sym rests.empty)
      ∙ ap (λ (l : List (ℕ × VarPart V)). let r : Me (VarPart V) (View V) = (me.0, l) in r) (sym rests.slots)))
