-- What is shown of the named program and master holds of the rule by their codes.
use Rattle.std.proofs.Common.{◌≡◌, ℕ, sym, subst, ◌∙◌, List}
use base.Stored.{Gv}
use Rattle.std.specs.Coded.{Coded}
use Rattle.access_log.specs.Held.{Lane}
use Rattle.plain_machine.specs.Program.{Meaning}
use Rattle.master_core.specs.declared.parts.VarPart.{VarPart}
use Rattle.master_core.specs.Mastered.{Mastered}
use Rattle.atomic_table.specs.Table.{State, Me, Allows, Splits, Joins}
use Rattle.var_locks.specs.declared.view.View.{View}
use Rattle.var_locks.specs.Codes.{master_code}
use Rattle.var_locks.specs.Told.{IsTold, IsToldOf, WasGoing, WasGoingOf}

module _ {P V : Type 0} (meaning : P → Meaning V) (fits : P → ℕ → V → Type 0) (c : Coded P) (d : Coded V)
    (program opening : Gv) (guide : List Lane) (q : P) (p : Mastered V) (is : c.code q ≡ program)
    (opens : (master_code d).code p ≡ opening) where
  pub told_of : (s : State (VarPart V) (View V)) → IsTold (meaning q) (fits q) guide p s
      → IsToldOf meaning fits c d program opening guide s
  told_of s told r o cr co =
      let same : q ≡ r = c.inj q r (is ∙ sym cr) in
      let one : p ≡ o = (master_code d).inj p o (opens ∙ sym co) in
      subst (λ (z : P). IsTold (meaning z) (fits z) guide o s) same
      (subst (λ (z : Mastered V). IsTold (meaning q) (fits q) guide z s) one told)

  pub going_of : (w : View V) (t : ℕ) → WasGoing (meaning q) (fits q) guide p w t
      → WasGoingOf meaning fits c d program opening guide w t
  going_of w t was r o cr co =
      let same : q ≡ r = c.inj q r (is ∙ sym cr) in
      let one : p ≡ o = (master_code d).inj p o (opens ∙ sym co) in
      subst (λ (z : P). WasGoing (meaning z) (fits z) guide o w t) same
      (subst (λ (z : Mastered V). WasGoing (meaning q) (fits q) guide z w t) one was)

  pub allows_of : (slots id : ℕ) (me : Me (VarPart V) (View V)) (i : ℕ) (f : ℕ → ℕ)
      (then : ℕ → Me (VarPart V) (View V) → Type 0) → Allows (IsTold (meaning q) (fits q) guide p) slots id me i f then
      → Allows (IsToldOf meaning fits c d program opening guide) slots id me i f then
  allows_of slots id me i f then may s holds wide at small =
      let k = may s (holds q p is opens) wide at small in (k.0, k.1, k.2, told_of _ k.3, k.4)

  pub splits_of : (id : ℕ) (v left right : View V) → Splits (IsTold (meaning q) (fits q) guide p) id v left right
      → Splits (IsToldOf meaning fits c d program opening guide) id v left right
  splits_of id v left right may s holds at = told_of _ (may s (holds q p is opens) at)

  pub joins_of : (id : ℕ) (v : View V) (other : ℕ) (w both spent : View V)
      → Joins (IsTold (meaning q) (fits q) guide p) id v other w both spent
      → Joins (IsToldOf meaning fits c d program opening guide) id v other w both spent
  joins_of id v other w both spent may s holds at not there = told_of _ (may s (holds q p is opens) at not there)

  -- a program of this code fits as the named one
  pub fits_of : (v : ℕ) (x : V) → fits q v x → (r : P) → c.code r ≡ program → fits r v x
  fits_of v x fit r cr = subst (λ (z : P). fits z v x) (c.inj q r (is ∙ sym cr)) fit
