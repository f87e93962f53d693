-- What windows give of a list in two parts.
use Rattle.std.proofs.Common.{◌≡◌, ◌<◌, ◌-◌, ℕ, zero, suc, List, [], ◌∷◌, ◌++◌, length, take, drop, refl, sym, ap}
use Rattle.std.proofs.Common.{◌∙◌}
use Rattle.std.proofs.Common.{arith}
use Rattle.packet_taps.specs.Windows.{window, skip_behind, quota_behind}

take-nil : {A : Type 0} (n : ℕ) → take {A = A} n [] ≡ []
take-nil zero = refl
take-nil (suc n) = refl

drop-nil : {A : Type 0} (n : ℕ) → drop {A = A} n [] ≡ []
drop-nil zero = refl
drop-nil (suc n) = refl

pub window-nil : {A : Type 0} (skip quota : ℕ) → window {A = A} skip quota [] ≡ []
window-nil skip quota = ap (take quota) (drop-nil skip) ∙ take-nil quota

-- the first item passes by
pub window-passes : {A : Type 0} (skip quota : ℕ) (x : A) → 0 < skip → window skip quota (x ∷ []) ≡ []
window-passes zero quota x some = absurd (let none : ⊥ = omega (arith, some) in none)
window-passes (suc skip) quota x some = window-nil skip quota

pub window-takes : {A : Type 0} (quota : ℕ) (x : A) → 0 < quota → window 0 quota (x ∷ []) ≡ x ∷ []
window-takes zero x some = absurd (let none : ⊥ = omega (arith, some) in none)
window-takes (suc quota) x some = ap (λ l. x ∷ l) (take-nil quota)

module _ {A : Type 0} where
  -- the same window by numbers that are the same
  same_window : (skip skip' quota quota' : ℕ) (items : List A) → skip ≡ skip' → quota ≡ quota'
      → window skip quota items ≡ window skip' quota' items
  same_window skip skip' quota quota' items s q =
      ap (λ n. window n quota items) s ∙ ap (λ n. window skip' n items) q

  pub window-append : (skip quota : ℕ) (first rest : List A)
      → window skip quota (first ++ rest)
      ≡ window skip quota first
      ++ window (skip_behind skip (length first)) (quota_behind skip quota (length first)) rest
  window-append skip quota [] rest =
      let s : skip ≡ skip - 0 = omega arith in
      let q : quota ≡ quota - (0 - skip) = omega arith in
      same_window skip (skip - 0) quota (quota - (0 - skip)) rest s q
      ∙ ap (λ l. l ++ window (skip - 0) (quota - (0 - skip)) rest) (sym (window-nil skip quota))
  window-append (suc skip) quota (x ∷ first) rest =
      let count = length first in
      let s : skip - count ≡ suc skip - suc count = omega arith in
      let q : quota - (count - skip) ≡ quota - (suc count - suc skip) = omega arith in
      window-append skip quota first rest
      ∙ ap (λ l. window skip quota first ++ l) (same_window (skip - count) (suc skip - suc count)
      (quota - (count - skip)) (quota - (suc count - suc skip)) rest s q)
  window-append zero zero (x ∷ first) rest =
      ap (λ n. take n (drop (0 - suc (length first)) rest))
      (let none : 0 ≡ 0 - (suc (length first) - 0) = omega arith in none)
  window-append zero (suc quota) (x ∷ first) rest =
      let count = length first in
      let s : 0 - count ≡ 0 - suc count = omega arith in
      let q : quota - (count - 0) ≡ suc quota - (suc count - 0) = omega arith in
      ap (λ l. x ∷ l) (window-append zero quota first rest
      ∙ ap (λ l. window 0 quota first ++ l) (same_window (0 - count) (0 - suc count) (quota - (count - 0))
      (suc quota - (suc count - 0)) rest s q))
