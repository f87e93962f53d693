-- Sums, one term of which changes, and sums modulo 2 ^ 64.
use Rattle.std.proofs.Common.{◌≡◌, ◌≢◌, ℕ, zero, suc, ◌+◌, ◌%◌, ◌^◌, ◌<◌, refl, sym, ◌∙◌, subst, ◌⊎◌, inl, inr, arith}
use Rattle.entry_order.specs.Stamps.{sum_below}
use Rattle.entry_order.proofs.Order.{is_or}
use Rattle.entry_order.proofs.Weights.{sum_below_same}

pub one_changes : (n u : ℕ) (f g : ℕ → ℕ) → u < n → ((k : ℕ) → k ≢ u → f k ≡ g k)
    → sum_below n f + g u ≡ sum_below n g + f u
one_changes zero u f g low same = absurd (omega arith)
one_changes (suc n) u f g low same = go (is_or u n) (λ k. one_changes n u f g k same)
  where
    go : (u ≡ n) ⊎ (u ≢ n) → (u < n → sum_below n f + g u ≡ sum_below n g + f u)
        → sum_below n f + f n + g u ≡ sum_below n g + g n + f u
    go (inl e) rest =
        let a : sum_below n f ≡ sum_below n g =
        sum_below_same n f g (λ k l. same k (λ q. let j : k ≡ n = q ∙ e in absurd (omega arith))) in
        let b : f n ≡ f u = subst (λ (k : ℕ). f n ≡ f k) (sym e) refl in
        let c : g n ≡ g u = subst (λ (k : ℕ). g n ≡ g k) (sym e) refl in
        omega arith
    go (inr e) rest =
        let a : sum_below n f + g u ≡ sum_below n g + f u = rest (omega arith) in
        let b : f n ≡ g n = same n (λ k. e (sym k)) in omega arith

pub sum_of_none : (n : ℕ) (f : ℕ → ℕ) → ((k : ℕ) → k < n → f k ≡ 0) → sum_below n f ≡ 0
sum_of_none zero f none = refl
sum_of_none (suc n) f none =
    let a : sum_below n f ≡ 0 = sum_of_none n f (λ k low. none k (omega arith)) in
    let b : f n ≡ 0 = none n (omega arith) in omega arith

-- The totals, what is owed and the sum of the flows, before and after a move: what a thread owes and the sum of a value
-- change, and the totals, so that they match again.
pub matched_again : (totals owing flows totals' owing' flows' owes owes' holds holds' : ℕ)
    → (totals + owing) % 2 ^ 64 ≡ flows % 2 ^ 64
    → owing' + owes ≡ owing + owes' → flows' + holds ≡ flows + holds'
    → (totals' + owes' + holds) % 2 ^ 64 ≡ (totals + owes + holds') % 2 ^ 64
    → (totals' + owing') % 2 ^ 64 ≡ flows' % 2 ^ 64
matched_again totals owing flows totals' owing' flows' owes owes' holds holds' old a b c = omega arith
