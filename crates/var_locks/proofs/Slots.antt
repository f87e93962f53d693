-- The slots of a closed table are taken one after another.
use Rattle.std.proofs.Common.{◌≡◌, ◌≢◌, ℕ, zero, suc, ◌+◌, ◌<◌, ◌≤◌, ◌⊎◌, inl, inr, Bool, true, false, List, [], ◌∷◌}
use Rattle.std.proofs.Common.{◌++◌, length, take, refl, sym, ap, ◌∙◌, subst, arith}
use Rattle.std.specs.Prelude.{slice_index_or, slice_set}
use Rattle.std.proofs.lemmas.List.{get_or-set_other}
use mathlib.Core.Option as logic
use mathlib.Core.Option.{some-injective, some-ne-none}
use lib.ListN.{get_elem?}
use Rattle.entry_order.proofs.Order.{is_or}

pub take_next : {A : Type 0} (l : List A) (i : ℕ) (a : A) → get_elem? l i ≡ logic.some a
    → take (i + 1) l ≡ take i l ++ a ∷ []
take_next [] i a e = absurd (some-ne-none a (sym e))
take_next (x ∷ xs) zero a e = λ k. some-injective x a e k ∷ []
take_next {A} (x ∷ xs) (suc i) a e =
    let n : suc i + 1 ≡ suc (i + 1) = omega arith in
    ap (λ (k : ℕ). take k (x ∷ xs)) n ∙ ap (λ (l : List A). x ∷ l) (take_next xs i a e)

set_false : (l : List Bool) (i : ℕ) → slice_index_or (slice_set l i false) i false ≡ false
set_false [] i = refl
set_false (x ∷ xs) zero = refl
set_false (x ∷ xs) (suc i) = set_false xs i

-- the slots from the next one on are full, and those before it are not
pub full_left : (l : List Bool) (i n : ℕ) → ((k : ℕ) → k < n → i ≤ k → slice_index_or l k false ≡ true) → (k : ℕ)
    → k < n → i + 1 ≤ k → slice_index_or (slice_set l i false) k false ≡ true
full_left l i n full k low above =
    get_or-set_other l i k false false (λ e. absurd (omega (arith, above, e))) ∙ full k low (omega (arith, above))

pub empty_so_far : (l : List Bool) (i : ℕ) → ((k : ℕ) → k < i → slice_index_or l k false ≡ false) → (k : ℕ) → k < i + 1
    → slice_index_or (slice_set l i false) k false ≡ false
empty_so_far l i empty k low = go (is_or k i)
  where
    go : (k ≡ i) ⊎ (k ≢ i) → slice_index_or (slice_set l i false) k false ≡ false
    go (inl same) = subst (λ (z : ℕ). slice_index_or (slice_set l i false) z false ≡ false) (sym same) (set_false l i)
    go (inr apart) = get_or-set_other l i k false false apart ∙ empty k (omega (arith, low, apart))

pub take_length : {A : Type 0} (i : ℕ) (l : List A) → i ≤ length l → length (take i l) ≡ i
take_length zero l low = refl
take_length (suc i) [] low = absurd (omega (arith, low))
take_length (suc i) (x ∷ xs) low = ap suc (take_length i xs (omega (arith, low)))

pub take_whole : {A : Type 0} (i : ℕ) (l : List A) → i ≡ length l → take i l ≡ l
take_whole zero [] e = refl
take_whole zero (x ∷ xs) e = absurd (omega (arith, e))
take_whole (suc i) [] e = refl
take_whole (suc i) (x ∷ xs) e = λ k. x ∷ take_whole i xs (omega (arith, e)) k
