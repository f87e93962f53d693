-- The least of the loads, and loads of which one changes.
use Rattle.std.proofs.Common.{◌≡◌, ◌≢◌, ℕ, zero, suc, ◌+◌, ◌-◌, ◌%◌, ◌^◌, ◌<◌, ◌≤◌, Bool, true, false, List, [], ◌∷◌}
use Rattle.std.proofs.Common.{length, refl, sym, ap, ◌∙◌, arith, get_or-set_same, get_or-set_other}
use Rattle.std.specs.Prelude.{◌==◌, nat_lt, slice_index}
use Rattle.std.proofs.lemmas.Bool.{eqb-true}
use Rattle.std.proofs.lemmas.Bool.Decides.{nat_tests}
use Rattle.balancer_box.specs.Loads.{raised, lowered, least_from, least_loaded, HasLeastLoad}

least_from_below : (least load next : ℕ) (xs : List ℕ) → least < next → least_from least load next xs < next + length xs
least_from_below least load next [] low = omega arith
least_from_below least load next (x ∷ xs) low =
    by (nat_lt x load) refl (λ k l less. least_from_below k l (next + 1) xs less)
  where
    by : (b : Bool) → nat_lt x load ≡ b
        → ((k l : ℕ) → k < next + 1 → least_from k l (next + 1) xs < next + 1 + length xs)
        → least_from least load next (x ∷ xs) < next + length (x ∷ xs)
    by true q rest = let a = rest next x (omega arith) in rw q (omega arith)
    by false q rest = let a = rest least load (omega arith) in rw q (omega arith)

pub least_below : (loads : List ℕ) → 1 ≤ length loads → least_loaded loads < length loads
least_below [] some = absurd (omega arith)
least_below (x ∷ xs) some = let a = least_from_below 0 x 1 xs (omega arith) in omega arith

-- so far this backend has the least load, and is the first that has it
record IsLeastSoFar (all : List ℕ) (least load next : ℕ) : Type 0 where
  here : slice_index all least ≡ load
  there : least < next
  lower : (k : ℕ) → k < next → load ≤ slice_index all k
  first : (k : ℕ) → k < least → load < slice_index all k

least_of_rest : (all : List ℕ) (least load next : ℕ) (xs : List ℕ)
    → ((j : ℕ) → slice_index xs j ≡ slice_index all (next + j)) → next + length xs ≡ length all
    → IsLeastSoFar all least load next → HasLeastLoad all (least_from least load next xs)
least_of_rest all least load next [] rest long so =
    let here = so.here in
    record {
      there = omega (arith, so.there);
      least = λ k low. let a = so.lower k (omega arith) in omega arith;
      first = λ k low. let a = so.first k low in omega arith;
    }
least_of_rest all least load next (x ∷ xs) rest long so =
    by (nat_lt x load) refl (λ k l. least_of_rest all k l (next + 1) xs)
  where
    at : slice_index all next ≡ x
    at =
        let a : x ≡ slice_index all (next + 0) = rest 0 in
        let b : next + 0 ≡ next = omega arith in sym (a ∙ ap (slice_index all) b)

    more : (j : ℕ) → slice_index xs j ≡ slice_index all (next + 1 + j)
    more j =
        let a : slice_index xs j ≡ slice_index all (next + suc j) = rest (suc j) in
        let b : next + suc j ≡ next + 1 + j = omega arith in a ∙ ap (slice_index all) b

    by_new : x < load → (k : ℕ) → k < next + 1 → (b : Bool) → (k == next) ≡ b → x ≤ slice_index all k
    by_new less k low true q =
        let e : k ≡ next = eqb-true _ _ q in let a : slice_index all k ≡ x = ap (slice_index all) e ∙ at in omega arith
    by_new less k low false q = let o : k < next = grind (arith, nat_tests) in let a = so.lower k o in omega arith

    by_old : load ≤ x → (k : ℕ) → k < next + 1 → (b : Bool) → (k == next) ≡ b → load ≤ slice_index all k
    by_old more_is k low true q =
        let e : k ≡ next = eqb-true _ _ q in let a : slice_index all k ≡ x = ap (slice_index all) e ∙ at in omega arith
    by_old more_is k low false q = let o : k < next = grind (arith, nat_tests) in so.lower k o

    by : (b : Bool) → nat_lt x load ≡ b
        → ((k l : ℕ) → ((j : ℕ) → slice_index xs j ≡ slice_index all (next + 1 + j)) → next + 1 + length xs ≡ length all
        → IsLeastSoFar all k l (next + 1) → HasLeastLoad all (least_from k l (next + 1) xs))
        → HasLeastLoad all (least_from least load next (x ∷ xs))
    by true q behind =
        let less : x < load = grind (arith, nat_tests) in
        rw q (behind next x more (omega arith) (record {
          here = at;
          there = omega arith;
          lower = λ k low. by_new less k low (k == next) refl;
          first = λ k low. let a = so.lower k low in omega arith;
        }))
    by false q behind =
        let more_is : load ≤ x = grind (arith, nat_tests) in
        rw q (behind least load more (omega arith) (record {
          here = so.here;
          there = (let a = so.there in omega arith);
          lower = λ k low. by_old more_is k low (k == next) refl;
          first = so.first;
        }))

pub has_least : (loads : List ℕ) → 1 ≤ length loads → HasLeastLoad loads (least_loaded loads)
has_least [] some = absurd (omega arith)
has_least (x ∷ xs) some =
    least_of_rest (x ∷ xs) 0 x 1 xs (λ j. let e : 1 + j ≡ suc j = omega arith in sym (ap (slice_index (x ∷ xs)) e))
    (omega arith) (record { here = refl; there = omega arith; lower = lower; first = λ k low. absurd (omega arith) })
  where
    lower : (k : ℕ) → k < 1 → x ≤ slice_index (x ∷ xs) k
    lower zero low = omega arith
    lower (suc k) low = absurd (omega arith)

-- the load of the backend that grows or falls, and of another one

pub raised_here : (i : ℕ) (loads : List ℕ) → i < length loads
    → slice_index (raised i loads) i ≡ (slice_index loads i + 1) % 2 ^ 64
raised_here i loads low =
    let q : nat_lt i (length loads) ≡ true = grind (arith, nat_tests) in
    rw q (get_or-set_same loads i ((slice_index loads i + 1) % 2 ^ 64) 0 low)

pub raised_other : (k i : ℕ) (loads : List ℕ) → (k == i) ≡ false → slice_index (raised k loads) i ≡ slice_index loads i
raised_other k i loads other = by (nat_lt k (length loads)) refl
  where
    differ : i ≢ k
    differ e = absurd (grind (arith, nat_tests))

    by : (b : Bool) → nat_lt k (length loads) ≡ b → slice_index (raised k loads) i ≡ slice_index loads i
    by true q = rw q (get_or-set_other loads k i ((slice_index loads k + 1) % 2 ^ 64) 0 differ)
    by false q = rw q refl

pub lowered_here : (i : ℕ) (loads : List ℕ) → i < length loads
    → slice_index (lowered i loads) i ≡ (slice_index loads i + (2 ^ 64 - 1)) % 2 ^ 64
lowered_here i loads low =
    let q : nat_lt i (length loads) ≡ true = grind (arith, nat_tests) in
    rw q (get_or-set_same loads i ((slice_index loads i + (2 ^ 64 - 1)) % 2 ^ 64) 0 low)

pub lowered_other : (k i : ℕ) (loads : List ℕ) → (k == i) ≡ false
    → slice_index (lowered k loads) i ≡ slice_index loads i
lowered_other k i loads other = by (nat_lt k (length loads)) refl
  where
    differ : i ≢ k
    differ e = absurd (grind (arith, nat_tests))

    by : (b : Bool) → nat_lt k (length loads) ≡ b → slice_index (lowered k loads) i ≡ slice_index loads i
    by true q = rw q (get_or-set_other loads k i ((slice_index loads k + (2 ^ 64 - 1)) % 2 ^ 64) 0 differ)
    by false q = rw q refl

pub one_up : (load before after : ℕ) → load ≡ before % 2 ^ 64 → after ≡ before + 1
    → (load + 1) % 2 ^ 64 ≡ after % 2 ^ 64
one_up load before after is more = omega arith

pub one_down : (load before after : ℕ) → load ≡ before % 2 ^ 64 → after + 1 ≡ before
    → (load + (2 ^ 64 - 1)) % 2 ^ 64 ≡ after % 2 ^ 64
one_down load before after is less = omega arith
