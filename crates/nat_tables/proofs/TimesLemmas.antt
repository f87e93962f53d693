-- The first time before another, by that of the pairs.
use Rattle.std.proofs.Common.{◌≡◌, ◌==◌, ℕ, ◌+◌, ◌*◌, ◌/◌, ◌%◌, ◌<◌, ◌≤◌, Bool, true, false, List, length, refl, sym}
use Rattle.std.proofs.Common.{subst, arith, ⊎_elim}
use Rattle.std.proofs.lemmas.Bool.{eqb-true, cases_lt}
use Rattle.std.proofs.lemmas.Bool.Decides.{nat_tests}
use Rattle.std.proofs.lemmas.List.{get_or_past}
use Rattle.nat_tables.specs.Times.{never, time_at, ArePairs, AreFrom, IsFirstBefore}

-- a time that is found is from another on
pub found_from : (now time found : ℕ) → found ≡ time → now ≤ found → now ≤ time
found_from now time found is from = omega (arith, is, from)

-- where a pair is from a time on, so are both of its times
left_from : (now pair : ℕ) (pairs times : List ℕ) → ArePairs pairs times → now ≤ time_at pairs pair
    → now ≤ time_at times (2 * pair)
left_from now pair pairs times are from = let h = are.each pair in omega (arith, h, from)

right_from : (now pair : ℕ) (pairs times : List ℕ) → ArePairs pairs times → now ≤ time_at pairs pair
    → now ≤ time_at times (2 * pair + 1)
right_from now pair pairs times are from = let h = are.each pair in omega (arith, h, from)

one_from : (now at : ℕ) (pairs times : List ℕ) → ArePairs pairs times → now ≤ time_at pairs (at / 2)
    → now ≤ time_at times at
one_from now at pairs times are from = by (at % 2 == 0) refl
  where
    by : (b : Bool) → (at % 2 == 0) ≡ b → now ≤ time_at times at
    by true e =
        let even : 2 * (at / 2) ≡ at = (let h = eqb-true _ _ e in omega arith) in
        subst (λ (x : ℕ). now ≤ time_at times x) even (left_from now (at / 2) pairs times are from)
    by false e =
        let odd : 2 * (at / 2) + 1 ≡ at = grind (arith, nat_tests) in
        subst (λ (x : ℕ). now ≤ time_at times x) odd (right_from now (at / 2) pairs times are from)

-- the first pair whose times are both at an index or past it
abbrev pub next_pair : ℕ → ℕ
next_pair start = start / 2 + start % 2

-- from an index on: the time there, and those of the pairs past it
past_one : (start now at : ℕ) (pairs times : List ℕ) → ArePairs pairs times → now ≤ time_at times start → start ≤ at
    → (next_pair start ≤ at / 2 → now ≤ time_at pairs (at / 2)) → now ≤ time_at times at
past_one start now at pairs times are own past far =
    ⊎_elim (λ before.
    let here : start ≡ at = omega (arith, before, past) in subst (λ (x : ℕ). now ≤ time_at times x) here own)
    (λ from. one_from now at pairs times are (far from)) (cases_lt (at / 2) (next_pair start))

pub from_pairs : (start now : ℕ) (pairs times : List ℕ) → ArePairs pairs times → now ≤ time_at times start
    → AreFrom (next_pair start) now pairs → AreFrom start now times
from_pairs start now pairs times are own from at past =
    past_one start now at pairs times are own past (λ far. from (at / 2) far)

first_left : (start now pair : ℕ) (pairs times : List ℕ) → ArePairs pairs times → now ≤ time_at times start
    → IsFirstBefore (next_pair start) now pairs pair → time_at times (2 * pair) < now
    → IsFirstBefore start now times (2 * pair)
first_left start now pair pairs times are own first before = record {
  from = let from = first.from in omega arith;
  inside = let inside = first.inside in let half = are.half in omega arith;
  before = before;
  others = λ k past less.
      past_one start now k pairs times are own past (λ far. first.others (k / 2) far (omega (arith, less)));
}

first_right : (start now pair : ℕ) (pairs times : List ℕ) → now ≤ never → ArePairs pairs times
    → now ≤ time_at times start → IsFirstBefore (next_pair start) now pairs pair → now ≤ time_at times (2 * pair)
    → IsFirstBefore start now times (2 * pair + 1)
first_right start now pair pairs times fits are own first left = record {
  from = let from = first.from in omega arith;
  inside = ⊎_elim (λ h. h)
      (λ past. absurd (let end = get_or_past times (2 * pair + 1) never past in omega (arith, before, end, fits)))
      (cases_lt (2 * pair + 1) (length times));
  before = before;
  others = λ k past less. by k past less (k == 2 * pair) refl;
}
  where
    before : time_at times (2 * pair + 1) < now
    before = let h = are.each pair in let b = first.before in omega (arith, h, b, left)

    by : (k : ℕ) → start ≤ k → k < 2 * pair + 1 → (b : Bool) → (k == 2 * pair) ≡ b → now ≤ time_at times k
    by k past less true e =
        let same : 2 * pair ≡ k = sym (eqb-true _ _ e) in subst (λ (x : ℕ). now ≤ time_at times x) same left
    by k past less false e =
        let fewer : k < 2 * pair = grind (arith, nat_tests) in
        past_one start now k pairs times are own past (λ far. first.others (k / 2) far (omega (arith, fewer)))

pub first_by_pair : (start now pair at : ℕ) (pairs times : List ℕ) → now ≤ never → ArePairs pairs times
    → now ≤ time_at times start → IsFirstBefore (next_pair start) now pairs pair
    → (time_at times (2 * pair) < now → at ≡ 2 * pair) → (now ≤ time_at times (2 * pair) → at ≡ 2 * pair + 1)
    → IsFirstBefore start now times at
first_by_pair start now pair at pairs times fits are own first left right =
    ⊎_elim (λ less. rw (left less) (first_left start now pair pairs times are own first less))
    (λ from. rw (right from) (first_right start now pair pairs times fits are own first from))
    (cases_lt (time_at times (2 * pair)) now)

-- the first of the pairs has its left time
pub left_inside : (start now pair : ℕ) (pairs times : List ℕ) → ArePairs pairs times
    → IsFirstBefore start now pairs pair → 2 * pair < length times
left_inside start now pair pairs times are first = let inside = first.inside in let half = are.half in omega arith
