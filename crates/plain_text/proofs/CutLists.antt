-- A list that is cut at the first element that passes a test.
use Rattle.std.proofs.Common.{◌≡◌, ℕ, suc, ◌+◌, ◌<◌, ◌≤◌, Bool, true, false, List, [], ◌∷◌, length, take, drop, refl}
use Rattle.std.proofs.Common.{ap, arith, Some, None, add-one}
use Rattle.std.specs.Prelude.{position, nat_lt}
use Rattle.std.specs.List.{slice_split, onto_first, position_or_len}
use Rattle.std.proofs.Common.{inl, inr, ◌⊎◌, ◌≢◌, ◌==◌}
use Rattle.std.specs.Str.Lines.{lines, strip_carriage_return}
use Rattle.std.proofs.lemmas.Bool.{cases_lt}
use Rattle.std.proofs.lemmas.Bool.Decides.{nat_tests}

pub split_none : {X : Type 0} (p : X → Bool) (xs : List X) → length xs ≤ position_or_len p xs
    → slice_split p xs ≡ xs ∷ []
split_none p [] h = refl
split_none {X} p (x ∷ xs) h = go (p x) refl (split_none p xs)
  where
    go : (b : Bool) → p x ≡ b → (length xs ≤ position_or_len p xs → slice_split p xs ≡ xs ∷ [])
        → slice_split p (x ∷ xs) ≡ (x ∷ xs) ∷ []
    go true e rest = let k : position_or_len p (x ∷ xs) ≡ 0 = rw e refl in absurd (omega arith)
    go false e rest =
        let k : position_or_len p (x ∷ xs) ≡ 1 + position_or_len p xs = rw e refl in
        rw e (ap (onto_first x) (rest (omega arith)))

pub split_some : {X : Type 0} (p : X → Bool) (xs : List X) → position_or_len p xs < length xs
    → slice_split p xs ≡ take (position_or_len p xs) xs ∷ slice_split p (drop (suc (position_or_len p xs)) xs)
split_some p [] h = absurd (omega arith)
split_some {X} p (x ∷ xs) h = go (p x) refl (split_some p xs)
  where
    go : (b : Bool) → p x ≡ b
        → (position_or_len p xs < length xs
        → slice_split p xs ≡ take (position_or_len p xs) xs ∷ slice_split p (drop (suc (position_or_len p xs)) xs))
        → slice_split p (x ∷ xs)
        ≡ take (position_or_len p (x ∷ xs)) (x ∷ xs) ∷ slice_split p (drop (suc (position_or_len p (x ∷ xs))) (x ∷ xs))
    go true e rest = rw e refl
    go false e rest =
        let k : position_or_len p (x ∷ xs) ≡ 1 + position_or_len p xs = rw e refl in
        let q : 1 + position_or_len p xs ≡ suc (position_or_len p xs) = omega arith in
        simp (e, q) (ap (onto_first x) (rest (omega arith)))

-- by the answer of `position`
pub split_at_none : {X : Type 0} (p : X → Bool) (xs : List X) → position p xs ≡ None → slice_split p xs ≡ xs ∷ []
split_at_none {X} p xs e = go (cases_lt (position_or_len p xs) (length xs))
  where
    go : (position_or_len p xs < length xs) ⊎ (length xs ≤ position_or_len p xs) → slice_split p xs ≡ xs ∷ []
    go (inl h) =
        let k : nat_lt (position_or_len p xs) (length xs) ≡ true = grind (arith, nat_tests) in
        absurd (let w = rw k at e in cc)
    go (inr h) = split_none p xs h

pub split_at_some : {X : Type 0} (p : X → Bool) (xs : List X) (i : ℕ) → position p xs ≡ Some i
    → slice_split p xs ≡ take i xs ∷ slice_split p (drop (i + 1) xs)
split_at_some {X} p xs i e = go (cases_lt (position_or_len p xs) (length xs))
  where
    go : (position_or_len p xs < length xs) ⊎ (length xs ≤ position_or_len p xs)
        → slice_split p xs ≡ take i xs ∷ slice_split p (drop (i + 1) xs)
    go (inl h) =
        let k : nat_lt (position_or_len p xs) (length xs) ≡ true = grind (arith, nat_tests) in
        let w : Some (position_or_len p xs) ≡ Some i = rw k at e in
        let same : position_or_len p xs ≡ i = cc in
        rw (add-one, ← same) (split_some p xs h)
    go (inr h) =
        let k : nat_lt (position_or_len p xs) (length xs) ≡ false = grind (arith, nat_tests) in
        absurd (let w : None ≡ Some i = rw k at e in cc)

-- the lines of a text that is cut at its first line feed
pub lines_none : (xs : List ℕ) → 0 < length xs → position (λ b. b == 10) xs ≡ None → lines xs ≡ xs ∷ []
lines_none xs some e =
    let k : length xs ≢ 0 = λ z. absurd (omega arith) in
    rw (split_at_none (λ b. b == 10) xs e) (grind (arith, nat_tests))

pub some_parts : (p : ℕ → Bool) (xs : List ℕ) → (y : List ℕ) × (ys : List (List ℕ)) × (slice_split p xs ≡ y ∷ ys)
some_parts p [] = ([], [], refl)
some_parts p (x ∷ xs) = go (p x) refl (some_parts p xs)
  where
    go : (b : Bool) → p x ≡ b → ((y : List ℕ) × (ys : List (List ℕ)) × (slice_split p xs ≡ y ∷ ys))
        → (y : List ℕ) × (ys : List (List ℕ)) × (slice_split p (x ∷ xs) ≡ y ∷ ys)
    go true e rest = ([], slice_split p xs, rw e refl)
    go false e rest = (x ∷ rest.0, rest.1, rw (e, rest.2) refl)

pub lines_some : (xs : List ℕ) (i : ℕ) → position (λ b. b == 10) xs ≡ Some i
    → lines xs ≡ strip_carriage_return (take i xs) ∷ lines (drop (i + 1) xs)
lines_some xs i e =
    let parts = some_parts (λ b. b == 10) (drop (i + 1) xs) in
    rw (split_at_some (λ b. b == 10) xs i e, parts.2) refl
