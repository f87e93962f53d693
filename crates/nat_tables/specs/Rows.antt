-- Rows with entries, some of them empty.
use Rattle.std.specs.Prelude.{◌≡◌, ℕ, ◌<◌, ◌≤◌, Bool, true, false, List, [], ◌∷◌, length, slice_get}
use Rattle.std.specs.Prelude.{Option, Some, None}
use Rattle.std.specs.Map.{lookup}

-- the entries of the rows that are not empty
abbrev pub present : {A : Type 0} → List (Option A) → List A
present [] = []
present (None ∷ rows) = present rows
present (Some entry ∷ rows) = entry ∷ present rows

abbrev pub of_row : {A : Type 0} → Option (Option A) → Option A
of_row None = None
of_row (Some row) = row

-- the entry of a row, which may be empty or past the last one
abbrev pub row_at : {A : Type 0} → List (Option A) → ℕ → Option A
row_at rows at = of_row (slice_get rows at)

abbrev pub IsAbsent : {K V : Type 0} → (K → K → Bool) → K → List (Option (K × V)) → Type 0
IsAbsent {K} {V} eq key rows = (at : ℕ) (entry : K × V) → row_at rows at ≡ Some entry → eq key entry.0 ≡ false

-- the first row of the key is this one, with this value
pub record StandsAt {K V : Type 0} (eq : K → K → Bool) (key : K) (rows : List (Option (K × V))) (at : ℕ)
    (value : V) : Type 0 where
  pub own : K
  pub row : row_at rows at ≡ Some (own, value)
  pub same : eq key own ≡ true
  pub others : (k : ℕ) (entry : K × V) → k < at → row_at rows k ≡ Some entry → eq key entry.0 ≡ false

-- each key has its row, and so no key has two; the entries are so many, and no more keys have places
pub record AreKept {K V : Type 0} (eq : K → K → Bool) (places : List (K × ℕ)) (count : ℕ)
    (rows : List (Option (K × V))) : Type 0 where
  pub placed : (at : ℕ) (entry : K × V) → row_at rows at ≡ Some entry → lookup (eq entry.0) places ≡ Some at
  pub counted : count ≡ length (present rows)
  pub few : length places ≤ count

-- no two rows have the same key; the entries are so many
pub record AreApart {K V : Type 0} (eq : K → K → Bool) (count : ℕ) (rows : List (Option (K × V))) : Type 0 where
  pub apart : (at k : ℕ) (entry other : K × V) → row_at rows at ≡ Some entry → row_at rows k ≡ Some other → k < at
      → eq entry.0 other.0 ≡ false
  pub counted : count ≡ length (present rows)

-- keys are found by their places where they are indexed, and else by looking at each row
abbrev pub AreFound : {K V : Type 0} → (K → K → Bool) → Bool → List (K × ℕ) → ℕ → List (Option (K × V)) → Type 0
AreFound eq true places count rows = AreKept eq places count rows
AreFound eq false places count rows = AreApart eq count rows
