-- The order in which followed entries can all be made.
use Rattle.std.specs.Prelude.{◌≡◌, ℕ, ◌<◌, ◌⊎◌, List, [], ◌∷◌, Some, slice_index}
use Rattle.entry_order.specs.Stamps.{sum_below}
use Rattle.access_log.specs.declared.entry.StampedEntry.{StampedEntry}
use Rattle.access_log.specs.Held.{Lane, lane, entry_at}

-- the sum of the 16 components of its stamp: in a log, the number of entries that precede it or are it
unfoldable pub weight_of : StampedEntry → ℕ
weight_of e = sum_below 16 (λ u. slice_index e.stamp u)

-- the list has entry (t, n)
abbrev pub IsNamed : ℕ → ℕ → List (ℕ × ℕ) → Type 0
IsNamed t n [] = ⊥
IsNamed t n (x ∷ rest) = ((x.0 ≡ t) × (x.1 ≡ n)) ⊎ IsNamed t n rest

-- of two followed entries the first has less weight, or the same and a lesser thread, or both and a lesser number
abbrev pub ComesBefore : List Lane → ℕ → ℕ → ℕ → ℕ → Type 0
ComesBefore guide t n u m =
    (e f : StampedEntry) → entry_at (lane guide t) n ≡ Some e → entry_at (lane guide u) m ≡ Some f
    → (weight_of e < weight_of f) ⊎ ((weight_of e ≡ weight_of f) × ((t < u) ⊎ ((t ≡ u) × (n < m))))

-- Oldest first: by weight, then thread. So no entry stands twice.
abbrev pub IsInOrder : List Lane → List (ℕ × ℕ) → Type 0
IsInOrder guide [] = Unit {0}
IsInOrder guide (x ∷ rest) = ((u m : ℕ) → IsNamed u m rest → ComesBefore guide x.0 x.1 u m) × IsInOrder guide rest
