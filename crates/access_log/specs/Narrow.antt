-- Slots that have room for the first components of a stamp.
use Rattle.std.specs.Prelude.{◌≡◌, ◌≢◌, ℕ, zero, suc, ◌≤◌, List, [], ◌∷◌, Option, Some, None, slice_index}
use Rattle.entry_order.specs.declared.what.What.{What}
use Rattle.access_log.specs.declared.entry.StampedEntry.{StampedEntry}

-- the first n of these, and 0 for each that they have not
abbrev pub padded : ℕ → List ℕ → List ℕ
padded zero xs = []
padded (suc n) [] = 0 ∷ padded n []
padded (suc n) (x ∷ xs) = x ∷ padded n xs

-- the entry of a slot, which is empty where the number is 0
abbrev pub unpacked : ℕ → ℕ → What → List ℕ → Option StampedEntry
unpacked zero thread what components = None
unpacked (suc n) thread what components =
    Some (record { thread = thread; number = suc n; what = what; stamp = padded 16 components })

-- a slot with room for n components can hold the entry: its number is not 0, and its later components are
pub record FitsIn (n : ℕ) (e : StampedEntry) : Type 0 where
  pub numbered : e.number ≢ 0
  pub zeros : (k : ℕ) → n ≤ k → slice_index e.stamp k ≡ 0
