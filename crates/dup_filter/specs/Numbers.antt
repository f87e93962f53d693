-- The numbers that were marked, thread by thread, and those that room is kept for.
use Rattle.std.specs.Prelude.{◌≡◌, ◌≢◌, ℕ, ◌+◌, ◌≤◌, ◌<◌, ◌⊎◌, ◌↔◌, Bool, true, false, List, [], Option, Some, IsSome}
use Rattle.std.specs.Prelude.{slice_index_or}
use Rattle.std.specs.Map.{lookup}
use Rattle.std.specs.BTreeMap.{is_at}
use Rattle.std.specs.Ordering.{nat_cmp}

-- What is kept of one thread. The numbers from 1 to the floor are marked. Of those above, `true` stands at a marked
-- one, and `false` at one that room is kept for.
pub record Numbers : Type 0 where
  pub floor : ℕ
  pub above : List (ℕ × Bool)

-- nothing marked, and no room kept
abbrev pub no_numbers : Numbers
no_numbers = record { floor = 0; above = [] }

-- the numbers of the thread; of a thread that there is none of, none
abbrev pub numbers : List Numbers → ℕ → Numbers
numbers released thread = slice_index_or released thread no_numbers

-- what stands at a number above the floor
abbrev pub above_at : Numbers → ℕ → Option Bool
above_at s n = lookup (is_at (nat_cmp n)) s.above

-- the number was marked
abbrev pub IsMarked : Numbers → ℕ → Type 0
IsMarked s n = ((1 ≤ n) × (n ≤ s.floor)) ⊎ (above_at s n ≡ Some true)

-- room is kept for the number
abbrev pub HasRoom : Numbers → ℕ → Type 0
HasRoom s n = above_at s n ≡ Some false

-- number n of thread t was marked
abbrev pub WasMarked : List Numbers → ℕ → ℕ → Type 0
WasMarked released t n = IsMarked (numbers released t) n

-- room is kept for number n of thread t
abbrev pub IsAwaited : List Numbers → ℕ → ℕ → Type 0
IsAwaited released t n = HasRoom (numbers released t) n

-- no number that room is kept for was marked
abbrev pub AreApart : List Numbers → Type 0
AreApart released = (t n : ℕ) → IsAwaited released t n → WasMarked released t n → ⊥

-- The number up to which all are marked is kept as that: the number behind it is not marked. So what is kept above it
-- are the marked numbers past the first one that lacks, and those that room is kept for.
abbrev pub IsTight : Numbers → Type 0
IsTight s = IsMarked s (s.floor + 1) → ⊥

-- the greatest number that was marked, or 0 where none was
pub record IsGreatest (s : Numbers) (n : ℕ) : Type 0 where
  pub most : (k : ℕ) → IsMarked s k → k ≤ n
  pub marked : (n ≡ 0) ⊎ IsMarked s n

-- the new numbers are the old ones, and this one is marked too; room is kept for the same others
pub record Marks (old new : Numbers) (number : ℕ) : Type 0 where
  pub marked : (n : ℕ) → IsMarked new n ↔ ((n ≡ number) ⊎ IsMarked old n)
  pub room : (n : ℕ) → HasRoom new n ↔ (HasRoom old n × (n ≢ number))

-- the same numbers are marked, and room is kept for this one too
pub record KeepsRoom (old new : Numbers) (number : ℕ) : Type 0 where
  pub marked : (n : ℕ) → IsMarked new n ↔ IsMarked old n
  pub room : (n : ℕ) → HasRoom new n ↔ ((n ≡ number) ⊎ HasRoom old n)

-- the same numbers are marked, and no room is kept
pub record GivesUpRooms (old new : Numbers) : Type 0 where
  pub marked : (n : ℕ) → IsMarked new n ↔ IsMarked old n
  pub room : (n : ℕ) → HasRoom new n → ⊥

-- What is true of the numbers of every thread: those kept above the floor are above it, the one behind it is not
-- marked, and this is the greatest marked one.
pub record AreNumbers (s : Numbers) (top : ℕ) : Type 0 where
  pub past : (n : ℕ) → IsSome (above_at s n) → s.floor < n
  pub tight : IsTight s
  pub greatest : IsGreatest s top
