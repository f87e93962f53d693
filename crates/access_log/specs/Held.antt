-- A held set, as the list of its lanes: for each thread, how many of its entries are covered, and which are held.
use Rattle.std.specs.Prelude.{◌≡◌, ℕ, ◌+◌, ◌≤◌, ◌<◌, ◌⊎◌, List, [], ◌∷◌, Option, IsSome, length, sum_by, slice_index}
use Rattle.std.specs.Prelude.{slice_index_or}
use Rattle.std.specs.Map.{lookup}
use Rattle.std.specs.BTreeMap.{is_at}
use Rattle.std.specs.Ordering.{nat_cmp}
use Rattle.access_log.specs.declared.entry.StampedEntry.{StampedEntry}

-- What is held of one thread: the entries 1 to `covered` are covered, and not held; the others held stand by number.
pub record Lane : Type 0 where
  pub covered : ℕ
  pub entries : List (ℕ × StampedEntry)

-- a lane with nothing covered and nothing held
abbrev pub fresh_lane : Lane
fresh_lane = record { covered = 0; entries = [] }

-- the lane of the thread; of a thread that the held set does not have, a fresh one
abbrev pub lane : List Lane → ℕ → Lane
lane held thread = slice_index_or held thread fresh_lane

-- the held entry of this number
abbrev pub entry_at : Lane → ℕ → Option StampedEntry
entry_at lane number = lookup (is_at (nat_cmp number)) lane.entries

-- the entry of this number is covered or held
abbrev pub IsKnown : Lane → ℕ → Type 0
IsKnown lane number = (number ≤ lane.covered) ⊎ IsSome (entry_at lane number)

-- n is the greatest number such that the entries 1 to n are known
pub record IsFrontier (lane : Lane) (n : ℕ) : Type 0 where
  pub reached : (k : ℕ) → k ≤ n → IsKnown lane k
  pub ends : IsKnown lane (n + 1) → ⊥

-- no component of the stamp is above the frontier of its thread
abbrev pub IsWithin : List Lane → List ℕ → Type 0
IsWithin held stamp = (u f : ℕ) → IsFrontier (lane held u) f → slice_index stamp u ≤ f

-- u is the least thread whose component of the stamp is above its frontier, and n the next number after that frontier
pub record IsFirstMissing (held : List Lane) (stamp : List ℕ) (u n : ℕ) : Type 0 where
  pub above : (f : ℕ) → IsFrontier (lane held u) f → (f < slice_index stamp u) × (n ≡ f + 1)
  pub least : (w f : ℕ) → w < u → IsFrontier (lane held w) f → slice_index stamp w ≤ f

-- the entries stand by strictly rising numbers, all of them above the least
abbrev pub IsRising : ℕ → List (ℕ × StampedEntry) → Type 0
IsRising least [] = Unit {0}
IsRising least (x ∷ rest) = (least < x.0) × IsRising x.0 rest

-- how many entries are held
abbrev pub held_count : List Lane → ℕ
held_count held = sum_by (λ l. length l.entries) held
