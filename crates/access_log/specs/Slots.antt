-- The entries of one thread in slots that follow one another, and in a map.
use Rattle.std.specs.Prelude.{◌≡◌, ℕ, ◌+◌, ◌^◌, ◌≤◌, ◌<◌, ◌↔◌, List, [], ◌∷◌, Option, Some, None, IsSome, length}
use Rattle.std.specs.Prelude.{slice_index_or}
use Rattle.std.specs.Map.{lookup}
use Rattle.std.specs.BTreeMap.{is_at}
use Rattle.std.specs.Ordering.{nat_cmp}
use Rattle.thread_clock.specs.Clock.{AtMost}
use Rattle.access_log.specs.declared.entry.StampedEntry.{StampedEntry}

-- the entries in slots whose first is that of the number after `from`
abbrev pub in_slots : ℕ → List (Option StampedEntry) → List (ℕ × StampedEntry)
in_slots from [] = []
in_slots from (None ∷ rest) = in_slots (from + 1) rest
in_slots from (Some e ∷ rest) = (from + 1, e) ∷ in_slots (from + 1) rest

-- the later entries stand past the slots, and all numbers and counts are in their limits
pub record IsSlotted (covered : ℕ) (contiguous : List (Option StampedEntry))
    (out_of_order : List (ℕ × StampedEntry)) : Type 0 where
  pub past : (n : ℕ) → IsSome (lookup (is_at (nat_cmp n)) out_of_order) → covered + length contiguous < n
  pub small : (n : ℕ) → IsSome (lookup (is_at (nat_cmp n)) out_of_order) → n < 2 ^ 64
  pub fits : covered + length contiguous < 2 ^ 64
  pub few : length contiguous + length out_of_order ≤ 2 ^ 56

-- the new slots have exactly those entries of the old ones whose stamps have no component above these
pub record RetainsSlots (old new : List (Option StampedEntry)) (frontiers : List ℕ) : Type 0 where
  pub slots : length new ≡ length old
  pub held : (i : ℕ) (e : StampedEntry)
      → (slice_index_or new i None ≡ Some e) ↔ ((slice_index_or old i None ≡ Some e) × AtMost e.stamp frontiers)
