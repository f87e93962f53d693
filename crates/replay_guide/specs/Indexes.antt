-- How the followed touches and reads are found: touches by variable and place, reads by variable, place, thread and
-- number.
use Rattle.std.specs.Prelude.{◌≡◌, ℕ, ◌+◌, ◌<◌, ◌⊎◌, ◌↔◌, true, List, Option, Some, IsSome}
use Rattle.std.specs.declared.cmp.Ordering.{Ordering}
use Rattle.std.specs.Ordering.{nat_cmp, ordering_then}
use Rattle.std.specs.List.{list_any}
use Rattle.std.specs.Map.{lookup}
use Rattle.std.specs.BTreeMap.{is_at}
use Rattle.entry_order.specs.declared.what.What.{What}
use Rattle.entry_order.specs.declared.what.What.TheVariants.{Access, Read}
use Rattle.access_log.specs.declared.entry.StampedEntry.{StampedEntry}

-- keys in order: their parts one after another
abbrev pub touch_cmp : ℕ × ℕ → ℕ × ℕ → Ordering
touch_cmp x y = ordering_then (nat_cmp x.0 y.0) (nat_cmp x.1 y.1)

abbrev pub read_cmp : ℕ × ℕ × ℕ × ℕ → ℕ × ℕ × ℕ × ℕ → Ordering
read_cmp x y = ordering_then (ordering_then (ordering_then (nat_cmp x.0 y.0) (nat_cmp x.1 y.1)) (nat_cmp x.2 y.2))
    (nat_cmp x.3 y.3)

-- the thread and number of the touch that follows this number of touches of the variable
abbrev pub touch_after : List ((ℕ × ℕ) × (ℕ × ℕ)) → ℕ → ℕ → Option (ℕ × ℕ)
touch_after touches v places = lookup (is_at (touch_cmp (v, places))) touches

-- entry (t, n) is among the reads of the variable after this number of touches
abbrev pub HasRead : List (ℕ × ℕ × ℕ × ℕ) → ℕ → ℕ → ℕ → ℕ → Type 0
HasRead reads v places t n = list_any (is_at (read_cmp (v, places, t, n))) reads ≡ true

-- The greatest place at which a variable is followed is noted, and is less than this one; or none is noted.
abbrev pub IsPast : List (ℕ × ℕ) → ℕ → ℕ → Type 0
IsPast lasts v places = (last : ℕ) → lookup (is_at (nat_cmp v)) lasts ≡ Some last → last < places

-- no touch and no read of a variable is indexed past what is noted of it
abbrev pub AreLasts : List (ℕ × ℕ) → List ((ℕ × ℕ) × (ℕ × ℕ)) → List (ℕ × ℕ × ℕ × ℕ) → Type 0
AreLasts lasts touches reads =
    (v places : ℕ) → IsPast lasts v places
    → ((x : ℕ × ℕ) → touch_after touches v places ≡ Some x → ⊥) × ((t n : ℕ) → HasRead reads v places t n → ⊥)

-- One more entry is indexed: a touch with a place from 1 on, or a read.
pub record AddsEntry (old_touches new_touches : List ((ℕ × ℕ) × (ℕ × ℕ))) (old_reads new_reads : List (ℕ × ℕ × ℕ × ℕ))
    (e : StampedEntry) : Type 0 where
  pub touch : (v places : ℕ) (x : ℕ × ℕ) → touch_after new_touches v places ≡ Some x
      → (touch_after old_touches v places ≡ Some x) ⊎ ((e.what ≡ Access v (places + 1)) × (x ≡ (e.thread, e.number)))
  pub keeps_touch : (v places : ℕ) → IsSome (touch_after old_touches v places)
      → IsSome (touch_after new_touches v places)
  pub has_touch : (v places : ℕ) → e.what ≡ Access v (places + 1) → IsSome (touch_after new_touches v places)
  pub read : (v places t n : ℕ)
      → HasRead new_reads v places t n
      ↔ (HasRead old_reads v places t n ⊎ ((e.what ≡ Read v places) × (e.thread ≡ t) × (e.number ≡ n)))

-- The touches and the reads are those that have the property: entry (t, n) did this.
pub record IsIndexOf (P : ℕ → ℕ → What → Type 0) (touches : List ((ℕ × ℕ) × (ℕ × ℕ)))
    (reads : List (ℕ × ℕ × ℕ × ℕ)) : Type 0 where
  pub touch : (v places t n : ℕ) → touch_after touches v places ≡ Some (t, n) → P t n (Access v (places + 1))
  pub has_touch : (v places t n : ℕ) → P t n (Access v (places + 1)) → IsSome (touch_after touches v places)
  pub read : (v places t n : ℕ) → HasRead reads v places t n ↔ P t n (Read v places)
