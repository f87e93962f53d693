-- The members of a held set, and how many there are.
use Rattle.std.specs.Prelude.{◌≡◌, ℕ, ◌<◌, ◌⊎◌, ◌↔◌, List, [], ◌∷◌, Some, length, slice_index}
use Rattle.access_log.specs.declared.entry.StampedEntry.{StampedEntry}
use Rattle.access_log.specs.Held.{Lane, lane, entry_at}

-- the entry is held, in the lane of its thread, by its number
abbrev pub IsMember : List Lane → StampedEntry → Type 0
IsMember held e = entry_at (lane held e.thread) e.number ≡ Some e

-- it was held, and is no more
abbrev pub IsDropped : List Lane → List Lane → StampedEntry → Type 0
IsDropped old new e = IsMember old e × (IsMember new e → ⊥)

-- it is held, and its number is above the count of its thread
abbrev pub IsMemberAbove : List Lane → List ℕ → StampedEntry → Type 0
IsMemberAbove held counts e = IsMember held e × (slice_index counts e.thread < e.number)

-- the list has the entry
abbrev pub IsListed : StampedEntry → List StampedEntry → Type 0
IsListed e [] = ⊥
IsListed e (x ∷ rest) = (x ≡ e) ⊎ IsListed e rest

-- the list has no entry twice
abbrev pub AreApart : List StampedEntry → Type 0
AreApart [] = Unit {0}
AreApart (x ∷ rest) = (IsListed x rest → ⊥) × AreApart rest

-- n entries have the property: so long is a list that has each of them once, and no other
pub record IsNumberOf (P : StampedEntry → Type 0) (n : ℕ) : Type 0 where
  pub entries : List StampedEntry
  pub each : (e : StampedEntry) → IsListed e entries ↔ P e
  pub apart : AreApart entries
  pub long : length entries ≡ n
