-- The entries of a run, as they are held to be followed.
use Rattle.std.specs.Prelude.{◌≡◌, ℕ, ◌+◌, ◌<◌, ◌≤◌, List, length, slice_index, slice_set}
use Rattle.entry_order.specs.declared.what.What.{What}
use Rattle.entry_order.specs.declared.what.What.TheVariants as what
use Rattle.access_log.specs.declared.entry.StampedEntry.{StampedEntry}
use Rattle.access_log.specs.Held.{Lane, lane, IsFrontier}
use Rattle.replay_guide.specs.Following.{Follows, CanBeFollowed}

-- it is no touch, or comes after the last touch of its variable
abbrev pub IsLater : List ℕ → What → Type 0
IsLater last (what.Access v place) = (v < length last) × (slice_index last v < place)
IsLater last (what.Read v after) = Unit {0}
IsLater last (what.Clock a) = Unit {0}
IsLater last (what.Draw a) = Unit {0}

-- the places of the last touches after it
abbrev pub noted : List ℕ → What → List ℕ
noted last (what.Access v place) = slice_set last v place
noted last (what.Read v after) = last
noted last (what.Clock a) = last
noted last (what.Draw a) = last

-- it is the next entry of its thread
pub record IsNextHeld (held : List Lane) (e : StampedEntry) : Type 0 where
  pub low : e.thread < 16
  pub frontier : ℕ
  pub is : IsFrontier (lane held e.thread) frontier
  pub next : e.number ≡ frontier + 1

-- They can be followed, and no touch of a variable comes after its last one.
pub record AreFollowed (held : List Lane) (last : List ℕ) : Type 0 where
  pub threads : length held ≡ 16
  pub can : CanBeFollowed held
  pub below : (t n v place : ℕ) → Follows held t n (what.Access v place) → place ≤ slice_index last v
