-- What a guide follows: log entries that a new master must make again as they are recorded. A guide is seen as the list
-- of its lanes, as the held set is whose entries it follows.
use Rattle.std.specs.Prelude.{◌≡◌, ℕ, ◌+◌, List, Option, Some, None, IsSome}
use Rattle.entry_order.specs.declared.what.What.{What}
use Rattle.entry_order.specs.declared.what.What.TheVariants.{Access, Read, Clock, Draw}
use Rattle.access_log.specs.declared.entry.StampedEntry.{StampedEntry}
use Rattle.access_log.specs.Held.{Lane, lane, entry_at, IsKnown}

-- entry (t, n) is followed, and did this
abbrev pub Follows : List Lane → ℕ → ℕ → What → Type 0
Follows guide t n what = (e : StampedEntry) × (entry_at (lane guide t) n ≡ Some e) × (e.what ≡ what)

-- Held entries that can be followed: in each lane they stand after the covered ones without a gap, and no two touches
-- of one variable have one place.
pub record CanBeFollowed (held : List Lane) : Type 0 where
  pub gapless : (t n : ℕ) → IsSome (entry_at (lane held t) (n + 1)) → IsKnown (lane held t) n
  pub apart : (v place t n u m : ℕ) → Follows held t n (Access v place) → Follows held u m (Access v place)
      → (t ≡ u) × (n ≡ m)

-- the clock or the random word that the entry was told
abbrev pub told : What → Option ℕ
told (Access v place) = None
told (Read v after) = None
told (Clock a) = Some a
told (Draw a) = Some a

abbrev pub recorded : Option StampedEntry → Option ℕ
recorded None = None
recorded (Some e) = told e.what
