-- Frontiers of a held set as it is, and as it will be.
use Rattle.std.specs.Prelude.{◌≡◌, ◌≢◌, ℕ, ◌+◌, ◌≤◌, ◌<◌, List, None, IsSome, length, slice_index}
use Rattle.access_log.specs.declared.entry.StampedEntry.{StampedEntry}
use Rattle.access_log.specs.Held.{Lane, lane, entry_at, IsFrontier}
use Rattle.access_log.specs.Lanes.{PutsEntry, CoversUpTo}

-- these are the frontiers of the threads
abbrev pub AreFrontiers : List Lane → List ℕ → Type 0
AreFrontiers held frontiers = (t : ℕ) → IsFrontier (lane held t) (slice_index frontiers t)

-- the entries after the first number are held up to the second, and the next one is not
pub record Reaches (l : Lane) (from reached : ℕ) : Type 0 where
  pub up : from ≤ reached
  pub held : (n : ℕ) → from < n → n ≤ reached → IsSome (entry_at l n)
  pub ends : entry_at l (reached + 1) ≡ None

-- the held set with one more entry
pub record WithEntry (old new : List Lane) (thread number : ℕ) (e : StampedEntry) : Type 0 where
  pub puts : PutsEntry (lane old thread) (lane new thread) number e
  pub others : (t : ℕ) → t ≢ thread → lane new t ≡ lane old t

-- the held set with each thread's entries up to its count covered
pub record WithCover (old new : List Lane) (counts : List ℕ) : Type 0 where
  pub covers : (t : ℕ) → t < length old → CoversUpTo (lane old t) (lane new t) (slice_index counts t)
  pub threads : length new ≡ length old
