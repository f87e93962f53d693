-- What a lane keeps, and how one entry changes it.
use Rattle.std.specs.Prelude.{◌≡◌, ◌≢◌, ℕ, ◌+◌, ◌≤◌, ◌↔◌, List, Some, None, length, nat_le, if◌then◌else◌}
use Rattle.thread_clock.specs.Clock.{AtMost}
use Rattle.access_log.specs.declared.entry.StampedEntry.{StampedEntry}
use Rattle.access_log.specs.Held.{Lane, lane, entry_at, IsRising}

-- the new lane holds this entry at this number, and else what the old one holds
pub record PutsEntry (old new : Lane) (number : ℕ) (entry : StampedEntry) : Type 0 where
  pub put : entry_at new number ≡ Some entry
  pub others : (n : ℕ) → n ≢ number → entry_at new n ≡ entry_at old n
  pub covered : new.covered ≡ old.covered
  pub counted : length new.entries ≡ length old.entries + 1

-- the new lane has the entries up to this number covered, and none of them held; the later ones are as in the old one
pub record CoversUpTo (old new : Lane) (count : ℕ) : Type 0 where
  pub covered : new.covered ≡ count
  pub held : (n : ℕ) → entry_at new n ≡ (if nat_le n count then None else entry_at old n)

-- the new lane holds exactly those entries of the old one whose stamps have no component above these
pub record RetainsAtMost (old new : Lane) (frontiers : List ℕ) : Type 0 where
  pub covered : new.covered ≡ old.covered
  pub held : (n : ℕ) (e : StampedEntry)
      → (entry_at new n ≡ Some e) ↔ ((entry_at old n ≡ Some e) × AtMost e.stamp frontiers)

-- What every held set keeps: a lane for each of at most 16 threads, and each entry in the lane of its thread, by its
-- number. The numbers in a lane rise strictly, from above those covered: no entry stands twice.
pub record IsHeldSet (held : List Lane) : Type 0 where
  pub few : length held ≤ 16
  pub named : (t n : ℕ) (e : StampedEntry) → entry_at (lane held t) n ≡ Some e → (e.thread ≡ t) × (e.number ≡ n)
  pub rising : (t : ℕ) → IsRising (lane held t).covered (lane held t).entries
