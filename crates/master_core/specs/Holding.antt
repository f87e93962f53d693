-- What a held set of stamped log entries stands for in a run: which entries of the log it holds and covers. It ties the
-- held set to the packet access logs of Sherry and others, Rollback-Recovery for Middleboxes (SIGCOMM 2015), sections 4
-- and 5, whose missing entries and closed parts are defined over sets of entries.
use Rattle.std.specs.Prelude.{◌≡◌, ℕ, List, [], ◌∷◌, ◌++◌, Option, Some, None, slice_index}
use Rattle.entry_order.specs.Log.{Entry, entries, IsIn}
use Rattle.entry_order.specs.Stamps.{IsStamp}
use Rattle.access_log.specs.declared.entry.StampedEntry.{StampedEntry}
use Rattle.access_log.specs.Held.{Lane, lane, entry_at}
use Rattle.master_core.specs.Stepping.{plain_entry}

-- the entry that was found, where there is one, and the others
abbrev pub and_found : Option StampedEntry → List Entry → List Entry
and_found None others = others
and_found (Some e) others = plain_entry e ∷ others

-- what the lane holds under each of these numbers
abbrev pub found : Lane → List (ℕ × StampedEntry) → List Entry
found l [] = []
found l (x ∷ rest) = and_found (entry_at l x.0) (found l rest)

-- the held entries of all lanes, without their stamps
abbrev pub held_entries : List Lane → List Entry
held_entries [] = []
held_entries (l ∷ lanes) = found l l.entries ++ held_entries lanes

-- The held set is one of the log. Of each thread it covers as many entries as are stored, and each entry that it holds
-- is the one of its thread and number in the log, with its stamp there.
pub record HoldsOf (log stored : List Entry) (held : List Lane) : Type 0 where
  pub covered : (t : ℕ) → (lane held t).covered ≡ entries t stored
  pub of_log : (t n : ℕ) (e : StampedEntry) → entry_at (lane held t) n ≡ Some e
      → (e.thread ≡ t) × (e.number ≡ n) × IsIn (plain_entry e) log
      × IsStamp log (plain_entry e) (λ u. slice_index e.stamp u)
