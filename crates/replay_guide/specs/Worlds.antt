-- Which entries of a world a guide follows, and the entries that an order names.
use Rattle.std.specs.Prelude.{ℕ, ◌↔◌, List, [], ◌∷◌}
use Rattle.entry_order.specs.Log.{Entry, IsIn}
use Rattle.access_log.specs.Held.{Lane, lane, entry_at}
use Rattle.master_core.specs.Holding.{and_found}
use Rattle.replay_guide.specs.Following.{Follows}

-- Of the entries that the past does not have, the guide follows exactly those that the master must follow.
abbrev pub Guides : List Entry → List Entry → List Lane → Type 0
Guides followed past guide = (e : Entry) → (IsIn e past → ⊥) → IsIn e followed ↔ Follows guide e.thread e.number e.what

-- the named entries, of which the first is the oldest, put one after another before older ones
abbrev pub put_before : List Lane → List (ℕ × ℕ) → List Entry → List Entry
put_before guide [] older = older
put_before guide (x ∷ names) older = put_before guide names (and_found (entry_at (lane guide x.0) x.1) older)

-- the named entries, newest first
abbrev pub entries_named : List Lane → List (ℕ × ℕ) → List Entry
entries_named guide names = put_before guide names []
