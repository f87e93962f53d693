-- Held and stored entries of a log: the closed part of the held ones, and what is missing for what a thread sends out.
-- They follow Sherry and others, Rollback-Recovery for Middleboxes (SIGCOMM 2015), sections 4 and 5.
use Rattle.std.specs.Prelude.{◌≡◌, ℕ, ◌+◌, ◌≤◌, ◌<◌, List, ◌⊎◌}
use Rattle.entry_order.specs.Log.{Entry, IsIn, IsNext, PrecedesOutput}

-- Each immediate predecessor, in the log, of a member is a member or stored.
abbrev pub IsClosedOver : List Entry → List Entry → List Entry → Type 0
IsClosedOver log stored set = (e f : Entry) → IsIn e log → IsIn f set → IsNext e f → IsIn e set ⊎ IsIn e stored

-- An immediate predecessor of the entry, in the log, is neither one of the set nor stored.
abbrev pub Lacks : List Entry → List Entry → List Entry → Entry → Type 0
Lacks log stored set f = (e : Entry) × IsIn e log × IsNext e f × (IsIn e set → ⊥) × (IsIn e stored → ⊥)

-- the greatest subset of the held entries that is closed over the stored ones
pub record IsClosedPart (log stored held part : List Entry) : Type 0 where
  pub within : (e : Entry) → IsIn e part → IsIn e held
  pub closed : IsClosedOver log stored part
  pub greatest : (other : List Entry) → ((e : Entry) → IsIn e other → IsIn e held) → IsClosedOver log stored other
      → (e : Entry) → IsIn e other → IsIn e part

-- e is missing for what thread t sends out after its first n entries: a predecessor of it, and neither held nor stored
pub record IsMissing (log stored held : List Entry) (t n : ℕ) (e : Entry) : Type 0 where
  pub precedes : PrecedesOutput log t n e
  pub not_held : IsIn e held → ⊥
  pub not_stored : IsIn e stored → ⊥

-- e is of a lesser thread than f, or of the same one and has no greater number
abbrev pub IsNoLater : Entry → Entry → Type 0
IsNoLater e f = (e.thread < f.thread) ⊎ ((e.thread ≡ f.thread) × (e.number ≤ f.number))

-- the missing entry of the least thread, and of that thread the one with the least number
pub record IsFirstMissing (log stored held : List Entry) (t n : ℕ) (e : Entry) : Type 0 where
  pub missing : IsMissing log stored held t n e
  pub first : (f : Entry) → IsMissing log stored held t n f → IsNoLater e f

-- What the thread sends out then is due: nothing is missing for it.
abbrev pub IsDue : List Entry → List Entry → List Entry → ℕ → ℕ → Type 0
IsDue log stored held t n = (e : Entry) → IsMissing log stored held t n e → ⊥

-- For each thread, how far its entries are all in one of the two sets.
pub record IsFrontier (log stored held : List Entry) (frontier : ℕ → ℕ) : Type 0 where
  pub below : (e : Entry) → IsIn e log → e.number ≤ frontier e.thread → IsIn e held ⊎ IsIn e stored
  pub next : (e : Entry) → IsIn e log → e.number ≡ frontier e.thread + 1 → IsIn e held ⊎ IsIn e stored → ⊥
