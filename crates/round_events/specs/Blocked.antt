-- The seats of a round whose threads were blocked: at the end of the round their threads are held up.
use Rattle.std.specs.Prelude.{◌≡◌, ℕ, ◌+◌, ◌<◌, ◌⊎◌, Bool, true, List, [], ◌∷◌, length, Some}
use Rattle.plain_text.specs.declared.packet.Packet.{Packet}
use Rattle.access_log.specs.Held.{Lane}
use Rattle.plain_machine.specs.declared.local.Local.{Local}
use Rattle.plain_machine.specs.declared.plain_move.PlainMove.{PlainMove}
use Rattle.plain_machine.specs.Program.{Meaning}
use Rattle.plain_machine.specs.History.{Step}
use Rattle.master_core.specs.Mastered.{Mastered}
use Rattle.atomic_table.specs.Seated.{TableId}
use Rattle.replay_guide.specs.Turns.{WaitsFor}
use Rattle.round_order.specs.Receipts.{after}
use Rattle.var_locks.specs.declared.view.MissedEntry.{MissedEntry}
use Rattle.var_locks.specs.Views.{IsMissed}
use Rattle.var_locks.specs.Seats.{Seated}
use Rattle.var_locks.specs.TouchedParts.{wanted_move, missed_at, IsBlocked}
use Rattle.var_locks.specs.Closing.{AreSeats, Closes, IsClosed, receipts_of}
use Rattle.round_events.specs.Waiting.{IsNotMade, IsHeldUp}

-- The seat's thread wants to touch the entry's variable, or to read it. As the seat found it, the guide said to wait
-- for the entry, which it found missing.
pub record IsStuck {V : Type 0} (m : Meaning V) (guide : List Lane) (x : Seated V) (e : MissedEntry) : Type 0 where
  pub read : Bool
  pub place : Local
  pub readers : List ℕ
  pub hand : x.part.hand ≡ Some place
  pub next : m.next place ≡ wanted_move e.var read
  pub waits : WaitsFor guide x.thread (x.part.counts.entries + 1) e.var read e.places readers e.thread e.number
  pub missed : IsMissed e x.missing

abbrev pub IsSeatAmong : {V : Type 0} → Seated V → List (Seated V) → Type 0
IsSeatAmong x [] = ⊥
IsSeatAmong x (y ∷ others) = (y ≡ x) ⊎ IsSeatAmong x others

-- A seat that a touch blocked is stuck.
abbrev pub BlockedAreStuck : Type 0 → Type 0
BlockedAreStuck X = (m : Meaning X) (guide : List Lane) (old new : Seated X) (u k : ℕ)
    (b : IsBlocked m guide old u k new) → IsStuck m guide new (missed_at u k b.var b.found.places)

-- It is so still when it has ended the round.
abbrev pub StuckEnd : Type 0 → Type 0
StuckEnd X = (m : Meaning X) (guide : List Lane) (x : Seated X) (e : MissedEntry) → IsStuck m guide x e
    → IsStuck m guide (record x { ended = true }) e

-- In a closed round the thread of a stuck seat is held up in the end, and the entry was not made.
abbrev pub StuckAreHeldUp : {V : Type 0} → Meaning V → (ℕ → V → Type 0) → Type 0
StuckAreHeldUp {V} m fits = (guide : List Lane) (p q : Mastered V) (round : TableId) (seats : List (Seated V))
    (inputs : ℕ → List Packet) (moves : List PlainMove) (past : List (Step V)) (x : Seated V) (e : MissedEntry)
    → IsClosed m fits guide p seats q → AreSeats round 0 seats → (c : Closes m guide p seats q inputs moves past)
    → IsSeatAmong x seats → IsStuck m guide x e
    → (x.thread < length p.threads) × IsNotMade guide past (receipts_of m past seats) e.thread e.number
    × IsHeldUp m guide (after c.weaves.order past) x.thread e.thread e.number
