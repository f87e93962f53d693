-- How a run is continued by entries of another one.
use Rattle.std.specs.Prelude.{◌≡◌, ℕ, List, [], ◌∷◌, ◌++◌, ◌⊎◌, ◌↔◌, Option, Ok}
use Rattle.plain_text.specs.declared.packet.Packet.{Packet}
use Rattle.entry_order.specs.Log.{Entry, IsLog, IsIn, IsNext, IsClosed, Keeps}
use Rattle.entry_order.specs.Closed.{IsClosedOver}
use Rattle.plain_machine.specs.declared.plain_move.PlainMove.{PlainMove}
use Rattle.plain_machine.specs.Program.{Meaning}
use Rattle.plain_machine.specs.History.{Act, Took, Did, Emitted, Ended, Step, log_of, play}

-- Each immediate predecessor, in the log, of one of the further entries is in the set.
abbrev pub IsGrounded : List Entry → List Entry → List Entry → Type 0
IsGrounded log set more = (e g : Entry) → IsIn e more → IsIn g log → IsNext g e → IsIn g set

-- a move that is not logged
abbrev pub IsQuiet : {V : Type 0} → Act V → Type 0
IsQuiet (Took k) = Unit {0}
IsQuiet (Did e left) = ⊥
IsQuiet (Emitted o) = Unit {0}
IsQuiet (Ended k) = Unit {0}

-- the second history is the first with some more moves of the thread, none of them logged
abbrev pub GoesQuietly : {V : Type 0} → List (Step V) → ℕ → List (Step V) → Type 0
GoesQuietly from t [] = from ≡ []
GoesQuietly from t (x ∷ steps) = (from ≡ x ∷ steps) ⊎ ((x.thread ≡ t) × IsQuiet x.act × GoesQuietly from t steps)

-- The history goes on from a past by these entries, oldest first made, each after those moves of its thread, not
-- logged, that lead to it, and by no other moves.
abbrev pub IsLed : {V : Type 0} → List (Step V) → List Entry → List (Step V) → Type 0
IsLed past [] steps = steps ≡ past
IsLed past (e ∷ older) [] = ⊥
IsLed {V} past (e ∷ older) (x ∷ steps) =
    ((left : Option V) × (x.act ≡ Did e left)) × (mid : List (Step V)) × GoesQuietly mid e.thread steps
    × IsLed past older mid

-- Entries of another run that are numbered on after this one, and whose immediate predecessors in this one are in a
-- closed set that both keep, are the log of a continuation of this one.
abbrev pub Continuation : {V : Type 0} → Meaning V → (ℕ → List Packet) → ℕ → Type 0
Continuation {V} m inputs threads =
    (past others : List PlainMove) (steps other_steps : List (Step V)) (set more : List Entry)
    → play m inputs threads past ≡ Ok steps → play m inputs threads others ≡ Ok other_steps
    → IsClosed (log_of steps) set → Keeps (log_of steps) set → Keeps (log_of other_steps) set
    → IsLog (more ++ log_of steps) → Keeps (log_of other_steps) more → IsGrounded (log_of steps) set more
    → (rest : List PlainMove) × (next : List (Step V)) × (play m inputs threads (past ++ rest) ≡ Ok next)
    × (log_of next ≡ more ++ log_of steps)

-- After a crash, the entries of a set that is closed over a past, of a run that went on from it, can be made again:
-- some continuation of the past has exactly the entries of the past and of the set.
abbrev pub Recovery : {V : Type 0} → Meaning V → (ℕ → List Packet) → ℕ → Type 0
Recovery {V} m inputs threads =
    (past rest : List PlainMove) (steps line : List (Step V)) (set : List Entry)
    → play m inputs threads past ≡ Ok steps → play m inputs threads (past ++ rest) ≡ Ok line
    → IsClosedOver (log_of line) (log_of steps) set → Keeps (log_of line) set
    → (again : List PlainMove) × (next : List (Step V)) × (play m inputs threads (past ++ again) ≡ Ok next)
    × ((e : Entry) → IsIn e (log_of next) ↔ (IsIn e (log_of steps) ⊎ IsIn e set))
