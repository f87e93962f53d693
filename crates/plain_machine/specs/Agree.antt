-- What two runs agree on, where both keep one closed set of entries.
use Rattle.std.specs.Prelude.{◌≡◌, ℕ, List, [], ◌∷◌, ◌⊎◌, Option, Ok}
use Rattle.plain_text.specs.declared.packet.Packet.{Packet}
use Rattle.entry_order.specs.Log.{Entry, entries, IsIn, IsClosed, Keeps, PrecedesOutput}
use Rattle.plain_machine.specs.declared.emission.Emission.{Emission}
use Rattle.plain_machine.specs.declared.plain_move.PlainMove.{PlainMove}
use Rattle.plain_machine.specs.Program.{Meaning}
use Rattle.plain_machine.specs.Machine.{Thread}
use Rattle.plain_machine.specs.History.{Did, Emitted, Step, log_of, play}

-- The first history is what the second was at an earlier moment, or now.
abbrev pub IsEarlier : {V : Type 0} → List (Step V) → List (Step V) → Type 0
IsEarlier earlier [] = earlier ≡ []
IsEarlier earlier (x ∷ steps) = (earlier ≡ x ∷ steps) ⊎ IsEarlier earlier steps

-- A step of the history made the entry: it left this value, where it was a touch, and its thread there.
abbrev pub Makes : {V : Type 0} → List (Step V) → Entry → Option V → Thread → Type 0
Makes [] e left after = ⊥
Makes (x ∷ earlier) e left after = ((x.act ≡ Did e left) × (x.after ≡ after)) ⊎ Makes earlier e left after

-- A step of the history sent the packet out, after its thread had made n entries.
abbrev pub SendsAfter : {V : Type 0} → List (Step V) → Emission → ℕ → Type 0
SendsAfter [] o n = ⊥
SendsAfter (x ∷ earlier) o n = ((x.act ≡ Emitted o) × (entries o.thread (log_of earlier) ≡ n)) ⊎ SendsAfter earlier o n

-- Each entry of the set left one value and one thread in both: the Local after it, and how many inputs were taken.
abbrev pub AgreeOnEntries : {V : Type 0} → List Entry → List (Step V) → List (Step V) → Type 0
AgreeOnEntries {V} set steps others =
    (e : Entry) (a b : Option V) (here there : Thread)
    → IsIn e set → Makes steps e a here → Makes others e b there → (a ≡ b) × (here ≡ there)

-- A packet that both sent out, with one number of one thread, and all of whose predecessors are in the set, is one in
-- both, and stands after as many entries.
abbrev pub AgreeOnEmissions : {V : Type 0} → List Entry → List (Step V) → List (Step V) → Type 0
AgreeOnEmissions set steps others =
    (o p : Emission) (n k : ℕ)
    → SendsAfter steps o n → SendsAfter others p k → o.thread ≡ p.thread → o.number ≡ p.number
    → ((e : Entry) → PrecedesOutput (log_of steps) o.thread n e → IsIn e set)
    → (o ≡ p) × (n ≡ k)

-- Two runs on the same inputs that keep one closed set of entries agree on it.
abbrev pub Agreement : {V : Type 0} → Meaning V → (ℕ → List Packet) → ℕ → Type 0
Agreement {V} m inputs threads =
    (moves others : List PlainMove) (steps other_steps : List (Step V)) (set : List Entry)
    → play m inputs threads moves ≡ Ok steps → play m inputs threads others ≡ Ok other_steps
    → IsClosed (log_of steps) set → Keeps (log_of steps) set → Keeps (log_of other_steps) set
    → AgreeOnEntries set steps other_steps × AgreeOnEmissions set steps other_steps
