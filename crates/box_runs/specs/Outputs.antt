-- What a run sent out, by the inputs that it came from. Inputs are numbered from 1.
use Rattle.std.specs.Prelude.{◌≡◌, ℕ, ◌+◌, ◌-◌, ◌≤◌, ◌⊎◌, ◌&&◌, cond, nat_eq, List, [], ◌∷◌, Some, slice_get}
use Rattle.plain_text.specs.declared.packet.Packet.{Packet}
use Rattle.plain_machine.specs.declared.emission.Emission.{Emission}
use Rattle.plain_machine.specs.Program.{Meaning}
use Rattle.plain_machine.specs.History.{Ended, Step, sent_of, IsHistory}

-- the thread's input of this number is this packet
abbrev pub IsInput : (ℕ → List Packet) → ℕ → ℕ → Packet → Type 0
IsInput inputs t j p = (1 ≤ j) × (slice_get (inputs t) (j - 1) ≡ Some p)

-- how often the thread's input of this number was sent out
abbrev pub times_sent : ℕ → ℕ → List Emission → ℕ
times_sent t j [] = 0
times_sent t j (o ∷ sent) =
    cond (nat_eq o.thread t && nat_eq o.input j) (times_sent t j sent + 1) (times_sent t j sent)

-- the thread ended its work on its input of this number
abbrev pub HasEnded : {V : Type 0} → ℕ → ℕ → List (Step V) → Type 0
HasEnded t j [] = ⊥
HasEnded t j (x ∷ earlier) = ((x.thread ≡ t) × (x.act ≡ Ended j)) ⊎ HasEnded t j earlier

-- In each run no input goes out twice, and one on which the work is ended went out once.
abbrev pub SendsOnce : {V : Type 0} → Meaning V → Type 0
SendsOnce {V} m =
    (threads : ℕ) (inputs : ℕ → List Packet) (steps : List (Step V)) → IsHistory m inputs threads steps → (t j : ℕ)
    → (times_sent t j (sent_of steps) ≤ 1) × (HasEnded t j steps → times_sent t j (sent_of steps) ≡ 1)
