-- The counting box: each packet carries its place in the count of all packets.
use Rattle.std.specs.Prelude.{◌≡◌, ℕ, ◌%◌, ◌/◌, ◌^◌, cond, nat_eq, if◌then◌else◌, List, [], ◌∷◌, Option, Some, None}
use Rattle.plain_text.specs.declared.packet.Packet.{Packet}
use Rattle.entry_order.specs.Log.{touches, places}
use Rattle.plain_machine.specs.declared.emission.Emission.{Emission}
use Rattle.plain_machine.specs.History.{Act, Took, Did, Emitted, Ended, Step, log_of, value_after, IsHistory}
use Rattle.box_program.specs.Count.{count_meaning}
use Rattle.box_runs.specs.Outputs.{IsInput}

-- how many touches of the one variable a run made
abbrev pub touches_made : List (Step ℕ) → ℕ
touches_made steps = places 0 (log_of steps)

-- which touch, of all of the run, the thread's packet in hand made: the n-th one; a take begins anew
abbrev pub touch_by : Act ℕ → ℕ → Option ℕ → Option ℕ
touch_by (Took k) n old = None
touch_by (Did entry left) n old = if touches 0 entry.what then Some n else old
touch_by (Emitted o) n old = old
touch_by (Ended k) n old = old

abbrev pub touch_of : ℕ → List (Step ℕ) → Option ℕ
touch_of t [] = None
touch_of t (x ∷ earlier) =
    cond (nat_eq x.thread t) (touch_by x.act (touches_made (x ∷ earlier)) (touch_of t earlier)) (touch_of t earlier)

-- bytes 2 to 5 become the number modulo 2^32, the most significant byte first (RFC 791, appendix B); fewer than 6 bytes
-- stay as they are
abbrev pub with_number : ℕ → List ℕ → List ℕ
with_number n (a ∷ b ∷ c ∷ d ∷ e ∷ f ∷ rest) =
    a ∷ b ∷ n / 2 ^ 24 % 2 ^ 8 ∷ n / 2 ^ 16 % 2 ^ 8 ∷ n / 2 ^ 8 % 2 ^ 8 ∷ n % 2 ^ 8 ∷ rest
with_number n bytes = bytes

-- What a thread sends out is its input of the emission's number, with the number of the touch that it made.
abbrev pub PacketsCarryTheirCount : Type 0
PacketsCarryTheirCount =
    (threads : ℕ) (inputs : ℕ → List Packet) (x : Step ℕ) (earlier : List (Step ℕ)) (o : Emission)
    → IsHistory count_meaning inputs threads (x ∷ earlier) → x.act ≡ Emitted o
    → (n : ℕ) × (p : Packet) × (touch_of x.thread earlier ≡ Some n) × IsInput inputs x.thread o.input p
    × (o.packet ≡ record p { bytes = with_number n p.bytes })

-- the variable has the number of touches, modulo 2^64
abbrev pub CountIsTouches : Type 0
CountIsTouches =
    (threads : ℕ) (inputs : ℕ → List Packet) (steps : List (Step ℕ)) → IsHistory count_meaning inputs threads steps
    → value_after count_meaning steps 0 ≡ touches_made steps % 2 ^ 64
