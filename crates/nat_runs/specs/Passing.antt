-- No packet vanishes: each one that was taken was sent out, was counted as dropped, or is in hand and neither yet.
use Rattle.std.specs.Prelude.{◌≡◌, ℕ, ◌+◌, ◌%◌, ◌^◌, ◌<◌, ◌==◌, List, [], ◌∷◌, length, Option, None, nat_eq, cond}
use Rattle.std.specs.Prelude.{if◌then◌else◌}
use Rattle.std.specs.List.{sum}
use Rattle.plain_text.specs.declared.packet.Packet.{Packet}
use Rattle.entry_order.specs.declared.what.What.{What}
use Rattle.entry_order.specs.declared.what.What.TheVariants.{Access, Read, Clock, Draw}
use Rattle.plain_machine.specs.Machine.{Hand, Thread}
use Rattle.plain_machine.specs.History.{Act, Took, Did, Emitted, Ended, Step, sent_of, outputs, thread_after}
use Rattle.plain_machine.specs.History.{value_after}
use Rattle.plain_machine.specs.History.{IsHistory}
use Rattle.nat_box.specs.declared.place.Place.{Place}
use Rattle.nat_box.specs.declared.place.Place.TheVariants.{Ends}
use Rattle.nat_box.specs.declared.value.NatValue.{NatValue}
use Rattle.nat_box.specs.declared.value.NatValue.TheVariants.{Dropped, Free, Mapped, Taken}
use Rattle.nat_box.specs.Settings.{Settings, AreSettings}
use Rattle.nat_box.specs.Nat.{nat_meaning}
use Rattle.nat_box.specs.PortStanding.{in_hand, in_hands}

-- how many packets were taken

abbrev pub taken_by : Act NatValue → ℕ
taken_by (Took k) = 1
taken_by (Did entry left) = 0
taken_by (Emitted o) = 0
taken_by (Ended k) = 0

abbrev pub taken_in : List (Step NatValue) → ℕ
taken_in [] = 0
taken_in (x ∷ earlier) = taken_by x.act + taken_in earlier

-- how many packets were sent out
abbrev pub sent_in : List (Step NatValue) → ℕ
sent_in steps = length (sent_of steps)

-- how many packets were counted as dropped, whatever the reason
abbrev pub drops_in : NatValue → ℕ
drops_in (Dropped d) = sum d.counts
drops_in (Free pool) = 0
drops_in (Mapped es) = 0
drops_in (Taken bs) = 0

-- 1 for a packet in hand that is neither sent out nor counted yet

abbrev pub waits_at : Place → ℕ
waits_at Ends = 0
waits_at _ = 1

abbrev pub waits : Option Hand → ℕ
waits hand = in_hand (λ place n. waits_at place) hand

abbrev pub waiting : ℕ → (ℕ → Thread) → ℕ
waiting threads thread = in_hands (λ place n. waits_at place) threads thread

-- how often a thread counted a packet as dropped: it touched variable 0

abbrev pub counted_by_what : What → ℕ
counted_by_what (Access v place) = if v == 0 then 1 else 0
counted_by_what (Read v after) = 0
counted_by_what (Clock a) = 0
counted_by_what (Draw a) = 0

abbrev pub counted_by : Act NatValue → ℕ
counted_by (Took k) = 0
counted_by (Did entry left) = counted_by_what entry.what
counted_by (Emitted o) = 0
counted_by (Ended k) = 0

abbrev pub counted_of : ℕ → List (Step NatValue) → ℕ
counted_of t [] = 0
counted_of t (x ∷ earlier) = cond (nat_eq x.thread t) (counted_by x.act + counted_of t earlier) (counted_of t earlier)

-- The packets that a thread took are those that it sent out, those that it counted, and the one in hand that is
-- neither.
abbrev pub HasPassed : ℕ → List (Step NatValue) → Type 0
HasPassed t steps =
    outputs t (sent_of steps) + counted_of t steps + waits (thread_after steps t).hand ≡ (thread_after steps t).taken

-- This is so after each step, and a thread takes its next packet with none in hand. So each packet is sent out once, or
-- counted once, and not both.
abbrev pub EachPasses : Type 0
EachPasses =
    (s : Settings) (threads : ℕ) (inputs : ℕ → List Packet) (steps : List (Step NatValue)) → AreSettings s
    → IsHistory (nat_meaning s) inputs threads steps → (t : ℕ) → HasPassed t steps

-- The counts wrap at 2^64, so this is said modulo 2^64.
abbrev pub NoneVanishes : Type 0
NoneVanishes =
    (s : Settings) (threads : ℕ) (inputs : ℕ → List Packet) (steps : List (Step NatValue)) → AreSettings s
    → IsHistory (nat_meaning s) inputs threads steps
    → (sent_in steps + drops_in (value_after (nat_meaning s) steps 0) + waiting threads (thread_after steps))
    % 2 ^ 64
    ≡ taken_in steps % 2 ^ 64

-- with no packet in hand, each was sent out or counted
abbrev pub NoneVanishesAtRest : Type 0
NoneVanishesAtRest =
    (s : Settings) (threads : ℕ) (inputs : ℕ → List Packet) (steps : List (Step NatValue)) → AreSettings s
    → IsHistory (nat_meaning s) inputs threads steps
    → ((t : ℕ) → t < threads → (thread_after steps t).hand ≡ None)
    → (sent_in steps + drops_in (value_after (nat_meaning s) steps 0)) % 2 ^ 64 ≡ taken_in steps % 2 ^ 64
