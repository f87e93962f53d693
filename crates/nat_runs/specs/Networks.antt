-- Where a packet comes from and goes to, by the bits of addresses alone and not by the box's own test of one; and what
-- becomes of it.
use Rattle.std.specs.Prelude.{◌≡◌, ◌≢◌, ℕ, ◌-◌, ◌/◌, ◌%◌, ◌^◌, ◌<◌, ◌≤◌, ◌⊎◌, true, List, ◌∷◌, Option, Some, None, Err}
use Rattle.std.specs.Prelude.{slice_get}
use Rattle.plain_text.specs.declared.packet.Packet.{Packet}
use Rattle.packet_headers.specs.declared.flow.Flow.{Flow}
use Rattle.packet_headers.specs.declared.flow.NotFlow.{NotFlow}
use Rattle.packet_headers.specs.View.{viewed}
use Rattle.packet_headers.specs.Rewriting.{with_source, with_dest}
use Rattle.icmp_errors.specs.declared.error.IcmpError.{IcmpError}
use Rattle.icmp_errors.specs.ErrorView.{viewed_error}
use Rattle.icmp_errors.specs.ErrorRewriting.{with_quoted_source, with_quoted_dest}
use Rattle.entry_order.specs.Log.{Entry}
use Rattle.entry_order.specs.declared.what.What.TheVariants.{Access}
use Rattle.plain_machine.specs.declared.emission.Emission.{Emission}
use Rattle.plain_machine.specs.Machine.{Hand}
use Rattle.plain_machine.specs.History.{Did, Emitted, Step, thread_after, value_after, IsHistory}
use Rattle.nat_tables.specs.declared.entries.Endpoint.{Endpoint}
use Rattle.nat_tables.specs.declared.slot.Slot.{Slot}
use Rattle.flow_boxes.specs.declared.drops.Drops.{Drops}
use Rattle.flow_boxes.specs.Flows.{HaveBytes}
use Rattle.nat_box.specs.declared.value.NatValue.{NatValue}
use Rattle.nat_box.specs.declared.value.NatValue.TheVariants.{Dropped}
use Rattle.nat_box.specs.Statics.{static_port, kept, IsStatic}
use Rattle.nat_box.specs.Settings.{Settings, AreSettings}
use Rattle.nat_box.specs.Nat.{nat_meaning}
use Rattle.nat_box.specs.Sentences.{IsMapping}
use Rattle.nat_runs.specs.Causes.{IsFlow, one_more}

-- a bit of a number, of which the lowest is bit 0
abbrev pub bit : ℕ → ℕ → ℕ
bit number k = number / 2 ^ k % 2

-- An address of 32 bits is of the inside network where its leading bits, as many as the network's length, are the
-- network's (RFC 4632, section 3.1).
abbrev pub IsOfNetwork : Settings → ℕ → Type 0
IsOfNetwork s address = (k : ℕ) → 32 - s.length ≤ k → k < 32 → bit address k ≡ bit s.inside k

-- Classes of a source and a destination. One goes out from inside, to an address that is neither inside nor the outside
-- address; one goes round, from inside to the outside address, wherever that is (RFC 4787, REQ-9); one comes in, from
-- elsewhere to the outside address.

abbrev pub GoesOut : Settings → ℕ → ℕ → Type 0
GoesOut s source dest = IsOfNetwork s source × (dest ≢ s.outside) × (IsOfNetwork s dest → ⊥)

abbrev pub GoesRound : Settings → ℕ → ℕ → Type 0
GoesRound s source dest = IsOfNetwork s source × (dest ≡ s.outside)

abbrev pub ComesIn : Settings → ℕ → ℕ → Type 0
ComesIn s source dest = (IsOfNetwork s source → ⊥) × (dest ≡ s.outside)

-- An error of ICMP goes out where the packet that it is about went inside (RFC 5508, REQ-5), and comes in where that
-- packet came from the outside address (REQ-4).

abbrev pub ErrorGoesOut : Settings → IcmpError → Type 0
ErrorGoesOut s error = GoesOut s error.source error.dest × IsOfNetwork s error.quoted_dest

abbrev pub ErrorComesIn : Settings → IcmpError → Type 0
ErrorComesIn s error = ComesIn s error.source error.dest × (error.quoted_source ≡ s.outside)

abbrev pub HasClass : Settings → Flow → Type 0
HasClass s flow =
    GoesOut s flow.source flow.dest ⊎ (GoesRound s flow.source flow.dest ⊎ ComesIn s flow.source flow.dest)

abbrev pub ErrorHasClass : Settings → IcmpError → Type 0
ErrorHasClass s error = ErrorGoesOut s error ⊎ ErrorComesIn s error

-- the packet is an error of ICMP, where errors go through
abbrev pub IsErrorIn : Settings → Packet → IcmpError → Type 0
IsErrorIn s p error = (s.errors ≡ true) × (viewed_error p.bytes p.original ≡ Some error)

-- The packet needs a mapping of its own source; or one that it goes to, or is about; or it is a flow or an error of no
-- class; or it is neither of them.

abbrev pub NeedsOwnMapping : Settings → Packet → Type 0
NeedsOwnMapping s p =
    (flow : Flow) × IsFlow p flow × (GoesOut s flow.source flow.dest ⊎ GoesRound s flow.source flow.dest)

abbrev pub NeedsMapping : Settings → Packet → Type 0
NeedsMapping s p =
    ((flow : Flow) × IsFlow p flow × (GoesRound s flow.source flow.dest ⊎ ComesIn s flow.source flow.dest))
    ⊎ ((error : IcmpError) × IsErrorIn s p error × ErrorHasClass s error)

abbrev pub IsOfNoClass : Settings → Packet → Type 0
IsOfNoClass s p =
    ((flow : Flow) × IsFlow p flow × (HasClass s flow → ⊥))
    ⊎ ((error : IcmpError) × IsErrorIn s p error × (ErrorHasClass s error → ⊥))

abbrev pub IsNeither : Settings → Packet → Type 0
IsNeither s p =
    (answer : NotFlow) × (viewed p.bytes p.original ≡ Err answer)
    × (s.errors ≡ true → viewed_error p.bytes p.original ≡ None)

-- to which endpoints an outside port may lead: those of the inside network, and that of the static port with this
-- outside port
abbrev pub MayReach : Settings → ℕ → Endpoint → Type 0
MayReach s port key = IsOfNetwork s key.address ⊎ IsStatic (static_port key port) (kept s.statics)

-- What becomes of each class that is sent out: with the outside address in place of the source's, with an endpoint that
-- its port may lead to in place of the destination, or with both; of an error, the same of what it quotes, turned round

abbrev pub SentOut : Settings → Packet → List ℕ → Type 0
SentOut s p sent =
    (flow : Flow) × IsFlow p flow × GoesOut s flow.source flow.dest × (port : ℕ)
    × (sent ≡ with_source p.bytes flow s.outside port)

abbrev pub SentRound : Settings → Packet → List ℕ → Type 0
SentRound s p sent =
    (flow : Flow) × IsFlow p flow × GoesRound s flow.source flow.dest × (port : ℕ) × (key : Endpoint)
    × MayReach s flow.dest_port key
    × (sent ≡ with_dest (with_source p.bytes flow s.outside port) flow key.address key.port)

abbrev pub SentIn : Settings → Packet → List ℕ → Type 0
SentIn s p sent =
    (flow : Flow) × IsFlow p flow × ComesIn s flow.source flow.dest × (key : Endpoint)
    × MayReach s flow.dest_port key × (sent ≡ with_dest p.bytes flow key.address key.port)

abbrev pub ErrorSentOut : Settings → Packet → List ℕ → Type 0
ErrorSentOut s p sent =
    (error : IcmpError) × IsErrorIn s p error × ErrorGoesOut s error × (port : ℕ)
    × (sent ≡ with_quoted_dest p.bytes error s.outside port)

abbrev pub ErrorSentIn : Settings → Packet → List ℕ → Type 0
ErrorSentIn s p sent =
    (error : IcmpError) × IsErrorIn s p error × ErrorComesIn s error × (key : Endpoint)
    × MayReach s error.quoted_source_port key × (sent ≡ with_quoted_source p.bytes error key.address key.port)

abbrev pub IsSentByClass : Settings → List ℕ → Option Packet → Type 0
IsSentByClass s sent None = ⊥
IsSentByClass s sent (Some p) =
    SentOut s p sent
    ⊎ (SentRound s p sent ⊎ (SentIn s p sent ⊎ (ErrorSentOut s p sent ⊎ ErrorSentIn s p sent)))

-- of each emission, and the thread's input of its number
abbrev pub SentByClass : Type 0
SentByClass =
    (s : Settings) (threads : ℕ) (inputs : ℕ → List Packet) (x : Step NatValue) (earlier : List (Step NatValue))
    (o : Emission) → AreSettings s → HaveBytes inputs
    → IsHistory (nat_meaning s) inputs threads (x ∷ earlier) → x.act ≡ Emitted o
    → IsSentByClass s o.packet.bytes (slice_get (inputs x.thread) (o.input - 1))

-- 9 is for a packet of no class; 8 and 10 for one that needs a mapping of its own source, 7 for one that needs a
-- mapping to go to or to be about; 1 to 6 for what is neither a flow nor an error
abbrev pub IsCountedByClass : Settings → Packet → ℕ → Type 0
IsCountedByClass s p reason =
    (IsOfNoClass s p × (reason ≡ 9))
    ⊎ ((NeedsOwnMapping s p × ((reason ≡ 8) ⊎ (reason ≡ 10)))
    ⊎ ((NeedsMapping s p × (reason ≡ 7)) ⊎ (IsNeither s p × (1 ≤ reason) × (reason ≤ 6))))

-- Each touch of variable 0 counts the packet in hand, for a reason of its class.
abbrev pub CountedByClass : Type 0
CountedByClass =
    (s : Settings) (threads : ℕ) (inputs : ℕ → List Packet) (x : Step NatValue) (earlier : List (Step NatValue))
    (entry : Entry) (left : Option NatValue) (place : ℕ) → AreSettings s → HaveBytes inputs
    → IsHistory (nat_meaning s) inputs threads (x ∷ earlier) → x.act ≡ Did entry left → entry.what ≡ Access 0 place
    → (h : Hand) × (d : Drops) × (reason : ℕ) × ((thread_after earlier x.thread).hand ≡ Some h)
    × (value_after (nat_meaning s) earlier 0 ≡ Dropped d)
    × (value_after (nat_meaning s) (x ∷ earlier) 0 ≡ Dropped (one_more reason d))
    × IsCountedByClass s h.packet reason

-- each mapping after each move of each run
abbrev pub MappingsAreInside : Type 0
MappingsAreInside =
    (s : Settings) (threads : ℕ) (inputs : ℕ → List Packet) (steps : List (Step NatValue)) (v : ℕ) (key : Endpoint)
    (slot : Slot) → AreSettings s → HaveBytes inputs → IsHistory (nat_meaning s) inputs threads steps
    → IsMapping s (value_after (nat_meaning s) steps) v (key, slot) → MayReach s slot.port key
