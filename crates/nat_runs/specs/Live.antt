-- What comes in, or goes back inside, found a live mapping to its port (RFC 4787, REQ-5 and REQ-9); and so
-- did each error of ICMP, in both directions (RFC 5508, REQ-4 and REQ-5).
use Rattle.std.specs.Prelude.{◌≡◌, ℕ, ◌-◌, List, ◌∷◌, Option, Some, None, slice_get}
use Rattle.plain_text.specs.declared.packet.Packet.{Packet}
use Rattle.packet_headers.specs.Rewriting.{with_source, with_dest}
use Rattle.icmp_errors.specs.ErrorRewriting.{with_quoted_source, with_quoted_dest}
use Rattle.plain_machine.specs.declared.emission.Emission.{Emission}
use Rattle.plain_machine.specs.History.{Emitted, Step, IsHistory}
use Rattle.nat_tables.specs.declared.entries.Endpoint.{Endpoint}
use Rattle.nat_tables.specs.declared.slot.Slot.{Slot}
use Rattle.nat_tables.specs.Forwards.{Forwards}
use Rattle.nat_box.specs.declared.place.Class.{Class}
use Rattle.nat_box.specs.declared.place.Class.TheVariants.{Outbound, Hairpin, Inbound, OutboundError}
use Rattle.nat_box.specs.declared.value.NatValue.{NatValue}
use Rattle.nat_box.specs.declared.value.NatValue.TheVariants.{Mapped}
use Rattle.nat_box.specs.declared.seeing.Seen.{Seen}
use Rattle.nat_box.specs.declared.seeing.Seen.TheVariants.{OfFlow, OfError, OfNeither}
use Rattle.nat_box.specs.Settings.{Settings, AreSettings}
use Rattle.nat_box.specs.Nat.{flow_of_error, seen_by, class_seen, nat_meaning}
use Rattle.nat_box.specs.Sentences.{Has}
use Rattle.flow_boxes.specs.Flows.{source_of, HaveBytes}
use Rattle.nat_box.specs.Emissions.{Trail, trail_of}
use Rattle.nat_runs.specs.Idle.{IsLive}

-- The forward table that the packet read last has a mapping of the endpoint to the port, and it was live at the
-- time that the packet was told.
abbrev pub FoundLive : Trail → Endpoint → ℕ → Type 0
FoundLive r key port =
    (es : Forwards) × (slot : Slot) × (now : ℕ) × (r.read ≡ Some (Mapped es)) × (r.clock ≡ Some now)
    × Has es (key, slot) × (slot.port ≡ port) × IsLive now key slot

-- the frame goes to the endpoint of such a mapping
abbrev pub GoesToLive : Settings → List ℕ → Seen → Trail → List ℕ → Class → Type 0
GoesToLive s bytes (OfFlow flow) r sent Outbound = Unit {0}
GoesToLive s bytes (OfFlow flow) r sent Inbound =
    (key : Endpoint) × (key.protocol ≡ flow.protocol) × FoundLive r key flow.dest_port
    × (sent ≡ with_dest bytes flow key.address key.port)
GoesToLive s bytes (OfFlow flow) r sent Hairpin =
    (port : ℕ) × (key : Endpoint) × (key.protocol ≡ flow.protocol) × FoundLive r key flow.dest_port
    × (sent ≡ with_dest (with_source bytes flow s.outside port) flow key.address key.port)
GoesToLive s bytes (OfFlow flow) r sent OutboundError = ⊥
GoesToLive s bytes (OfError error) r sent Inbound =
    (key : Endpoint) × (key.protocol ≡ error.protocol) × FoundLive r key error.quoted_source_port
    × (sent ≡ with_quoted_source bytes error key.address key.port)
GoesToLive s bytes (OfError error) r sent OutboundError =
    (port : ℕ) × FoundLive r (source_of (flow_of_error error)) port
    × (sent ≡ with_quoted_dest bytes error s.outside port)
GoesToLive s bytes (OfError error) r sent Outbound = ⊥
GoesToLive s bytes (OfError error) r sent Hairpin = ⊥
GoesToLive s bytes (OfNeither answer) r sent class = ⊥

abbrev pub WentToLive : Settings → Trail → List ℕ → Option Packet → Type 0
WentToLive s r sent None = ⊥
WentToLive s r sent (Some p) =
    (class : Class) × (class_seen s p ≡ Some class) × GoesToLive s p.bytes (seen_by s p) r sent class

-- of each emission, and the thread's input of its number
abbrev pub ComesInByLive : Type 0
ComesInByLive =
    (s : Settings) (threads : ℕ) (inputs : ℕ → List Packet) (x : Step NatValue) (earlier : List (Step NatValue))
    (o : Emission) → AreSettings s → HaveBytes inputs → IsHistory (nat_meaning s) inputs threads (x ∷ earlier)
    → x.act ≡ Emitted o
    → WentToLive s (trail_of s x.thread earlier) o.packet.bytes (slice_get (inputs x.thread) (o.input - 1))
