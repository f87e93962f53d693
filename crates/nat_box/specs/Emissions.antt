-- What goes out: the frames of RFC 3022, and the errors of ICMP of RFC 5508, by the tables as the packet's own moves
-- found them.
use Rattle.std.specs.Prelude.{◌≡◌, ℕ, ◌-◌, ◌≤◌, true, List, [], ◌∷◌, Option, Some, None, nat_eq, cond, slice_get}
use Rattle.plain_text.specs.declared.packet.Packet.{Packet}
use Rattle.packet_headers.specs.Rewriting.{with_source, with_dest}
use Rattle.entry_order.specs.declared.what.What.{What}
use Rattle.entry_order.specs.declared.what.What.TheVariants.{Access, Read, Clock, Draw}
use Rattle.plain_machine.specs.declared.emission.Emission.{Emission}
use Rattle.plain_machine.specs.History.{Act, Took, Did, Emitted, Ended, Step, value_after, IsHistory}
use Rattle.nat_tables.specs.declared.entries.Endpoint.{Endpoint}
use Rattle.nat_tables.specs.declared.slot.Slot.{Slot}
use Rattle.nat_tables.specs.Forwards.{Forwards, slot_of, lives}
use Rattle.nat_box.specs.declared.place.Class.{Class}
use Rattle.nat_box.specs.declared.place.Class.TheVariants.{Outbound, Hairpin, Inbound, OutboundError}
use Rattle.nat_box.specs.declared.value.NatValue.{NatValue}
use Rattle.nat_box.specs.declared.value.NatValue.TheVariants.{Dropped, Free, Mapped, Taken}
use Rattle.flow_boxes.specs.Flows.{HaveBytes, source_of}
use Rattle.nat_box.specs.declared.seeing.Seen.{Seen}
use Rattle.nat_box.specs.declared.seeing.Seen.TheVariants.{OfFlow, OfError, OfNeither}
use Rattle.icmp_errors.specs.ErrorRewriting.{with_quoted_source, with_quoted_dest}
use Rattle.nat_box.specs.Settings.{Settings, AreSettings}
use Rattle.nat_box.specs.Nat.{flow_of_error, seen_by, class_seen, nat_meaning}

-- What the moves of a packet in hand met: the forward table as its newest touch of one left it, the value that its
-- newest read found, and the time that it was told.
pub record Trail : Type 0 where
  pub forward : Option Forwards
  pub read : Option NatValue
  pub clock : Option ℕ

abbrev pub no_trail : Trail
no_trail = record { forward = None; read = None; clock = None }

abbrev pub left_forward : Option NatValue → Option Forwards → Option Forwards
left_forward None old = old
left_forward (Some (Dropped d)) old = old
left_forward (Some (Free pool)) old = old
left_forward (Some (Mapped es)) old = Some es
left_forward (Some (Taken bs)) old = old

abbrev pub trail_by_what : List (Step NatValue) → Settings → Option NatValue → Trail → What → Trail
trail_by_what earlier s left old (Access v place) =
    record { forward = left_forward left old.forward; read = old.read; clock = old.clock }
trail_by_what earlier s left old (Read v after) =
    record { forward = old.forward; read = Some (value_after (nat_meaning s) earlier v); clock = old.clock }
trail_by_what earlier s left old (Clock a) = record { forward = old.forward; read = old.read; clock = Some a }
trail_by_what earlier s left old (Draw a) = old

-- a take begins anew
abbrev pub trail_by : List (Step NatValue) → Settings → Act NatValue → Trail → Trail
trail_by earlier s (Took k) old = no_trail
trail_by earlier s (Did entry left) old = trail_by_what earlier s left old entry.what
trail_by earlier s (Emitted o) old = old
trail_by earlier s (Ended k) old = old

abbrev pub trail_of : Settings → ℕ → List (Step NatValue) → Trail
trail_of s t [] = no_trail
trail_of s t (x ∷ earlier) =
    cond (nat_eq x.thread t) (trail_by earlier s x.act (trail_of s t earlier)) (trail_of s t earlier)

-- the endpoint had this port at the packet's last find or find-or-bind
abbrev pub WasMapped : Option Forwards → Endpoint → ℕ → Type 0
WasMapped forward key port =
    (es : Forwards) × (slot : Slot) × (forward ≡ Some es) × (slot_of key es ≡ Some slot) × (slot.port ≡ port)

-- the endpoint's mapping to the port lived at the packet's last read
abbrev pub Lived : Trail → Endpoint → ℕ → Type 0
Lived r key port =
    (es : Forwards) × (now : ℕ) × (r.read ≡ Some (Mapped es)) × (r.clock ≡ Some now) × (lives key port now es ≡ true)

-- A flow is translated; an error of ICMP with the packet that it quotes, by a mapping that its reads found. The other
-- cases do not come.
abbrev pub IsTranslated : Settings → List ℕ → Seen → Trail → List ℕ → Class → Type 0
IsTranslated s bytes (OfFlow flow) r sent Outbound =
    (port : ℕ) × WasMapped r.forward (source_of flow) port × (sent ≡ with_source bytes flow s.outside port)
IsTranslated s bytes (OfFlow flow) r sent Inbound =
    (key : Endpoint) × (key.protocol ≡ flow.protocol) × Lived r key flow.dest_port
    × (sent ≡ with_dest bytes flow key.address key.port)
IsTranslated s bytes (OfFlow flow) r sent Hairpin =
    (port : ℕ) × (key : Endpoint) × WasMapped r.forward (source_of flow) port × (key.protocol ≡ flow.protocol)
    × Lived r key flow.dest_port × (sent ≡ with_dest (with_source bytes flow s.outside port) flow key.address key.port)
IsTranslated s bytes (OfFlow flow) r sent OutboundError = ⊥
IsTranslated s bytes (OfError error) r sent Inbound =
    (key : Endpoint) × (key.protocol ≡ error.protocol) × Lived r key error.quoted_source_port
    × (sent ≡ with_quoted_source bytes error key.address key.port)
IsTranslated s bytes (OfError error) r sent OutboundError =
    (port : ℕ) × Lived r (source_of (flow_of_error error)) port × (sent ≡ with_quoted_dest bytes error s.outside port)
IsTranslated s bytes (OfError error) r sent Outbound = ⊥
IsTranslated s bytes (OfError error) r sent Hairpin = ⊥
IsTranslated s bytes (OfNeither answer) r sent class = ⊥

-- the packet is a flow or an error of a class, and these bytes are its translation
abbrev pub IsTranslationOf : Settings → Trail → List ℕ → Option Packet → Type 0
IsTranslationOf s r sent None = ⊥
IsTranslationOf s r sent (Some p) =
    (class : Class) × (class_seen s p ≡ Some class) × IsTranslated s p.bytes (seen_by s p) r sent class

-- what a thread sends out is the translation of its input of the emission's number
abbrev pub EmissionsTranslate : Type 0
EmissionsTranslate =
    (s : Settings) (threads : ℕ) (inputs : ℕ → List Packet) (x : Step NatValue) (earlier : List (Step NatValue))
    (o : Emission) → AreSettings s → HaveBytes inputs → IsHistory (nat_meaning s) inputs threads (x ∷ earlier)
    → x.act ≡ Emitted o
    → (1 ≤ o.input)
    × IsTranslationOf s (trail_of s x.thread earlier) o.packet.bytes (slice_get (inputs x.thread) (o.input - 1))
