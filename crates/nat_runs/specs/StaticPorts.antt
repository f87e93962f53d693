-- The static ports in all runs: each stands with its inside endpoint, and what comes in to it is never dropped.
use Rattle.std.specs.Prelude.{◌≡◌, ℕ, ◌+◌, ◌==◌, nat_lt, if◌then◌else◌, List, [], ◌∷◌, Option, Some, Ok}
use Rattle.plain_text.specs.declared.packet.Packet.{Packet}
use Rattle.packet_headers.specs.declared.flow.Flow.{Flow}
use Rattle.packet_headers.specs.View.{viewed}
use Rattle.entry_order.specs.Log.{Entry}
use Rattle.entry_order.specs.declared.what.What.TheVariants.{Access}
use Rattle.plain_machine.specs.Machine.{Hand}
use Rattle.plain_machine.specs.History.{Did, Step, thread_after, value_after, IsHistory}
use Rattle.nat_tables.specs.declared.entries.Endpoint.{Endpoint}
use Rattle.nat_tables.specs.declared.entries.PortKey.{PortKey}
use Rattle.nat_tables.specs.declared.slot.Slot.{Slot}
use Rattle.nat_tables.specs.declared.phase.Phase.TheVariants.{Kept}
use Rattle.nat_tables.specs.Keys.{port_key}
use Rattle.nat_tables.specs.Ports.{full_pool}
use Rattle.nat_tables.specs.Forwards.{port_of, HasKept}
use Rattle.nat_tables.specs.Reverses.{endpoint_of}
use Rattle.flow_boxes.specs.Drops.{no_drops}
use Rattle.flow_boxes.specs.Flows.{HaveBytes, source_of}
use Rattle.nat_box.specs.declared.settings.StaticPort.{StaticPort}
use Rattle.nat_box.specs.declared.place.Class.TheVariants.{Inbound, Outbound}
use Rattle.nat_box.specs.declared.value.NatValue.{NatValue}
use Rattle.nat_box.specs.declared.value.NatValue.TheVariants.{Dropped, Free, Mapped, Taken}
use Rattle.nat_box.specs.Statics.{inside_of, outside_of, static_port, kept, IsStatic}
use Rattle.nat_box.specs.Settings.{Settings, AreSettings}
use Rattle.nat_box.specs.Nat.{flow_seen, class_of_flow, class_seen, forward_table, reverse_table}
use Rattle.nat_box.specs.Nat.{fresh_value, nat_meaning}
use Rattle.nat_box.specs.Sentences.{Has, mappings_in, bound_in, IsMapping}

-- Its endpoint is mapped to its outside port for good, the port's reverse entry names this endpoint, and no other
-- endpoint is mapped to the port.
pub record Stands (s : Settings) (value : ℕ → NatValue) (p : StaticPort) : Type 0 where
  pub mapped : HasKept (inside_of p) p.outside (mappings_in (value (forward_table s (inside_of p))))
  pub named : endpoint_of (outside_of p) (bound_in (value (reverse_table s (outside_of p)))) ≡ Some (inside_of p)
  pub alone : (v : ℕ) (e : Endpoint × Slot) → IsMapping s value v e → port_of e ≡ outside_of p → e.0 ≡ inside_of p

-- after each move of each run
abbrev pub StaticPortsStay : Type 0
StaticPortsStay =
    (s : Settings) (threads : ℕ) (inputs : ℕ → List Packet) (steps : List (Step NatValue)) (p : StaticPort)
    → AreSettings s → IsHistory (nat_meaning s) inputs threads steps → IsStatic p (kept s.statics)
    → Stands s (value_after (nat_meaning s) steps) p

-- an inbound packet to the outside port of a static port, or an error of ICMP about one that came from there
abbrev pub ComesInTo : Settings → StaticPort → Packet → Type 0
ComesInTo s p packet =
    (flow : Flow) × (flow_seen s packet ≡ Ok flow) × (class_seen s packet ≡ Some Inbound)
    × (port_key flow.protocol flow.dest_port ≡ outside_of p)

-- A touch of variable 0 counts the packet in hand as dropped. It is never such a packet.
abbrev pub NoneIsDropped : Type 0
NoneIsDropped =
    (s : Settings) (threads : ℕ) (inputs : ℕ → List Packet) (x : Step NatValue) (earlier : List (Step NatValue))
    (entry : Entry) (left : Option NatValue) (place : ℕ) (h : Hand) (p : StaticPort) → AreSettings s
    → HaveBytes inputs → IsHistory (nat_meaning s) inputs threads (x ∷ earlier)
    → (thread_after earlier x.thread).hand ≡ Some h → IsStatic p (kept s.statics) → ComesInTo s p h.packet
    → x.act ≡ Did entry left → entry.what ≡ Access 0 place → ⊥

-- an outbound packet from the inside endpoint of a static port
abbrev pub GoesOutFrom : Settings → StaticPort → Packet → Type 0
GoesOutFrom s p packet =
    (flow : Flow) × (viewed packet.bytes packet.original ≡ Ok flow) × (source_of flow ≡ inside_of p)
    × (class_of_flow s flow.source flow.dest ≡ Some Outbound)

-- nor such a packet, whether ports are free or not
abbrev pub NoneGoingOutIsDropped : Type 0
NoneGoingOutIsDropped =
    (s : Settings) (threads : ℕ) (inputs : ℕ → List Packet) (x : Step NatValue) (earlier : List (Step NatValue))
    (entry : Entry) (left : Option NatValue) (place : ℕ) (h : Hand) (p : StaticPort) → AreSettings s
    → HaveBytes inputs → IsHistory (nat_meaning s) inputs threads (x ∷ earlier)
    → (thread_after earlier x.thread).hand ≡ Some h → IsStatic p (kept s.statics) → GoesOutFrom s p h.packet
    → x.act ≡ Did entry left → entry.what ≡ Access 0 place → ⊥

-- a mapping that is kept for good is that of a static port
abbrev pub OnlyTheyAreKept : Type 0
OnlyTheyAreKept =
    (s : Settings) (threads : ℕ) (inputs : ℕ → List Packet) (steps : List (Step NatValue)) (v : ℕ) (key : Endpoint)
    (slot : Slot) → AreSettings s → IsHistory (nat_meaning s) inputs threads steps
    → IsMapping s (value_after (nat_meaning s) steps) v (key, slot) → slot.phase ≡ Kept
    → IsStatic (static_port key slot.port) (kept s.statics)

-- at the start, no table has anything but theirs
abbrev pub OnlyTheyStart : Type 0
OnlyTheyStart =
    (s : Settings) (v : ℕ)
    → ((key : Endpoint) (slot : Slot) → Has (mappings_in (fresh_value s v)) (key, slot)
    → IsStatic (static_port key slot.port) (kept s.statics) × (slot.phase ≡ Kept))
    × ((port : PortKey) (key : Endpoint) → Has (bound_in (fresh_value s v)) (port, key)
    → (p : StaticPort) × IsStatic p (kept s.statics) × (outside_of p ≡ port) × (inside_of p ≡ key))

-- The static ports are in the variables at the start. The moves are the same, whatever static ports there are.
abbrev pub MovesAreTheSame : Type 0
MovesAreTheSame =
    (s : Settings) (statics : List StaticPort)
    → nat_meaning (record s { statics = statics })
    ≡ record (nat_meaning s) { fresh = fresh_value (record s { statics = statics }) }

-- and with none, all ports of the range are free at the start, and each table is empty

abbrev pub empty_value : Settings → ℕ → NatValue
empty_value s v =
    if v == 0 then Dropped no_drops else if v == 1 then Free (full_pool s.low s.high)
    else if nat_lt v (2 + s.shards) then Mapped [] else Taken []

abbrev pub NoneStartsWithoutThem : Type 0
NoneStartsWithoutThem = (s : Settings) → s.statics ≡ [] → (v : ℕ) → fresh_value s v ≡ empty_value s v
