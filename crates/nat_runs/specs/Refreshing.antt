-- Packets from inside refresh the mapping of their own endpoint, and no other packet refreshes one (RFC 4787, REQ-6).
use Rattle.std.specs.Prelude.{◌≡◌, ℕ, ◌≤◌, ◌⊎◌, List, ◌∷◌, Some, Ok}
use Rattle.plain_text.specs.declared.packet.Packet.{Packet}
use Rattle.packet_headers.specs.declared.flow.Flow.{Flow}
use Rattle.packet_headers.specs.View.{viewed}
use Rattle.plain_machine.specs.declared.emission.Emission.{Emission}
use Rattle.plain_machine.specs.Machine.{Hand}
use Rattle.plain_machine.specs.History.{Emitted, Step, thread_after, value_after, IsHistory}
use Rattle.nat_tables.specs.declared.entries.Endpoint.{Endpoint}
use Rattle.nat_tables.specs.declared.slot.Slot.{Slot}
use Rattle.nat_tables.specs.Forwards.{Forwards}
use Rattle.nat_box.specs.declared.value.NatValue.{NatValue}
use Rattle.nat_box.specs.Settings.{Settings, AreSettings}
use Rattle.nat_box.specs.Nat.{nat_meaning}
use Rattle.nat_box.specs.Sentences.{Has, mappings_in}
use Rattle.flow_boxes.specs.Flows.{source_of, HaveBytes}
use Rattle.nat_runs.specs.Classes.{IsFromInside}
use Rattle.nat_runs.specs.Met.{Met, met_of}

-- the packet is from inside, from this endpoint
abbrev pub ComesFrom : Settings → Endpoint → Packet → Type 0
ComesFrom s key p =
    (flow : Flow) × (viewed p.bytes p.original ≡ Ok flow) × (source_of flow ≡ key) × IsFromInside s flow

-- Each mapping that is there after a step was there before it, with the same time of its last use, or the packet in
-- hand comes from its endpoint.
abbrev pub HostsRefresh : Type 0
HostsRefresh =
    (s : Settings) (threads : ℕ) (inputs : ℕ → List Packet) (x : Step NatValue) (earlier : List (Step NatValue)) (v : ℕ)
    (key : Endpoint) (slot : Slot) → AreSettings s → HaveBytes inputs
    → IsHistory (nat_meaning s) inputs threads (x ∷ earlier)
    → Has (mappings_in (value_after (nat_meaning s) (x ∷ earlier) v)) (key, slot)
    → Has (mappings_in (value_after (nat_meaning s) earlier v)) (key, slot)
    ⊎ ((h : Hand) × ((thread_after earlier x.thread).hand ≡ Some h) × ComesFrom s key h.packet)

-- the endpoint has a mapping in the forward table as the packet's touch left it, used at the time that the packet was
-- told, or later
abbrev pub HasRefreshed : Met → Endpoint → Type 0
HasRefreshed met key =
    (es : Forwards) × (slot : Slot) × (now : ℕ) × (met.left ≡ Some es) × (met.clock ≡ Some now) × Has es (key, slot)
    × (now ≤ slot.last)

-- Each packet from inside that is sent out has refreshed the mapping of its endpoint.
abbrev pub SentRefresh : Type 0
SentRefresh =
    (s : Settings) (threads : ℕ) (inputs : ℕ → List Packet) (x : Step NatValue) (earlier : List (Step NatValue))
    (o : Emission) (h : Hand) (key : Endpoint) → AreSettings s → HaveBytes inputs
    → IsHistory (nat_meaning s) inputs threads (x ∷ earlier) → x.act ≡ Emitted o
    → (thread_after earlier x.thread).hand ≡ Some h → ComesFrom s key h.packet
    → HasRefreshed (met_of s x.thread earlier) key
