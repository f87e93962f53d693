-- When a connection was last used: at the time that a packet of its own client was told. Answers refresh nothing, nor
-- does a packet of another client.
use Rattle.std.specs.Prelude.{◌≡◌, ℕ, ◌+◌, ◌<◌, ◌≤◌, ◌⊎◌, true, List, ◌∷◌, Option, Some, Ok}
use Rattle.plain_text.specs.declared.packet.Packet.{Packet}
use Rattle.packet_headers.specs.declared.flow.Flow.{Flow}
use Rattle.packet_headers.specs.View.{viewed}
use Rattle.entry_order.specs.Log.{Entry}
use Rattle.entry_order.specs.declared.what.What.TheVariants.{Access}
use Rattle.plain_machine.specs.Machine.{Hand}
use Rattle.plain_machine.specs.History.{Did, Step, thread_after, value_after, IsHistory}
use Rattle.nat_tables.specs.declared.entries.Endpoint.{Endpoint}
use Rattle.nat_tables.specs.declared.slot.Slot.{Slot}
use Rattle.nat_tables.specs.Forwards.{Forwards, slot_of}
use Rattle.flow_boxes.specs.Flows.{source_of, HaveBytes}
use Rattle.balancer_box.specs.declared.value.BalancerValue.{BalancerValue}
use Rattle.balancer_box.specs.declared.value.BalancerValue.TheVariants.{Connected}
use Rattle.balancer_box.specs.Settings.{Settings, AreSettings}
use Rattle.balancer_box.specs.Balancer.{is_virtual, balancer_meaning}
use Rattle.balancer_box.specs.Entries.{connections_in}
use Rattle.balancer_box.specs.Emissions.{trail_of}

-- the packet comes from the client, to the virtual address and port
abbrev pub IsOfClient : Settings → Endpoint → Packet → Type 0
IsOfClient s client p =
    (flow : Flow) × (viewed p.bytes p.original ≡ Ok flow) × (is_virtual s flow.dest flow.dest_port ≡ true)
    × (client ≡ source_of flow)

-- the last use is that of the connection that was there, or the packet in hand is its client's, and was told this time
abbrev pub OnlyClientsRefresh : Type 0
OnlyClientsRefresh =
    (s : Settings) (threads : ℕ) (inputs : ℕ → List Packet) (x : Step BalancerValue)
    (earlier : List (Step BalancerValue)) (v : ℕ) (client : Endpoint) (slot : Slot) → AreSettings s → HaveBytes inputs
    → IsHistory (balancer_meaning s) inputs threads (x ∷ earlier) → v < 2 + s.shards
    → slot_of client (connections_in (value_after (balancer_meaning s) (x ∷ earlier) v)) ≡ Some slot
    → ((old : Slot) × (slot_of client (connections_in (value_after (balancer_meaning s) earlier v)) ≡ Some old)
    × (slot.last ≡ old.last))
    ⊎ ((h : Hand) × ((thread_after earlier x.thread).hand ≡ Some h) × IsOfClient s client h.packet
    × ((trail_of s x.thread earlier).clock ≡ Some slot.last))

-- and each packet of a client that touches a connection table leaves its connection, if it leaves one, used at its time
-- or later
abbrev pub ClientsRefresh : Type 0
ClientsRefresh =
    (s : Settings) (threads : ℕ) (inputs : ℕ → List Packet) (x : Step BalancerValue)
    (earlier : List (Step BalancerValue)) (entry : Entry) (left : Option BalancerValue) (v place : ℕ) (h : Hand)
    (es : Forwards) (client : Endpoint) (slot : Slot) → AreSettings s → HaveBytes inputs
    → IsHistory (balancer_meaning s) inputs threads (x ∷ earlier) → x.act ≡ Did entry left
    → entry.what ≡ Access v place → v < 2 + s.shards → (thread_after earlier x.thread).hand ≡ Some h
    → IsOfClient s client h.packet → value_after (balancer_meaning s) earlier v ≡ Connected es
    → slot_of client (connections_in (value_after (balancer_meaning s) (x ∷ earlier) v)) ≡ Some slot
    → (now : ℕ) × ((trail_of s x.thread earlier).clock ≡ Some now) × (now ≤ slot.last)
