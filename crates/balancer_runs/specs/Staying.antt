-- A connection stays with its backend until it is idle, or a packet resets it; or, where it is followed, until it has
-- ended and its client opens another.
use Rattle.std.specs.Prelude.{◌≡◌, ◌≢◌, ℕ, ◌+◌, ◌<◌, ◌≤◌, ◌⊎◌, true, false, List, ◌∷◌, Option, Some, None, Ok}
use Rattle.std.specs.Prelude.{bit_and}
use Rattle.plain_text.specs.declared.packet.Packet.{Packet}
use Rattle.packet_headers.specs.declared.flow.Flow.{Flow}
use Rattle.packet_headers.specs.View.{viewed}
use Rattle.plain_machine.specs.Machine.{Hand}
use Rattle.plain_machine.specs.History.{Step, thread_after, value_after, IsHistory}
use Rattle.nat_tables.specs.declared.entries.Endpoint.{Endpoint}
use Rattle.nat_tables.specs.declared.slot.Slot.{Slot}
use Rattle.nat_tables.specs.declared.phase.Phase.TheVariants.{Closing}
use Rattle.nat_tables.specs.Forwards.{slot_of}
use Rattle.flow_boxes.specs.Flows.{HaveBytes, source_of, dest_of}
use Rattle.balancer_box.specs.declared.value.BalancerValue.{BalancerValue}
use Rattle.balancer_box.specs.Settings.{Settings, AreSettings}
use Rattle.balancer_box.specs.Balancer.{is_virtual, backend_at, balancer_meaning}
use Rattle.balancer_box.specs.Entries.{connections_in}
use Rattle.balancer_box.specs.Emissions.{trail_of}
use Rattle.balancer_runs.specs.Idle.{IsIdleAt}

abbrev pub WasIdle : Option ℕ → Endpoint → Slot → Type 0
WasIdle None client slot = ⊥
WasIdle (Some now) client slot = IsIdleAt now client slot

-- the control bit RST (RFC 9293, section 3.1)
abbrev pub HasReset : Flow → Type 0
HasReset flow = bit_and flow.flags 4 ≢ 0

-- the packet resets the client's connection to this backend: it comes from the client, or from the backend to the
-- client
abbrev pub Resets : Settings → Endpoint → ℕ → Packet → Type 0
Resets s client backend p =
    (flow : Flow) × (viewed p.bytes p.original ≡ Ok flow) × HasReset flow
    × (((is_virtual s flow.dest flow.dest_port ≡ true) × (client ≡ source_of flow))
    ⊎ ((is_virtual s flow.dest flow.dest_port ≡ false)
    × (backend_at s.backends flow.source flow.source_port ≡ Some backend) × (client ≡ dest_of flow)))

-- where connections are not followed
abbrev pub WasReset : Settings → Option Hand → Endpoint → Slot → Type 0
WasReset s None client slot = ⊥
WasReset s (Some h) client slot = (s.closing ≡ None) × Resets s client slot.port h.packet

-- the control bit SYN, and none of ACK, FIN and RST
abbrev pub HasOpening : Flow → Type 0
HasOpening flow =
    (bit_and flow.flags 2 ≢ 0) × (bit_and flow.flags 16 ≡ 0) × (bit_and flow.flags 1 ≡ 0) × (bit_and flow.flags 4 ≡ 0)

-- the connection had ended, which only one of TCP can, and its client opens another
abbrev pub GaveWay : Settings → Option Hand → Endpoint → Slot → Type 0
GaveWay s None client slot = ⊥
GaveWay s (Some h) client slot =
    (seconds : ℕ) × (slot.phase ≡ Closing seconds) × (client.protocol ≡ 6)
    × (flow : Flow) × (viewed h.packet.bytes h.packet.original ≡ Ok flow) × HasOpening flow
    × (is_virtual s flow.dest flow.dest_port ≡ true) × (client ≡ source_of flow)

-- a connection after a step: it has its backend, and was used at its old time or at the time that the packet was told;
-- or it is gone, as it was idle, was reset, or gave way
abbrev pub Stays : Settings → Option ℕ → Option Hand → Endpoint → Slot → Option Slot → Type 0
Stays s clock hand client slot None =
    WasIdle clock client slot ⊎ (WasReset s hand client slot ⊎ GaveWay s hand client slot)
Stays s clock hand client slot (Some new) =
    (new.port ≡ slot.port)
    × ((new.last ≡ slot.last) ⊎ ((slot.last ≤ new.last) × (clock ≡ Some new.last)))

-- at each step of each run on packets of bytes, by the time and the packet of the step's thread
abbrev pub ConnectionsStay : Type 0
ConnectionsStay =
    (s : Settings) (threads : ℕ) (inputs : ℕ → List Packet) (x : Step BalancerValue)
    (earlier : List (Step BalancerValue)) → AreSettings s → HaveBytes inputs
    → IsHistory (balancer_meaning s) inputs threads (x ∷ earlier)
    → (v : ℕ) → v < 2 + s.shards → (client : Endpoint) (slot : Slot)
    → slot_of client (connections_in (value_after (balancer_meaning s) earlier v)) ≡ Some slot
    → Stays s (trail_of s x.thread earlier).clock (thread_after earlier x.thread).hand client slot
    (slot_of client (connections_in (value_after (balancer_meaning s) (x ∷ earlier) v)))
