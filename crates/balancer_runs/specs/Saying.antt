-- How far a connection came to its end, by all that both sides said of it since it began.
use Rattle.std.specs.Prelude.{◌≡◌, ℕ, ◌+◌, ◌<◌, Bool, false, ◌&&◌, ◌||◌, ◌==◌, not, nat_lt, if◌then◌else◌, List, []}
use Rattle.std.specs.Prelude.{◌∷◌, Option, Some, None, Result, Ok, Err, bit_and}
use Rattle.plain_text.specs.declared.packet.Packet.{Packet}
use Rattle.packet_headers.specs.declared.flow.Flow.{Flow}
use Rattle.packet_headers.specs.declared.flow.NotFlow.{NotFlow}
use Rattle.packet_headers.specs.View.{viewed}
use Rattle.entry_order.specs.Log.{touches}
use Rattle.plain_machine.specs.Machine.{Hand}
use Rattle.plain_machine.specs.History.{Act, Took, Did, Emitted, Ended, Step, thread_after, value_after, IsHistory}
use Rattle.nat_tables.specs.declared.entries.Endpoint.{Endpoint}
use Rattle.nat_tables.specs.declared.slot.Slot.{Slot}
use Rattle.nat_tables.specs.declared.phase.Phase.{Phase}
use Rattle.nat_tables.specs.declared.phase.Phase.TheVariants.{Plain, Closing, EndedByClient, EndedByServer}
use Rattle.nat_tables.specs.Keys.{same_endpoint}
use Rattle.nat_tables.specs.Forwards.{slot_of}
use Rattle.flow_boxes.specs.Flows.{HaveBytes, source_of, dest_of}
use Rattle.balancer_box.specs.declared.place.Class.{Class}
use Rattle.balancer_box.specs.declared.place.Class.TheVariants.{Client, Answer}
use Rattle.balancer_box.specs.declared.value.BalancerValue.{BalancerValue}
use Rattle.balancer_box.specs.Settings.{Settings, AreSettings}
use Rattle.balancer_box.specs.Balancer.{is_virtual, backend_at, balancer_meaning}
use Rattle.balancer_box.specs.Entries.{connections_in}
use Rattle.balancer_box.specs.Emissions.{trail_of}
use Rattle.flow_boxes.specs.Idle.{idle_after}

-- whether one side said RST, and each side FIN
pub record Said : Type 0 where
  pub reset : Bool
  pub client_fin : Bool
  pub server_fin : Bool

abbrev pub nothing_said : Said
nothing_said = record { reset = false; client_fin = false; server_fin = false }

-- a connection has ended where one side said RST, or each side FIN
abbrev pub phase_said : ℕ → Said → Phase
phase_said seconds said =
    if said.reset || (said.client_fin && said.server_fin) then Closing seconds else if said.client_fin
    then EndedByClient else if said.server_fin then EndedByServer else Plain

-- a control bit: FIN is 1, and RST 4 (RFC 9293, section 3.1)
abbrev pub has_bit : ℕ → ℕ → Bool
has_bit bit flags = not (bit_and flags bit == 0)

abbrev pub with_segment : Class → ℕ → Said → Said
with_segment Client flags said = record {
  reset = said.reset || has_bit 4 flags;
  client_fin = said.client_fin || has_bit 1 flags;
  server_fin = said.server_fin;
}
with_segment Answer flags said = record {
  reset = said.reset || has_bit 4 flags;
  client_fin = said.client_fin;
  server_fin = said.server_fin || has_bit 1 flags;
}

abbrev pub is_number : Option ℕ → ℕ → Bool
is_number None number = false
is_number (Some other) number = other == number

-- an answer to the client from the backend of its connection, which is live
abbrev pub answers : Settings → Endpoint → ℕ → Flow → Option Slot → Bool
answers s client now flow None = false
answers s client now flow (Some slot) =
    same_endpoint client (dest_of flow)
    && (is_number (backend_at s.backends flow.source flow.source_port) slot.port
    && nat_lt now (slot.last + idle_after client.protocol slot.phase))

-- what was said after a packet that was told this time touched the table, and met this connection of the client
abbrev pub said_with : Settings → Endpoint → ℕ → Flow → Option Slot → Said → Said
said_with s client now flow old said =
    if is_virtual s flow.dest flow.dest_port
    then if same_endpoint client (source_of flow) then with_segment Client flow.flags said else said
    else if answers s client now flow old then with_segment Answer flow.flags said else said

abbrev pub said_by : Settings → Endpoint → Option ℕ → Result Flow NotFlow → Option Slot → Said → Said
said_by s client clock (Err why) old said = said
said_by s client None (Ok flow) old said = said
said_by s client (Some now) (Ok flow) old said = said_with s client now flow old said

abbrev pub said_in_hand : Settings → Endpoint → Option ℕ → Option Hand → Option Slot → Said → Said
said_in_hand s client clock None old said = said
said_in_hand s client clock (Some h) old said =
    said_by s client clock (viewed h.packet.bytes h.packet.original) old said

-- a connection that begins begins anew
abbrev pub since : Option Slot → Said → Said
since None said = nothing_said
since (Some slot) said = said

abbrev pub act_touches : ℕ → Act BalancerValue → Bool
act_touches v (Took k) = false
act_touches v (Did entry left) = touches v entry.what
act_touches v (Emitted o) = false
act_touches v (Ended k) = false

abbrev pub said_after : Settings → ℕ → Endpoint → Step BalancerValue → List (Step BalancerValue) → Said → Said
said_after s v client x earlier said =
    let old = slot_of client (connections_in (value_after (balancer_meaning s) earlier v)) in
    if act_touches v x.act
    then said_in_hand s client (trail_of s x.thread earlier).clock (thread_after earlier x.thread).hand old
    (since old said)
    else said

-- what was said of the client's connection of this table since it began
abbrev pub said_of : Settings → ℕ → Endpoint → List (Step BalancerValue) → Said
said_of s v client [] = nothing_said
said_of s v client (x ∷ earlier) = said_after s v client x earlier (said_of s v client earlier)

-- each connection of TCP, which is protocol 6, after each move of each run, where connections are followed
abbrev pub PhasesAreSaid : Type 0
PhasesAreSaid =
    (s : Settings) (threads : ℕ) (inputs : ℕ → List Packet) (steps : List (Step BalancerValue)) (v : ℕ)
    (client : Endpoint) (slot : Slot) (seconds : ℕ) → AreSettings s → HaveBytes inputs
    → IsHistory (balancer_meaning s) inputs threads steps → v < 2 + s.shards → s.closing ≡ Some seconds
    → client.protocol ≡ 6 → slot_of client (connections_in (value_after (balancer_meaning s) steps v)) ≡ Some slot
    → slot.phase ≡ phase_said seconds (said_of s v client steps)
