-- Which connections are followed: where the settings have a number of seconds those of TCP, and each that has ended has
-- this number; else none, and each touch is as if there were no such number. And how a packet changes a connection's
-- phase.
use Rattle.std.specs.Prelude.{◌≡◌, ◌≢◌, ℕ, ◌+◌, ◌<◌, ◌⊎◌, true, false, List, ◌∷◌, Option, Some, None, Ok, bit_and}
use Rattle.plain_text.specs.declared.packet.Packet.{Packet}
use Rattle.packet_headers.specs.declared.flow.Flow.{Flow}
use Rattle.packet_headers.specs.View.{viewed}
use Rattle.plain_machine.specs.declared.local.Local.{Local}
use Rattle.plain_machine.specs.Machine.{Hand}
use Rattle.plain_machine.specs.History.{Step, thread_after, value_after, IsHistory}
use Rattle.nat_tables.specs.declared.entries.Endpoint.{Endpoint}
use Rattle.nat_tables.specs.declared.slot.Slot.{Slot}
use Rattle.nat_tables.specs.declared.phase.Phase.{Phase}
use Rattle.nat_tables.specs.declared.phase.Phase.TheVariants.{Plain, Opening, Established, Closing}
use Rattle.nat_tables.specs.declared.phase.Phase.TheVariants.{EndedByClient, EndedByServer, Kept}
use Rattle.nat_tables.specs.Forwards.{Forwards, slot_of, find_or_bind}
use Rattle.flow_boxes.specs.Drops.{with_drop}
use Rattle.flow_boxes.specs.Flows.{HaveBytes, source_of, dest_of}
use Rattle.balancer_box.specs.declared.place.Place.{Place}
use Rattle.balancer_box.specs.declared.place.Place.TheVariants.{FindsConnection, LowersIdle, RaisesLeast, Connects}
use Rattle.balancer_box.specs.declared.place.Place.TheVariants.{LowersSpare, ChecksConnection, CountsDrop, SendsOut}
use Rattle.balancer_box.specs.declared.place.Place.TheVariants.{LowersVain, Ends}
use Rattle.balancer_box.specs.declared.place.Class.{Class}
use Rattle.balancer_box.specs.declared.place.Class.TheVariants.{Client, Answer}
use Rattle.balancer_box.specs.declared.place.Tells.TheVariants.{Nothing}
use Rattle.balancer_box.specs.declared.place.Noted.{Noted}
use Rattle.balancer_box.specs.declared.place.Goes.{Goes}
use Rattle.balancer_box.specs.declared.value.BalancerValue.{BalancerValue}
use Rattle.balancer_box.specs.declared.value.BalancerValue.TheVariants.{Dropped, Loaded, Connected}
use Rattle.balancer_box.specs.Loads.{raised, lowered, least_loaded}
use Rattle.balancer_box.specs.Connections.{find_connection, check_connection}
use Rattle.balancer_box.specs.Places.{place_numbered}
use Rattle.balancer_box.specs.Settings.{Settings, AreSettings}
use Rattle.balancer_box.specs.Balancer.{goes, is_virtual, backend_at, begun, begins, after_find}
use Rattle.balancer_box.specs.Balancer.{after_bind, after_check, local_at, noted_by, balancer_meaning}
use Rattle.balancer_box.specs.Entries.{connections_in}

-- TCP is protocol 6.
abbrev pub IsFollowedBy : Option ℕ → ℕ → Phase → Type 0
IsFollowedBy closing protocol Plain = Unit {0}
IsFollowedBy closing protocol (Opening seconds) = ⊥
IsFollowedBy closing protocol Established = ⊥
IsFollowedBy closing protocol (Closing seconds) = (closing ≡ Some seconds) × (protocol ≡ 6)
IsFollowedBy closing protocol EndedByClient = (seconds : ℕ) × (closing ≡ Some seconds) × (protocol ≡ 6)
IsFollowedBy closing protocol EndedByServer = (seconds : ℕ) × (closing ≡ Some seconds) × (protocol ≡ 6)
IsFollowedBy closing protocol Kept = ⊥

-- each connection after each move of each run
abbrev pub FollowedByTheLine : Type 0
FollowedByTheLine =
    (s : Settings) (threads : ℕ) (inputs : ℕ → List Packet) (steps : List (Step BalancerValue)) (v : ℕ)
    (client : Endpoint) (slot : Slot) → AreSettings s → IsHistory (balancer_meaning s) inputs threads steps
    → v < 2 + s.shards → slot_of client (connections_in (value_after (balancer_meaning s) steps v)) ≡ Some slot
    → IsFollowedBy s.closing client.protocol slot.phase

abbrev pub NoneFollowedWithoutIt : Type 0
NoneFollowedWithoutIt =
    (s : Settings) (threads : ℕ) (inputs : ℕ → List Packet) (steps : List (Step BalancerValue)) (v : ℕ)
    (client : Endpoint) (slot : Slot) → AreSettings s → IsHistory (balancer_meaning s) inputs threads steps
    → s.closing ≡ None → v < 2 + s.shards
    → slot_of client (connections_in (value_after (balancer_meaning s) steps v)) ≡ Some slot → slot.phase ≡ Plain

-- and then each touch is the one of this table of moves, and a packet begins with nothing noted that it tells
abbrev pub touched_before : Place → BalancerValue → Noted → BalancerValue × Goes
touched_before FindsConnection (Connected es) n =
    let r = find_connection n.resets n.client n.time es in (Connected r.1, after_find n r.0)
touched_before LowersIdle (Loaded loads) n = (Loaded (lowered n.spare loads), begins n n.resets)
touched_before RaisesLeast (Loaded loads) n =
    let least = least_loaded loads in (Loaded (raised least loads), goes Connects (record n { backend = least }))
touched_before Connects (Connected es) n =
    let r = find_or_bind n.client n.backend n.time es in (Connected r.1, after_bind n r.0)
touched_before LowersSpare (Loaded loads) n = (Loaded (lowered n.spare loads), goes SendsOut n)
touched_before ChecksConnection (Connected es) n =
    let r = check_connection n.resets n.client n.backend n.time es in (Connected r.1, after_check n r.0)
touched_before CountsDrop (Dropped d) n = (Dropped (with_drop n.reason d), goes Ends n)
touched_before _ x n = (x, goes Ends n)

-- of each place that this table leads to
abbrev pub WasPlace : Place → Type 0
WasPlace LowersVain = ⊥
WasPlace _ = Unit {0}

abbrev pub TouchesAsBefore : Type 0
TouchesAsBefore =
    (s : Settings) → s.closing ≡ None → (v : ℕ) (x : BalancerValue) (l : Local) → WasPlace (place_numbered l.at)
    → ((balancer_meaning s).touch v x l
    ≡ (let r = touched_before (place_numbered l.at) x (noted_by s l) in (r.0, local_at r.1)))
    × WasPlace (touched_before (place_numbered l.at) x (noted_by s l)).1.place

abbrev pub BeginsAsBefore : Type 0
BeginsAsBefore = (s : Settings) → s.closing ≡ None → (flow : Flow) → (begun s (Ok flow)).noted.tells ≡ Nothing

-- The control bits of a segment (RFC 9293, section 3.1): FIN is 1, SYN 2, RST 4, and ACK 16.

abbrev pub IsSet : ℕ → ℕ → Type 0
IsSet bit flags = bit_and flags bit ≢ 0

abbrev pub IsClear : ℕ → ℕ → Type 0
IsClear bit flags = bit_and flags bit ≡ 0

abbrev pub other_side : Class → Class
other_side Client = Answer
other_side Answer = Client

-- the phase of a connection of which this side alone sent FIN
abbrev pub half_closed : Class → Phase
half_closed Client = EndedByClient
half_closed Answer = EndedByServer

-- What a segment of one side with these bits makes of a connection. RST ends it. FIN closes its sender's half, and ends
-- it where the other half was closed. All others leave it; and what has ended stays so.
pub record Follows (seconds flags : ℕ) (side : Class) (old new : Phase) : Type 0 where
  pub reset : IsSet 4 flags → new ≡ Closing seconds
  pub first : IsClear 4 flags → IsSet 1 flags → old ≡ Plain → new ≡ half_closed side
  pub second : IsClear 4 flags → IsSet 1 flags → old ≡ half_closed (other_side side) → new ≡ Closing seconds
  pub again : IsClear 4 flags → old ≡ half_closed side → new ≡ half_closed side
  pub stays : IsClear 4 flags → IsClear 1 flags → new ≡ old
  pub ended : old ≡ Closing seconds → new ≡ Closing seconds

-- so it is where connections are followed, of TCP
abbrev pub PhaseGoesOn : Option ℕ → ℕ → Class → ℕ → Phase → Phase → Type 0
PhaseGoesOn None protocol side flags old new = new ≡ old
PhaseGoesOn (Some seconds) protocol side flags old new =
    ((protocol ≢ 6) × (new ≡ old)) ⊎ ((protocol ≡ 6) × Follows seconds flags side old new)

-- the phase of the client's connection, or that of a new one where there is none
abbrev pub HadPhase : Phase → Option Slot → Type 0
HadPhase phase None = phase ≡ Plain
HadPhase phase (Some old) = old.phase ≡ phase

-- the packet comes from the client, or from the backend of its connection
abbrev pub IsOfSide : Settings → Endpoint → ℕ → Flow → Class → Type 0
IsOfSide s client backend flow Client = (is_virtual s flow.dest flow.dest_port ≡ true) × (client ≡ source_of flow)
IsOfSide s client backend flow Answer =
    (is_virtual s flow.dest flow.dest_port ≡ false)
    × (backend_at s.backends flow.source flow.source_port ≡ Some backend) × (client ≡ dest_of flow)

abbrev pub IsFollowedOn : Settings → Forwards → Endpoint → Slot → Packet → Type 0
IsFollowedOn s es client slot p =
    (flow : Flow) × (viewed p.bytes p.original ≡ Ok flow) × (side : Class) × IsOfSide s client slot.port flow side
    × (old : Phase) × HadPhase old (slot_of client es)
    × PhaseGoesOn s.closing client.protocol side flow.flags old slot.phase

-- Each connection that is there after a step was there before it, the same, or the packet in hand comes from its client
-- or its backend, and its phase is the one that this packet's control bits make of the one before.
abbrev pub SidesFollow : Type 0
SidesFollow =
    (s : Settings) (threads : ℕ) (inputs : ℕ → List Packet) (x : Step BalancerValue)
    (earlier : List (Step BalancerValue)) (v : ℕ) (client : Endpoint) (slot : Slot) → AreSettings s → HaveBytes inputs
    → IsHistory (balancer_meaning s) inputs threads (x ∷ earlier) → v < 2 + s.shards
    → slot_of client (connections_in (value_after (balancer_meaning s) (x ∷ earlier) v)) ≡ Some slot
    → (slot_of client (connections_in (value_after (balancer_meaning s) earlier v)) ≡ Some slot)
    ⊎ ((h : Hand) × ((thread_after earlier x.thread).hand ≡ Some h)
    × IsFollowedOn s (connections_in (value_after (balancer_meaning s) earlier v)) client slot h.packet)
