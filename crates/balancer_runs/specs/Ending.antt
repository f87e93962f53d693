-- How connections end: each packet of a side is heard at its touch of the table; an ended connection gives way to the
-- one that its client opens; and where connections are not followed, a reset removes one.
use Rattle.std.specs.Prelude.{◌≡◌, ℕ, ◌+◌, ◌<◌, List, ◌∷◌, Option, Some, None, Ok}
use Rattle.plain_text.specs.declared.packet.Packet.{Packet}
use Rattle.packet_headers.specs.declared.flow.Flow.{Flow}
use Rattle.packet_headers.specs.View.{viewed}
use Rattle.entry_order.specs.Log.{Entry}
use Rattle.entry_order.specs.declared.what.What.TheVariants.{Access}
use Rattle.plain_machine.specs.Machine.{Hand}
use Rattle.plain_machine.specs.History.{Did, Step, thread_after, value_after, IsHistory}
use Rattle.nat_tables.specs.declared.entries.Endpoint.{Endpoint}
use Rattle.nat_tables.specs.declared.slot.Slot.{Slot}
use Rattle.nat_tables.specs.declared.phase.Phase.{Phase}
use Rattle.nat_tables.specs.declared.phase.Phase.TheVariants.{Closing}
use Rattle.nat_tables.specs.Forwards.{Forwards, slot_of}
use Rattle.flow_boxes.specs.Flows.{HaveBytes}
use Rattle.balancer_box.specs.declared.place.Class.{Class}
use Rattle.balancer_box.specs.declared.place.Class.TheVariants.{Client, Answer}
use Rattle.balancer_box.specs.declared.value.BalancerValue.{BalancerValue}
use Rattle.balancer_box.specs.declared.value.BalancerValue.TheVariants.{Connected}
use Rattle.balancer_box.specs.Settings.{Settings, AreSettings}
use Rattle.balancer_box.specs.Balancer.{balancer_meaning}
use Rattle.balancer_box.specs.Entries.{connections_in}
use Rattle.balancer_box.specs.Emissions.{trail_of}
use Rattle.balancer_runs.specs.Idle.{IsLiveAt}
use Rattle.balancer_runs.specs.Staying.{HasReset, HasOpening}
use Rattle.balancer_runs.specs.Following.{HadPhase, IsOfSide, PhaseGoesOn}

-- a client's packet is heard by each connection that it leaves; an answer where the connection is live
abbrev pub IsHeard : Class → ℕ → Endpoint → Option Slot → Type 0
IsHeard Client now client old = Unit {0}
IsHeard Answer now client None = ⊥
IsHeard Answer now client (Some old) = IsLiveAt now client old

-- Each touch of a connection table by a packet of a side: the phase of the connection that it leaves is the one that
-- the packet's control bits make of the one before; or the connection is the same, where the packet is not heard.
abbrev pub SidesAreHeard : Type 0
SidesAreHeard =
    (s : Settings) (threads : ℕ) (inputs : ℕ → List Packet) (x : Step BalancerValue)
    (earlier : List (Step BalancerValue)) (entry : Entry) (left : Option BalancerValue) (v place : ℕ) (h : Hand)
    (es : Forwards) (flow : Flow) (side : Class) (client : Endpoint) (new : Slot) → AreSettings s → HaveBytes inputs
    → IsHistory (balancer_meaning s) inputs threads (x ∷ earlier) → x.act ≡ Did entry left
    → entry.what ≡ Access v place → v < 2 + s.shards → (thread_after earlier x.thread).hand ≡ Some h
    → viewed h.packet.bytes h.packet.original ≡ Ok flow → value_after (balancer_meaning s) earlier v ≡ Connected es
    → slot_of client (connections_in (value_after (balancer_meaning s) (x ∷ earlier) v)) ≡ Some new
    → IsOfSide s client new.port flow side
    → (now : ℕ) × (old : Phase) × ((trail_of s x.thread earlier).clock ≡ Some now)
    × HadPhase old (slot_of client es)
    × (IsHeard side now client (slot_of client es)
    → PhaseGoesOn s.closing client.protocol side flow.flags old new.phase)
    × ((IsHeard side now client (slot_of client es) → ⊥) → slot_of client es ≡ Some new)

-- a client's packet that looks for its connection, in its first touch of a table, and opens another one
abbrev pub EndedGiveWay : Type 0
EndedGiveWay =
    (s : Settings) (threads : ℕ) (inputs : ℕ → List Packet) (x : Step BalancerValue)
    (earlier : List (Step BalancerValue)) (entry : Entry) (left : Option BalancerValue) (v place : ℕ) (h : Hand)
    (es : Forwards) (flow : Flow) (client : Endpoint) (slot : Slot) (seconds : ℕ) → AreSettings s → HaveBytes inputs
    → IsHistory (balancer_meaning s) inputs threads (x ∷ earlier) → x.act ≡ Did entry left
    → entry.what ≡ Access v place → v < 2 + s.shards → (thread_after earlier x.thread).hand ≡ Some h
    → viewed h.packet.bytes h.packet.original ≡ Ok flow → value_after (balancer_meaning s) earlier v ≡ Connected es
    → IsOfSide s client slot.port flow Client → (trail_of s x.thread earlier).found ≡ None → HasOpening flow
    → slot_of client es ≡ Some slot → slot.phase ≡ Closing seconds
    → slot_of client (connections_in (value_after (balancer_meaning s) (x ∷ earlier) v)) ≡ None

-- where connections are not followed, each touch of a table by a packet that resets a live connection
abbrev pub ResetsRemove : Type 0
ResetsRemove =
    (s : Settings) (threads : ℕ) (inputs : ℕ → List Packet) (x : Step BalancerValue)
    (earlier : List (Step BalancerValue)) (entry : Entry) (left : Option BalancerValue) (v place : ℕ) (h : Hand)
    (es : Forwards) (flow : Flow) (side : Class) (client : Endpoint) (slot : Slot) → AreSettings s → HaveBytes inputs
    → IsHistory (balancer_meaning s) inputs threads (x ∷ earlier) → x.act ≡ Did entry left
    → entry.what ≡ Access v place → v < 2 + s.shards → (thread_after earlier x.thread).hand ≡ Some h
    → viewed h.packet.bytes h.packet.original ≡ Ok flow → value_after (balancer_meaning s) earlier v ≡ Connected es
    → s.closing ≡ None → IsOfSide s client slot.port flow side → HasReset flow → slot_of client es ≡ Some slot
    → (now : ℕ) × ((trail_of s x.thread earlier).clock ≡ Some now)
    × (IsLiveAt now client slot
    → slot_of client (connections_in (value_after (balancer_meaning s) (x ∷ earlier) v)) ≡ None)
