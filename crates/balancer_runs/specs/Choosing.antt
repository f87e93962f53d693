-- A new connection is one to a backend of least load, in the loads as its own packet found them.
use Rattle.std.specs.Prelude.{◌≡◌, ℕ, ◌+◌, ◌<◌, ◌⊎◌, true, cond, nat_eq, if◌then◌else◌, List, [], ◌∷◌, Option, Some}
use Rattle.std.specs.Prelude.{None}
use Rattle.std.specs.Prelude.{Ok}
use Rattle.plain_text.specs.declared.packet.Packet.{Packet}
use Rattle.packet_headers.specs.declared.flow.Flow.{Flow}
use Rattle.packet_headers.specs.View.{viewed}
use Rattle.entry_order.specs.declared.what.What.TheVariants.{Access}
use Rattle.entry_order.specs.Log.{Entry, touches}
use Rattle.plain_machine.specs.Machine.{Hand}
use Rattle.plain_machine.specs.History.{Act, Took, Did, Emitted, Ended, Step, thread_after, value_after, IsHistory}
use Rattle.nat_tables.specs.declared.entries.Endpoint.{Endpoint}
use Rattle.nat_tables.specs.declared.slot.Slot.{Slot}
use Rattle.nat_tables.specs.Forwards.{slot_of}
use Rattle.flow_boxes.specs.Flows.{HaveBytes, source_of}
use Rattle.balancer_box.specs.declared.value.BalancerValue.{BalancerValue}
use Rattle.balancer_box.specs.declared.value.BalancerValue.TheVariants.{Dropped, Loaded, Connected}
use Rattle.balancer_box.specs.Loads.{raised, lowered, HasLeastLoad}
use Rattle.balancer_box.specs.Settings.{Settings, AreSettings}
use Rattle.balancer_box.specs.Balancer.{is_virtual, balancer_meaning}
use Rattle.balancer_box.specs.Entries.{connections_in}
use Rattle.balancer_box.specs.Emissions.{trail_of}

-- The loads (variable 1) as the newest touch of them by the thread's packet in hand found them and left them; a take
-- begins anew

abbrev pub loads_in : BalancerValue → List ℕ
loads_in (Dropped d) = []
loads_in (Loaded loads) = loads
loads_in (Connected es) = []

abbrev pub loads_met_in : BalancerValue → Option BalancerValue → Option (List ℕ × List ℕ)
loads_met_in found None = None
loads_met_in found (Some left) = Some (loads_in found, loads_in left)

abbrev pub loads_met_by : BalancerValue → Act BalancerValue → Option (List ℕ × List ℕ) → Option (List ℕ × List ℕ)
loads_met_by found (Took k) old = None
loads_met_by found (Did entry left) old = if touches 1 entry.what then loads_met_in found left else old
loads_met_by found (Emitted o) old = old
loads_met_by found (Ended k) old = old

abbrev pub loads_met : Settings → ℕ → List (Step BalancerValue) → Option (List ℕ × List ℕ)
loads_met s t [] = None
loads_met s t (x ∷ earlier) =
    cond (nat_eq x.thread t)
    (loads_met_by (value_after (balancer_meaning s) earlier 1) x.act (loads_met s t earlier)) (loads_met s t earlier)

-- Each touch of the loads raises that of a backend of least load, the first of equals, or lowers one.
abbrev pub LeastLoadsAreRaised : Type 0
LeastLoadsAreRaised =
    (s : Settings) (threads : ℕ) (inputs : ℕ → List Packet) (x : Step BalancerValue)
    (earlier : List (Step BalancerValue)) (entry : Entry) (place : ℕ) (left : BalancerValue) → AreSettings s
    → IsHistory (balancer_meaning s) inputs threads (x ∷ earlier)
    → x.act ≡ Did entry (Some left) → entry.what ≡ Access 1 place
    → (loads : List ℕ) × (backend : ℕ) × (value_after (balancer_meaning s) earlier 1 ≡ Loaded loads)
    × ((HasLeastLoad loads backend × (left ≡ Loaded (raised backend loads)))
    ⊎ (left ≡ Loaded (lowered backend loads)))

-- in that touch a backend of least load was chosen, the first of equals, and its load was raised by 1
abbrev pub WasChosen : Option (List ℕ × List ℕ) → ℕ → Type 0
WasChosen met backend =
    (loads : List ℕ) × HasLeastLoad loads backend × (met ≡ Some (loads, raised backend loads))

-- the packet comes from this client, to the virtual address and port
abbrev pub IsFromClient : Settings → Endpoint → Option Hand → Type 0
IsFromClient s client None = ⊥
IsFromClient s client (Some h) =
    (flow : Flow) × (viewed h.packet.bytes h.packet.original ≡ Ok flow)
    × (is_virtual s flow.dest flow.dest_port ≡ true) × (client ≡ source_of flow)

-- A connection that a step begins: it is its client's packet's, to the backend that this packet chose, at its time.
abbrev pub NewConnectionsHaveLeastLoad : Type 0
NewConnectionsHaveLeastLoad =
    (s : Settings) (threads : ℕ) (inputs : ℕ → List Packet) (x : Step BalancerValue)
    (earlier : List (Step BalancerValue)) → AreSettings s → HaveBytes inputs
    → IsHistory (balancer_meaning s) inputs threads (x ∷ earlier)
    → (v : ℕ) → v < 2 + s.shards → (client : Endpoint) (slot : Slot)
    → slot_of client (connections_in (value_after (balancer_meaning s) earlier v)) ≡ None
    → slot_of client (connections_in (value_after (balancer_meaning s) (x ∷ earlier) v)) ≡ Some slot
    → WasChosen (loads_met s x.thread earlier) slot.port
    × IsFromClient s client (thread_after earlier x.thread).hand
    × ((trail_of s x.thread earlier).clock ≡ Some slot.last)
