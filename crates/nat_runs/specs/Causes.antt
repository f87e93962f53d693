-- Why a packet is counted as dropped, by the reason of the count.
use Rattle.std.specs.Prelude.{◌≡◌, ℕ, ◌+◌, ◌*◌, ◌-◌, ◌%◌, ◌^◌, ◌<◌, ◌≤◌, ◌⊎◌, true, List, ◌∷◌, Option, Some, None, Ok}
use Rattle.std.specs.Prelude.{Err}
use Rattle.std.specs.Prelude.{slice_index}
use Rattle.std.specs.Prelude.{slice_set}
use Rattle.plain_text.specs.declared.packet.Packet.{Packet}
use Rattle.packet_headers.specs.declared.flow.Flow.{Flow}
use Rattle.packet_headers.specs.declared.flow.NotFlow.{NotFlow}
use Rattle.packet_headers.specs.View.{viewed}
use Rattle.entry_order.specs.Log.{Entry}
use Rattle.entry_order.specs.declared.what.What.TheVariants.{Access}
use Rattle.plain_machine.specs.Machine.{Hand}
use Rattle.plain_machine.specs.History.{Did, Step, thread_after, value_after, IsHistory}
use Rattle.nat_tables.specs.declared.entries.Endpoint.{Endpoint}
use Rattle.nat_tables.specs.declared.entries.PortKey.{PortKey}
use Rattle.nat_tables.specs.declared.slot.Slot.{Slot}
use Rattle.nat_tables.specs.Keys.{port_key}
use Rattle.nat_tables.specs.Forwards.{Forwards, slot_of}
use Rattle.nat_tables.specs.Hosts.{count_of}
use Rattle.flow_boxes.specs.declared.drops.Drops.{Drops}
use Rattle.nat_box.specs.declared.value.NatValue.{NatValue}
use Rattle.nat_box.specs.declared.value.NatValue.TheVariants.{Dropped}
use Rattle.flow_boxes.specs.Flows.{endpoint, source_of, HaveBytes}
use Rattle.flow_boxes.specs.Drops.{reason_of}
use Rattle.nat_box.specs.declared.place.Class.TheVariants.{OutboundError}
use Rattle.nat_box.specs.Settings.{Settings, AreSettings}
use Rattle.nat_box.specs.Nat.{flow_seen, class_seen, nat_meaning}
use Rattle.nat_box.specs.PortStanding.{free_at}
use Rattle.nat_box.specs.Sentences.{Has, bound_in, IsMapping}
use Rattle.nat_runs.specs.Classes.{IsFromInside, GoesInside}
use Rattle.nat_runs.specs.Met.{Met, met_of}
use Rattle.nat_runs.specs.Idle.{IsIdle}
use Rattle.nat_runs.specs.FullHosts.{has_drawn, HasChangedNothing}

-- 1 to 6: the frame is no flow, and no error of ICMP that is seen as one
abbrev pub IsNoFlow : Settings → Packet → ℕ → Type 0
IsNoFlow s p reason = (answer : NotFlow) × (flow_seen s p ≡ Err answer) × (reason ≡ reason_of answer)

abbrev pub IsFlow : Packet → Flow → Type 0
IsFlow p flow = viewed p.bytes p.original ≡ Ok flow

-- the packet is the flow, or an error that is seen as it
abbrev pub IsSeenAs : Settings → Packet → Flow → Type 0
IsSeenAs s p flow = flow_seen s p ≡ Ok flow

-- 9: the flow neither comes from inside nor goes to the outside address, or goes from inside to inside; or the error is
-- about no packet that the box may have translated
abbrev pub IsStray : Settings → Packet → ℕ → Type 0
IsStray s p reason = (flow : Flow) × IsSeenAs s p flow × (class_seen s p ≡ None) × (reason ≡ 9)

-- nothing is bound to the port, in any table
abbrev pub IsUnbound : Settings → (ℕ → NatValue) → PortKey → Type 0
IsUnbound s value port =
    (v : ℕ) (key : Endpoint) → v < 2 + 2 * s.shards → Has (bound_in (value v)) (port, key) → ⊥

-- the endpoint has no mapping to the port, or an idle one
abbrev pub HasNoneLive : Settings → (ℕ → NatValue) → Endpoint → ℕ → ℕ → Type 0
HasNoneLive s value key port now =
    (v : ℕ) (slot : Slot) → IsMapping s value v (key, slot) → slot.port ≡ port → IsIdle now key slot

-- its endpoint had no live mapping when the packet touched a forward table
abbrev pub HadNoneLive : Settings → Flow → Met → Type 0
HadNoneLive s flow met =
    (value : ℕ → NatValue) × (now : ℕ) × (met.at_touch ≡ Some value) × (met.clock ≡ Some now)
    × ((port : ℕ) → HasNoneLive s value (source_of flow) port now)

-- 8: it comes from inside, from an endpoint that had no live mapping, and when it touched the pool, no port
-- of its protocol was free
abbrev pub FoundNoPort : Settings → Packet → Met → ℕ → Type 0
FoundNoPort s p met reason =
    (flow : Flow) × IsFlow p flow × IsFromInside s flow × HadNoneLive s flow met
    × (value : ℕ → NatValue) × (met.at_pool ≡ Some value)
    × ((v port : ℕ) → v < 2 + 2 * s.shards → free_at (port_key flow.protocol port) (value v) ≡ 0) × (reason ≡ 8)

-- an endpoint was bound to the port, and when the packet read a forward table, it had no mapping to it, or an idle one
abbrev pub FoundNoneLive : Settings → Flow → Met → (ℕ → NatValue) → Type 0
FoundNoneLive s flow met bound =
    (v : ℕ) × (key : Endpoint) × Has (bound_in (bound v)) (port_key flow.protocol flow.dest_port, key)
    × (value : ℕ → NatValue) × (now : ℕ) × (met.at_forward ≡ Some value) × (met.clock ≡ Some now)
    × HasNoneLive s value (endpoint flow.protocol key.address key.port) flow.dest_port now

-- 7: it goes inside, and when it read a reverse table, nothing was bound to the port that it goes to, or no live
-- mapping
abbrev pub FoundNoMapping : Settings → Packet → Met → ℕ → Type 0
FoundNoMapping s p met reason =
    (flow : Flow) × IsSeenAs s p flow × GoesInside s p × (bound : ℕ → NatValue) × (met.at_reverse ≡ Some bound)
    × (IsUnbound s bound (port_key flow.protocol flow.dest_port) ⊎ FoundNoneLive s flow met bound) × (reason ≡ 7)

-- or it is an outbound error, and when it read a forward table, the endpoint that it is about had no live mapping
abbrev pub FoundNoneOut : Settings → Packet → Met → ℕ → Type 0
FoundNoneOut s p met reason =
    (flow : Flow) × IsSeenAs s p flow × (class_seen s p ≡ Some OutboundError) × (value : ℕ → NatValue) × (now : ℕ)
    × (met.at_forward ≡ Some value) × (met.clock ≡ Some now)
    × ((port : ℕ) → HasNoneLive s value (source_of flow) port now) × (reason ≡ 7)

-- 10: it comes from inside, and its host had as many mappings of its protocol as it may have, and its source none, in
-- the forward table as the packet's touch left it
abbrev pub FoundTooMany : Settings → Packet → Met → ℕ → Type 0
FoundTooMany s p met reason =
    (flow : Flow) × IsFlow p flow × IsFromInside s flow × (most : ℕ) × (s.limit ≡ Some most) × (es : Forwards)
    × (met.left ≡ Some es) × (slot_of (source_of flow) es ≡ None)
    × (most ≤ count_of flow.protocol flow.source es) × (reason ≡ 10)

abbrev pub Cause : Settings → Packet → Met → ℕ → Type 0
Cause s p met reason =
    IsNoFlow s p reason
    ⊎ (IsStray s p reason
    ⊎ (FoundNoPort s p met reason
    ⊎ (FoundNoMapping s p met reason ⊎ (FoundNoneOut s p met reason ⊎ FoundTooMany s p met reason))))

-- one drop more for the reason
abbrev pub one_more : ℕ → Drops → Drops
one_more reason d =
    record { counts = slice_set d.counts (reason - 1) ((slice_index d.counts (reason - 1) + 1) % 2 ^ 64) }

-- Each touch of variable 0 counts the packet in hand, for a reason that has its cause. One whose host had too many
-- mappings had changed nothing, or it had drawn a word, and then another packet of its host was quicker.
abbrev pub DropsHaveCauses : Type 0
DropsHaveCauses =
    (s : Settings) (threads : ℕ) (inputs : ℕ → List Packet) (x : Step NatValue) (earlier : List (Step NatValue))
    (entry : Entry) (left : Option NatValue) (place : ℕ) → AreSettings s → HaveBytes inputs
    → IsHistory (nat_meaning s) inputs threads (x ∷ earlier) → x.act ≡ Did entry left → entry.what ≡ Access 0 place
    → (h : Hand) × (d : Drops) × (reason : ℕ) × ((thread_after earlier x.thread).hand ≡ Some h)
    × (value_after (nat_meaning s) earlier 0 ≡ Dropped d)
    × (value_after (nat_meaning s) (x ∷ earlier) 0 ≡ Dropped (one_more reason d))
    × Cause s h.packet (met_of s x.thread earlier) reason
    × (reason ≡ 10 → HasChangedNothing s x.thread earlier ⊎ (has_drawn x.thread earlier ≡ true))
