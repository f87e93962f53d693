-- Tables of flows: how many packets and bytes each flow had, in the order in which the flows were first seen.
use Rattle.std.specs.Prelude.{◌≡◌, ℕ, ◌+◌, ◌%◌, ◌^◌, ◌<◌, Bool, false, ◌&&◌, ◌==◌, if◌then◌else◌, List, [], ◌∷◌}
use Rattle.monitor_box.specs.declared.counts.Totals.{Totals}
use Rattle.monitor_box.specs.declared.counts.FlowKey.{FlowKey}
use Rattle.monitor_box.specs.declared.counts.FlowCount.{FlowCount}

-- a counter has 64 bits, and starts again at 0
abbrev pub raised : ℕ → ℕ → ℕ
raised counter by = (counter + by) % 2 ^ 64

abbrev pub Flows : Type 0
Flows = List (FlowKey × FlowCount)

-- two flows are one where all five fields are equal
abbrev pub same_flow : FlowKey → FlowKey → Bool
same_flow a b =
    (a.protocol == b.protocol) && (a.source == b.source) && (a.source_port == b.source_port) && (a.dest == b.dest)
    && (a.dest_port == b.dest_port)

abbrev pub no_packets : FlowCount
no_packets = record { packets = 0; bytes = 0 }

-- one more packet, of this number of bytes
abbrev pub one_more : FlowCount → ℕ → FlowCount
one_more count length = record { packets = raised count.packets 1; bytes = raised count.bytes length }

-- the table after a packet of this number of bytes: a known flow keeps its place, and a new one goes last
abbrev pub with_packet : FlowKey → ℕ → Flows → Flows
with_packet flow length [] = (flow, one_more no_packets length) ∷ []
with_packet flow length (e ∷ es) =
    if same_flow flow e.0 then (e.0, one_more e.1 length) ∷ es else e ∷ with_packet flow length es

abbrev pub no_totals : Totals
no_totals = record { packets = 0; bytes = 0; other = 0 }

-- the totals after a packet of a flow, of this number of bytes
abbrev pub with_flow_packet : ℕ → Totals → Totals
with_flow_packet length t = record { packets = raised t.packets 1; bytes = raised t.bytes length; other = t.other }

-- and after a packet that is no flow
abbrev pub with_other_packet : Totals → Totals
with_other_packet t = record { packets = t.packets; bytes = t.bytes; other = raised t.other 1 }

-- Counters of 64 bits, and different flows

abbrev pub AreTotals : Totals → Type 0
AreTotals t = (t.packets < 2 ^ 64) × (t.bytes < 2 ^ 64) × (t.other < 2 ^ 64)

abbrev pub IsCount : FlowCount → Type 0
IsCount count = (count.packets < 2 ^ 64) × (count.bytes < 2 ^ 64)

-- the table does not have the flow
abbrev pub Lacks : Flows → FlowKey → Type 0
Lacks [] flow = Unit {0}
Lacks (e ∷ es) flow = (same_flow e.0 flow ≡ false) × Lacks es flow

abbrev pub AreFlows : Flows → Type 0
AreFlows [] = Unit {0}
AreFlows (e ∷ es) = IsCount e.1 × Lacks es e.0 × AreFlows es
