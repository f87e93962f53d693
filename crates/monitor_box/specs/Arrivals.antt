-- What the tables and the totals have after each move of each run, by the packets that were taken: of each flow its
-- packets, and of packets that are no flow their number, but for those in hand that have not come to their variable
-- yet.
use Rattle.std.specs.Prelude.{◌≡◌, ℕ, ◌+◌, ◌%◌, ◌^◌, ◌≤◌, ◌==◌, if◌then◌else◌, List, [], ◌∷◌, take, Option, Some, None}
use Rattle.std.specs.Prelude.{Result, Ok, Err}
use Rattle.plain_text.specs.declared.packet.Packet.{Packet}
use Rattle.entry_order.specs.Stamps.{sum_below}
use Rattle.packet_headers.specs.declared.flow.Flow.{Flow}
use Rattle.packet_headers.specs.declared.flow.NotFlow.{NotFlow}
use Rattle.packet_headers.specs.Steering.{steering_sum}
use Rattle.packet_headers.specs.View.{viewed}
use Rattle.plain_machine.specs.Machine.{Hand, Thread}
use Rattle.plain_machine.specs.History.{Step, thread_after, value_after, IsHistory}
use Rattle.monitor_box.specs.declared.counts.FlowKey.{FlowKey}
use Rattle.monitor_box.specs.declared.counts.FlowCount.{FlowCount}
use Rattle.monitor_box.specs.declared.value.MonitorValue.{MonitorValue}
use Rattle.monitor_box.specs.declared.value.MonitorValue.TheVariants.{Totals, Table}
use Rattle.monitor_box.specs.Flows.{Flows, same_flow}
use Rattle.monitor_box.specs.Coming.{coming_sum}
use Rattle.monitor_box.specs.Monitor.{monitor_meaning, counts_flow_at, adds_other_at, totals_var, table_var}
use Rattle.monitor_box.specs.FlowStanding.{as_flow, HaveBytes}
use Rattle.monitor_box.specs.Sums.{totals_of, IsAtRest}

-- what tells a packet's flow from others, where its headers are those of a flow
abbrev pub key_of : Result Flow NotFlow → Option FlowKey
key_of (Ok flow) = Some (record {
  protocol = flow.protocol;
  source = flow.source;
  source_port = flow.source_port;
  dest = flow.dest;
  dest_port = flow.dest_port;
})
key_of (Err answer) = None

abbrev pub flow_of_packet : Packet → Option FlowKey
flow_of_packet p = key_of (viewed p.bytes p.original)

abbrev pub if_same : FlowKey → Option FlowKey → ℕ → ℕ
if_same flow None n = 0
if_same flow (Some key) n = if same_flow flow key then n else 0

-- a number of a packet, where it is one of the flow
abbrev pub share : (Packet → ℕ) → FlowKey → Packet → ℕ
share number flow p = if_same flow (flow_of_packet p) (number p)

abbrev pub if_none : Option FlowKey → ℕ
if_none None = 1
if_none (Some key) = 0

-- 1 for a packet that is no flow
abbrev pub other_share : Packet → ℕ
other_share p = if_none (flow_of_packet p)

-- the sum of a number over packets
abbrev pub shares : (Packet → ℕ) → List Packet → ℕ
shares number [] = 0
shares number (p ∷ packets) = number p + shares number packets

-- and over those that the threads took
abbrev pub taken_sum : (Packet → ℕ) → ℕ → (ℕ → List Packet) → (ℕ → Thread) → ℕ
taken_sum number threads inputs thread = sum_below threads (λ t. shares number (take (thread t).taken (inputs t)))

-- what a table has of a flow, 0 where it does not have it
abbrev pub count_in : (FlowCount → ℕ) → FlowKey → Flows → ℕ
count_in number flow [] = 0
count_in number flow (e ∷ es) = if same_flow flow e.0 then number e.1 else count_in number flow es

abbrev pub flows_in : MonitorValue → Flows
flows_in (Totals totals) = []
flows_in (Table flows) = flows

-- what the flow's own table has of it
abbrev pub count_of : (FlowCount → ℕ) → FlowKey → ℕ → (ℕ → MonitorValue) → ℕ
count_of number flow tables value =
    count_in number flow (flows_in (value (table_var tables (steering_sum (as_flow flow)))))

abbrev pub others_of : (ℕ → MonitorValue) → ℕ
others_of value = (totals_of (value totals_var)).other

-- What was counted and what comes next are, modulo 2 ^ 64, what was taken: a number of packets, which come at this
-- place.
abbrev pub Counts : (Packet → ℕ) → ℕ → ((ℕ → MonitorValue) → ℕ) → ℕ → (ℕ → List Packet) → (ℕ → MonitorValue)
    → (ℕ → Thread) → Type 0
Counts number place count threads inputs value thread =
    (count value + coming_sum place number threads thread) % 2 ^ 64 ≡ taken_sum number threads inputs thread % 2 ^ 64

-- Of each flow, in each run on packets of bytes, with 1 to 64 tables; its packets in hand come where its table is next
abbrev pub CountsFlow : (Packet → ℕ) → (FlowCount → ℕ) → Type 0
CountsFlow of_packet of_flow =
    (tables threads : ℕ) (inputs : ℕ → List Packet) (steps : List (Step MonitorValue)) → 1 ≤ tables → tables ≤ 64
    → HaveBytes inputs → IsHistory (monitor_meaning tables) inputs threads steps → (flow : FlowKey)
    → Counts (share of_packet flow) counts_flow_at (count_of of_flow flow tables) threads inputs
    (value_after (monitor_meaning tables) steps) (thread_after steps)

-- where no packet is in hand, the table has all of them
abbrev pub CountsFlowAtRest : (Packet → ℕ) → (FlowCount → ℕ) → Type 0
CountsFlowAtRest of_packet of_flow =
    (tables threads : ℕ) (inputs : ℕ → List Packet) (steps : List (Step MonitorValue)) → 1 ≤ tables → tables ≤ 64
    → HaveBytes inputs → IsHistory (monitor_meaning tables) inputs threads steps → IsAtRest threads steps
    → (flow : FlowKey)
    → count_of of_flow flow tables (value_after (monitor_meaning tables) steps)
    ≡ taken_sum (share of_packet flow) threads inputs (thread_after steps) % 2 ^ 64

-- and of packets that are no flow, which come where the totals are next
abbrev pub CountsOthers : Type 0
CountsOthers =
    (tables threads : ℕ) (inputs : ℕ → List Packet) (steps : List (Step MonitorValue)) → 1 ≤ tables → tables ≤ 64
    → IsHistory (monitor_meaning tables) inputs threads steps
    → Counts other_share adds_other_at others_of threads inputs (value_after (monitor_meaning tables) steps)
    (thread_after steps)

abbrev pub CountsOthersAtRest : Type 0
CountsOthersAtRest =
    (tables threads : ℕ) (inputs : ℕ → List Packet) (steps : List (Step MonitorValue)) → 1 ≤ tables → tables ≤ 64
    → IsHistory (monitor_meaning tables) inputs threads steps → IsAtRest threads steps
    → others_of (value_after (monitor_meaning tables) steps)
    ≡ taken_sum other_share threads inputs (thread_after steps) % 2 ^ 64
