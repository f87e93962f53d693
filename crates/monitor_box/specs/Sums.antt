-- What the totals and the tables have in common after each move of each run: the totals, with what is still owed to
-- them, are the sum over all flows of all tables.
use Rattle.std.specs.Prelude.{◌≡◌, ℕ, ◌+◌, ◌%◌, ◌^◌, ◌<◌, ◌≤◌, ◌==◌, if◌then◌else◌, List, [], ◌∷◌, Option, Some, None}
use Rattle.plain_text.specs.declared.packet.Packet.{Packet}
use Rattle.entry_order.specs.Stamps.{sum_below}
use Rattle.plain_machine.specs.Machine.{Hand, Thread}
use Rattle.plain_machine.specs.History.{Step, thread_after, value_after, IsHistory}
use Rattle.monitor_box.specs.declared.counts.Totals.{Totals as TotalCounts}
use Rattle.monitor_box.specs.declared.counts.FlowCount.{FlowCount}
use Rattle.monitor_box.specs.declared.value.MonitorValue.{MonitorValue}
use Rattle.monitor_box.specs.declared.value.MonitorValue.TheVariants.{Totals, Table}
use Rattle.monitor_box.specs.Flows.{Flows, no_totals}
use Rattle.monitor_box.specs.Coming.{coming_sum}
use Rattle.monitor_box.specs.Monitor.{monitor_meaning, adds_flow_at, totals_var}

-- the sum of a number of each flow
abbrev pub flows_sum : (FlowCount → ℕ) → Flows → ℕ
flows_sum number [] = 0
flows_sum number (e ∷ es) = number e.1 + flows_sum number es

abbrev pub value_sum : (FlowCount → ℕ) → MonitorValue → ℕ
value_sum number (Totals totals) = 0
value_sum number (Table flows) = flows_sum number flows

-- over all tables; variable 0 has no flows
abbrev pub tables_sum : (FlowCount → ℕ) → ℕ → (ℕ → MonitorValue) → ℕ
tables_sum number tables value = sum_below (tables + 1) (λ v. value_sum number (value v))

abbrev pub totals_of : MonitorValue → TotalCounts
totals_of (Totals totals) = totals
totals_of (Table flows) = no_totals

-- a number of the totals and what is owed to it, by packets in hand that have touched their flow's table and not yet
-- the totals, are, modulo 2 ^ 64, the sum of the number over all flows
abbrev pub Matches : (TotalCounts → ℕ) → (Packet → ℕ) → (FlowCount → ℕ) → ℕ → ℕ → List (Step MonitorValue) → Type 0
Matches of_totals of_packet of_flow tables threads steps =
    let value = value_after (monitor_meaning tables) steps in
    (of_totals (totals_of (value totals_var)) + coming_sum adds_flow_at of_packet threads (thread_after steps)) % 2 ^ 64
    ≡ tables_sum of_flow tables value % 2 ^ 64

abbrev pub PacketsMatch : ℕ → ℕ → List (Step MonitorValue) → Type 0
PacketsMatch = Matches (λ totals. totals.packets) (λ packet. 1) (λ count. count.packets)

-- by the length on the wire
abbrev pub BytesMatch : ℕ → ℕ → List (Step MonitorValue) → Type 0
BytesMatch = Matches (λ totals. totals.bytes) (λ packet. packet.original) (λ count. count.bytes)

-- no thread has a packet in hand
abbrev pub IsAtRest : ℕ → List (Step MonitorValue) → Type 0
IsAtRest threads steps = (t : ℕ) → t < threads → (thread_after steps t).hand ≡ None

-- then nothing is owed
abbrev pub IsSum : (TotalCounts → ℕ) → (FlowCount → ℕ) → ℕ → List (Step MonitorValue) → Type 0
IsSum of_totals of_flow tables steps =
    let value = value_after (monitor_meaning tables) steps in
    of_totals (totals_of (value totals_var)) ≡ tables_sum of_flow tables value % 2 ^ 64

abbrev pub PacketsAreSum : ℕ → List (Step MonitorValue) → Type 0
PacketsAreSum = IsSum (λ totals. totals.packets) (λ count. count.packets)

abbrev pub BytesAreSum : ℕ → List (Step MonitorValue) → Type 0
BytesAreSum = IsSum (λ totals. totals.bytes) (λ count. count.bytes)

-- Of each run of a box with 1 to 64 tables: after each of its moves; and after those that leave no packet in hand
abbrev pub InEachRun : (ℕ → ℕ → List (Step MonitorValue) → Type 0) → Type 0
InEachRun Holds =
    (tables threads : ℕ) (inputs : ℕ → List Packet) (steps : List (Step MonitorValue))
    → 1 ≤ tables → tables ≤ 64 → IsHistory (monitor_meaning tables) inputs threads steps → Holds tables threads steps

abbrev pub InEachRunAtRest : (ℕ → List (Step MonitorValue) → Type 0) → Type 0
InEachRunAtRest Holds = InEachRun (λ tables threads steps. IsAtRest threads steps → Holds tables steps)
