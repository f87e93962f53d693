-- Where flows stand after each move of each run: in the one table that the flow's own sum tells.
use Rattle.std.specs.Prelude.{◌≡◌, ℕ, ◌+◌, ◌%◌, ◌≤◌, List, [], ◌∷◌, slice_get, Some}
use Rattle.plain_text.specs.declared.packet.Packet.{Packet}
use Rattle.packet_headers.specs.declared.flow.Flow.{Flow}
use Rattle.packet_headers.specs.Fields.{AreBytes}
use Rattle.packet_headers.specs.Steering.{steering_sum}
use Rattle.plain_machine.specs.History.{Step, value_after, IsHistory}
use Rattle.monitor_box.specs.declared.counts.FlowKey.{FlowKey}
use Rattle.monitor_box.specs.declared.value.MonitorValue.{MonitorValue}
use Rattle.monitor_box.specs.declared.value.MonitorValue.TheVariants.{Totals, Table}
use Rattle.monitor_box.specs.Flows.{Flows}
use Rattle.monitor_box.specs.Monitor.{monitor_meaning, table_var}

-- a flow with these fields, which its steering sum goes by
abbrev pub as_flow : FlowKey → Flow
as_flow key = record {
  protocol = key.protocol;
  source = key.source;
  source_port = key.source_port;
  dest = key.dest;
  dest_port = key.dest_port;
  flags = 0;
  transport_at = 0;
}

-- each of these flows has its table in variable v
abbrev pub StandIn : ℕ → ℕ → Flows → Type 0
StandIn tables v [] = Unit {0}
StandIn tables v (e ∷ es) = (v ≡ table_var tables (steering_sum (as_flow e.0))) × StandIn tables v es

abbrev pub ValueStands : ℕ → ℕ → MonitorValue → Type 0
ValueStands tables v (Totals totals) = Unit {0}
ValueStands tables v (Table flows) = StandIn tables v flows

-- each input is of bytes
abbrev pub HaveBytes : (ℕ → List Packet) → Type 0
HaveBytes inputs = (t k : ℕ) (p : Packet) → slice_get (inputs t) k ≡ Some p → AreBytes p.bytes

abbrev pub FlowsStand : Type 0
FlowsStand =
    (tables threads : ℕ) (inputs : ℕ → List Packet) (steps : List (Step MonitorValue))
    → 1 ≤ tables → tables ≤ 64 → HaveBytes inputs → IsHistory (monitor_meaning tables) inputs threads steps
    → (v : ℕ) → v ≤ tables → ValueStands tables v (value_after (monitor_meaning tables) steps v)
