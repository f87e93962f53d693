-- The box that counts packets and bytes by flow. Variable 0 has the totals; each further variable has a table of flows,
-- and a flow's table is told by its steering sum. A packet of a flow touches the flow's table, and then the totals; any
-- other packet touches the totals alone. Bytes are counted by the length on the wire.
use Rattle.std.specs.Prelude.{ℕ, zero, suc, ◌+◌, ◌%◌, ◌^◌, List, [], ◌∷◌, slice_index, replicate, ◌==◌, if◌then◌else◌}
use Rattle.std.specs.Prelude.{Result, Ok, Err}
use Rattle.packet_headers.specs.declared.flow.Flow.{Flow}
use Rattle.packet_headers.specs.declared.flow.NotFlow.{NotFlow}
use Rattle.packet_headers.specs.Steering.{steering_sum}
use Rattle.packet_headers.specs.View.{viewed}
use Rattle.plain_machine.specs.declared.local.Local.{Local}
use Rattle.plain_machine.specs.declared.local.Move.{Move}
use Rattle.plain_machine.specs.declared.local.Move.TheVariants.{Access, Emit, End}
use Rattle.plain_machine.specs.Program.{Meaning}
use Rattle.monitor_box.specs.declared.counts.FlowKey.{FlowKey}
use Rattle.monitor_box.specs.declared.value.MonitorValue.{MonitorValue}
use Rattle.monitor_box.specs.declared.value.MonitorValue.TheVariants.{Totals, Table}
use Rattle.monitor_box.specs.Flows.{no_totals, with_packet, with_flow_packet, with_other_packet, AreTotals, AreFlows}
use Rattle.monitor_box.specs.Shown.{totals_text, flows_text}

-- The places of the program: the flow's table is next; the totals are next, for a flow's packet or for another; the
-- packet goes out; the end.

abbrev pub counts_flow_at : ℕ
counts_flow_at = 0

abbrev pub adds_flow_at : ℕ
adds_flow_at = 1

abbrev pub adds_other_at : ℕ
adds_other_at = 2

abbrev pub emits_at : ℕ
emits_at = 3

abbrev pub ends_at : ℕ
ends_at = 4

-- the variable of the totals, and that of a flow's table, by its steering sum
abbrev pub totals_var : ℕ
totals_var = 0

abbrev pub table_var : ℕ → ℕ → ℕ
table_var tables sum = 1 + sum % tables

abbrev pub next_move : ℕ → ℕ → ℕ → Move
next_move tables at sum =
    if at == counts_flow_at then Access (table_var tables sum)
    else if at == adds_flow_at then Access totals_var
    else if at == adds_other_at then Access totals_var
    else if at == emits_at then Emit
    else End

abbrev pub moves_left : ℕ → ℕ
moves_left at =
    if at == counts_flow_at then 3
    else if at == adds_flow_at then 2
    else if at == adds_other_at then 2
    else if at == emits_at then 1
    else 0

-- what a packet notes: of a flow its sum, its five fields and the length on the wire
abbrev pub begun : Result Flow NotFlow → ℕ → Local
begun (Ok flow) length = record {
  at = counts_flow_at;
  regs =
      steering_sum flow ∷ flow.protocol ∷ flow.source ∷ flow.source_port ∷ flow.dest ∷ flow.dest_port ∷ length ∷ 0 ∷ 0
      ∷ 0 ∷ 0 ∷ 0 ∷ [];
}
begun (Err answer) length = record { at = adds_other_at; regs = replicate 12 0 }

-- the flow and the length that were noted
abbrev pub noted_flow : Local → FlowKey
noted_flow l = record {
  protocol = slice_index l.regs 1 % 2 ^ 8;
  source = slice_index l.regs 2 % 2 ^ 32;
  source_port = slice_index l.regs 3 % 2 ^ 16;
  dest = slice_index l.regs 4 % 2 ^ 32;
  dest_port = slice_index l.regs 5 % 2 ^ 16;
}

abbrev pub noted_length : Local → ℕ
noted_length l = slice_index l.regs 6

abbrev pub touched : MonitorValue → Local → MonitorValue × Local
touched (Table flows) l = (Table (with_packet (noted_flow l) (noted_length l) flows), record l { at = adds_flow_at })
touched (Totals totals) l = (
  Totals (if l.at == adds_flow_at then with_flow_packet (noted_length l) totals else with_other_packet totals),
  record l { at = emits_at },
)

abbrev pub fresh_value : ℕ → MonitorValue
fresh_value zero = Totals no_totals
fresh_value (suc table) = Table []

abbrev pub value_text : MonitorValue → List ℕ
value_text (Totals totals) = totals_text totals
value_text (Table flows) = flows_text flows

-- the box with this number of tables
abbrev pub monitor_meaning : ℕ → Meaning MonitorValue
monitor_meaning tables = record {
  vars = tables + 1;
  fresh = fresh_value;
  begin = λ p. begun (viewed p.bytes p.original) p.original;
  next = λ l. next_move tables l.at (slice_index l.regs 0);
  touch = λ _ x l. touched x l;
  look = λ _ _ l. l;
  told = λ _ l. l;
  emitted = λ l. record l { at = ends_at };
  out = λ p _. p.bytes;
  shown = λ _ x. value_text x;
  rank = λ l. moves_left l.at;
}

-- variable 0 has totals, and each other one a table
abbrev pub Fits : ℕ → MonitorValue → Type 0
Fits zero (Totals totals) = AreTotals totals
Fits zero (Table flows) = ⊥
Fits (suc table) (Totals totals) = ⊥
Fits (suc table) (Table flows) = AreFlows flows
