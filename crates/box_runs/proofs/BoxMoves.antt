-- The counting box and the monitor send each packet out, between its take and its end.
use Rattle.std.proofs.Common.{◌≡◌, ℕ, zero, suc, ◌≤◌, arith}
use Rattle.std.specs.Prelude.{slice_index, Result, Ok, Err}
use Rattle.packet_headers.specs.declared.flow.Flow.{Flow}
use Rattle.packet_headers.specs.declared.flow.NotFlow.{NotFlow}
use Rattle.packet_headers.specs.View.{viewed}
use Rattle.plain_machine.specs.declared.local.Local.{Local}
use Rattle.plain_machine.specs.declared.local.Move.TheVariants.{Access, Read, Clock, Draw, Emit, End}
use Rattle.box_program.specs.Count.{count_next, count_meaning}
use Rattle.monitor_box.specs.declared.value.MonitorValue.{MonitorValue}
use Rattle.monitor_box.specs.declared.value.MonitorValue.TheVariants.{Totals, Table}
use Rattle.monitor_box.specs.Monitor.{next_move, begun, touched, monitor_meaning}
use Rattle.monitor_box.specs.Lawful.{reads, asks_no_time, asks_no_word}
use Rattle.monitor_box.proofs.ThreadMoves.{at_emit}
use Rattle.box_runs.proofs.OnceEach.{SendsEach}

-- Of the counting box a packet went out from place 2 on

count_waits : (at v : ℕ) → count_next at ≡ Access v → 2 ≤ at → ⊥
count_waits zero v e late = omega arith
count_waits (suc zero) v e late = omega arith
count_waits (suc (suc at)) v e late = grind arith

count_emits : (at : ℕ) → count_next at ≡ Emit → 2 ≤ at → ⊥
count_emits zero e late = omega arith
count_emits (suc zero) e late = omega arith
count_emits (suc (suc at)) e late = grind arith

count_ends : (at : ℕ) → count_next at ≡ End → 2 ≤ at
count_ends zero e = absurd (grind arith)
count_ends (suc zero) e = absurd (grind arith)
count_ends (suc (suc at)) e = omega arith

pub count_asks_nothing : (at : ℕ) → count_next at ≡ Clock → ⊥
count_asks_nothing zero e = grind arith
count_asks_nothing (suc zero) e = grind arith
count_asks_nothing (suc (suc at)) e = grind arith

pub count_draws_nothing : (at : ℕ) → count_next at ≡ Draw → ⊥
count_draws_nothing zero e = grind arith
count_draws_nothing (suc zero) e = grind arith
count_draws_nothing (suc (suc at)) e = grind arith

pub count_reads_nothing : (at v : ℕ) → count_next at ≡ Read v → ⊥
count_reads_nothing zero v e = grind arith
count_reads_nothing (suc zero) v e = grind arith
count_reads_nothing (suc (suc at)) v e = grind arith

abbrev pub count_went : Local → Type 0
count_went l = 2 ≤ l.at

pub count_sends : SendsEach count_meaning count_went
count_sends = record {
  begins = λ p late. omega arith;
  reads = λ l v e. count_reads_nothing l.at v e;
  asks_no_time = λ l e. count_asks_nothing l.at e;
  asks_no_word = λ l e. count_draws_nothing l.at e;
  before_touch = λ l v e late. count_waits l.at v e late;
  after_touch = λ l v x e late. omega arith;
  before_emission = λ l e late. count_emits l.at e late;
  after_emission = λ l e. omega arith;
  ends = λ l e. count_ends l.at e;
}

-- Of the monitor a packet went out from place 4 on

monitor_waits : (tables at sum v : ℕ) → next_move tables at sum ≡ Access v → 4 ≤ at → ⊥
monitor_waits tables zero sum v e late = omega arith
monitor_waits tables (suc zero) sum v e late = omega arith
monitor_waits tables (suc (suc zero)) sum v e late = omega arith
monitor_waits tables (suc (suc (suc zero))) sum v e late = omega arith
monitor_waits tables (suc (suc (suc (suc at)))) sum v e late = grind arith

monitor_ends : (tables at sum : ℕ) → next_move tables at sum ≡ End → 4 ≤ at
monitor_ends tables zero sum e = absurd (grind arith)
monitor_ends tables (suc zero) sum e = absurd (grind arith)
monitor_ends tables (suc (suc zero)) sum e = absurd (grind arith)
monitor_ends tables (suc (suc (suc zero))) sum e = absurd (grind arith)
monitor_ends tables (suc (suc (suc (suc at)))) sum e = omega arith

abbrev pub monitor_went : Local → Type 0
monitor_went l = 4 ≤ l.at

monitor_begins : (seen : Result Flow NotFlow) (n : ℕ) → monitor_went (begun seen n) → ⊥
monitor_begins (Ok flow) n late = omega arith
monitor_begins (Err answer) n late = omega arith

monitor_touched : (x : MonitorValue) (l : Local) → monitor_went (touched x l).1 → ⊥
monitor_touched (Totals totals) l late = omega arith
monitor_touched (Table flows) l late = omega arith

pub monitor_sends : (tables : ℕ) → SendsEach (monitor_meaning tables) monitor_went
monitor_sends tables = record {
  begins = λ p late. monitor_begins (viewed p.bytes p.original) p.original late;
  reads = λ l v e. reads tables l.at (slice_index l.regs 0) v e;
  asks_no_time = λ l e. asks_no_time tables l.at (slice_index l.regs 0) e;
  asks_no_word = λ l e. asks_no_word tables l.at (slice_index l.regs 0) e;
  before_touch = λ l v e late. monitor_waits tables l.at (slice_index l.regs 0) v e late;
  after_touch = λ l v x e late. monitor_touched x l late;
  before_emission = λ l e late. let at : l.at ≡ 3 = at_emit tables l.at (slice_index l.regs 0) e in omega arith;
  after_emission = λ l e. omega arith;
  ends = λ l e. monitor_ends tables l.at (slice_index l.regs 0) e;
}
