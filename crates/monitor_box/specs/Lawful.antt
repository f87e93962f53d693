-- The laws of programs, of the box with 1 to 64 tables.
use Rattle.std.specs.Prelude.{◌≡◌, ℕ, zero, suc, ◌+◌, ◌<◌, ◌≤◌, Bool, true, false, [], ◌∷◌, slice_index, Result, Ok}
use Rattle.std.specs.Prelude.{Err, ◌==◌, if◌then◌else◌, refl}
use Rattle.packet_headers.specs.declared.flow.Flow.{Flow}
use Rattle.packet_headers.specs.declared.flow.NotFlow.{NotFlow}
use Rattle.packet_headers.specs.View.{viewed}
use Rattle.plain_machine.specs.declared.local.Local.{Local}
use Rattle.plain_machine.specs.declared.local.Move.TheVariants.{Access, Read, Clock, Draw, Emit, End}
use Rattle.plain_machine.specs.Program.{IsLawful}
use Rattle.monitor_box.specs.declared.counts.FlowKey.{FlowKey}
use Rattle.monitor_box.specs.declared.value.MonitorValue.{MonitorValue}
use Rattle.monitor_box.specs.declared.value.MonitorValue.TheVariants.{Totals, Table}
use Rattle.monitor_box.specs.declared.counts.Totals.{Totals as TotalCounts}
use Rattle.monitor_box.specs.Flows.{Flows, same_flow, with_packet, with_flow_packet, with_other_packet, AreTotals}
use Rattle.monitor_box.specs.Flows.{Lacks, AreFlows}
use Rattle.monitor_box.specs.Monitor.{next_move, moves_left, begun, noted_length, touched, fresh_value, monitor_meaning}
use Rattle.monitor_box.specs.Monitor.{Fits}
use Rattle.std.proofs.Common.{arith}

lacks_more : (flow other : FlowKey) (n : ℕ) (es : Flows) → same_flow flow other ≡ false → Lacks es other
    → Lacks (with_packet flow n es) other
lacks_more flow other n [] new old = (new, tt)
lacks_more flow other n (e ∷ es) new old = by (same_flow flow e.0) refl (lacks_more flow other n es new old.1)
  where
    by : (b : Bool) → same_flow flow e.0 ≡ b → Lacks (with_packet flow n es) other
        → Lacks (with_packet flow n (e ∷ es)) other
    by true q behind = rw q old
    by false q behind = rw q (old.0, behind)

are_flows : (flow : FlowKey) (n : ℕ) (es : Flows) → AreFlows es → AreFlows (with_packet flow n es)
are_flows flow n [] old = ((omega arith, omega arith), tt, tt)
are_flows flow n (e ∷ es) old = by (same_flow flow e.0) refl (are_flows flow n es old.2)
  where
    by : (b : Bool) → same_flow flow e.0 ≡ b → AreFlows (with_packet flow n es) → AreFlows (with_packet flow n (e ∷ es))
    by true q behind = rw q ((omega arith, omega arith), old.1, old.2)
    by false q behind = rw q (old.0, lacks_more flow e.0 n es q old.1, behind)

-- place by place: 0 to 3, and 4 or more, which is the end
pub touches : (tables at sum v : ℕ) → 1 ≤ tables → next_move tables at sum ≡ Access v → v < tables + 1
touches tables zero sum v some e = grind arith
touches tables (suc zero) sum v some e = grind arith
touches tables (suc (suc zero)) sum v some e = grind arith
touches tables (suc (suc (suc zero))) sum v some e = absurd (grind arith)
touches tables (suc (suc (suc (suc at)))) sum v some e = absurd (grind arith)

pub reads : {P : Type 0} (tables at sum v : ℕ) → next_move tables at sum ≡ Read v → P
reads tables zero sum v e = absurd (grind arith)
reads tables (suc zero) sum v e = absurd (grind arith)
reads tables (suc (suc zero)) sum v e = absurd (grind arith)
reads tables (suc (suc (suc zero))) sum v e = absurd (grind arith)
reads tables (suc (suc (suc (suc at)))) sum v e = absurd (grind arith)

pub asks_no_time : {P : Type 0} (tables at sum : ℕ) → next_move tables at sum ≡ Clock → P
asks_no_time tables zero sum e = absurd (grind arith)
asks_no_time tables (suc zero) sum e = absurd (grind arith)
asks_no_time tables (suc (suc zero)) sum e = absurd (grind arith)
asks_no_time tables (suc (suc (suc zero))) sum e = absurd (grind arith)
asks_no_time tables (suc (suc (suc (suc at)))) sum e = absurd (grind arith)

pub asks_no_word : {P : Type 0} (tables at sum : ℕ) → next_move tables at sum ≡ Draw → P
asks_no_word tables zero sum e = absurd (grind arith)
asks_no_word tables (suc zero) sum e = absurd (grind arith)
asks_no_word tables (suc (suc zero)) sum e = absurd (grind arith)
asks_no_word tables (suc (suc (suc zero))) sum e = absurd (grind arith)
asks_no_word tables (suc (suc (suc (suc at)))) sum e = absurd (grind arith)

-- variable 0 has no table
no_table_there : (v : ℕ) (es : Flows) → v ≡ 0 → Fits v (Table es) → ⊥
no_table_there zero es e fits = fits
no_table_there (suc v) es e fits = absurd (omega arith)

-- a table is touched first
first_of_table : (tables at sum v : ℕ) (es : Flows) → next_move tables at sum ≡ Access v → Fits v (Table es)
    → moves_left at ≡ 3
first_of_table tables zero sum v es e fits = refl
first_of_table tables (suc zero) sum v es e fits = absurd (no_table_there v es (grind arith) fits)
first_of_table tables (suc (suc zero)) sum v es e fits = absurd (no_table_there v es (grind arith) fits)
first_of_table tables (suc (suc (suc zero))) sum v es e fits = absurd (grind arith)
first_of_table tables (suc (suc (suc (suc at)))) sum v es e fits = absurd (grind arith)

any_touch : (tables at sum v : ℕ) → next_move tables at sum ≡ Access v → 2 ≤ moves_left at
any_touch tables zero sum v e = omega arith
any_touch tables (suc zero) sum v e = omega arith
any_touch tables (suc (suc zero)) sum v e = omega arith
any_touch tables (suc (suc (suc zero))) sum v e = absurd (grind arith)
any_touch tables (suc (suc (suc (suc at)))) sum v e = absurd (grind arith)

touch_lowers : (tables at sum v : ℕ) (x : MonitorValue) (l : Local) → next_move tables at sum ≡ Access v → Fits v x
    → moves_left (touched x l).1.at < moves_left at
touch_lowers tables at sum v (Table es) l e fits = omega (arith, first_of_table tables at sum v es e fits)
touch_lowers tables at sum v (Totals t) l e fits = omega (arith, any_touch tables at sum v e)

emit_lowers : (tables at sum : ℕ) → next_move tables at sum ≡ Emit → 0 < moves_left at
emit_lowers tables zero sum e = omega arith
emit_lowers tables (suc zero) sum e = omega arith
emit_lowers tables (suc (suc zero)) sum e = omega arith
emit_lowers tables (suc (suc (suc zero))) sum e = omega arith
emit_lowers tables (suc (suc (suc (suc at)))) sum e = absurd (grind arith)

ends_at_none : (tables at sum : ℕ) → moves_left at ≡ 0 → next_move tables at sum ≡ End
ends_at_none tables zero sum e = absurd (omega arith)
ends_at_none tables (suc zero) sum e = absurd (omega arith)
ends_at_none tables (suc (suc zero)) sum e = absurd (omega arith)
ends_at_none tables (suc (suc (suc zero))) sum e = absurd (omega arith)
ends_at_none tables (suc (suc (suc (suc at)))) sum e = grind arith

few_to_make : (seen : Result Flow NotFlow) (n : ℕ) → moves_left (begun seen n).at ≤ 62
few_to_make (Ok flow) n = omega arith
few_to_make (Err answer) n = omega arith

fresh_fits_all : (v : ℕ) → Fits v (fresh_value v)
fresh_fits_all zero = (omega arith, omega arith, omega arith)
fresh_fits_all (suc v) = tt

totals_fit : (b : Bool) (n : ℕ) (t : TotalCounts) → AreTotals t
    → AreTotals (if b then with_flow_packet n t else with_other_packet t)
totals_fit true n t fits = (omega arith, omega arith, fits.2)
totals_fit false n t fits = (fits.0, fits.1, omega arith)

touched_fits : (v : ℕ) (x : MonitorValue) (l : Local) → Fits v x → Fits v (touched x l).0
touched_fits zero (Totals t) l fits = totals_fit (l.at == 1) (noted_length l) t fits
touched_fits zero (Table es) l fits = absurd fits
touched_fits (suc v) (Totals t) l fits = absurd fits
touched_fits (suc v) (Table es) l fits = are_flows _ _ es fits

pub monitor_lawful : (tables : ℕ) → 1 ≤ tables → tables ≤ 64 → IsLawful (monitor_meaning tables) Fits
monitor_lawful tables some few = record {
  some_vars = omega arith;
  few_vars = omega arith;
  touches_var = λ l v e. touches tables l.at (slice_index l.regs 0) v some e;
  reads_var = λ l v e. reads tables l.at (slice_index l.regs 0) v e;
  begins = λ p. few_to_make (viewed p.bytes p.original) p.original;
  touch_falls = λ v x l e f. touch_lowers tables l.at (slice_index l.regs 0) v x l e f;
  look_falls = λ v x l e f. reads tables l.at (slice_index l.regs 0) v e;
  clock_falls = λ a l e. asks_no_time tables l.at (slice_index l.regs 0) e;
  draw_falls = λ a l e. asks_no_word tables l.at (slice_index l.regs 0) e;
  emit_falls = λ l e. emit_lowers tables l.at (slice_index l.regs 0) e;
  ends = λ l e. ends_at_none tables l.at (slice_index l.regs 0) e;
  fresh_fits = λ v _. fresh_fits_all v;
  touch_fits = λ v x l e f. touched_fits v x l f;
  as_long = λ p l e. refl;
}
