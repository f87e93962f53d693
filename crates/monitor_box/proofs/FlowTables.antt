-- Each flow stands in the table of its own sum after each move of a run.
use Rattle.std.proofs.Common.{◌≡◌, ◌≢◌, ℕ, zero, suc, ◌+◌, ◌%◌, ◌^◌, ◌<◌, ◌≤◌, Bool, true, false, List, [], ◌∷◌, refl}
use Rattle.std.proofs.Common.{sym, ap, ◌∙◌, subst, ◌⊎◌, inl, inr, arith, Option, Some, None, Ok, Err, Result}
use Rattle.std.specs.Prelude.{slice_get, slice_index}
use Rattle.plain_text.specs.declared.packet.Packet.{Packet}
use Rattle.entry_order.proofs.Order.{is_or}
use Rattle.packet_headers.specs.declared.flow.Flow.{Flow}
use Rattle.packet_headers.specs.declared.flow.NotFlow.{NotFlow}
use Rattle.packet_headers.specs.Fields.{AreBytes, header_end}
use Rattle.packet_headers.specs.Steering.{steering_sum}
use Rattle.packet_headers.specs.View.{viewed, flow_of, failures}
use Rattle.packet_headers.proofs.FirstFailure.{pass_from_ok}
use Rattle.packet_headers.proofs.Laws.{word_at-le, long_at-lt}
use Rattle.plain_machine.specs.declared.local.Local.{Local}
use Rattle.plain_machine.specs.Machine.{Hand, Thread, Effect, Takes, Touches, Looks, HearsClock, HearsDraw, Sends, Ends}
use Rattle.plain_machine.specs.Machine.{Moves, held_move}
use Rattle.plain_machine.specs.History.{Step, act_of, left_by, thread_after, value_after, IsHistory}
use Rattle.plain_machine.proofs.Histories.{not_eq, is_eq}
use Rattle.plain_machine.proofs.Bounds.{values_fit}
use Rattle.monitor_box.specs.declared.counts.FlowKey.{FlowKey}
use Rattle.monitor_box.specs.declared.value.MonitorValue.{MonitorValue}
use Rattle.monitor_box.specs.declared.value.MonitorValue.TheVariants.{Totals, Table}
use Rattle.monitor_box.specs.Flows.{Flows, same_flow, with_packet}
use Rattle.monitor_box.specs.Monitor.{begun, noted_flow, noted_length, touched, fresh_value, monitor_meaning, Fits}
use Rattle.monitor_box.specs.Lawful.{touches, monitor_lawful}
use Rattle.monitor_box.specs.FlowStanding.{as_flow, StandIn, ValueStands, HaveBytes}
use Rattle.monitor_box.proofs.ThreadMoves.{hand_of, at_access, by_move}

-- a packet that is on its way to its flow's table has noted the sum of its flow
abbrev Ready : Option Hand → Type 0
Ready None = Unit {0}
Ready (Some h) = h.place.at ≡ 0 → slice_index h.place.regs 0 ≡ steering_sum (as_flow (noted_flow h.place))

-- numbers of 8, 16 and 32 bits
pub record IsWhole (flow : Flow) : Type 0 where
  pub protocol : flow.protocol < 2 ^ 8
  pub source : flow.source < 2 ^ 32
  pub source_port : flow.source_port < 2 ^ 16
  pub dest : flow.dest < 2 ^ 32
  pub dest_port : flow.dest_port < 2 ^ 16

pub whole : (frame : List ℕ) → AreBytes frame → IsWhole (flow_of frame)
whole frame bytes = record {
  protocol = bytes 23;
  source = long_at-lt frame 26 bytes;
  source_port = omega (arith, word_at-le frame (header_end frame) bytes);
  dest = long_at-lt frame 30 bytes;
  dest_port = omega (arith, word_at-le frame (header_end frame + 2) bytes);
}

begun_ready : (p : Packet) → AreBytes p.bytes → (seen : Result Flow NotFlow) → viewed p.bytes p.original ≡ seen
    → Ready (hand_of p (begun seen p.original))
begun_ready p bytes (Err answer) is = λ at. absurd (omega arith)
begun_ready p bytes (Ok flow) is =
    let same : flow_of p.bytes ≡ flow = (pass_from_ok (failures p.bytes p.original) (flow_of p.bytes) flow is).1 in
    let w : IsWhole flow = subst IsWhole same (whole p.bytes bytes) in
    λ at. omega arith

stand_more : (tables v : ℕ) (flow : FlowKey) (n : ℕ) (es : Flows) → v ≡ 1 + steering_sum (as_flow flow) % tables
    → StandIn tables v es → StandIn tables v (with_packet flow n es)
stand_more tables v flow n [] new old = (new, tt)
stand_more tables v flow n (e ∷ es) new old = by (same_flow flow e.0) refl (stand_more tables v flow n es new old.1)
  where
    by : (b : Bool) → same_flow flow e.0 ≡ b → StandIn tables v (with_packet flow n es)
        → StandIn tables v (with_packet flow n (e ∷ es))
    by true q behind = rw q old
    by false q behind = rw q (old.0, behind)

-- a move leaves its thread ready, and its variable's flows where they belong
abbrev Keeps : ℕ → (ℕ → MonitorValue) → Effect MonitorValue → Type 0
Keeps tables value Takes = Unit {0}
Keeps tables value (Touches v left) = ValueStands tables v (value v) → ValueStands tables v left
Keeps tables value (Looks v) = Unit {0}
Keeps tables value (HearsClock a) = Unit {0}
Keeps tables value (HearsDraw a) = Unit {0}
Keeps tables value (Sends p) = Unit {0}
Keeps tables value Ends = Unit {0}

touch_keeps : (tables v : ℕ) (p : Packet) (l : Local) (x : MonitorValue) → Fits v x → Ready (hand_of p l)
    → ((l.at ≡ 0) × (v ≡ 1 + slice_index l.regs 0 % tables)) ⊎ (((l.at ≡ 1) × (v ≡ 0)) ⊎ ((l.at ≡ 2) × (v ≡ 0)))
    → Ready (hand_of p (touched x l).1) × (ValueStands tables v x → ValueStands tables v (touched x l).0)
touch_keeps tables zero p l (Totals t) fits ready at = (λ k. absurd (omega arith), λ old. tt)
touch_keeps tables zero p l (Table es) fits ready at = absurd fits
touch_keeps tables (suc k) p l (Totals t) fits ready at = absurd fits
touch_keeps tables (suc k) p l (Table es) fits ready (inl at) =
    let sum : slice_index l.regs 0 ≡ steering_sum (as_flow (noted_flow l)) = ready at.0 in (
      λ k. absurd (omega arith),
      λ old. stand_more tables (suc k) (noted_flow l) (noted_length l) es (at.1 ∙ ap (λ n. 1 + n % tables) sum) old,
    )
touch_keeps tables (suc k) p l (Table es) fits ready (inr (inl at)) = absurd (omega arith)
touch_keeps tables (suc k) p l (Table es) fits ready (inr (inr at)) = absurd (omega arith)

move_keeps : (tables : ℕ) (packets : List Packet) (value : ℕ → MonitorValue) (taken : ℕ) (a : Option ℕ)
    (hand : Option Hand) (after : Thread) (d : Effect MonitorValue) → 1 ≤ tables
    → ((v : ℕ) → v < tables + 1 → Fits v (value v))
    → ((k : ℕ) (p : Packet) → slice_get packets k ≡ Some p → AreBytes p.bytes) → Ready hand
    → held_move (monitor_meaning tables) packets value taken a hand ≡ Moves after d
    → Ready after.hand × Keeps tables value d
move_keeps tables packets value taken a hand after d some fits bytes ready e =
    by_move tables packets value taken a hand after d
    (λ before later u. Ready before → Ready later × Keeps tables value u)
    (λ p input ready. (begun_ready p (bytes taken p input) (viewed p.bytes p.original) refl, tt))
    (λ p l v w ready.
    let low : v < tables + 1 = touches tables l.at (slice_index l.regs 0) v some w in
    touch_keeps tables v p l (value v) (fits v low) ready (at_access tables l.at (slice_index l.regs 0) v w))
    (λ p l sent w ready. (λ k. absurd (omega arith), tt)) (λ p l w ready. (tt, tt)) e ready

value_keeps : (tables t taken : ℕ) (earlier : List (Step MonitorValue)) (value : ℕ → MonitorValue)
    (d : Effect MonitorValue) → Keeps tables value d → (v : ℕ) → ValueStands tables v (value v)
    → ValueStands tables v (left_by v (act_of t earlier taken d) (value v))
value_keeps tables t taken earlier value Takes keeps v old = old
value_keeps tables t taken earlier value (Touches u left) keeps v old = by (is_or u v)
  where
    by : (u ≡ v) ⊎ (u ≢ v) → ValueStands tables v (left_by v (act_of t earlier taken (Touches u left)) (value v))
    by (inl e) = rw (is_eq u v e) (subst (λ (n : ℕ). ValueStands tables n left) e
        (keeps (subst (λ (n : ℕ). ValueStands tables n (value n)) (sym e) old)))
    by (inr e) = rw (not_eq u v e) old
value_keeps tables t taken earlier value (Looks u) keeps v old = old
value_keeps tables t taken earlier value (HearsClock a) keeps v old = old
value_keeps tables t taken earlier value (HearsDraw a) keeps v old = old
value_keeps tables t taken earlier value (Sends p) keeps v old = old
value_keeps tables t taken earlier value Ends keeps v old = old

fresh_stands : (tables v : ℕ) → ValueStands tables v (fresh_value v)
fresh_stands tables zero = tt
fresh_stands tables (suc v) = tt

pub run_stands : (tables threads : ℕ) (inputs : ℕ → List Packet) (steps : List (Step MonitorValue)) → 1 ≤ tables
    → tables ≤ 64 → HaveBytes inputs → IsHistory (monitor_meaning tables) inputs threads steps
    → ((t : ℕ) → Ready (thread_after steps t).hand)
    × ((v : ℕ) → ValueStands tables v (value_after (monitor_meaning tables) steps v))
run_stands tables threads inputs [] some few bytes h = (λ t. tt, fresh_stands tables)
run_stands tables threads inputs (x ∷ earlier) some few bytes h =
    let old = run_stands tables threads inputs earlier some few bytes h.1 in
    let b = move_keeps tables (inputs x.thread) (value_after (monitor_meaning tables) earlier)
    (thread_after earlier x.thread).taken h.0.1 (thread_after earlier x.thread).hand x.after h.0.2 some
    (values_fit (monitor_meaning tables) Fits (monitor_lawful tables some few) inputs threads earlier h.1)
    (bytes x.thread) (old.0 x.thread) h.0.3 in (
      λ t. ready_step t old.0 b.0 (is_or x.thread t),
      λ v. rw h.0.4 (value_keeps tables x.thread x.after.taken earlier (value_after (monitor_meaning tables) earlier)
          h.0.2 b.1 v (old.1 v)),
    )
  where
    ready_step : (t : ℕ) → ((u : ℕ) → Ready (thread_after earlier u).hand) → Ready x.after.hand
        → (x.thread ≡ t) ⊎ (x.thread ≢ t) → Ready (thread_after (x ∷ earlier) t).hand
    ready_step t before after (inl e) = rw (is_eq x.thread t e) after
    ready_step t before after (inr e) = rw (not_eq x.thread t e) (before t)
