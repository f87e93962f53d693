-- The totals match the tables after each move of a run.
use Rattle.std.proofs.Common.{◌≡◌, ◌≢◌, ℕ, ◌+◌, ◌%◌, ◌^◌, ◌<◌, ◌≤◌, List, [], ◌∷◌, refl, sym, ap, ◌⊎◌, inl, inr, arith}
use Rattle.std.specs.Prelude.{nat_eq, cond, suc, zero}
use Rattle.plain_text.specs.declared.packet.Packet.{Packet}
use Rattle.entry_order.specs.Stamps.{sum_below}
use Rattle.entry_order.proofs.Order.{is_or}
use Rattle.plain_machine.specs.Machine.{Thread, Effect, Takes, Touches, Looks, HearsClock, HearsDraw, Sends, Ends}
use Rattle.plain_machine.specs.History.{Step, act_of, left_by, thread_after, value_after, IsHistory}
use Rattle.plain_machine.proofs.Histories.{not_eq, is_eq}
use Rattle.plain_machine.proofs.Bounds.{values_fit}
use Rattle.monitor_box.specs.declared.counts.FlowCount.{FlowCount}
use Rattle.monitor_box.specs.declared.counts.Totals.{Totals as TotalCounts}
use Rattle.monitor_box.specs.declared.value.MonitorValue.{MonitorValue}
use Rattle.monitor_box.specs.declared.value.MonitorValue.TheVariants.{Totals, Table}
use Rattle.monitor_box.specs.Monitor.{fresh_value, monitor_meaning, Fits}
use Rattle.monitor_box.specs.Lawful.{monitor_lawful}
use Rattle.monitor_box.specs.Sums.{value_sum, tables_sum, totals_of, Matches, IsAtRest, IsSum}
use Rattle.monitor_box.specs.Coming.{coming_sum}
use Rattle.monitor_box.proofs.ComingSums.{coming_step, comes_nothing}
use Rattle.monitor_box.proofs.ChangedSums.{one_changes, sum_of_none, matched_again}
use Rattle.monitor_box.proofs.OneMoveTotals.{Noted, IsCounted, IsBalanced, move_balance}

module _ (of_totals : TotalCounts → ℕ) (of_length : ℕ → ℕ) (of_flow : FlowCount → ℕ)
    (counted : IsCounted of_totals of_length of_flow) where
  abbrev of_packet : Packet → ℕ
  of_packet p = of_length p.original

  -- the sum over the tables after a touch
  tables_step : (tables v : ℕ) (left : MonitorValue) (value : ℕ → MonitorValue) → v < tables + 1
      → tables_sum of_flow tables (λ w. cond (nat_eq v w) left (value w)) + value_sum of_flow (value v)
      ≡ tables_sum of_flow tables value + value_sum of_flow left
  tables_step tables v left value low =
      let f : ℕ → ℕ = λ w. value_sum of_flow (cond (nat_eq v w) left (value w)) in
      let g : ℕ → ℕ = λ w. value_sum of_flow (value w) in
      let one : sum_below (tables + 1) f + g v ≡ sum_below (tables + 1) g + f v =
      one_changes (tables + 1) v f g low (λ w h. rw (not_eq v w (λ k. h (sym k))) refl) in
      let new : f v ≡ value_sum of_flow left = rw (is_eq v v refl) refl in
      omega arith

  effect_matches : (tables threads t taken : ℕ) (earlier : List (Step MonitorValue)) (after : Thread)
      (d : Effect MonitorValue) → t < threads
      → IsBalanced of_totals of_length of_flow counted tables (value_after (monitor_meaning tables) earlier)
      (thread_after earlier t).hand after.hand d → Matches of_totals of_packet of_flow tables threads earlier
      → (of_totals (totals_of (left_by 0 (act_of t earlier taken d) (value_after (monitor_meaning tables) earlier 0)))
      + coming_sum 1 of_packet threads (λ u. cond (nat_eq t u) after (thread_after earlier u))) % 2 ^ 64
      ≡ tables_sum of_flow tables
      (λ v. left_by v (act_of t earlier taken d) (value_after (monitor_meaning tables) earlier v)) % 2 ^ 64
  effect_matches tables threads t taken earlier after Takes low b old =
      let a = coming_step 1 of_packet threads t after (thread_after earlier) low in let e = b.balance in omega arith
  effect_matches tables threads t taken earlier after (Touches v left) low b old =
      let value : ℕ → MonitorValue = value_after (monitor_meaning tables) earlier in
      matched_again _ _ _ _ _ _ _ _ _ _ old (coming_step 1 of_packet threads t after (thread_after earlier) low)
      (tables_step tables v left value b.balance.0) b.balance.1
  effect_matches tables threads t taken earlier after (Looks v) low b old = absurd b.balance
  effect_matches tables threads t taken earlier after (HearsClock a) low b old = absurd b.balance
  effect_matches tables threads t taken earlier after (HearsDraw a) low b old = absurd b.balance
  effect_matches tables threads t taken earlier after (Sends p) low b old =
      let a = coming_step 1 of_packet threads t after (thread_after earlier) low in let e = b.balance in omega arith
  effect_matches tables threads t taken earlier after Ends low b old =
      let a = coming_step 1 of_packet threads t after (thread_after earlier) low in let e = b.balance in omega arith

  fresh_sum : (v : ℕ) → value_sum of_flow (fresh_value v) ≡ 0
  fresh_sum zero = refl
  fresh_sum (suc v) = refl

  pub run_matches : (tables threads : ℕ) (inputs : ℕ → List Packet) (steps : List (Step MonitorValue)) → 1 ≤ tables
      → tables ≤ 64 → IsHistory (monitor_meaning tables) inputs threads steps
      → ((t : ℕ) → Noted (thread_after steps t).hand) × Matches of_totals of_packet of_flow tables threads steps
  run_matches tables threads inputs [] some few h =
      let a : coming_sum 1 of_packet threads (thread_after {V = MonitorValue} []) ≡ 0 =
      sum_of_none threads _ (λ t low. refl) in
      let b : tables_sum of_flow tables fresh_value ≡ 0 = sum_of_none (tables + 1) _ (λ v low. fresh_sum v) in
      let c = counted.none in
      (λ t. tt, omega arith)
  run_matches tables threads inputs (x ∷ earlier) some few h =
      let old = run_matches tables threads inputs earlier some few h.1 in
      let b = move_balance of_totals of_length of_flow counted tables (inputs x.thread)
      (value_after (monitor_meaning tables) earlier) (thread_after earlier x.thread).taken h.0.1
      (thread_after earlier x.thread).hand x.after h.0.2 some
      (values_fit (monitor_meaning tables) Fits (monitor_lawful tables some few) inputs threads earlier h.1)
      (old.0 x.thread) h.0.3 in (
        λ t. noted_step t old.0 b.noted (is_or x.thread t),
        rw h.0.4 (effect_matches tables threads x.thread x.after.taken earlier x.after h.0.2 h.0.0 b old.1),
      )
    where
      noted_step : (t : ℕ) → ((u : ℕ) → Noted (thread_after earlier u).hand) → Noted x.after.hand
          → (x.thread ≡ t) ⊎ (x.thread ≢ t) → Noted (thread_after (x ∷ earlier) t).hand
      noted_step t before after (inl e) = rw (is_eq x.thread t e) after
      noted_step t before after (inr e) = rw (not_eq x.thread t e) (before t)

  totals_small : (x : MonitorValue) → Fits 0 x → of_totals (totals_of x) < 2 ^ 64
  totals_small (Totals t) fits = counted.below t fits
  totals_small (Table es) fits = absurd fits

  pub rest_is_sum : (tables threads : ℕ) (inputs : ℕ → List Packet) (steps : List (Step MonitorValue)) → 1 ≤ tables
      → tables ≤ 64 → IsHistory (monitor_meaning tables) inputs threads steps → IsAtRest threads steps
      → IsSum of_totals of_flow tables steps
  rest_is_sum tables threads inputs steps some few h rest =
      let a : coming_sum 1 of_packet threads (thread_after steps) ≡ 0 = comes_nothing 1 of_packet threads steps rest in
      let b = (run_matches tables threads inputs steps some few h).1 in
      let c = totals_small _ (values_fit (monitor_meaning tables) Fits (monitor_lawful tables some few) inputs threads
      steps h 0 (omega arith)) in
      omega arith

-- Packets count 1 each, and bytes by the length on the wire.

pub packets_counted : IsCounted (λ t. t.packets) (λ n. 1) (λ c. c.packets)
packets_counted = record {
  no_flow = refl;
  flow = λ c n. refl;
  none = refl;
  totals = λ t n. refl;
  other = λ t. refl;
  below = λ t fits. fits.0;
}

pub bytes_counted : IsCounted (λ t. t.bytes) (λ n. n) (λ c. c.bytes)
bytes_counted = record {
  no_flow = refl;
  flow = λ c n. refl;
  none = refl;
  totals = λ t n. refl;
  other = λ t. refl;
  below = λ t fits. fits.1;
}
