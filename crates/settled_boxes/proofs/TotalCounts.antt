-- The tables of the monitor have, over all flows, the packets of flows that were taken.
use Rattle.std.proofs.Common.{◌≡◌, ◌≢◌, ℕ, zero, suc, ◌+◌, ◌%◌, ◌^◌, ◌<◌, ◌≤◌, Bool, true, false, List, [], ◌∷◌, refl}
use Rattle.std.proofs.Common.{sym, ap, ◌⊎◌, inl, inr, arith, Option, Some, None}
use Rattle.std.specs.Prelude.{slice_get, slice_index, take, nat_eq, cond, Result, Ok, Err}
use Rattle.plain_text.specs.declared.packet.Packet.{Packet}
use Rattle.entry_order.specs.Stamps.{sum_below}
use Rattle.packet_headers.specs.declared.flow.Flow.{Flow}
use Rattle.packet_headers.specs.declared.flow.NotFlow.{NotFlow}
use Rattle.packet_headers.specs.View.{viewed}
use Rattle.plain_machine.specs.declared.local.Local.{Local}
use Rattle.plain_machine.specs.declared.local.Move.TheVariants.{End}
use Rattle.plain_machine.specs.Machine.{Hand, Thread, Effect, Takes, Touches, Moves, held_move}
use Rattle.plain_machine.specs.History.{Step, thread_after, value_after, IsHistory}
use Rattle.plain_machine.proofs.Histories.{not_eq, is_eq}
use Rattle.monitor_box.specs.declared.counts.FlowKey.{FlowKey}
use Rattle.monitor_box.specs.declared.counts.FlowCount.{FlowCount}
use Rattle.monitor_box.specs.declared.counts.Totals.{Totals as TotalCounts}
use Rattle.monitor_box.specs.declared.value.MonitorValue.{MonitorValue}
use Rattle.monitor_box.specs.declared.value.MonitorValue.TheVariants.{Totals, Table}
use Rattle.monitor_box.specs.Flows.{Flows, same_flow, no_packets, with_packet}
use Rattle.monitor_box.specs.Monitor.{next_move, begun, noted_flow, noted_length, touched, fresh_value, monitor_meaning}
use Rattle.monitor_box.specs.Monitor.{Fits}
use Rattle.monitor_box.specs.Lawful.{touches}
use Rattle.monitor_box.specs.Sums.{flows_sum, value_sum, tables_sum, totals_of, IsAtRest}
use Rattle.monitor_box.specs.Coming.{coming_by}
use Rattle.monitor_box.specs.Arrivals.{shares, taken_sum}
use Rattle.monitor_box.proofs.ChangedSums.{one_changes, sum_of_none}
use Rattle.monitor_box.proofs.ComingSums.{comes_none, comes_nothing}
use Rattle.monitor_box.proofs.ThreadMoves.{hand_of, at_access, at_emit, by_move}
use Rattle.monitor_box.proofs.OneMoveTotals.{IsCounted}
use Rattle.monitor_box.proofs.MatchedTotals.{rest_is_sum}
use Rattle.monitor_box.proofs.CountedPackets.{Adds, run_counts}
use Rattle.settled_boxes.specs.Counted.{flow_share}

ends_past : (tables at sum : ℕ) → next_move tables at sum ≡ End → at ≢ 0
ends_past tables zero sum e k = absurd (grind arith)
ends_past tables (suc at) sum e k = absurd (omega arith)

-- one more packet taken
shares_taken : (number : Packet → ℕ) (xs : List Packet) (n : ℕ) (p : Packet) → slice_get xs n ≡ Some p
    → shares number (take (suc n) xs) ≡ shares number (take n xs) + number p
shares_taken number [] n p e = absurd (cc)
shares_taken number (x ∷ xs) zero p e = let q : x ≡ p = cc in rw q (omega arith)
shares_taken number (x ∷ xs) (suc n) p e = let a = shares_taken number xs n p e in omega arith

module _ (of_totals : TotalCounts → ℕ) (of_length : ℕ → ℕ) (of_flow : FlowCount → ℕ)
    (counted : IsCounted of_totals of_length of_flow) (tables : ℕ) where
  abbrev number : Packet → ℕ
  number = flow_share (λ p. of_length p.original)

  abbrev count : (ℕ → MonitorValue) → ℕ
  count = tables_sum of_flow tables

  abbrev FlowAdds : List Packet → ℕ → (ℕ → MonitorValue) → Option Hand → Option Hand → Effect MonitorValue → Type 0
  FlowAdds = Adds tables number 0 count

  -- a packet on its way to a table counts what it noted
  abbrev Ready : Option Hand → Type 0
  Ready None = Unit {0}
  Ready (Some h) = h.place.at ≡ 0 → number h.packet ≡ of_length (noted_length h.place)

  begun_ready : (p : Packet) (seen : Result Flow NotFlow) → viewed p.bytes p.original ≡ seen
      → Ready (hand_of p (begun seen p.original)) × (coming_by 0 number (hand_of p (begun seen p.original)) ≡ number p)
  begun_ready p (Ok flow) is = (λ at. rw is refl, refl)
  begun_ready p (Err answer) is = (λ at. absurd (omega arith), rw is refl)

  -- a packet adds its number to the sum of a table
  table_more : (flow : FlowKey) (n : ℕ) (es : Flows)
      → flows_sum of_flow (with_packet flow n es) % 2 ^ 64 ≡ (flows_sum of_flow es + of_length n) % 2 ^ 64
  table_more flow n [] = let a = counted.flow no_packets n in let b = counted.no_flow in omega arith
  table_more flow n (e ∷ es) = by (same_flow flow e.0) refl (table_more flow n es)
    where
      by : (b : Bool) → same_flow flow e.0 ≡ b
          → flows_sum of_flow (with_packet flow n es) % 2 ^ 64 ≡ (flows_sum of_flow es + of_length n) % 2 ^ 64
          → flows_sum of_flow (with_packet flow n (e ∷ es)) % 2 ^ 64
          ≡ (flows_sum of_flow (e ∷ es) + of_length n) % 2 ^ 64
      by true q behind = let a = counted.flow e.1 n in rw q (omega arith)
      by false q behind = rw q (omega arith)

  -- the sum over the tables after a touch
  tables_step : (v : ℕ) (left : MonitorValue) (value : ℕ → MonitorValue) → v < tables + 1
      → count (λ w. cond (nat_eq v w) left (value w)) + value_sum of_flow (value v)
      ≡ count value + value_sum of_flow left
  tables_step v left value low =
      let f : ℕ → ℕ = λ w. value_sum of_flow (cond (nat_eq v w) left (value w)) in
      let g : ℕ → ℕ = λ w. value_sum of_flow (value w) in
      let one : sum_below (tables + 1) f + g v ≡ sum_below (tables + 1) g + f v =
      one_changes (tables + 1) v f g low (λ w h. rw (not_eq v w (λ k. h (sym k))) refl) in
      let new : f v ≡ value_sum of_flow left = rw (is_eq v v refl) refl in
      omega arith

  -- what a touch adds, by the sums of the value before and after it
  adds_up : (sum sum' comes comes' holds holds' : ℕ) → sum' + holds ≡ sum + holds'
      → (holds' + comes') % 2 ^ 64 ≡ (holds + comes) % 2 ^ 64 → (sum' + comes') % 2 ^ 64 ≡ (sum + comes) % 2 ^ 64
  adds_up sum sum' comes comes' holds holds' a b = omega arith

  table_adds : (v taken : ℕ) (packets : List Packet) (value : ℕ → MonitorValue) (es : Flows) (p : Packet) (l : Local)
      → v < tables + 1 → value v ≡ Table es → l.at ≡ 0 → number p ≡ of_length (noted_length l)
      → FlowAdds packets taken value (hand_of p l) (hand_of p (touched (Table es) l).1)
      (Touches v (touched (Table es) l).0)
  table_adds v taken packets value es p l low is at noted =
      let left : MonitorValue = (touched (Table es) l).0 in
      let step = tables_step v left value low in
      let holds : value_sum of_flow (value v) ≡ flows_sum of_flow es = ap (value_sum of_flow) is in
      let more = table_more (noted_flow l) (noted_length l) es in
      let comes : coming_by 0 number (hand_of p l) ≡ number p = rw at refl in
      adds_up (count value) (count (λ w. cond (nat_eq v w) left (value w))) (coming_by 0 number (hand_of p l)) 0
      (value_sum of_flow (value v)) (value_sum of_flow left) step (omega arith)

  totals_adds : (taken : ℕ) (packets : List Packet) (value : ℕ → MonitorValue) (t : TotalCounts) (p : Packet)
      (l : Local) → value 0 ≡ Totals t → l.at ≢ 0
      → FlowAdds packets taken value (hand_of p l) (hand_of p (touched (Totals t) l).1)
      (Touches 0 (touched (Totals t) l).0)
  totals_adds taken packets value t p l is past =
      let left : MonitorValue = (touched (Totals t) l).0 in
      let step = tables_step 0 left value (omega arith) in
      let holds : value_sum of_flow (value 0) ≡ 0 = ap (value_sum of_flow) is in
      let comes = comes_none 0 number p l past in
      adds_up (count value) (count (λ w. cond (nat_eq 0 w) left (value w))) (coming_by 0 number (hand_of p l)) 0
      (value_sum of_flow (value 0)) (value_sum of_flow left) step (omega arith)

  touch_adds : (taken : ℕ) (packets : List Packet) (value : ℕ → MonitorValue) (p : Packet) (l : Local) (v : ℕ)
      (x : MonitorValue) → v < tables + 1 → value v ≡ x → Fits v x → Ready (hand_of p l)
      → ((l.at ≡ 0) × (v ≡ 1 + slice_index l.regs 0 % tables)) ⊎ (((l.at ≡ 1) × (v ≡ 0)) ⊎ ((l.at ≡ 2) × (v ≡ 0)))
      → Ready (hand_of p (touched x l).1)
      × FlowAdds packets taken value (hand_of p l) (hand_of p (touched x l).1) (Touches v (touched x l).0)
  touch_adds taken packets value p l zero (Totals t) low is fits ready (inl at) = absurd (omega arith)
  touch_adds taken packets value p l zero (Totals t) low is fits ready (inr (inl at)) =
      (λ k. absurd (omega arith), totals_adds taken packets value t p l is (λ k. absurd (omega arith)))
  touch_adds taken packets value p l zero (Totals t) low is fits ready (inr (inr at)) =
      (λ k. absurd (omega arith), totals_adds taken packets value t p l is (λ k. absurd (omega arith)))
  touch_adds taken packets value p l zero (Table es) low is fits ready at = absurd fits
  touch_adds taken packets value p l (suc k) (Totals t) low is fits ready at = absurd fits
  touch_adds taken packets value p l (suc k) (Table es) low is fits ready (inl at) =
      (λ n. absurd (omega arith), table_adds (suc k) taken packets value es p l low is at.0 (ready at.0))
  touch_adds taken packets value p l (suc k) (Table es) low is fits ready (inr (inl at)) = absurd (omega arith)
  touch_adds taken packets value p l (suc k) (Table es) low is fits ready (inr (inr at)) = absurd (omega arith)

  move_adds : 1 ≤ tables → (packets : List Packet) (value : ℕ → MonitorValue) (taken : ℕ) (a : Option ℕ)
      (hand : Option Hand) (after : Thread) (d : Effect MonitorValue) → ((v : ℕ) → v < tables + 1 → Fits v (value v))
      → Unit {0} → Ready hand → held_move (monitor_meaning tables) packets value taken a hand ≡ Moves after d
      → Ready after.hand × FlowAdds packets taken value hand after.hand d
  move_adds some packets value taken a hand after d fits any ready e =
      by_move tables packets value taken a hand after d
      (λ before later u. Ready before → Ready later × FlowAdds packets taken value before later u)
      (λ p input ready. takes p input)
      (λ p l v w ready.
      let low : v < tables + 1 = touches tables l.at (slice_index l.regs 0) v some w in
      touch_adds taken packets value p l v (value v) low refl (fits v low) ready
      (at_access tables l.at (slice_index l.regs 0) v w))
      (λ p l sent w ready.
      let at : l.at ≡ 3 = at_emit tables l.at (slice_index l.regs 0) w in
      (λ k. absurd (omega arith), sym (comes_none 0 number p l (λ k. absurd (omega arith)))))
      (λ p l w ready. (tt, sym (comes_none 0 number p l (ends_past tables l.at (slice_index l.regs 0) w)))) e ready
    where
      takes : (p : Packet) → slice_get packets taken ≡ Some p
          → Ready (hand_of p (begun (viewed p.bytes p.original) p.original))
          × FlowAdds packets taken value None (hand_of p (begun (viewed p.bytes p.original) p.original)) Takes
      takes p input =
          let b = begun_ready p (viewed p.bytes p.original) refl in
          let a = shares_taken number packets taken p input in
          let c = b.1 in
          (b.0, omega arith)

  fresh_sum : (v : ℕ) → value_sum of_flow (fresh_value v) ≡ 0
  fresh_sum zero = refl
  fresh_sum (suc v) = refl

  -- where no packet is in hand, the totals have all packets of flows that were taken
  pub totals_count : (threads : ℕ) (inputs : ℕ → List Packet) (steps : List (Step MonitorValue)) → 1 ≤ tables
      → tables ≤ 64 → IsHistory (monitor_meaning tables) inputs threads steps → IsAtRest threads steps
      → of_totals (totals_of (value_after (monitor_meaning tables) steps 0))
      ≡ taken_sum number threads inputs (thread_after steps) % 2 ^ 64
  totals_count threads inputs steps some few h rest =
      let a = rest_is_sum of_totals of_length of_flow counted tables threads inputs steps some few h rest in
      let b = (run_counts tables number 0 count Ready tt (λ packets. Unit {0})
      (sum_of_none (tables + 1) _ (λ v low. fresh_sum v)) (move_adds some) threads inputs steps some few
      (λ t. tt) h).1 in
      let c = comes_nothing 0 number threads steps rest in
      omega arith
