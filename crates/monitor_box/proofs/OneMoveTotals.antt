-- One move of a thread changes the totals, what it owes them and the sum of the flows alike.
use Rattle.std.proofs.Common.{◌≡◌, ◌≢◌, ℕ, zero, suc, ◌+◌, ◌%◌, ◌^◌, ◌<◌, ◌≤◌, Bool, true, false, List, [], ◌∷◌, refl}
use Rattle.std.proofs.Common.{sym, ap, ◌⊎◌, inl, inr, arith, Option, Some, None, Ok, Err, Result}
use Rattle.std.specs.Prelude.{slice_index, ◌==◌, nat_eq, cond}
use Rattle.std.proofs.lemmas.Bool.Decides.{nat_tests}
use Rattle.plain_text.specs.declared.packet.Packet.{Packet}
use Rattle.packet_headers.specs.declared.flow.Flow.{Flow}
use Rattle.packet_headers.specs.declared.flow.NotFlow.{NotFlow}
use Rattle.packet_headers.specs.View.{viewed}
use Rattle.plain_machine.specs.declared.local.Local.{Local}
use Rattle.plain_machine.specs.Machine.{Hand, Thread, Effect, Takes, Touches, Looks, HearsClock, HearsDraw, Sends, Ends}
use Rattle.plain_machine.specs.Machine.{Moves, held_move}
use Rattle.monitor_box.specs.declared.counts.FlowKey.{FlowKey}
use Rattle.monitor_box.specs.declared.counts.FlowCount.{FlowCount}
use Rattle.monitor_box.specs.declared.counts.Totals.{Totals as TotalCounts}
use Rattle.monitor_box.specs.declared.value.MonitorValue.{MonitorValue}
use Rattle.monitor_box.specs.declared.value.MonitorValue.TheVariants.{Totals, Table}
use Rattle.monitor_box.specs.Flows.{Flows, same_flow, no_packets, one_more, with_packet, no_totals, with_flow_packet}
use Rattle.monitor_box.specs.Flows.{with_other_packet, AreTotals}
use Rattle.monitor_box.specs.Monitor.{begun, noted_flow, noted_length, touched, monitor_meaning, Fits}
use Rattle.plain_machine.proofs.Histories.{not_eq}
use Rattle.monitor_box.specs.Lawful.{touches}
use Rattle.monitor_box.proofs.ThreadMoves.{hand_of, at_access, at_emit, at_end, by_move}
use Rattle.monitor_box.specs.Sums.{flows_sum, value_sum, totals_of}
use Rattle.monitor_box.specs.Coming.{coming_by}
use Rattle.monitor_box.proofs.ComingSums.{comes_none}

-- a packet on its way to the totals by a table has noted its length on the wire
abbrev pub Noted : Option Hand → Type 0
Noted None = Unit {0}
Noted (Some h) = h.place.at ≤ 1 → noted_length h.place ≡ h.packet.original

begun_notes : (p : Packet) (seen : Result Flow NotFlow)
    → Noted (Some (record { packet = p; place = begun seen p.original }))
begun_notes p (Ok flow) = λ _. refl
begun_notes p (Err answer) = λ low. absurd (omega arith)

-- a number that is counted of packets: in the totals, of a flow, and of a length on the wire
pub record IsCounted (of_totals : TotalCounts → ℕ) (of_length : ℕ → ℕ) (of_flow : FlowCount → ℕ) : Type 0 where
  pub no_flow : of_flow no_packets ≡ 0
  pub flow : (count : FlowCount) (n : ℕ) → of_flow (one_more count n) ≡ (of_flow count + of_length n) % 2 ^ 64
  pub none : of_totals no_totals ≡ 0
  pub totals : (t : TotalCounts) (n : ℕ) → of_totals (with_flow_packet n t) ≡ (of_totals t + of_length n) % 2 ^ 64
  pub other : (t : TotalCounts) → of_totals (with_other_packet t) ≡ of_totals t
  pub below : (t : TotalCounts) → AreTotals t → of_totals t < 2 ^ 64

module _ (of_totals : TotalCounts → ℕ) (of_length : ℕ → ℕ) (of_flow : FlowCount → ℕ)
    (counted : IsCounted of_totals of_length of_flow) where
  -- the number of a packet
  abbrev pub of_packet : Packet → ℕ
  of_packet p = of_length p.original

  -- a packet adds its number to the sum of a table
  table_more : (flow : FlowKey) (n : ℕ) (es : Flows)
      → flows_sum of_flow (with_packet flow n es) % 2 ^ 64 ≡ (flows_sum of_flow es + of_length n) % 2 ^ 64
  table_more flow n [] = let a = counted.flow no_packets n in let b = counted.no_flow in omega arith
  table_more flow n (e ∷ es) = by (same_flow flow e.0) refl (table_more flow n es)
    where
      by : (b : Bool) → same_flow flow e.0 ≡ b
          → flows_sum of_flow (with_packet flow n es) % 2 ^ 64 ≡ (flows_sum of_flow es + of_length n) % 2 ^ 64
          → flows_sum of_flow (with_packet flow n (e ∷ es)) % 2 ^ 64
          ≡ (flows_sum of_flow (e ∷ es) + of_length n) % 2 ^ 64
      by true q behind = let a = counted.flow e.1 n in rw q (omega arith)
      by false q behind = rw q (omega arith)

  -- What a move changes, where the variables have these values: the totals and what its thread owes them, by as much as
  -- the sum of the value that it leaves.
  abbrev pub Balance : ℕ → (ℕ → MonitorValue) → Option Hand → Option Hand → Effect MonitorValue → Type 0
  Balance tables value before after (Touches v left) =
      (v < tables + 1)
      × ((of_totals (totals_of (cond (nat_eq v 0) left (value 0))) + coming_by 1 of_packet after
      + value_sum of_flow (value v)) % 2 ^ 64
      ≡ (of_totals (totals_of (value 0)) + coming_by 1 of_packet before + value_sum of_flow left) % 2 ^ 64)
  Balance tables value before after Takes = coming_by 1 of_packet after ≡ coming_by 1 of_packet before
  Balance tables value before after (Looks v) = ⊥
  Balance tables value before after (HearsClock a) = ⊥
  Balance tables value before after (HearsDraw a) = ⊥
  Balance tables value before after (Sends p) = coming_by 1 of_packet after ≡ coming_by 1 of_packet before
  Balance tables value before after Ends = coming_by 1 of_packet after ≡ coming_by 1 of_packet before

  pub record IsBalanced (tables : ℕ) (value : ℕ → MonitorValue) (before after : Option Hand)
      (d : Effect MonitorValue) : Type 0 where
    pub balance : Balance tables value before after d
    pub noted : Noted after

  touch_balance : (tables : ℕ) (value : ℕ → MonitorValue) (p : Packet) (l : Local) (v : ℕ) (x : MonitorValue)
      → v < tables + 1 → value v ≡ x → Fits v x → Noted (hand_of p l)
      → ((l.at ≡ 0) × (v ≡ 1 + slice_index l.regs 0 % tables)) ⊎ (((l.at ≡ 1) × (v ≡ 0)) ⊎ ((l.at ≡ 2) × (v ≡ 0)))
      → IsBalanced tables value (hand_of p l) (hand_of p (touched x l).1) (Touches v (touched x l).0)
  touch_balance tables value p l zero (Totals t) low is fits noted (inl at) = absurd (omega arith)
  touch_balance tables value p l zero (Totals t) low is fits noted (inr (inl at)) =
      let a : of_totals (with_flow_packet (noted_length l) t) ≡ (of_totals t + of_length (noted_length l)) % 2 ^ 64 =
      counted.totals t (noted_length l) in
      let b : of_length (noted_length l) ≡ of_length p.original = ap of_length (noted (omega arith)) in
      record { balance = (low, rw (at.0, is) (omega arith)); noted = λ late. absurd (omega arith) }
  touch_balance tables value p l zero (Totals t) low is fits noted (inr (inr at)) =
      let a : of_totals (with_other_packet t) ≡ of_totals t = counted.other t in
      record { balance = (low, rw (at.0, is) (omega arith)); noted = λ late. absurd (omega arith) }
  touch_balance tables value p l zero (Table es) low is fits noted at = absurd fits
  touch_balance tables value p l (suc k) (Totals t) low is fits noted at = absurd fits
  touch_balance tables value p l (suc k) (Table es) low is fits noted (inl at) =
      let a : flows_sum of_flow (with_packet (noted_flow l) (noted_length l) es) % 2 ^ 64
      ≡ (flows_sum of_flow es + of_length (noted_length l)) % 2 ^ 64 = table_more (noted_flow l) (noted_length l) es in
      let b : of_length (noted_length l) ≡ of_length p.original = ap of_length (noted (omega arith)) in
      record {
        balance = (low, rw (at.0, is, not_eq (suc k) 0 (λ q. absurd (omega arith))) (omega arith));
        noted = λ early. noted (omega arith);
      }
  touch_balance tables value p l (suc k) (Table es) low is fits noted (inr (inl at)) = absurd (omega arith)
  touch_balance tables value p l (suc k) (Table es) low is fits noted (inr (inr at)) = absurd (omega arith)

  begun_owes : (p : Packet) (seen : Result Flow NotFlow) → coming_by 1 of_packet (hand_of p (begun seen p.original)) ≡ 0
  begun_owes p (Ok flow) = refl
  begun_owes p (Err answer) = refl

  -- each move of a thread is balanced
  pub move_balance : (tables : ℕ) (packets : List Packet) (value : ℕ → MonitorValue) (taken : ℕ) (a : Option ℕ)
      (hand : Option Hand) (after : Thread) (d : Effect MonitorValue) → 1 ≤ tables
      → ((v : ℕ) → v < tables + 1 → Fits v (value v)) → Noted hand
      → held_move (monitor_meaning tables) packets value taken a hand ≡ Moves after d
      → IsBalanced tables value hand after.hand d
  move_balance tables packets value taken a hand after d some fits noted e =
      by_move tables packets value taken a hand after d
      (λ before later u. Noted before → IsBalanced tables value before later u)
      (λ p input noted.
      record { balance = begun_owes p (viewed p.bytes p.original); noted = begun_notes p (viewed p.bytes p.original) })
      (λ p l v w noted.
      let low : v < tables + 1 = touches tables l.at (slice_index l.regs 0) v some w in
      touch_balance tables value p l v (value v) low refl (fits v low) noted
      (at_access tables l.at (slice_index l.regs 0) v w))
      (λ p l sent w noted.
      let at : l.at ≡ 3 = at_emit tables l.at (slice_index l.regs 0) w in
      record {
        balance = sym (comes_none 1 of_packet p l (λ k. absurd (omega arith)));
        noted = λ late. absurd (omega arith);
      })
      (λ p l w noted.
      record { balance = sym (comes_none 1 of_packet p l (at_end tables l.at (slice_index l.regs 0) w)); noted = tt })
      e noted
