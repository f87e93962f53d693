-- What was counted is what came, after each move of a run.
use Rattle.std.proofs.Common.{◌≡◌, ◌≢◌, ℕ, zero, suc, ◌+◌, ◌%◌, ◌^◌, ◌<◌, ◌≤◌, Bool, true, false, List, [], ◌∷◌, refl}
use Rattle.std.proofs.Common.{sym, ap, ◌∙◌, subst, ◌⊎◌, inl, inr, arith, Option, Some, None, Ok, Err, Result}
use Rattle.std.specs.Prelude.{slice_get, slice_index, take, nat_eq, cond, ◌&&◌, ◌==◌}
use Rattle.std.proofs.lemmas.Bool.{eqb-true}
use Rattle.std.proofs.lemmas.Nat.{mod_below}
use Rattle.std.proofs.lemmas.Bool.Decides.{nat_tests}
use Rattle.plain_text.specs.declared.packet.Packet.{Packet}
use Rattle.entry_order.specs.Stamps.{sum_below}
use Rattle.entry_order.proofs.Order.{is_or}
use Rattle.packet_headers.specs.declared.flow.Flow.{Flow}
use Rattle.packet_headers.specs.declared.flow.NotFlow.{NotFlow}
use Rattle.packet_headers.specs.Fields.{AreBytes}
use Rattle.packet_headers.specs.Steering.{steering_sum}
use Rattle.packet_headers.specs.View.{viewed, flow_of, failures}
use Rattle.packet_headers.proofs.FirstFailure.{pass_from_ok}
use Rattle.plain_machine.specs.declared.local.Local.{Local}
use Rattle.plain_machine.specs.declared.local.Move.TheVariants.{End}
use Rattle.plain_machine.specs.Machine.{Hand, Thread, Effect, Takes, Touches, Looks, HearsClock, HearsDraw, Sends, Ends}
use Rattle.plain_machine.specs.Machine.{Moves, held_move}
use Rattle.plain_machine.specs.History.{Step, act_of, left_by, thread_after, value_after, IsHistory}
use Rattle.plain_machine.proofs.Histories.{not_eq, is_eq}
use Rattle.plain_machine.proofs.Bounds.{values_fit}
use Rattle.monitor_box.specs.declared.counts.FlowKey.{FlowKey}
use Rattle.monitor_box.specs.declared.counts.FlowCount.{FlowCount}
use Rattle.monitor_box.specs.declared.counts.Totals.{Totals as TotalCounts}
use Rattle.monitor_box.specs.declared.value.MonitorValue.{MonitorValue}
use Rattle.monitor_box.specs.declared.value.MonitorValue.TheVariants.{Totals, Table}
use Rattle.monitor_box.specs.Flows.{Flows, same_flow, no_packets, with_packet, IsCount, AreFlows}
use Rattle.monitor_box.specs.Monitor.{next_move, begun, noted_flow, noted_length, touched, fresh_value, monitor_meaning}
use Rattle.monitor_box.specs.Monitor.{Fits}
use Rattle.monitor_box.specs.Lawful.{touches, monitor_lawful}
use Rattle.monitor_box.specs.FlowStanding.{as_flow}
use Rattle.monitor_box.specs.Sums.{totals_of, IsAtRest}
use Rattle.monitor_box.specs.Arrivals.{key_of, flow_of_packet, if_same, share, other_share, shares, taken_sum, count_in}
use Rattle.monitor_box.specs.Arrivals.{flows_in, count_of, others_of, Counts, CountsFlow, CountsFlowAtRest}
use Rattle.monitor_box.specs.Arrivals.{CountsOthers, CountsOthersAtRest}
use Rattle.monitor_box.specs.Coming.{coming_by, coming_sum}
use Rattle.monitor_box.proofs.ChangedSums.{one_changes, sum_of_none}
use Rattle.monitor_box.proofs.ComingSums.{comes_none, coming_step, comes_nothing}
use Rattle.monitor_box.proofs.ThreadMoves.{hand_of, at_access, at_emit, by_move, moved_taken, taken_by}
use Rattle.monitor_box.proofs.OneMoveTotals.{IsCounted}
use Rattle.monitor_box.proofs.FlowTables.{IsWhole, whole}

-- A number of packets, which are counted as they come from a place, whatever is counted of the variables.
module _ (tables : ℕ) (number : Packet → ℕ) (place : ℕ) (count : (ℕ → MonitorValue) → ℕ) where
  -- one more packet taken
  shares_taken : (xs : List Packet) (n : ℕ) (p : Packet) → slice_get xs n ≡ Some p
      → shares number (take (suc n) xs) ≡ shares number (take n xs) + number p
  shares_taken [] n p e = absurd (cc)
  shares_taken (x ∷ xs) zero p e = let q : x ≡ p = cc in rw q (omega arith)
  shares_taken (x ∷ xs) (suc n) p e = let a = shares_taken xs n p e in omega arith

  -- What a move adds to what is counted, taken and on its way alike, where the variables have these values and the
  -- thread took this number of its inputs.
  abbrev pub Adds : List Packet → ℕ → (ℕ → MonitorValue) → Option Hand → Option Hand → Effect MonitorValue → Type 0
  Adds packets taken value before after Takes =
      coming_by place number after + shares number (take taken packets)
      ≡ coming_by place number before + shares number (take (suc taken) packets)
  Adds packets taken value before after (Touches v left) =
      (count (λ w. cond (nat_eq v w) left (value w)) + coming_by place number after) % 2 ^ 64
      ≡ (count value + coming_by place number before) % 2 ^ 64
  Adds packets taken value before after (Looks v) = ⊥
  Adds packets taken value before after (HearsClock a) = ⊥
  Adds packets taken value before after (HearsDraw a) = ⊥
  Adds packets taken value before after (Sends p) = coming_by place number after ≡ coming_by place number before
  Adds packets taken value before after Ends = coming_by place number after ≡ coming_by place number before

  take_adds : (packets : List Packet) (taken : ℕ) (value : ℕ → MonitorValue) (p : Packet) (l : Local)
      → slice_get packets taken ≡ Some p → coming_by place number (hand_of p l) ≡ number p
      → Adds packets taken value None (hand_of p l) Takes
  take_adds packets taken value p l input comes = let a = shares_taken packets taken p input in omega arith

  -- what was taken, after a move of one thread
  taken_step : (threads t : ℕ) (inputs : ℕ → List Packet) (after : Thread) (thread : ℕ → Thread) → t < threads
      → taken_sum number threads inputs (λ u. cond (nat_eq t u) after (thread u))
      + shares number (take (thread t).taken (inputs t))
      ≡ taken_sum number threads inputs thread + shares number (take after.taken (inputs t))
  taken_step threads t inputs after thread low =
      let f : ℕ → ℕ = λ u. shares number (take (cond (nat_eq t u) after (thread u)).taken (inputs u)) in
      let g : ℕ → ℕ = λ u. shares number (take (thread u).taken (inputs u)) in
      let one : sum_below threads f + g t ≡ sum_below threads g + f t =
      one_changes threads t f g low (λ u h. rw (not_eq t u (λ k. h (sym k))) refl) in
      let new : f t ≡ shares number (take after.taken (inputs t)) = rw (is_eq t t refl) refl in
      omega arith

  module _ (threads t : ℕ) (inputs : ℕ → List Packet) (earlier : List (Step MonitorValue)) (value : ℕ → MonitorValue)
      (after : Thread) (low : t < threads) where
    abbrev before : Thread
    before = thread_after earlier t

    same_taken : after.taken ≡ before.taken
        → shares number (take after.taken (inputs t)) ≡ shares number (take before.taken (inputs t))
    same_taken e = ap (λ n. shares number (take n (inputs t))) e

    effect_counts : (d : Effect MonitorValue) → after.taken ≡ taken_by d before.taken
        → Adds (inputs t) before.taken value before.hand after.hand d
        → Counts number place count threads inputs value (thread_after earlier)
        → Counts number place count threads inputs (λ v. left_by v (act_of t earlier after.taken d) (value v))
        (λ u. cond (nat_eq t u) after (thread_after earlier u))
    effect_counts Takes taken adds old =
        let a = coming_step place number threads t after (thread_after earlier) low in
        let b = taken_step threads t inputs after (thread_after earlier) low in
        let c : shares number (take after.taken (inputs t)) ≡ shares number (take (suc before.taken) (inputs t)) =
        ap (λ n. shares number (take n (inputs t))) taken in
        omega arith
    effect_counts (Touches v left) taken adds old =
        let a = coming_step place number threads t after (thread_after earlier) low in
        let b = taken_step threads t inputs after (thread_after earlier) low in
        let c = same_taken taken in
        omega arith
    effect_counts (Looks v) taken adds old = absurd adds
    effect_counts (HearsClock x) taken adds old = absurd adds
    effect_counts (HearsDraw x) taken adds old = absurd adds
    effect_counts (Sends p) taken adds old =
        let a = coming_step place number threads t after (thread_after earlier) low in
        let b = taken_step threads t inputs after (thread_after earlier) low in
        let c = same_taken taken in
        omega arith
    effect_counts Ends taken adds old =
        let a = coming_step place number threads t after (thread_after earlier) low in
        let b = taken_step threads t inputs after (thread_after earlier) low in
        let c = same_taken taken in
        omega arith

  -- So it is after each move of a run, where each move of a thread adds alike and keeps what is known of the packet in
  -- hand.
  module _ (Known : Option Hand → Type 0) (nothing : Known None) (Input : List Packet → Type 0)
      (fresh : count fresh_value ≡ 0)
      (adds : (packets : List Packet) (value : ℕ → MonitorValue) (taken : ℕ) (a : Option ℕ) (hand : Option Hand)
      (after : Thread) (d : Effect MonitorValue) → ((v : ℕ) → v < tables + 1 → Fits v (value v)) → Input packets
      → Known hand → held_move (monitor_meaning tables) packets value taken a hand ≡ Moves after d
      → Known after.hand × Adds packets taken value hand after.hand d) where
    pub run_counts : (threads : ℕ) (inputs : ℕ → List Packet) (steps : List (Step MonitorValue)) → 1 ≤ tables
        → tables ≤ 64 → ((t : ℕ) → Input (inputs t)) → IsHistory (monitor_meaning tables) inputs threads steps
        → ((t : ℕ) → Known (thread_after steps t).hand)
        × Counts number place count threads inputs (value_after (monitor_meaning tables) steps) (thread_after steps)
    run_counts threads inputs [] some few input h =
        let a : coming_sum place number threads (thread_after {V = MonitorValue} []) ≡ 0 =
        sum_of_none threads _ (λ t low. refl) in
        let b : taken_sum number threads inputs (thread_after {V = MonitorValue} []) ≡ 0 =
        sum_of_none threads _ (λ t low. refl) in
        (λ t. nothing, omega (arith, fresh))
    run_counts threads inputs (x ∷ earlier) some few input h =
        let old = run_counts threads inputs earlier some few input h.1 in
        let value : ℕ → MonitorValue = value_after (monitor_meaning tables) earlier in
        let before : Thread = thread_after earlier x.thread in
        let b = adds (inputs x.thread) value before.taken h.0.1 before.hand x.after h.0.2
        (values_fit (monitor_meaning tables) Fits (monitor_lawful tables some few) inputs threads earlier h.1)
        (input x.thread) (old.0 x.thread) h.0.3 in
        let taken = moved_taken tables (inputs x.thread) value before.taken h.0.1 x.after h.0.2 before.hand h.0.3 in (
          λ t. known_step t old.0 b.0 (is_or x.thread t),
          rw h.0.4 (effect_counts threads x.thread inputs earlier value x.after h.0.0 h.0.2 taken b.1 old.1),
        )
      where
        known_step : (t : ℕ) → ((u : ℕ) → Known (thread_after earlier u).hand) → Known x.after.hand
            → (x.thread ≡ t) ⊎ (x.thread ≢ t) → Known (thread_after (x ∷ earlier) t).hand
        known_step t before after (inl e) = rw (is_eq x.thread t e) after
        known_step t before after (inr e) = rw (not_eq x.thread t e) (before t)

-- Flows are the same where their fields are

and_left : (a b : Bool) → (a && b) ≡ true → a ≡ true
and_left true b e = refl
and_left false b e = absurd (cc)

and_right : (a b : Bool) → (a && b) ≡ true → b ≡ true
and_right true b e = e
and_right false b e = absurd (cc)

same_is : (a b : FlowKey) → same_flow a b ≡ true → a ≡ b
same_is a b e =
    let four = and_left _ _ e in
    let three = and_left _ _ four in
    let two = and_left _ _ three in
    let p : a.protocol ≡ b.protocol = eqb-true _ _ (and_left _ _ two) in
    let q : a.source ≡ b.source = eqb-true _ _ (and_right _ _ two) in
    let r : a.source_port ≡ b.source_port = eqb-true _ _ (and_right _ _ three) in
    let s : a.dest ≡ b.dest = eqb-true _ _ (and_right _ _ four) in
    let u : a.dest_port ≡ b.dest_port = eqb-true _ _ (and_right _ _ e) in
    λ i. record { protocol = p i; source = q i; source_port = r i; dest = s i; dest_port = u i }

-- each packet is of bytes
abbrev HaveBytesIn : List Packet → Type 0
HaveBytesIn packets = (k : ℕ) (p : Packet) → slice_get packets k ≡ Some p → AreBytes p.bytes

-- a packet on its way to its flow's table has noted its flow, the sum of it and its length on the wire
record IsNoted (p : Packet) (l : Local) : Type 0 where
  flow : flow_of_packet p ≡ Some (noted_flow l)
  sum : slice_index l.regs 0 ≡ steering_sum (as_flow (noted_flow l))
  length : noted_length l ≡ p.original

abbrev Seen : Option Hand → Type 0
Seen None = Unit {0}
Seen (Some h) = h.place.at ≡ 0 → IsNoted h.packet h.place

begun_seen : (p : Packet) → AreBytes p.bytes → (seen : Result Flow NotFlow) → viewed p.bytes p.original ≡ seen
    → Seen (hand_of p (begun seen p.original))
begun_seen p bytes (Err answer) is = λ at. absurd (omega arith)
begun_seen p bytes (Ok flow) is =
    let same : flow_of p.bytes ≡ flow = (pass_from_ok (failures p.bytes p.original) (flow_of p.bytes) flow is).1 in
    let w : IsWhole flow = subst IsWhole same (whole p.bytes bytes) in
    λ at. record { flow = ap key_of is ∙ ap Some (noted flow w p.original); sum = omega arith; length = refl }
  where
    noted : (flow : Flow) → IsWhole flow → (n : ℕ) → record {
      protocol = flow.protocol;
      source = flow.source;
      source_port = flow.source_port;
      dest = flow.dest;
      dest_port = flow.dest_port;
    }
        ≡ noted_flow (begun (Ok flow) n)
    noted flow w n =
        let p : flow.protocol ≡ flow.protocol % 2 ^ 8 = omega (arith, w.protocol) in
        let q : flow.source ≡ flow.source % 2 ^ 32 = omega (arith, w.source) in
        let r : flow.source_port ≡ flow.source_port % 2 ^ 16 = omega (arith, w.source_port) in
        let s : flow.dest ≡ flow.dest % 2 ^ 32 = omega (arith, w.dest) in
        let u : flow.dest_port ≡ flow.dest_port % 2 ^ 16 = omega (arith, w.dest_port) in
        λ i. record { protocol = p i; source = q i; source_port = r i; dest = s i; dest_port = u i }

at_end_past : (tables at sum : ℕ) → next_move tables at sum ≡ End → (at ≢ 0) × (at ≢ 2)
at_end_past tables zero sum e = absurd (grind arith)
at_end_past tables (suc zero) sum e = absurd (grind arith)
at_end_past tables (suc (suc zero)) sum e = absurd (grind arith)
at_end_past tables (suc (suc (suc at))) sum e = (λ k. absurd (omega arith), λ k. absurd (omega arith))

-- The packets of a flow come from place 0 to its table.
module _ (of_totals : TotalCounts → ℕ) (of_length : ℕ → ℕ) (of_flow : FlowCount → ℕ)
    (counted : IsCounted of_totals of_length of_flow) (flow : FlowKey) (tables : ℕ) where
  abbrev number : Packet → ℕ
  number = share (λ p. of_length p.original) flow

  abbrev count : (ℕ → MonitorValue) → ℕ
  count = count_of of_flow flow tables

  abbrev own : ℕ
  own = 1 + steering_sum (as_flow flow) % tables

  abbrev FlowAdds : List Packet → ℕ → (ℕ → MonitorValue) → Option Hand → Option Hand → Effect MonitorValue → Type 0
  FlowAdds = Adds tables number 0 count

  -- a packet of a flow adds its number to that flow's count, and to no other
  count_more : (key : FlowKey) (n : ℕ) (es : Flows)
      → count_in of_flow flow (with_packet key n es) % 2 ^ 64
      ≡ (count_in of_flow flow es + if_same flow (Some key) (of_length n)) % 2 ^ 64
  count_more key n [] = by (same_flow flow key) refl
    where
      by : (b : Bool) → same_flow flow key ≡ b
          → count_in of_flow flow (with_packet key n []) % 2 ^ 64 ≡ (0 + if_same flow (Some key) (of_length n)) % 2 ^ 64
      by true q = let a = counted.flow no_packets n in let b = counted.no_flow in rw q (omega arith)
      by false q = rw q refl
  count_more key n (e ∷ es) =
      by (same_flow key e.0) refl (same_flow flow e.0) refl (same_flow flow key) refl (count_more key n es)
    where
      by : (b : Bool) → same_flow key e.0 ≡ b → (c : Bool) → same_flow flow e.0 ≡ c → (d : Bool)
          → same_flow flow key ≡ d
          → count_in of_flow flow (with_packet key n es) % 2 ^ 64
          ≡ (count_in of_flow flow es + if_same flow (Some key) (of_length n)) % 2 ^ 64
          → count_in of_flow flow (with_packet key n (e ∷ es)) % 2 ^ 64
          ≡ (count_in of_flow flow (e ∷ es) + if_same flow (Some key) (of_length n)) % 2 ^ 64
      by true q true r true s behind = let a = counted.flow e.1 n in rw (q, r, s) (omega arith)
      by true q false r false s behind = rw (q, r, s) (omega arith)
      by true q true r false s behind =
          let k : true ≡ false = sym r ∙ ap (same_flow flow) (sym (same_is key e.0 q)) ∙ s in absurd (cc)
      by true q false r true s behind =
          let k : false ≡ true = sym r ∙ ap (same_flow flow) (sym (same_is key e.0 q)) ∙ s in absurd (cc)
      by false q true r true s behind =
          let k : false ≡ true = sym q ∙ ap (λ (f : FlowKey). same_flow f e.0) (sym (same_is flow key s)) ∙ r in
          absurd (cc)
      by false q true r false s behind = rw (q, r, s) (omega arith)
      by false q false r d s behind = rw (q, r) behind

  begun_comes : (p : Packet) (seen : Result Flow NotFlow) → viewed p.bytes p.original ≡ seen
      → coming_by 0 number (hand_of p (begun seen p.original)) ≡ number p
  begun_comes p (Ok key) is = refl
  begun_comes p (Err answer) is = rw is refl

  -- a touch of another variable than the flow's table, by a packet that is not on its way
  passes : (v taken : ℕ) (packets : List Packet) (value : ℕ → MonitorValue) (left : MonitorValue) (p : Packet)
      (l k : Local) → v ≢ own → l.at ≢ 0 → k.at ≢ 0
      → FlowAdds packets taken value (hand_of p l) (hand_of p k) (Touches v left)
  passes v taken packets value left p l k other before after =
      let a = comes_none 0 number p l before in
      let b = comes_none 0 number p k after in
      rw (not_eq v own other) (omega arith)

  -- a touch of a table by a packet of a flow
  table_adds : (v taken : ℕ) (packets : List Packet) (value : ℕ → MonitorValue) (es : Flows) (p : Packet) (l : Local)
      → value v ≡ Table es → l.at ≡ 0 → v ≡ 1 + slice_index l.regs 0 % tables → IsNoted p l
      → FlowAdds packets taken value (hand_of p l) (hand_of p (touched (Table es) l).1)
      (Touches v (touched (Table es) l).0)
  table_adds v taken packets value es p l is at place noted = by (is_or v own)
    where
      key : FlowKey
      key = noted_flow l

      there : v ≡ 1 + steering_sum (as_flow key) % tables
      there = place ∙ ap (λ n. 1 + n % tables) noted.sum

      comes : coming_by 0 number (hand_of p l) ≡ if_same flow (Some key) (of_length (noted_length l))
      comes = rw (at, noted.flow, noted.length) refl

      more : count_in of_flow flow (with_packet key (noted_length l) es) % 2 ^ 64
          ≡ (count_in of_flow flow es + if_same flow (Some key) (of_length (noted_length l))) % 2 ^ 64
      more = count_more key (noted_length l) es

      none : v ≢ own → (b : Bool) → same_flow flow key ≡ b → if_same flow (Some key) (of_length (noted_length l)) ≡ 0
      none other true s = absurd
          (other (there ∙ ap (λ (f : FlowKey). 1 + steering_sum (as_flow f) % tables) (sym (same_is flow key s))))
      none other false s = rw s refl

      by : (v ≡ own) ⊎ (v ≢ own)
          → FlowAdds packets taken value (hand_of p l) (hand_of p (touched (Table es) l).1)
          (Touches v (touched (Table es) l).0)
      by (inl e) =
          let here : value own ≡ Table es = ap value (sym e) ∙ is in
          rw (is_eq v own e, here, comes) (omega (arith, more))
      by (inr e) =
          let nothing = none e (same_flow flow key) refl in
          rw (not_eq v own e, comes, nothing) refl

  touch_adds : (taken : ℕ) (packets : List Packet) (value : ℕ → MonitorValue) (p : Packet) (l : Local) (v : ℕ)
      (x : MonitorValue) → value v ≡ x → Fits v x → Seen (hand_of p l)
      → ((l.at ≡ 0) × (v ≡ 1 + slice_index l.regs 0 % tables)) ⊎ (((l.at ≡ 1) × (v ≡ 0)) ⊎ ((l.at ≡ 2) × (v ≡ 0)))
      → Seen (hand_of p (touched x l).1)
      × FlowAdds packets taken value (hand_of p l) (hand_of p (touched x l).1) (Touches v (touched x l).0)
  touch_adds taken packets value p l zero (Totals t) is fits seen (inl at) = absurd (omega arith)
  touch_adds taken packets value p l zero (Totals t) is fits seen (inr (inl at)) = (
    λ k. absurd (omega arith),
    passes 0 taken packets value _ p l (record l { at = 3 }) (λ e. absurd (omega arith)) (λ e. absurd (omega arith))
        (λ e. absurd (omega arith)),
  )
  touch_adds taken packets value p l zero (Totals t) is fits seen (inr (inr at)) = (
    λ k. absurd (omega arith),
    passes 0 taken packets value _ p l (record l { at = 3 }) (λ e. absurd (omega arith)) (λ e. absurd (omega arith))
        (λ e. absurd (omega arith)),
  )
  touch_adds taken packets value p l zero (Table es) is fits seen at = absurd fits
  touch_adds taken packets value p l (suc k) (Totals t) is fits seen at = absurd fits
  touch_adds taken packets value p l (suc k) (Table es) is fits seen (inl at) =
      (λ n. absurd (omega arith), table_adds (suc k) taken packets value es p l is at.0 at.1 (seen at.0))
  touch_adds taken packets value p l (suc k) (Table es) is fits seen (inr (inl at)) = absurd (omega arith)
  touch_adds taken packets value p l (suc k) (Table es) is fits seen (inr (inr at)) = absurd (omega arith)

  flow_adds : 1 ≤ tables → (packets : List Packet) (value : ℕ → MonitorValue) (taken : ℕ) (a : Option ℕ)
      (hand : Option Hand) (after : Thread) (d : Effect MonitorValue) → ((v : ℕ) → v < tables + 1 → Fits v (value v))
      → HaveBytesIn packets → Seen hand → held_move (monitor_meaning tables) packets value taken a hand ≡ Moves after d
      → Seen after.hand × FlowAdds packets taken value hand after.hand d
  flow_adds some packets value taken a hand after d fits bytes seen e =
      by_move tables packets value taken a hand after d
      (λ before later u. Seen before → Seen later × FlowAdds packets taken value before later u) (λ p input seen. (
        begun_seen p (bytes taken p input) (viewed p.bytes p.original) refl,
        take_adds tables number 0 count packets taken value p (begun (viewed p.bytes p.original) p.original) input
            (begun_comes p (viewed p.bytes p.original) refl),
      ))
      (λ p l v w seen.
      let low : v < tables + 1 = touches tables l.at (slice_index l.regs 0) v some w in
      touch_adds taken packets value p l v (value v) refl (fits v low) seen
      (at_access tables l.at (slice_index l.regs 0) v w))
      (λ p l sent w seen.
      let at : l.at ≡ 3 = at_emit tables l.at (slice_index l.regs 0) w in
      (λ k. absurd (omega arith), sym (comes_none 0 number p l (λ k. absurd (omega arith)))))
      (λ p l w seen. (tt, sym (comes_none 0 number p l (at_end_past tables l.at (slice_index l.regs 0) w).0))) e seen

  fresh_count : (v : ℕ) → count_in of_flow flow (flows_in (fresh_value v)) ≡ 0
  fresh_count zero = refl
  fresh_count (suc v) = refl

  small_count : (es : Flows) → ((c : FlowCount) → IsCount c → of_flow c < 2 ^ 64) → AreFlows es
      → count_in of_flow flow es < 2 ^ 64
  small_count [] small are = omega arith
  small_count (e ∷ es) small are = by (same_flow flow e.0) refl (small_count es small are.2)
    where
      by : (b : Bool) → same_flow flow e.0 ≡ b → count_in of_flow flow es < 2 ^ 64
          → count_in of_flow flow (e ∷ es) < 2 ^ 64
      by true q behind = rw q (small e.1 are.0)
      by false q behind = rw q behind

  small_value : (v : ℕ) (x : MonitorValue) → ((c : FlowCount) → IsCount c → of_flow c < 2 ^ 64) → Fits v x
      → count_in of_flow flow (flows_in x) < 2 ^ 64
  small_value zero (Totals t) small fits = omega arith
  small_value zero (Table es) small fits = absurd fits
  small_value (suc v) (Totals t) small fits = absurd fits
  small_value (suc v) (Table es) small fits = small_count es small fits

pub counts_flow : (of_totals : TotalCounts → ℕ) (of_length : ℕ → ℕ) (of_flow : FlowCount → ℕ)
    → IsCounted of_totals of_length of_flow → CountsFlow (λ p. of_length p.original) of_flow
counts_flow of_totals of_length of_flow counted tables threads inputs steps some few bytes h flow =
    (run_counts tables (share (λ p. of_length p.original) flow) 0 (count_of of_flow flow tables) Seen tt HaveBytesIn
    (fresh_count of_totals of_length of_flow counted flow tables (1 + steering_sum (as_flow flow) % tables))
    (flow_adds of_totals of_length of_flow counted flow tables some) threads inputs steps some few bytes h).1

pub counts_flow_at_rest : (of_totals : TotalCounts → ℕ) (of_length : ℕ → ℕ) (of_flow : FlowCount → ℕ)
    → IsCounted of_totals of_length of_flow → ((c : FlowCount) → IsCount c → of_flow c < 2 ^ 64)
    → CountsFlowAtRest (λ p. of_length p.original) of_flow
counts_flow_at_rest of_totals of_length of_flow counted small tables threads inputs steps some few bytes h rest flow =
    let own : ℕ = 1 + steering_sum (as_flow flow) % tables in
    let a = comes_nothing 0 (share (λ p. of_length p.original) flow) threads steps rest in
    let b = counts_flow of_totals of_length of_flow counted tables threads inputs steps some few bytes h flow in
    let low : own < tables + 1 = in_range (steering_sum (as_flow flow)) tables some in
    let c =
    small_value of_totals of_length of_flow counted flow tables own (value_after (monitor_meaning tables) steps own)
    small (values_fit (monitor_meaning tables) Fits (monitor_lawful tables some few) inputs threads steps h own low) in
    omega arith
  where
    in_range : (sum tables : ℕ) → 1 ≤ tables → 1 + sum % tables < tables + 1
    in_range sum tables some = let a : sum % tables < tables = mod_below sum tables (omega arith) in omega arith

-- Packets that are no flow come from place 2 to the totals.

-- what is no flow begins there
abbrev Other : Option Hand → Type 0
Other None = Unit {0}
Other (Some h) = h.place.at ≡ 2 → flow_of_packet h.packet ≡ None

begun_other : (p : Packet) (seen : Result Flow NotFlow) → viewed p.bytes p.original ≡ seen
    → Other (hand_of p (begun seen p.original))
    × (coming_by 2 other_share (hand_of p (begun seen p.original)) ≡ other_share p)
begun_other p (Ok flow) is = (λ at. absurd (omega arith), rw is refl)
begun_other p (Err answer) is = (λ at. ap key_of is, refl)

module _ (tables : ℕ) where
  abbrev OtherAdds : List Packet → ℕ → (ℕ → MonitorValue) → Option Hand → Option Hand → Effect MonitorValue → Type 0
  OtherAdds = Adds tables other_share 2 others_of

  touch_other : (taken : ℕ) (packets : List Packet) (value : ℕ → MonitorValue) (p : Packet) (l : Local) (v : ℕ)
      (x : MonitorValue) → value v ≡ x → Fits v x → Other (hand_of p l)
      → ((l.at ≡ 0) × (v ≡ 1 + slice_index l.regs 0 % tables)) ⊎ (((l.at ≡ 1) × (v ≡ 0)) ⊎ ((l.at ≡ 2) × (v ≡ 0)))
      → Other (hand_of p (touched x l).1)
      × OtherAdds packets taken value (hand_of p l) (hand_of p (touched x l).1) (Touches v (touched x l).0)
  touch_other taken packets value p l zero (Totals t) is fits other (inl at) = absurd (omega arith)
  touch_other taken packets value p l zero (Totals t) is fits other (inr (inl at)) =
      let before : others_of value ≡ t.other = ap (λ x. (totals_of x).other) is in
      (λ k. absurd (omega arith), rw at.0 (omega arith))
  touch_other taken packets value p l zero (Totals t) is fits other (inr (inr at)) =
      let before : others_of value ≡ t.other = ap (λ x. (totals_of x).other) is in
      (λ k. absurd (omega arith), rw (at.0, other at.0) (omega arith))
  touch_other taken packets value p l zero (Table es) is fits other at = absurd fits
  touch_other taken packets value p l (suc k) (Totals t) is fits other at = absurd fits
  touch_other taken packets value p l (suc k) (Table es) is fits other (inl at) =
      let left : MonitorValue = (touched (Table es) l).0 in
      let off : nat_eq (suc k) 0 ≡ false = not_eq (suc k) 0 (λ q. absurd (omega arith)) in
      let before : (totals_of (cond (nat_eq (suc k) 0) left (value 0))).other ≡ others_of value =
      ap (λ (b : Bool). (totals_of (cond b left (value 0))).other) off in
      (λ n. absurd (omega arith), rw at.0 (omega arith))
  touch_other taken packets value p l (suc k) (Table es) is fits other (inr (inl at)) = absurd (omega arith)
  touch_other taken packets value p l (suc k) (Table es) is fits other (inr (inr at)) = absurd (omega arith)

  other_adds : 1 ≤ tables → (packets : List Packet) (value : ℕ → MonitorValue) (taken : ℕ) (a : Option ℕ)
      (hand : Option Hand) (after : Thread) (d : Effect MonitorValue) → ((v : ℕ) → v < tables + 1 → Fits v (value v))
      → Unit {0} → Other hand → held_move (monitor_meaning tables) packets value taken a hand ≡ Moves after d
      → Other after.hand × OtherAdds packets taken value hand after.hand d
  other_adds some packets value taken a hand after d fits any other e =
      by_move tables packets value taken a hand after d
      (λ before later u. Other before → Other later × OtherAdds packets taken value before later u)
      (λ p input other.
      let b = begun_other p (viewed p.bytes p.original) refl in (
        b.0,
        take_adds tables other_share 2 others_of packets taken value p (begun (viewed p.bytes p.original) p.original)
            input b.1,
      ))
      (λ p l v w other.
      let low : v < tables + 1 = touches tables l.at (slice_index l.regs 0) v some w in
      touch_other taken packets value p l v (value v) refl (fits v low) other
      (at_access tables l.at (slice_index l.regs 0) v w))
      (λ p l sent w other.
      let at : l.at ≡ 3 = at_emit tables l.at (slice_index l.regs 0) w in
      (λ k. absurd (omega arith), sym (comes_none 2 other_share p l (λ k. absurd (omega arith)))))
      (λ p l w other. (tt, sym (comes_none 2 other_share p l (at_end_past tables l.at (slice_index l.regs 0) w).1)))
      e other

pub counts_others : CountsOthers
counts_others tables threads inputs steps some few h =
    (run_counts tables other_share 2 others_of Other tt (λ packets. Unit {0}) refl (other_adds tables some) threads
    inputs steps some few (λ t. tt) h).1

pub counts_others_at_rest : CountsOthersAtRest
counts_others_at_rest tables threads inputs steps some few h rest =
    let a = comes_nothing 2 other_share threads steps rest in
    let b = counts_others tables threads inputs steps some few h in
    let c = small (value_after (monitor_meaning tables) steps 0) (values_fit (monitor_meaning tables) Fits
    (monitor_lawful tables some few) inputs threads steps h 0 (omega arith)) in
    omega arith
  where
    small : (x : MonitorValue) → Fits 0 x → (totals_of x).other < 2 ^ 64
    small (Totals t) fits = fits.2
    small (Table es) fits = absurd fits
