-- Each packet that a run took went out, was counted as dropped, or is in hand.
use Rattle.std.proofs.Common.{◌≡◌, ℕ, zero, suc, ◌+◌, ◌-◌, ◌%◌, ◌^◌, ◌<◌, Bool, true, false, List, [], ◌∷◌}
use Rattle.std.proofs.Common.{length, refl, sym, ap, ◌∙◌, subst, inl, inr, arith, length-set, Option, Some, None}
use Rattle.std.specs.Prelude.{nat_eq, nat_lt, cond, not, sum, slice_index, slice_set}
use Rattle.std.proofs.lemmas.Bool.Decides.{nat_tests}
use Rattle.std.proofs.lemmas.List.Sums.{sum_by-set}
use Rattle.plain_text.specs.declared.packet.Packet.{Packet}
use Rattle.entry_order.specs.Stamps.{sum_below}
use Rattle.plain_machine.specs.Machine.{Hand, Thread, Effect, Takes, Touches, Looks, HearsClock, HearsDraw, Sends}
use Rattle.plain_machine.specs.Machine.{Ends as EndsIt}
use Rattle.plain_machine.specs.History.{Step, act_of, left_by, thread_after, value_after, IsHistory}
use Rattle.plain_machine.proofs.Histories.{not_eq, is_eq}
use Rattle.plain_machine.proofs.Bounds.{values_fit}
use Rattle.nat_tables.specs.Ports.{one_if}
use Rattle.flow_boxes.specs.declared.drops.Drops.{Drops}
use Rattle.flow_boxes.specs.Drops.{with_drop}
use Rattle.flow_boxes.proofs.Summing.{one_changes, sum_of_none}
use Rattle.balancer_box.specs.declared.place.Place.{Place}
use Rattle.balancer_box.specs.declared.place.Place.TheVariants.{CountsDrop, Ends}
use Rattle.balancer_box.specs.declared.place.Noted.{Noted}
use Rattle.balancer_box.specs.declared.place.Goes.{Goes}
use Rattle.balancer_box.specs.declared.value.BalancerValue.{BalancerValue}
use Rattle.balancer_box.specs.declared.value.BalancerValue.TheVariants.{Dropped, Loaded, Connected}
use Rattle.balancer_box.specs.Places.{place_numbered}
use Rattle.balancer_box.specs.Settings.{Settings, AreSettings}
use Rattle.balancer_box.specs.Balancer.{goes, touched, told, local_at, noted_by, balancer_meaning}
use Rattle.balancer_box.specs.Balancer.{Fits}
use Rattle.balancer_box.specs.Noting.{place_again}
use Rattle.balancer_box.specs.Lawful.{balancer_lawful}
use Rattle.balancer_box.proofs.Making.{Made, made}
use Rattle.balancer_runs.specs.Packets.{taken_by, packets_taken, sent_by, packets_sent, drop_counts, packets_dropped}
use Rattle.balancer_runs.specs.Packets.{outcomes_by, outcomes, waits, packets_waiting, NoPacketVanishes}
use Rattle.balancer_runs.specs.Packets.{NoPacketVanishesAtRest}
use Rattle.balancer_runs.proofs.Settling.{is_over, IsReason, IsPlaced, Placed, IsCounted, touch_of, clock_on, at_send}
use Rattle.balancer_runs.proofs.Settling.{at_end, placed_step, run_placed, waits_at}

-- One drop more

pub counted_once : (reason : ℕ) (d : Drops) → IsReason reason
    → (with_drop reason d).counts
    ≡ slice_set d.counts (reason - 1) ((slice_index d.counts (reason - 1) + 1) % 2 ^ 64)
counted_once reason d is =
    let some : nat_lt 0 reason ≡ true = grind (arith, nat_tests) in
    let few : nat_lt reason 11 ≡ true = grind (arith, nat_tests) in
    rw (some, few) refl

one_more : (counts : List ℕ) (at : ℕ) → at < length counts
    → sum (slice_set counts at ((slice_index counts at + 1) % 2 ^ 64)) % 2 ^ 64 ≡ (sum counts + 1) % 2 ^ 64
one_more counts at low =
    let k : sum (slice_set counts at ((slice_index counts at + 1) % 2 ^ 64)) + slice_index counts at
    ≡ sum counts + (slice_index counts at + 1) % 2 ^ 64 =
    sum_by-set (λ x. x) counts at ((slice_index counts at + 1) % 2 ^ 64) 0 low in
    omega arith

-- variable 0 has a count for each of ten reasons
abbrev pub HasTen : BalancerValue → Type 0
HasTen (Dropped d) = length d.counts ≡ 10
HasTen (Loaded loads) = ⊥
HasTen (Connected es) = ⊥

drop_more : (c : Option ℕ) (x : BalancerValue) (n : Noted) → HasTen x → IsReason n.reason
    → HasTen (touched c CountsDrop x n).0
    × (sum (drop_counts (touched c CountsDrop x n).0) % 2 ^ 64 ≡ (sum (drop_counts x) + 1) % 2 ^ 64)
drop_more c (Dropped d) n ten is =
    let same = counted_once n.reason d is in
    let at : n.reason - 1 < length d.counts = omega (arith, is.0, is.1) in (
      ap length same ∙ length-set d.counts (n.reason - 1) ((slice_index d.counts (n.reason - 1) + 1) % 2 ^ 64) ∙ ten,
      ap (λ (c : List ℕ). sum c % 2 ^ 64) same ∙ one_more d.counts (n.reason - 1) at,
    )
drop_more c (Loaded loads) n ten is = absurd ten
drop_more c (Connected es) n ten is = absurd ten

-- what a step changes: packets taken, sent and dropped, and those that wait
module _ (s : Settings) (is : AreSettings s) (threads t : ℕ) (low : t < threads) (packets : List Packet) (taken : ℕ)
    (after : Thread) (earlier : List (Step BalancerValue)) (ten : HasTen (value_after (balancer_meaning s) earlier 0))
    (fits : (v : ℕ) → v < 2 + s.shards → Fits s v (value_after (balancer_meaning s) earlier v)) where
  abbrev value : ℕ → BalancerValue
  value = value_after (balancer_meaning s) earlier

  abbrev before : Thread
  before = thread_after earlier t

  abbrev had : ℕ
  had = outcomes t earlier

  abbrev waiting_then : (ℕ → ℕ) → ℕ
  waiting_then now = sum_below threads (λ u.
      waits (cond (nat_eq t u) after (thread_after earlier u)).hand
      (cond (nat_eq t u) (now (outcomes u earlier)) (outcomes u earlier)))

  waiting_step : (now : ℕ → ℕ)
      → waiting_then now + waits before.hand had ≡ packets_waiting threads earlier + waits after.hand (now had)
  waiting_step now =
      let f : ℕ → ℕ = λ u. waits (cond (nat_eq t u) after (thread_after earlier u)).hand
      (cond (nat_eq t u) (now (outcomes u earlier)) (outcomes u earlier)) in
      let g : ℕ → ℕ = λ u. waits (thread_after earlier u).hand (outcomes u earlier) in
      let one : sum_below threads f + g t ≡ sum_below threads g + f t =
      one_changes threads t f g low (λ u h. rw (not_eq t u (λ k. h (sym k))) refl) in
      let new : f t ≡ waits after.hand (now had) = rw (is_eq t t refl) refl in
      omega arith

  -- taken, sent and dropped packets after an effect
  abbrev Kept : Effect BalancerValue → Type 0
  Kept d =
      HasTen (left_by 0 (act_of t earlier after.taken d) (value 0))
      × ((taken_by (act_of t earlier after.taken d) + packets_taken earlier) % 2 ^ 64
      ≡ (sent_by (act_of t earlier after.taken d) + packets_sent earlier
      + sum (drop_counts (left_by 0 (act_of t earlier after.taken d) (value 0)))
      + waiting_then (outcomes_by (act_of t earlier after.taken d))) % 2 ^ 64)

  abbrev Balanced : Type 0
  Balanced = packets_taken earlier % 2 ^ 64
      ≡ (packets_sent earlier + packets_dropped s earlier + packets_waiting threads earlier) % 2 ^ 64

  taken_kept : Balanced → waits before.hand had ≡ 0 → waits after.hand 0 ≡ 1 → Kept Takes
  taken_kept old was now = let a = waiting_step (λ n. 0) in (ten, omega arith)

  still_kept : (now : ℕ → ℕ) → Balanced → waits before.hand had ≡ waits after.hand (now had)
      → (0 + packets_taken earlier) % 2 ^ 64
      ≡ (0 + packets_sent earlier + packets_dropped s earlier + waiting_then now) % 2 ^ 64
  still_kept now old same = let a = waiting_step now in omega arith

  sent_kept : (q : Packet) → Balanced → waits before.hand had ≡ 1 → waits after.hand (had + 1) ≡ 0 → Kept (Sends q)
  sent_kept q old was now = let a = waiting_step (λ n. n + 1) in (ten, omega arith)

  dropped_kept : (left : BalancerValue) → Balanced → waits before.hand had ≡ 1 → waits after.hand (had + 1) ≡ 0
      → sum (drop_counts left) % 2 ^ 64 ≡ (sum (drop_counts (value 0)) + 1) % 2 ^ 64
      → (0 + packets_taken earlier) % 2 ^ 64
      ≡ (0 + packets_sent earlier + sum (drop_counts left) + waiting_then (λ n. n + 1)) % 2 ^ 64
  dropped_kept left old was now more = let a = waiting_step (λ n. n + 1) in omega arith

  module _ (placed : Placed s had before.hand) where
    abbrev Then : Effect BalancerValue → Type 0
    Then d = Placed s (outcomes_by (act_of t earlier after.taken d) had) after.hand

    -- what a packet waits for where it goes on from here
    waits_then : (now : ℕ) (h : Hand) (g : Goes) (over : Bool) → Placed s now after.hand
        → after.hand ≡ Some (record { packet = h.packet; place = local_at g }) → is_over g.place ≡ over
        → waits after.hand now ≡ one_if (not over)
    waits_then now h g over new is at =
        waits_at s now after.hand (record { packet = h.packet; place = local_at g }) over new is
        (ap is_over (place_again g.place) ∙ at)

    step_kept : (d : Effect BalancerValue) → Balanced → Then d → Made s packets taken value before.hand after.hand d
        → Kept d
    step_kept Takes old new m =
        taken_kept old (ap (λ (y : Option Hand). waits y had) m.0) (ap (λ (y : Option Hand). waits y 0) m.3)
    step_kept (Looks v) old new m = absurd m
    step_kept (HearsDraw a) old new m = absurd m
    step_kept (HearsClock a) old new m =
        let h : Hand = m.0 in
        let g : Goes = told (place_numbered h.place.at) a (noted_by s h.place) in
        let c = clock_on s (place_numbered h.place.at) a (noted_by s h.place) m.2 in
        let was : waits before.hand had ≡ 1 = waits_at s had before.hand h false placed m.1 c.0 in
        let now : waits after.hand had ≡ 1 = waits_then had h g false new m.3 c.1.0 in
        (ten, still_kept (λ n. n) old (was ∙ sym now))
    step_kept (Sends q) old new m =
        let h : Hand = m.0 in
        let at = at_send s (place_numbered h.place.at) (noted_by s h.place) m.2 in
        let was : waits before.hand had ≡ 1 = waits_at s had before.hand h false placed m.1 (ap is_over at) in
        let g : Goes = goes Ends (noted_by s h.place) in
        let now : waits after.hand (had + 1) ≡ 0 = waits_then (had + 1) h g true new m.4 refl in
        sent_kept q old was now
    step_kept EndsIt old new m =
        let h : Hand = m.0 in
        let at = at_end s (place_numbered h.place.at) (noted_by s h.place) m.2 in
        let was : waits before.hand had ≡ 0 = waits_at s had before.hand h true placed m.1 (ap is_over at) in
        let now : waits after.hand had ≡ 0 = ap (λ (y : Option Hand). waits y had) m.3 in
        (ten, still_kept (λ n. n) old (was ∙ sym now))
    step_kept (Touches v left) old new m =
        by (touch_of s is packets t taken after.taken earlier value fits before.hand after.hand had m.0 v m.2)
      where
        h : Hand
        h = m.0

        r : BalancerValue × Goes
        r = touched s.closing (place_numbered h.place.at) (value v) (noted_by s h.place)

        by : IsCounted v (place_numbered h.place.at) (value v) (noted_by s h.place) r → Kept (Touches v left)
        by (inl k) =
            let off : nat_eq v 0 ≡ false = not_eq v 0 k.0 in
            let new' : Placed s had after.hand =
            subst (λ b. Placed s (cond b (had + 1) had) after.hand) off new in
            let was : waits before.hand had ≡ 1 = waits_at s had before.hand h false placed m.1 k.1 in
            let now : waits after.hand had ≡ 1 = waits_then had h r.1 false new' m.4 k.2.0 in
            rw off (ten, still_kept (λ n. n) old (was ∙ sym now))
        by (inr k) =
            let on : nat_eq v 0 ≡ true = is_eq v 0 k.0 in
            let at : place_numbered h.place.at ≡ CountsDrop = k.1 in
            let was : waits before.hand had ≡ 1 =
            waits_at s had before.hand h false placed m.1 (ap is_over at) in
            let new' : Placed s (had + 1) after.hand =
            subst (λ b. Placed s (cond b (had + 1) had) after.hand) on new in
            let now : waits after.hand (had + 1) ≡ 0 = waits_then (had + 1) h r.1 true new' m.4 k.2 in
            let known : IsPlaced had (place_numbered h.place.at) (noted_by s h.place).reason =
            subst (Placed s had) m.1 placed in
            let reason : IsReason (noted_by s h.place).reason =
            (subst (λ (p : Place). IsPlaced had p (noted_by s h.place).reason) at known).1 in
            let more = drop_more s.closing (value 0) (noted_by s h.place) ten reason in
            let same : (touched s.closing CountsDrop (value 0) (noted_by s h.place)).0 ≡ left =
            sym (ap (λ (u : ℕ). (touched s.closing CountsDrop (value u) (noted_by s h.place)).0) k.0)
            ∙ sym (ap (λ (p : Place). (touched s.closing p (value v) (noted_by s h.place)).0) at) ∙ sym m.3 in
            let last = subst (λ (y : BalancerValue).
            HasTen y × (sum (drop_counts y) % 2 ^ 64 ≡ (sum (drop_counts (value 0)) + 1) % 2 ^ 64)) same more in
            rw on (last.0, dropped_kept left old was now last.1)

pub run_kept : (s : Settings) (threads : ℕ) (inputs : ℕ → List Packet) (steps : List (Step BalancerValue))
    → AreSettings s → IsHistory (balancer_meaning s) inputs threads steps
    → HasTen (value_after (balancer_meaning s) steps 0)
    × (packets_taken steps % 2 ^ 64
    ≡ (packets_sent steps + packets_dropped s steps + packets_waiting threads steps) % 2 ^ 64)
run_kept s threads inputs [] is h =
    let none : packets_waiting threads [] ≡ 0 = sum_of_none threads _ (λ t. refl) in (refl, rw none refl)
run_kept s threads inputs (x ∷ earlier) is h =
    let old = run_kept s threads inputs earlier is h.1 in
    let placed = run_placed s threads inputs earlier is h.1 x.thread in
    let m = made s (inputs x.thread) (value_after (balancer_meaning s) earlier) (thread_after earlier x.thread).taken
    x.after h.0.2 (thread_after earlier x.thread).hand h.0.1 h.0.3 in
    let fits = values_fit (balancer_meaning s) (Fits s) (balancer_lawful s is) inputs threads earlier h.1 in
    let new = placed_step s is (inputs x.thread) x.thread (thread_after earlier x.thread).taken x.after.taken earlier
    (value_after (balancer_meaning s) earlier) fits (thread_after earlier x.thread).hand x.after.hand
    (outcomes x.thread earlier) h.0.2 placed m in
    rw h.0.4 (step_kept s is threads x.thread h.0.0 (inputs x.thread) (thread_after earlier x.thread).taken x.after
    earlier old.0 fits placed h.0.2 old.1 new m)

pub none_vanishes : NoPacketVanishes
none_vanishes s threads inputs steps is h = (run_kept s threads inputs steps is h).1

pub none_vanishes_at_rest : NoPacketVanishesAtRest
none_vanishes_at_rest s threads inputs steps is h rest =
    let none : packets_waiting threads steps ≡ 0 = nothing threads (λ t low. rest t low) in
    let all = none_vanishes s threads inputs steps is h in
    omega arith
  where
    nothing : (n : ℕ) → ((t : ℕ) → t < n → (thread_after steps t).hand ≡ None)
        → sum_below n (λ t. waits (thread_after steps t).hand (outcomes t steps)) ≡ 0
    nothing zero free = refl
    nothing (suc n) free =
        let a = nothing n (λ t low. free t (omega arith)) in
        let b : waits (thread_after steps n).hand (outcomes n steps) ≡ 0 =
        ap (λ (y : Option Hand). waits y (outcomes n steps)) (free n (omega arith)) in
        omega arith
