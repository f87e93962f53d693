-- What is known of a packet in hand at each place, by what its own moves met.
use Rattle.std.proofs.Common.{◌≡◌, ◌≢◌, ℕ, ◌+◌, ◌<◌, Bool, true, false, List, [], ◌∷◌, length, refl, sym, ap, ◌∙◌}
use Rattle.std.proofs.Common.{subst, ◌⊎◌, inl, inr, Option, Some, None}
use Rattle.std.specs.Prelude.{slice_get, nat_eq, cond, Result, Ok, Err}
use Rattle.plain_text.specs.declared.packet.Packet.{Packet}
use Rattle.entry_order.proofs.Order.{is_or}
use Rattle.packet_headers.specs.declared.flow.Flow.{Flow}
use Rattle.packet_headers.specs.declared.flow.NotFlow.{NotFlow}
use Rattle.packet_headers.specs.Fields.{AreBytes}
use Rattle.packet_headers.specs.View.{viewed, flow_of, failures}
use Rattle.packet_headers.proofs.FirstFailure.{pass_from_ok}
use Rattle.plain_machine.specs.Machine.{Hand, Effect, Takes, Touches, Looks, HearsClock, HearsDraw, Sends}
use Rattle.plain_machine.specs.Machine.{Ends as EndsIt}
use Rattle.plain_machine.specs.History.{Step, act_of, thread_after, value_after, IsHistory}
use Rattle.plain_machine.proofs.Histories.{not_eq, is_eq}
use Rattle.plain_machine.proofs.Bounds.{values_fit}
use Rattle.flow_boxes.specs.Drops.{reason_of}
use Rattle.flow_boxes.specs.Flows.{HaveBytes}
use Rattle.balancer_box.specs.declared.place.Place.{Place}
use Rattle.balancer_box.specs.declared.place.Place.TheVariants.{HearsTime, RaisesLeast, Ends}
use Rattle.balancer_box.specs.declared.place.Tells.{Tells}
use Rattle.balancer_box.specs.declared.place.Noted.{Noted}
use Rattle.balancer_box.specs.declared.value.BalancerValue.{BalancerValue}
use Rattle.balancer_box.specs.declared.place.Goes.{Goes}
use Rattle.balancer_box.specs.Places.{place_numbered}
use Rattle.balancer_box.specs.Settings.{Settings, AreSettings}
use Rattle.balancer_box.specs.Balancer.{goes, is_virtual, backend_at, of_client, begun_answer, begun_flow, begun}
use Rattle.balancer_box.specs.Balancer.{touched, told, local_at, tells_by, noted_by, balancer_meaning, Fits}
use Rattle.balancer_box.specs.Noting.{IsNoted, is_noted}
use Rattle.balancer_box.specs.Ranks.{var_of, touches_it, below_all}
use Rattle.balancer_box.specs.Lawful.{balancer_lawful}
use Rattle.balancer_box.specs.Emissions.{Trail, no_trail, trail_of_touch, trail_by, trail_of}
use Rattle.balancer_box.proofs.Noting.{touched_noted, told_noted}
use Rattle.balancer_box.proofs.Making.{goes_on, Made, made}
use Rattle.balancer_box.proofs.Emissions.{backend_below, client_noted, answer_noted, nothing_is_noted}
use Rattle.flow_boxes.proofs.Fitting.{IsWhole, whole}
use Rattle.balancer_runs.specs.Choosing.{loads_met_in, loads_met_by, loads_met}
use Rattle.balancer_runs.proofs.Known.{KnownAt, Known, known_on, after_touch, touch_known, after_clock, clock_known}

-- The beginning: the fields of a frame of bytes fit

module _ (s : Settings) (is : AreSettings s) where
  begun_known : (p : Packet) (seen : Result Flow NotFlow) → AreBytes p.bytes → viewed p.bytes p.original ≡ seen
      → Known s no_trail None (Some (record { packet = p; place = local_at (begun s seen) }))
  begun_known p (Err why) bytes q =
      known_on s no_trail None (record { packet = p; place = local_at (begun s (Err why)) }) (begun s (Err why))
      (nothing_is_noted s is (reason_of why)) (inl (why, q, refl))
  begun_known p (Ok flow) bytes seen =
      let same : flow_of p.bytes ≡ flow = (pass_from_ok (failures p.bytes p.original) (flow_of p.bytes) flow seen).1 in
      let w : IsWhole flow = subst IsWhole same (whole p.bytes bytes) in
      by (is_virtual s flow.dest flow.dest_port) refl w
    where
      hand : Goes → Hand
      hand g = record { packet = p; place = local_at g }

      tells : Tells
      tells = tells_by s.closing flow.flags

      by_backend : (o : Option ℕ) → backend_at s.backends flow.source flow.source_port ≡ o
          → is_virtual s flow.dest flow.dest_port ≡ false → IsWhole flow
          → Known s no_trail None (Some (hand (begun_answer tells flow o)))
      by_backend None q v w =
          known_on s no_trail None (hand (begun_answer tells flow None)) (begun_answer tells flow None)
          (nothing_is_noted s is 9)
          (inr (flow, seen, inl (refl, (v, q))))
      by_backend (Some k) q v w =
          known_on s no_trail None (hand (begun_answer tells flow (Some k))) (begun_answer tells flow (Some k))
          (answer_noted s is tells flow k (backend_below s.backends flow.source flow.source_port k q) w)
          (record { flow = flow; seen = seen; reset = refl; notes = refl; of = (v, refl, q) })

      by : (b : Bool) → is_virtual s flow.dest flow.dest_port ≡ b → IsWhole flow
          → Known s no_trail None (Some (hand (begun_flow s tells flow)))
      by true v w =
          rw v (known_on s no_trail None (hand (goes HearsTime (of_client tells flow)))
          (goes HearsTime (of_client tells flow))
          (client_noted s is tells flow w)
          (record { flow = flow; seen = seen; reset = refl; notes = refl; of = (v, refl) }))
      by false v w = rw v (by_backend (backend_at s.backends flow.source flow.source_port) refl v w)

-- Each move

abbrev Met : Type 0
Met = Option (List ℕ × List ℕ)

made_known : (s : Settings) (is : AreSettings s) (packets : List Packet) (t : ℕ) (earlier : List (Step BalancerValue))
    (taken taken_then : ℕ) (before after : Option Hand) (d : Effect BalancerValue)
    → ((k : ℕ) (p : Packet) → slice_get packets k ≡ Some p → AreBytes p.bytes)
    → ((v : ℕ) → v < 2 + s.shards → Fits s v (value_after (balancer_meaning s) earlier v)) → (r : Trail) (met : Met)
    → Known s r met before → Made s packets taken (value_after (balancer_meaning s) earlier) before after d
    → Known s (trail_by earlier s (act_of t earlier taken_then d) r)
    (loads_met_by (value_after (balancer_meaning s) earlier 1) (act_of t earlier taken_then d) met) after
made_known s is packets t earlier taken tn before after Takes bytes fits r met k m =
    subst (Known s no_trail None) (sym m.3)
    (begun_known s is m.1 (viewed m.1.bytes m.1.original) (bytes taken m.1 m.2) refl)
made_known s is packets t earlier taken tn before after (Touches v left) bytes fits r met k m =
    let h : Hand = m.0 in
    let place : Place = place_numbered h.place.at in
    let n : Noted = noted_by s h.place in
    let x : BalancerValue = value_after (balancer_meaning s) earlier v in
    let at : var_of s place n ≡ v = touches_it s place n v m.2 in
    let below : v < 2 + s.shards = subst (λ (u : ℕ). u < 2 + s.shards) at (below_all s place n is.some) in
    let known : KnownAt s r met h.packet place n = subst (Known s r met) m.1 k in
    let noted : IsNoted (length s.backends) n = is_noted (length s.backends) h.place is.some_backends in
    let new : BalancerValue = (touched s.closing place x n).0 in
    let later : Met =
    cond (nat_eq v 1) (loads_met_in (value_after (balancer_meaning s) earlier 1) (Some new)) met in
    let chosen : place ≡ RaisesLeast → later ≡ loads_met_in x (Some new) = λ here.
    (let one : 1 ≡ v = sym (ap (λ (q : Place). var_of s q n) here) ∙ at in
    ap (λ (b : Bool). cond b (loads_met_in (value_after (balancer_meaning s) earlier 1) (Some new)) met)
    (is_eq v 1 (sym one))
    ∙ ap (λ (u : ℕ). loads_met_in (value_after (balancer_meaning s) earlier u) (Some new)) one) in
    let next = touch_known s h.packet r met later place x n v m.2 at (fits v below) is chosen known in
    let trail : Trail = after_touch s h.packet x new r in
    let on : Known s trail later (goes_on h (touched s.closing place x n).1) =
    known_on s trail later h (touched s.closing place x n).1
    (touched_noted s place x n v is.some_backends noted (fits v below)) next in
    subst (λ (y : BalancerValue).
    Known s (trail_of_touch x (Some y) r)
    (cond (nat_eq v 1) (loads_met_in (value_after (balancer_meaning s) earlier 1) (Some y)) met) after) (sym m.3)
    (subst (Known s trail later) (sym m.4) on)
made_known s is packets t earlier taken tn before after (Looks v) bytes fits r met k m = absurd m
made_known s is packets t earlier taken tn before after (HearsClock a) bytes fits r met k m =
    let h : Hand = m.0 in
    let place : Place = place_numbered h.place.at in
    let n : Noted = noted_by s h.place in
    let known : KnownAt s r met h.packet place n = subst (Known s r met) m.1 k in
    let noted : IsNoted (length s.backends) n = is_noted (length s.backends) h.place is.some_backends in
    subst (Known s (after_clock s h.packet a r) met) (sym m.3)
    (known_on s (after_clock s h.packet a r) met h (told place a n)
    (told_noted (length s.backends) place a n noted) (clock_known s h.packet r met place a n m.2 known))
made_known s is packets t earlier taken tn before after (HearsDraw a) bytes fits r met k m = absurd m
made_known s is packets t earlier taken tn before after (Sends q) bytes fits r met k m =
    let n : Noted = noted_by s m.0.place in
    let noted : IsNoted (length s.backends) n = is_noted (length s.backends) m.0.place is.some_backends in
    subst (Known s r met) (sym m.4) (known_on s r met m.0 (goes Ends n) noted tt)
made_known s is packets t earlier taken tn before after EndsIt bytes fits r met k m =
    subst (Known s r met) (sym m.3) tt

pub run_known : (s : Settings) (threads : ℕ) (inputs : ℕ → List Packet) (steps : List (Step BalancerValue))
    → AreSettings s → HaveBytes inputs → IsHistory (balancer_meaning s) inputs threads steps → (t : ℕ)
    → Known s (trail_of s t steps) (loads_met s t steps) (thread_after steps t).hand
run_known s threads inputs [] is bytes h t = tt
run_known s threads inputs (x ∷ earlier) is bytes h t =
    let m = made s (inputs x.thread) (value_after (balancer_meaning s) earlier) (thread_after earlier x.thread).taken
    x.after h.0.2 (thread_after earlier x.thread).hand h.0.1 h.0.3 in
    let fits = values_fit (balancer_meaning s) (Fits s) (balancer_lawful s is) inputs threads earlier h.1 in
    let new = made_known s is (inputs x.thread) x.thread earlier (thread_after earlier x.thread).taken x.after.taken
    (thread_after earlier x.thread).hand x.after.hand h.0.2 (bytes x.thread) fits (trail_of s x.thread earlier)
    (loads_met s x.thread earlier) (run_known s threads inputs earlier is bytes h.1 x.thread) m in
    by (is_or x.thread t) new (run_known s threads inputs earlier is bytes h.1 t)
  where
    by : (x.thread ≡ t) ⊎ (x.thread ≢ t)
        → Known s (trail_by earlier s (act_of x.thread earlier x.after.taken h.0.2) (trail_of s x.thread earlier))
        (loads_met_by (value_after (balancer_meaning s) earlier 1) (act_of x.thread earlier x.after.taken h.0.2)
        (loads_met s x.thread earlier)) x.after.hand
        → Known s (trail_of s t earlier) (loads_met s t earlier) (thread_after earlier t).hand
        → Known s (trail_of s t (x ∷ earlier)) (loads_met s t (x ∷ earlier)) (thread_after (x ∷ earlier) t).hand
    by (inl e) new old =
        subst (λ (u : ℕ).
        Known s (trail_of s u (x ∷ earlier)) (loads_met s u (x ∷ earlier)) (thread_after (x ∷ earlier) u).hand) e
        (rw (is_eq x.thread x.thread refl, h.0.4) new)
    by (inr e) new old = rw (not_eq x.thread t e) old
