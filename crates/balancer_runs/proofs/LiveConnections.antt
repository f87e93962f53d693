-- An answer goes out by a live connection.
use Rattle.std.proofs.Common.{◌≡◌, ◌≢◌, ℕ, ◌+◌, ◌<◌, Bool, true, false, List, [], ◌∷◌, refl, sym, ap, ◌∙◌, subst, ◌⊎◌}
use Rattle.std.proofs.Common.{inl, inr, Option, Some, None}
use Rattle.std.specs.Prelude.{◌==◌, not}
use Rattle.std.proofs.lemmas.Bool.{eqb-true}
use Rattle.plain_text.specs.declared.packet.Packet.{Packet}
use Rattle.entry_order.proofs.Order.{is_or}
use Rattle.packet_headers.specs.declared.flow.Flow.{Flow}
use Rattle.plain_machine.specs.Machine.{Hand, Effect, Takes, Touches, Looks, HearsClock, HearsDraw, Sends}
use Rattle.plain_machine.specs.Machine.{Ends as EndsIt}
use Rattle.plain_machine.specs.History.{Step, act_of, thread_after, value_after, IsHistory}
use Rattle.plain_machine.proofs.Histories.{not_eq, is_eq}
use Rattle.plain_machine.proofs.Bounds.{values_fit}
use Rattle.nat_tables.specs.declared.entries.Endpoint.{Endpoint}
use Rattle.nat_tables.specs.declared.slot.Slot.{Slot}
use Rattle.nat_tables.specs.Forwards.{Forwards, is_idle, slot_of, lives_at}
use Rattle.flow_boxes.specs.Flows.{dest_of}
use Rattle.balancer_box.specs.declared.place.Place.{Place}
use Rattle.balancer_box.specs.declared.place.Noted.{Noted}
use Rattle.balancer_box.specs.declared.value.BalancerValue.{BalancerValue}
use Rattle.balancer_box.specs.declared.value.BalancerValue.TheVariants.{Dropped, Loaded, Connected}
use Rattle.balancer_box.specs.Places.{place_numbered}
use Rattle.balancer_box.specs.Settings.{Settings, AreSettings}
use Rattle.balancer_box.specs.Balancer.{is_virtual, backend_at, noted_by, balancer_meaning, HasPhase, Fits}
use Rattle.balancer_box.specs.Ranks.{var_of, touches_it, below_all}
use Rattle.balancer_box.specs.Lawful.{balancer_lawful}
use Rattle.balancer_box.specs.Emissions.{Trail, newer, trail_by, trail_of, Lived, IsSentOnOf}
use Rattle.balancer_box.proofs.Emissions.{emissions_follow}
use Rattle.balancer_box.proofs.Making.{Made, made}
use Rattle.balancer_runs.specs.Idle.{IsLiveAt}
use Rattle.balancer_runs.specs.Answering.{MetLive, AnswersComeBeforeIdle}
use Rattle.balancer_runs.proofs.Tables.{live_is}
use Rattle.balancer_runs.proofs.Followed.{connection_phase}
use Rattle.balancer_runs.proofs.Known.{both}

-- The table that a packet's moves found has the phases of connections

abbrev HavePhases : Settings → Option Forwards → Type 0
HavePhases s None = Unit {0}
HavePhases s (Some es) =
    (client : Endpoint) (slot : Slot) → slot_of client es ≡ Some slot → HasPhase s.closing client.protocol slot.phase

newer_phases : (s : Settings) (v : ℕ) (x : BalancerValue) (old : Option Forwards) → Fits s v x → HavePhases s old
    → HavePhases s (newer x old)
newer_phases s v (Dropped d) old fits had = had
newer_phases s v (Loaded loads) old fits had = had
newer_phases s v (Connected es) old fits had = λ client slot at. connection_phase s v (Connected es) client slot fits at

made_phases : (s : Settings) (is : AreSettings s) (packets : List Packet) (t : ℕ) (earlier : List (Step BalancerValue))
    (taken taken_then : ℕ) (before after : Option Hand) (d : Effect BalancerValue)
    → ((v : ℕ) → v < 2 + s.shards → Fits s v (value_after (balancer_meaning s) earlier v)) → (r : Trail)
    → HavePhases s r.found → Made s packets taken (value_after (balancer_meaning s) earlier) before after d
    → HavePhases s (trail_by earlier s (act_of t earlier taken_then d) r).found
made_phases s is packets t earlier taken tn before after Takes fits r had m = tt
made_phases s is packets t earlier taken tn before after (Touches v left) fits r had m =
    let h : Hand = m.0 in
    let place : Place = place_numbered h.place.at in
    let n : Noted = noted_by s h.place in
    let at : var_of s place n ≡ v = touches_it s place n v m.2 in
    let below : v < 2 + s.shards = subst (λ (u : ℕ). u < 2 + s.shards) at (below_all s place n is.some) in
    newer_phases s v (value_after (balancer_meaning s) earlier v) r.found (fits v below) had
made_phases s is packets t earlier taken tn before after (Looks v) fits r had m = absurd m
made_phases s is packets t earlier taken tn before after (HearsClock a) fits r had m = had
made_phases s is packets t earlier taken tn before after (HearsDraw a) fits r had m = absurd m
made_phases s is packets t earlier taken tn before after (Sends q) fits r had m = had
made_phases s is packets t earlier taken tn before after EndsIt fits r had m = had

run_phases : (s : Settings) (threads : ℕ) (inputs : ℕ → List Packet) (steps : List (Step BalancerValue)) → AreSettings s
    → IsHistory (balancer_meaning s) inputs threads steps → (t : ℕ) → HavePhases s (trail_of s t steps).found
run_phases s threads inputs [] is h t = tt
run_phases s threads inputs (x ∷ earlier) is h t =
    let m = made s (inputs x.thread) (value_after (balancer_meaning s) earlier) (thread_after earlier x.thread).taken
    x.after h.0.2 (thread_after earlier x.thread).hand h.0.1 h.0.3 in
    let fits = values_fit (balancer_meaning s) (Fits s) (balancer_lawful s is) inputs threads earlier h.1 in
    let new = made_phases s is (inputs x.thread) x.thread earlier (thread_after earlier x.thread).taken x.after.taken
    (thread_after earlier x.thread).hand x.after.hand h.0.2 fits (trail_of s x.thread earlier)
    (run_phases s threads inputs earlier is h.1 x.thread) m in
    by (is_or x.thread t) new (run_phases s threads inputs earlier is h.1 t)
  where
    by : (x.thread ≡ t) ⊎ (x.thread ≢ t)
        → HavePhases s
        (trail_by earlier s (act_of x.thread earlier x.after.taken h.0.2) (trail_of s x.thread earlier)).found
        → HavePhases s (trail_of s t earlier).found → HavePhases s (trail_of s t (x ∷ earlier)).found
    by (inl e) new old =
        subst (λ (u : ℕ). HavePhases s (trail_of s u (x ∷ earlier)).found) e
        (rw (is_eq x.thread x.thread refl, h.0.4) new)
    by (inr e) new old = rw (not_eq x.thread t e) old

-- Answers

not_true : (b : Bool) → not b ≡ true → b ≡ false
not_true true e = absurd (cc)
not_true false e = refl

lives_is_live : (closing : Option ℕ) (client : Endpoint) (backend now : ℕ) (o : Option Slot)
    → ((slot : Slot) → o ≡ Some slot → HasPhase closing client.protocol slot.phase)
    → lives_at client backend now o ≡ true
    → (slot : Slot) × (o ≡ Some slot) × (slot.port ≡ backend) × IsLiveAt now client slot
lives_is_live closing client backend now None has is = absurd (cc)
lives_is_live closing client backend now (Some slot) has is =
    let k = both (slot.port == backend) (not (is_idle now (client, slot))) is in (
      slot,
      refl,
      eqb-true _ _ k.0,
      live_is closing now client slot (has slot refl) (not_true (is_idle now (client, slot)) k.1),
    )

pub answers_before_idle : AnswersComeBeforeIdle
answers_before_idle s threads inputs x earlier o p flow is bytes h sent input seen off =
    let f = (emissions_follow s threads inputs x earlier o is bytes h sent).1 in
    by (subst (IsSentOnOf s r o.packet.bytes) input f)
  where
    r : Trail
    r = trail_of s x.thread earlier

    lived : (number : ℕ) → backend_at s.backends flow.source flow.source_port ≡ Some number
        → Lived r (dest_of flow) number → MetLive s flow r
    lived number at (es, now, found, clock, lives) =
        let have : HavePhases s (Some es) =
        subst (HavePhases s) found (run_phases s threads inputs earlier is h.1 x.thread) in
        let client : Endpoint = dest_of flow in
        let k = lives_is_live s.closing client number now (slot_of client es) (have client) lives in
        (es, now, k.0, found, clock, k.1, at ∙ ap Some (sym k.2), k.3)

    by : IsSentOnOf s r o.packet.bytes (Some p) → MetLive s flow r
    by (other, there, inl k) =
        let same : other ≡ flow = cc in
        let on : is_virtual s flow.dest flow.dest_port ≡ true =
        subst (λ (g : Flow). is_virtual s g.dest g.dest_port ≡ true) same k.0 in
        absurd (cc)
    by (other, there, inr (virtual, (number, at, met, bytes))) =
        let same : other ≡ flow = cc in
        lived number (subst (λ (g : Flow). backend_at s.backends g.source g.source_port ≡ Some number) same at)
        (subst (λ (g : Flow). Lived r (dest_of g) number) same met)
