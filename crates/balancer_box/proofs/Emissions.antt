-- What goes out is the packet in hand, sent on by the connection that its own moves found.
use Rattle.std.proofs.Common.{◌≡◌, ◌≢◌, ℕ, ◌+◌, ◌-◌, ◌≤◌, ◌<◌, Bool, true, false, List, [], ◌∷◌, length, refl, sym, ap}
use Rattle.std.proofs.Common.{◌∙◌, subst, ◌⊎◌, inl, inr, arith, get_or, Option, Some, None}
use Rattle.std.specs.Prelude.{◌==◌, ◌&&◌, slice_get, nat_lt, cond, Result, Ok, Err}
use Rattle.std.specs.List.{position_or_len}
use Rattle.std.proofs.lemmas.Bool.Decides.{nat_tests}
use Rattle.std.proofs.lemmas.Option.{slice_get_cases}
use Rattle.plain_text.specs.declared.packet.Packet.{Packet}
use Rattle.entry_order.proofs.Order.{is_or}
use Rattle.packet_headers.specs.declared.flow.Flow.{Flow}
use Rattle.packet_headers.specs.declared.flow.NotFlow.{NotFlow}
use Rattle.packet_headers.specs.Fields.{AreBytes}
use Rattle.packet_headers.specs.View.{viewed, flow_of, failures}
use Rattle.packet_headers.proofs.FirstFailure.{pass_from_ok}
use Rattle.plain_machine.specs.declared.local.Move.TheVariants.{Emit}
use Rattle.plain_machine.specs.Machine.{Hand, Effect, Takes, Touches, Looks, HearsClock, HearsDraw, Sends}
use Rattle.plain_machine.specs.Machine.{Ends as EndsIt}
use Rattle.plain_machine.specs.History.{Emitted, Step, act_of, emission_of, sent_of, thread_after, value_after}
use Rattle.plain_machine.specs.History.{IsHistory}
use Rattle.plain_machine.specs.declared.emission.Emission.{Emission}
use Rattle.plain_machine.proofs.Histories.{not_eq, is_eq}
use Rattle.plain_machine.proofs.Bounds.{values_fit}
use Rattle.flow_boxes.specs.Drops.{reason_of}
use Rattle.flow_boxes.specs.Flows.{HaveBytes, source_of}
use Rattle.flow_boxes.proofs.Fitting.{IsWhole, whole, same_self}
use Rattle.flow_boxes.proofs.HeldInputs.{IsHeld, move_holds, run_holds}
use Rattle.nat_tables.specs.declared.entries.Endpoint.{Endpoint}
use Rattle.balancer_box.specs.declared.place.Place.{Place}
use Rattle.balancer_box.specs.declared.place.Place.TheVariants.{HearsTime, FindsConnection, LowersIdle, RaisesLeast}
use Rattle.balancer_box.specs.declared.place.Place.TheVariants.{Connects, LowersSpare, ChecksConnection, CountsDrop}
use Rattle.balancer_box.specs.declared.place.Place.TheVariants.{SendsOut, LowersVain, Ends}
use Rattle.balancer_box.specs.declared.place.Class.{Class}
use Rattle.balancer_box.specs.declared.place.Class.TheVariants.{Client, Answer}
use Rattle.balancer_box.specs.declared.place.Tells.{Tells}
use Rattle.balancer_box.specs.declared.place.Noted.{Noted}
use Rattle.balancer_box.specs.declared.value.BalancerValue.{BalancerValue}
use Rattle.balancer_box.specs.declared.settings.Backend.{Backend}
use Rattle.balancer_box.specs.declared.place.Goes.{Goes}
use Rattle.balancer_box.specs.Places.{place_numbered}
use Rattle.balancer_box.specs.Settings.{Settings, AreSettings}
use Rattle.balancer_box.specs.Balancer.{goes, next_move, resets, is_virtual, backend_at, nothing_noted, of_client}
use Rattle.balancer_box.specs.Balancer.{of_answer, begun_answer, begun_flow, begun, touched, told, frame_to, tells_by}
use Rattle.balancer_box.specs.Balancer.{frame_out, local_at, noted_by, balancer_meaning, Fits}
use Rattle.balancer_box.specs.Noting.{IsNoted, is_noted}
use Rattle.balancer_box.specs.Ranks.{var_of, touches_it, below_all}
use Rattle.balancer_box.specs.Lawful.{balancer_lawful}
use Rattle.balancer_box.specs.Emissions.{Trail, no_trail, trail_by, trail_of, naming, WasConnected, Lived}
use Rattle.balancer_box.specs.Emissions.{ReachesBackend, ComesFromVirtual, IsSentOnOf, EmissionsFollowConnections}
use Rattle.balancer_box.proofs.Noting.{touched_noted, told_noted}
use Rattle.balancer_box.proofs.Making.{goes_on, comes_to, Made, made}
use Rattle.balancer_box.proofs.Sendings.{IsOf, IsBase, IsSettled, KnownAt, Known, known_on, after_touch, touch_known}
use Rattle.balancer_box.proofs.Sendings.{after_clock, clock_known}

-- The beginning

pub backend_below : (bs : List Backend) (address port k : ℕ) → backend_at bs address port ≡ Some k → k < length bs
backend_below bs address port k e = by (nat_lt at (length bs)) refl e
  where
    at : ℕ
    at = position_or_len (λ b. (b.address == address) && (b.port == port)) bs

    by : (t : Bool) → nat_lt at (length bs) ≡ t → cond t (Some at) None ≡ Some k → k < length bs
    by true q e = let same : at ≡ k = cc in let low : at < length bs = grind (arith, nat_tests) in omega arith
    by false q e = absurd (cc)

module _ (s : Settings) (is : AreSettings s) where
  pub client_noted : (tells : Tells) (flow : Flow) → IsWhole flow → IsNoted (length s.backends) (of_client tells flow)
  client_noted tells flow w = record {
    protocol = w.protocol;
    address = w.source;
    port = w.source_port;
    backend = omega (arith, is.some_backends);
    spare = omega (arith, is.some_backends);
  }

  pub answer_noted : (tells : Tells) (flow : Flow) (k : ℕ) → k < length s.backends → IsWhole flow
      → IsNoted (length s.backends) (of_answer tells flow k)
  answer_noted tells flow k low w = record {
    protocol = w.protocol;
    address = w.dest;
    port = w.dest_port;
    backend = low;
    spare = omega (arith, is.some_backends);
  }

  pub nothing_is_noted : (reason : ℕ) → IsNoted (length s.backends) (nothing_noted reason)
  nothing_is_noted reason = record {
    protocol = omega arith;
    address = omega arith;
    port = omega arith;
    backend = omega (arith, is.some_backends);
    spare = omega (arith, is.some_backends);
  }

  begun_known : (p : Packet) (seen : Result Flow NotFlow) → AreBytes p.bytes → viewed p.bytes p.original ≡ seen
      → Known s no_trail (Some (record { packet = p; place = local_at (begun s seen) }))
  begun_known p (Err answer) bytes q =
      known_on s no_trail (record { packet = p; place = local_at (begun s (Err answer)) }) (begun s (Err answer))
      (nothing_is_noted (reason_of answer)) tt
  begun_known p (Ok flow) bytes seen =
      let same : flow_of p.bytes ≡ flow = (pass_from_ok (failures p.bytes p.original) (flow_of p.bytes) flow seen).1 in
      let w : IsWhole flow = subst IsWhole same (whole p.bytes bytes) in
      by (is_virtual s flow.dest flow.dest_port) refl w
    where
      hand : Goes → Hand
      hand g = record { packet = p; place = local_at g }

      tells : Tells
      tells = tells_by s.closing flow.flags

      by_backend : (o : Option ℕ) → backend_at s.backends flow.source flow.source_port ≡ o
          → is_virtual s flow.dest flow.dest_port ≡ false → IsWhole flow
          → Known s no_trail (Some (hand (begun_answer tells flow o)))
      by_backend None q v w =
          known_on s no_trail (hand (begun_answer tells flow None)) (begun_answer tells flow None)
          (nothing_is_noted 9) tt
      by_backend (Some k) q v w =
          known_on s no_trail (hand (begun_answer tells flow (Some k))) (begun_answer tells flow (Some k))
          (answer_noted tells flow k (backend_below s.backends flow.source flow.source_port k q) w)
          (record { flow = flow; seen = seen; reset = refl; of = (v, refl, q) })

      by : (b : Bool) → is_virtual s flow.dest flow.dest_port ≡ b → IsWhole flow
          → Known s no_trail (Some (hand (begun_flow s tells flow)))
      by true v w =
          rw v (known_on s no_trail (hand (goes HearsTime (of_client tells flow)))
          (goes HearsTime (of_client tells flow)) (client_noted tells flow w)
          (record { flow = flow; seen = seen; reset = refl; of = (v, refl) }))
      by false v w = rw v (by_backend (backend_at s.backends flow.source flow.source_port) refl v w)

-- Each move

made_known : (s : Settings) (is : AreSettings s) (packets : List Packet) (t : ℕ) (earlier : List (Step BalancerValue))
    (taken taken_then : ℕ) (before after : Option Hand) (d : Effect BalancerValue)
    → ((k : ℕ) (p : Packet) → slice_get packets k ≡ Some p → AreBytes p.bytes)
    → ((v : ℕ) → v < 2 + s.shards → Fits s v (value_after (balancer_meaning s) earlier v)) → (r : Trail)
    → Known s r before → Made s packets taken (value_after (balancer_meaning s) earlier) before after d
    → Known s (trail_by earlier s (act_of t earlier taken_then d) r) after
made_known s is packets t earlier taken tn before after Takes bytes fits r k m =
    subst (Known s no_trail) (sym m.3) (begun_known s is m.1 (viewed m.1.bytes m.1.original) (bytes taken m.1 m.2) refl)
made_known s is packets t earlier taken tn before after (Touches v left) bytes fits r k m =
    let h : Hand = m.0 in
    let place : Place = place_numbered h.place.at in
    let n : Noted = noted_by s h.place in
    let x : BalancerValue = value_after (balancer_meaning s) earlier v in
    let at : var_of s place n ≡ v = touches_it s place n v m.2 in
    let below : v < 2 + s.shards = subst (λ (u : ℕ). u < 2 + s.shards) at (below_all s place n is.some) in
    let known : KnownAt s r h.packet place n = subst (Known s r) m.1 k in
    let noted : IsNoted (length s.backends) n = is_noted (length s.backends) h.place is.some_backends in
    let next = touch_known s h.packet r place x n v m.2 (same_self n.client) known in
    let trail : Trail = after_touch x (touched s.closing place x n).0 r in
    let on : Known s trail (goes_on h (touched s.closing place x n).1) =
    known_on s trail h (touched s.closing place x n).1
    (touched_noted s place x n v is.some_backends noted (fits v below)) next in
    subst (λ (y : BalancerValue). Known s (after_touch x y r) after) (sym m.3) (subst (Known s trail) (sym m.4) on)
made_known s is packets t earlier taken tn before after (Looks v) bytes fits r k m = absurd m
made_known s is packets t earlier taken tn before after (HearsClock a) bytes fits r k m =
    let h : Hand = m.0 in
    let place : Place = place_numbered h.place.at in
    let n : Noted = noted_by s h.place in
    let known : KnownAt s r h.packet place n = subst (Known s r) m.1 k in
    let noted : IsNoted (length s.backends) n = is_noted (length s.backends) h.place is.some_backends in
    subst (Known s (after_clock s h.packet a r)) (sym m.3) (known_on s (after_clock s h.packet a r) h (told place a n)
    (told_noted (length s.backends) place a n noted) (clock_known s h.packet r place a n m.2 known))
made_known s is packets t earlier taken tn before after (HearsDraw a) bytes fits r k m = absurd m
made_known s is packets t earlier taken tn before after (Sends q) bytes fits r k m =
    let n : Noted = noted_by s m.0.place in
    let noted : IsNoted (length s.backends) n = is_noted (length s.backends) m.0.place is.some_backends in
    subst (Known s r) (sym m.4) (known_on s r m.0 (goes Ends n) noted tt)
made_known s is packets t earlier taken tn before after EndsIt bytes fits r k m = subst (Known s r) (sym m.3) tt

run_known : (s : Settings) (threads : ℕ) (inputs : ℕ → List Packet) (steps : List (Step BalancerValue)) → AreSettings s
    → HaveBytes inputs → IsHistory (balancer_meaning s) inputs threads steps → (t : ℕ)
    → Known s (trail_of s t steps) (thread_after steps t).hand
run_known s threads inputs [] is bytes h t = tt
run_known s threads inputs (x ∷ earlier) is bytes h t =
    let m = made s (inputs x.thread) (value_after (balancer_meaning s) earlier) (thread_after earlier x.thread).taken
    x.after h.0.2 (thread_after earlier x.thread).hand h.0.1 h.0.3 in
    let fits = values_fit (balancer_meaning s) (Fits s) (balancer_lawful s is) inputs threads earlier h.1 in
    let new = made_known s is (inputs x.thread) x.thread earlier (thread_after earlier x.thread).taken x.after.taken
    (thread_after earlier x.thread).hand x.after.hand h.0.2 (bytes x.thread) fits (trail_of s x.thread earlier)
    (run_known s threads inputs earlier is bytes h.1 x.thread) m in
    by (is_or x.thread t) new (run_known s threads inputs earlier is bytes h.1 t)
  where
    by : (x.thread ≡ t) ⊎ (x.thread ≢ t)
        → Known s (trail_by earlier s (act_of x.thread earlier x.after.taken h.0.2) (trail_of s x.thread earlier))
        x.after.hand → Known s (trail_of s t earlier) (thread_after earlier t).hand
        → Known s (trail_of s t (x ∷ earlier)) (thread_after (x ∷ earlier) t).hand
    by (inl e) new old =
        subst (λ (u : ℕ). Known s (trail_of s u (x ∷ earlier)) (thread_after (x ∷ earlier) u).hand) e
        (rw (is_eq x.thread x.thread refl, h.0.4) new)
    by (inr e) new old = rw (not_eq x.thread t e) old

-- What goes out

at_send : (s : Settings) (place : Place) (n : Noted) → next_move s place n ≡ Emit → place ≡ SendsOut
at_send s HearsTime n e = absurd (cc)
at_send s FindsConnection n e = absurd (cc)
at_send s LowersIdle n e = absurd (cc)
at_send s RaisesLeast n e = absurd (cc)
at_send s Connects n e = absurd (cc)
at_send s LowersVain n e = absurd (cc)
at_send s LowersSpare n e = absurd (cc)
at_send s ChecksConnection n e = absurd (cc)
at_send s CountsDrop n e = absurd (cc)
at_send s SendsOut n e = refl
at_send s Ends n e = absurd (cc)

there_is : (bs : List Backend) (k : ℕ) → k < length bs → (b : Backend) × (slice_get bs k ≡ Some b)
there_is bs k low = by (slice_get_cases bs k).1
  where
    by : ((x : Backend) × (k < length bs) × (slice_get bs k ≡ Some x) × (get_or bs k x ≡ x))
        ⊎ ((length bs ≤ k) × (slice_get bs k ≡ None)) → (b : Backend) × (slice_get bs k ≡ Some b)
    by (inl there) = (there.0, there.2)
    by (inr past) = absurd (omega (arith, past.0))

-- a frame goes to its backend, or comes from the virtual address
abbrev SentOn : Settings → List ℕ → Flow → Trail → List ℕ → Type 0
SentOn s bytes flow r sent =
    ((is_virtual s flow.dest flow.dest_port ≡ true) × ReachesBackend s bytes flow r sent)
    ⊎ ((is_virtual s flow.dest flow.dest_port ≡ false) × ComesFromVirtual s bytes flow r sent)

sent_on : (s : Settings) (r : Trail) (bytes : List ℕ) (flow : Flow) (n : Noted) (c : Class) → n.resets ≡ resets flow
    → IsOf s flow n c → IsSettled r n c → n.backend < length s.backends
    → SentOn s bytes flow r (frame_out s c bytes flow n)
sent_on s r bytes flow n Client reset of settled low =
    let b = there_is s.backends n.backend low in
    let was : WasConnected (naming r (resets flow)) (source_of flow) n.backend =
    subst (λ (k : Endpoint). WasConnected (naming r (resets flow)) k n.backend) of.1
    (subst (λ (q : Bool). WasConnected (naming r q) n.client n.backend) reset settled) in
    inl (of.0, (n.backend, b.0, was, b.1, ap (frame_to bytes flow) b.1))
sent_on s r bytes flow n Answer reset of settled low =
    inr (of.0, (n.backend, of.2, subst (λ (k : Endpoint). Lived r k n.backend) of.1 settled, refl))

send_follows : (s : Settings) (is : AreSettings s) (r : Trail) (h : Hand) → comes_to s h Emit → Known s r (Some h)
    → IsSentOnOf s r ((balancer_meaning s).out h.packet h.place) (Some h.packet)
send_follows s is r h at k =
    let n : Noted = noted_by s h.place in
    let noted : IsNoted (length s.backends) n = is_noted (length s.backends) h.place is.some_backends in
    let known : KnownAt s r h.packet SendsOut n =
    subst (λ (q : Place). KnownAt s r h.packet q n) (at_send s (place_numbered h.place.at) n at) k in
    let base : IsBase s h.packet n = known.0 in
    let t : SentOn s h.packet.bytes base.flow r (frame_out s n.class h.packet.bytes base.flow n) =
    sent_on s r h.packet.bytes base.flow n n.class base.reset base.of known.1 noted.backend in
    (base.flow, base.seen, rw base.seen t)

pub emissions_follow : EmissionsFollowConnections
emissions_follow s threads inputs x earlier o is bytes h sent =
    let old = thread_after earlier x.thread in
    let m =
    made s (inputs x.thread) (value_after (balancer_meaning s) earlier) old.taken x.after h.0.2 old.hand h.0.1 h.0.3 in
    let held = move_holds (balancer_meaning s) (inputs x.thread) (value_after (balancer_meaning s) earlier) old.taken
    x.after h.0.2 old.hand h.0.1 (run_holds (balancer_meaning s) threads inputs earlier h.1 x.thread) h.0.3 in
    by h.0.2 (sym h.0.4 ∙ sent) m (run_known s threads inputs earlier is bytes h.1 x.thread) held
  where
    r : Trail
    r = trail_of s x.thread earlier

    of_parts : (q : Packet) → act_of x.thread earlier x.after.taken (Sends q) ≡ Emitted o
        → (x.after.taken ≡ o.input) × (q ≡ o.packet)
    of_parts q e =
        let same : emission_of x.thread (sent_of earlier) x.after.taken q ≡ o = cc in
        (ap (λ (y : Emission). y.input) same, ap (λ (y : Emission). y.packet) same)

    by : (d : Effect BalancerValue) → act_of x.thread earlier x.after.taken d ≡ Emitted o
        → Made s (inputs x.thread) (thread_after earlier x.thread).taken (value_after (balancer_meaning s) earlier)
        (thread_after earlier x.thread).hand x.after.hand d → Known s r (thread_after earlier x.thread).hand
        → IsHeld (inputs x.thread) x.after.taken x.after.hand
        → (1 ≤ o.input) × IsSentOnOf s r o.packet.bytes (slice_get (inputs x.thread) (o.input - 1))
    by Takes e m k held = absurd (cc)
    by (Touches v left) e m k held = absurd (cc)
    by (Looks v) e m k held = absurd m
    by (HearsClock a) e m k held = absurd (cc)
    by (HearsDraw a) e m k held = absurd m
    by EndsIt e m k held = absurd (cc)
    by (Sends q) e m k held =
        let parts = of_parts q e in
        let known : Known s r (Some m.0) = subst (Known s r) m.1 k in
        let a : IsSentOnOf s r ((balancer_meaning s).out m.0.packet m.0.place) (Some m.0.packet) =
        send_follows s is r m.0 m.2 known in
        let c : (balancer_meaning s).out m.0.packet m.0.place ≡ o.packet.bytes =
        ap (λ (y : Packet). y.bytes) (sym m.3 ∙ parts.1) in
        let b : IsSentOnOf s r o.packet.bytes (Some m.0.packet) =
        subst (λ (y : List ℕ). IsSentOnOf s r y (Some m.0.packet)) c a in
        let taken : IsHeld (inputs x.thread) x.after.taken
        (Some (record { packet = m.0.packet; place = local_at (goes Ends (noted_by s m.0.place)) })) =
        subst (IsHeld (inputs x.thread) x.after.taken) m.4 held in
        let input : slice_get (inputs x.thread) (o.input - 1) ≡ Some m.0.packet =
        subst (λ (n : ℕ). slice_get (inputs x.thread) (n - 1) ≡ Some m.0.packet) parts.0 taken.1 in
        (subst (λ (n : ℕ). 1 ≤ n) parts.0 taken.0, subst (IsSentOnOf s r o.packet.bytes) (sym input) b)
