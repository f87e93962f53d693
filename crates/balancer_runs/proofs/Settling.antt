-- Where a packet in hand stands tells whether it went out or was counted as dropped.
use Rattle.std.proofs.Common.{◌≡◌, ◌≢◌, ℕ, ◌+◌, ◌≤◌, ◌<◌, Bool, true, false, List, [], ◌∷◌, refl, sym, ap, ◌∙◌, subst}
use Rattle.std.proofs.Common.{◌⊎◌, inl, inr, arith, Option, Some, None}
use Rattle.std.specs.Prelude.{nat_eq, cond, ◌==◌, not, Result, Ok, Err}
use Rattle.plain_text.specs.declared.packet.Packet.{Packet}
use Rattle.packet_headers.specs.declared.flow.Flow.{Flow}
use Rattle.packet_headers.specs.declared.flow.NotFlow.{NotFlow}
use Rattle.packet_headers.specs.declared.flow.NotFlow.TheVariants.{Short, NotIpv4, BadHeaderLength, Fragment}
use Rattle.packet_headers.specs.declared.flow.NotFlow.TheVariants.{OtherProtocol, BadTotalLength}
use Rattle.packet_headers.specs.View.{viewed}
use Rattle.entry_order.proofs.Order.{is_or}
use Rattle.plain_machine.specs.declared.local.Move.TheVariants.{Access, Clock, Emit, End}
use Rattle.plain_machine.specs.Machine.{Hand, Effect, Takes, Touches, Looks, HearsClock, HearsDraw, Sends}
use Rattle.plain_machine.specs.Machine.{Ends as EndsIt}
use Rattle.plain_machine.specs.History.{Ended, Step, act_of, thread_after, value_after, IsHistory}
use Rattle.plain_machine.proofs.Histories.{not_eq, is_eq}
use Rattle.plain_machine.proofs.Bounds.{values_fit}
use Rattle.nat_tables.specs.declared.entries.Find.{Find}
use Rattle.nat_tables.specs.declared.entries.Find.TheVariants.{Live, Absent}
use Rattle.nat_tables.specs.declared.entries.Bind.{Bind}
use Rattle.nat_tables.specs.declared.entries.Bind.TheVariants.{Bound, Other}
use Rattle.nat_tables.specs.declared.entries.Endpoint.{Endpoint}
use Rattle.nat_tables.specs.declared.slot.Slot.{Slot}
use Rattle.nat_tables.specs.Forwards.{Forwards, is_idle, slot_of, first_idle, find_or_bind, lives_at}
use Rattle.nat_tables.specs.Ports.{one_if}
use Rattle.flow_boxes.specs.Drops.{reason_of}
use Rattle.balancer_box.specs.declared.place.Place.{Place}
use Rattle.balancer_box.specs.declared.place.Place.TheVariants.{HearsTime, FindsConnection, LowersIdle, RaisesLeast}
use Rattle.balancer_box.specs.declared.place.Place.TheVariants.{Connects, LowersSpare, ChecksConnection, CountsDrop}
use Rattle.balancer_box.specs.declared.place.Place.TheVariants.{SendsOut, LowersVain, Ends}
use Rattle.balancer_box.specs.declared.place.Class.{Class}
use Rattle.balancer_box.specs.declared.place.Class.TheVariants.{Client, Answer}
use Rattle.balancer_box.specs.declared.place.Tells.{Tells}
use Rattle.balancer_box.specs.declared.place.Noted.{Noted}
use Rattle.balancer_box.specs.declared.value.BalancerValue.{BalancerValue}
use Rattle.balancer_box.specs.declared.value.BalancerValue.TheVariants.{Dropped, Loaded, Connected}
use Rattle.balancer_box.specs.declared.place.Goes.{Goes}
use Rattle.balancer_box.specs.Connections.{find_connection, check_connection, has_ended}
use Rattle.balancer_box.specs.Places.{place_numbered}
use Rattle.balancer_box.specs.Settings.{Settings, AreSettings}
use Rattle.balancer_box.specs.Balancer.{goes, next_move, is_virtual, backend_at, begun_answer, begun_flow, begun}
use Rattle.balancer_box.specs.Balancer.{begins, goes_to, after_find, after_bind, after_check, touched, tells_by, ends}
use Rattle.balancer_box.specs.Balancer.{after_idle, gives_way, met, met_there, met_by, new_slot, gives_up, connected_by}
use Rattle.balancer_box.specs.Balancer.{checked_there, checked_by, finds, connects, checks, dropped, no_connection}
use Rattle.balancer_box.specs.Balancer.{after_time, told, local_at, noted_by, balancer_meaning, Fits}
use Rattle.balancer_box.specs.Noting.{place_again}
use Rattle.balancer_box.specs.Ranks.{var_of, touches_it, below_all}
use Rattle.balancer_box.specs.Lawful.{balancer_lawful}
use Rattle.balancer_box.proofs.Making.{goes_on, comes_to, Made, made}
use Rattle.balancer_runs.specs.Packets.{outcomes_by, outcomes, waits, EachHasOneOutcome}

-- A packet went out or was counted from place Ends on. One that is to be counted has a reason from 1 to 9.

abbrev pub is_over : Place → Bool
is_over HearsTime = false
is_over FindsConnection = false
is_over LowersIdle = false
is_over RaisesLeast = false
is_over Connects = false
is_over LowersVain = false
is_over LowersSpare = false
is_over ChecksConnection = false
is_over CountsDrop = false
is_over SendsOut = false
is_over Ends = true

abbrev pub IsReason : ℕ → Type 0
IsReason reason = (1 ≤ reason) × (reason ≤ 9)

abbrev pub HasReason : Place → ℕ → Type 0
HasReason HearsTime reason = Unit {0}
HasReason FindsConnection reason = Unit {0}
HasReason LowersIdle reason = Unit {0}
HasReason RaisesLeast reason = Unit {0}
HasReason Connects reason = Unit {0}
HasReason LowersVain reason = Unit {0}
HasReason LowersSpare reason = Unit {0}
HasReason ChecksConnection reason = Unit {0}
HasReason CountsDrop reason = IsReason reason
HasReason SendsOut reason = Unit {0}
HasReason Ends reason = Unit {0}

abbrev over_at : Place → ℕ
over_at place = one_if (is_over place)

-- it goes on, and is not over
abbrev GoesOn : Goes → Type 0
GoesOn g = (is_over g.place ≡ false) × HasReason g.place g.noted.reason

abbrev pub IsPlaced : ℕ → Place → ℕ → Type 0
IsPlaced n place reason = (n ≡ one_if (is_over place)) × HasReason place reason

abbrev pub Placed : Settings → ℕ → Option Hand → Type 0
Placed s n None = Unit {0}
Placed s n (Some h) = IsPlaced n (place_numbered h.place.at) (noted_by s h.place).reason

placed_on : (s : Settings) (had : ℕ) (h : Hand) (g : Goes) → IsPlaced had g.place g.noted.reason
    → Placed s had (goes_on h g)
placed_on s had h g is =
    subst (λ (p : Place). IsPlaced had p g.noted.reason) (sym (place_again g.place)) is

-- the beginning

reasons : (why : NotFlow) → IsReason (reason_of why)
reasons Short = (omega arith, omega arith)
reasons NotIpv4 = (omega arith, omega arith)
reasons BadHeaderLength = (omega arith, omega arith)
reasons Fragment = (omega arith, omega arith)
reasons OtherProtocol = (omega arith, omega arith)
reasons BadTotalLength = (omega arith, omega arith)

begun_goes_on : (s : Settings) (seen : Result Flow NotFlow) → GoesOn (begun s seen)
begun_goes_on s (Err why) = (refl, reasons why)
begun_goes_on s (Ok flow) = by (is_virtual s flow.dest flow.dest_port) refl
  where
    tells : Tells
    tells = tells_by s.closing flow.flags

    by_backend : (o : Option ℕ) → GoesOn (begun_answer tells flow o)
    by_backend (Some backend) = (refl, tt)
    by_backend None = (refl, (omega arith, omega arith))

    by : (b : Bool) → is_virtual s flow.dest flow.dest_port ≡ b → GoesOn (begun_flow s tells flow)
    by true q = rw q (refl, tt)
    by false q = rw q (by_backend (backend_at s.backends flow.source flow.source_port))

-- touches

begins_on : (n : Noted) (b : Bool) → GoesOn (begins n b)
begins_on n true = (refl, (omega arith, omega arith))
begins_on n false = (refl, tt)

goes_to_on : (n : Noted) (b : Bool) (backend : ℕ) → GoesOn (goes_to n b backend)
goes_to_on n true backend = (refl, tt)
goes_to_on n false backend = (refl, tt)

find_on : (n : Noted) (f : Find) → GoesOn (after_find n f)
find_on n (Live backend) = goes_to_on n n.resets backend
find_on n (Absent (Some idle)) = (refl, tt)
find_on n (Absent None) = begins_on n n.resets

bind_on : (n : Noted) (b : Bind) → GoesOn (after_bind n b)
bind_on n Bound = (refl, tt)
bind_on n (Other backend) = (refl, tt)

idle_on : (n : Noted) (backend : ℕ) (b : Bool) → GoesOn (after_idle n backend b)
idle_on n backend true = begins_on n n.resets
idle_on n backend false = (refl, tt)

unconnected_on : (n : Noted) → GoesOn (dropped n no_connection)
unconnected_on n = (refl, (omega arith, omega arith))

check_on : (n : Noted) (b : Bool) → GoesOn (after_check n b)
check_on n true = goes_to_on n n.resets n.backend
check_on n false = (refl, (omega arith, omega arith))

finds_on : (c : Option ℕ) (n : Noted) (es : Forwards) → GoesOn (finds c n es).1
finds_on None n es = find_on n (find_connection n.resets n.client n.time es).0
finds_on (Some seconds) n es = by (slot_of n.client es) (first_idle n.time es)
  where
    met_on : (slot : Slot) (b : Bool) → GoesOn (met seconds n es slot b).1
    met_on slot true = begins_on n n.resets
    met_on slot false = goes_to_on n (ends seconds n slot) slot.port

    there_on : (slot : Slot) (b : Bool) → GoesOn (met_there seconds n es slot b).1
    there_on slot true = idle_on n slot.port (has_ended slot.phase)
    there_on slot false = met_on slot (gives_way n slot)

    by : (o : Option Slot) (idle : Option (Endpoint × Slot)) → GoesOn (met_by seconds n es o idle).1
    by (Some slot) idle = there_on slot (is_idle n.time (n.client, slot))
    by None (Some e) = idle_on n e.1.port (has_ended e.1.phase)
    by None None = begins_on n n.resets

connects_on : (c : Option ℕ) (n : Noted) (es : Forwards) → GoesOn (connects c n es).1
connects_on None n es = bind_on n (find_or_bind n.client n.backend n.time es).0
connects_on (Some seconds) n es = by (slot_of n.client es)
  where
    given_up : (b : Bool) (backend : ℕ) → GoesOn (gives_up n b backend)
    given_up true backend = (refl, tt)
    given_up false backend = (refl, tt)

    by : (o : Option Slot) → GoesOn (connected_by seconds n es o).1
    by (Some slot) = given_up (ends seconds n slot) slot.port
    by None = goes_to_on n (ends seconds n (new_slot n)) n.backend

checks_on : (c : Option ℕ) (n : Noted) (es : Forwards) → GoesOn (checks c n es).1
checks_on None n es = check_on n (check_connection n.resets n.client n.backend n.time es).0
checks_on (Some seconds) n es = by (slot_of n.client es)
  where
    there_on : (slot : Slot) (b : Bool) → GoesOn (checked_there seconds n es slot b).1
    there_on slot true = goes_to_on n (ends seconds n slot) n.backend
    there_on slot false = unconnected_on n

    by : (o : Option Slot) → GoesOn (checked_by seconds n es o).1
    by (Some slot) = there_on slot (lives_at n.client n.backend n.time (Some slot))
    by None = unconnected_on n

-- a touch that is not the one of variable 0 goes on, and the one of variable 0 counts a drop
abbrev pub IsCounted : ℕ → Place → BalancerValue → Noted → BalancerValue × Goes → Type 0
IsCounted v p x n r =
    ((v ≢ 0) × (is_over p ≡ false) × GoesOn r.1)
    ⊎ ((v ≡ 0) × (p ≡ CountsDrop) × (is_over r.1.place ≡ true) × HasReason r.1.place r.1.noted.reason)

pub touch_counted : (s : Settings) (is : AreSettings s) (p : Place) (x : BalancerValue) (n : Noted) (v : ℕ)
    → next_move s p n ≡ Access v → var_of s p n ≡ v → Fits s v x → IsCounted v p x n (touched s.closing p x n)
touch_counted s is HearsTime x n v e at fits = absurd (cc)
touch_counted s is FindsConnection (Dropped d) n v e at fits = absurd (omega (arith, at, fits, is.some))
touch_counted s is FindsConnection (Loaded loads) n v e at fits = absurd (omega (arith, at, fits.0, is.some))
touch_counted s is FindsConnection (Connected es) n v e at fits =
    inl (λ q. absurd (omega (arith, fits.0)), refl, finds_on s.closing n es)
touch_counted s is LowersIdle (Dropped d) n v e at fits = absurd (omega (arith, at, fits, is.some))
touch_counted s is LowersIdle (Loaded loads) n v e at fits =
    inl (λ q. absurd (omega (arith, fits.0)), refl, begins_on n n.resets)
touch_counted s is LowersIdle (Connected es) n v e at fits = absurd (omega (arith, at, fits.0, fits.1, is.some))
touch_counted s is RaisesLeast (Dropped d) n v e at fits = absurd (omega (arith, at, fits, is.some))
touch_counted s is RaisesLeast (Loaded loads) n v e at fits =
    inl (λ q. absurd (omega (arith, fits.0)), refl, (refl, tt))
touch_counted s is RaisesLeast (Connected es) n v e at fits = absurd (omega (arith, at, fits.0, fits.1, is.some))
touch_counted s is Connects (Dropped d) n v e at fits = absurd (omega (arith, at, fits, is.some))
touch_counted s is Connects (Loaded loads) n v e at fits = absurd (omega (arith, at, fits.0, is.some))
touch_counted s is Connects (Connected es) n v e at fits =
    inl (λ q. absurd (omega (arith, fits.0)), refl, connects_on s.closing n es)
touch_counted s is LowersVain (Dropped d) n v e at fits = absurd (omega (arith, at, fits, is.some))
touch_counted s is LowersSpare (Dropped d) n v e at fits = absurd (omega (arith, at, fits, is.some))
touch_counted s is LowersVain (Loaded loads) n v e at fits =
    inl (λ q. absurd (omega (arith, fits.0)), refl, (refl, tt))
touch_counted s is LowersSpare (Loaded loads) n v e at fits =
    inl (λ q. absurd (omega (arith, fits.0)), refl, (refl, tt))
touch_counted s is LowersVain (Connected es) n v e at fits = absurd (omega (arith, at, fits.0, fits.1, is.some))
touch_counted s is LowersSpare (Connected es) n v e at fits = absurd (omega (arith, at, fits.0, fits.1, is.some))
touch_counted s is ChecksConnection (Dropped d) n v e at fits = absurd (omega (arith, at, fits, is.some))
touch_counted s is ChecksConnection (Loaded loads) n v e at fits = absurd (omega (arith, at, fits.0, is.some))
touch_counted s is ChecksConnection (Connected es) n v e at fits =
    inl (λ q. absurd (omega (arith, fits.0)), refl, checks_on s.closing n es)
touch_counted s is CountsDrop (Dropped d) n v e at fits = inr (sym at, refl, refl, tt)
touch_counted s is CountsDrop (Loaded loads) n v e at fits = absurd (omega (arith, at, fits.0, is.some))
touch_counted s is CountsDrop (Connected es) n v e at fits = absurd (omega (arith, at, fits.0, fits.1, is.some))
touch_counted s is SendsOut x n v e at fits = absurd (cc)
touch_counted s is Ends x n v e at fits = absurd (cc)

-- answers, emissions and ends

time_on : (n : Noted) (c : Class) → GoesOn (after_time n c)
time_on n Client = (refl, tt)
time_on n Answer = (refl, tt)

pub clock_on : (s : Settings) (p : Place) (a : ℕ) (n : Noted) → next_move s p n ≡ Clock
    → (is_over p ≡ false) × GoesOn (told p a n)
clock_on s HearsTime a n e = (refl, time_on (record n { time = a }) n.class)
clock_on s FindsConnection a n e = absurd (cc)
clock_on s LowersIdle a n e = absurd (cc)
clock_on s RaisesLeast a n e = absurd (cc)
clock_on s Connects a n e = absurd (cc)
clock_on s LowersVain a n e = absurd (cc)
clock_on s LowersSpare a n e = absurd (cc)
clock_on s ChecksConnection a n e = absurd (cc)
clock_on s CountsDrop a n e = absurd (cc)
clock_on s SendsOut a n e = absurd (cc)
clock_on s Ends a n e = absurd (cc)

pub at_send : (s : Settings) (p : Place) (n : Noted) → next_move s p n ≡ Emit → p ≡ SendsOut
at_send s HearsTime n e = absurd (cc)
at_send s FindsConnection n e = absurd (cc)
at_send s LowersIdle n e = absurd (cc)
at_send s RaisesLeast n e = absurd (cc)
at_send s Connects n e = absurd (cc)
at_send s LowersVain n e = absurd (cc)
at_send s LowersSpare n e = absurd (cc)
at_send s ChecksConnection n e = absurd (cc)
at_send s CountsDrop n e = absurd (cc)
at_send s SendsOut n e = refl
at_send s Ends n e = absurd (cc)

pub at_end : (s : Settings) (p : Place) (n : Noted) → next_move s p n ≡ End → p ≡ Ends
at_end s HearsTime n e = absurd (cc)
at_end s FindsConnection n e = absurd (cc)
at_end s LowersIdle n e = absurd (cc)
at_end s RaisesLeast n e = absurd (cc)
at_end s Connects n e = absurd (cc)
at_end s LowersVain n e = absurd (cc)
at_end s LowersSpare n e = absurd (cc)
at_end s ChecksConnection n e = absurd (cc)
at_end s CountsDrop n e = absurd (cc)
at_end s SendsOut n e = absurd (cc)
at_end s Ends n e = refl

-- each move

module _ (s : Settings) (is : AreSettings s) (packets : List Packet) (t taken taken_then : ℕ)
    (earlier : List (Step BalancerValue)) (value : ℕ → BalancerValue)
    (fits : (v : ℕ) → v < 2 + s.shards → Fits s v (value v)) (before after : Option Hand) (had : ℕ) where
  pub touch_of : (h : Hand) (v : ℕ) → comes_to s h (Access v)
      → IsCounted v (place_numbered h.place.at) (value v) (noted_by s h.place)
      (touched s.closing (place_numbered h.place.at) (value v) (noted_by s h.place))
  touch_of h v next =
      let p : Place = place_numbered h.place.at in
      let n : Noted = noted_by s h.place in
      let at : var_of s p n ≡ v = touches_it s p n v next in
      let below : v < 2 + s.shards = subst (λ (u : ℕ). u < 2 + s.shards) at (below_all s p n is.some) in
      touch_counted s is p (value v) n v next at (fits v below)

  pub placed_step : (d : Effect BalancerValue) → Placed s had before
      → Made s packets taken value before after d → Placed s (outcomes_by (act_of t earlier taken_then d) had) after
  placed_step Takes old m =
      let b = begun_goes_on s (viewed m.1.bytes m.1.original) in
      let h : Hand = record { packet = m.1; place = local_at (begun s (viewed m.1.bytes m.1.original)) } in
      subst (Placed s 0) (sym m.3)
      (placed_on s 0 h (begun s (viewed m.1.bytes m.1.original)) (sym (ap one_if b.0), b.1))
  placed_step (Touches v left) old m =
      let h : Hand = m.0 in
      let r = touched s.closing (place_numbered h.place.at) (value v) (noted_by s h.place) in
      let known : Placed s had (Some h) = subst (Placed s had) m.1 old in
      subst (Placed s (cond (nat_eq v 0) (had + 1) had)) (sym m.4)
      (placed_on s (cond (nat_eq v 0) (had + 1) had) h r.1 (by h (touch_of h v m.2) known.0))
    where
      by : (h : Hand)
          → IsCounted v (place_numbered h.place.at) (value v) (noted_by s h.place)
          (touched s.closing (place_numbered h.place.at) (value v) (noted_by s h.place))
          → had ≡ one_if (is_over (place_numbered h.place.at))
          → (let r = touched s.closing (place_numbered h.place.at) (value v) (noted_by s h.place) in
          IsPlaced (cond (nat_eq v 0) (had + 1) had) r.1.place r.1.noted.reason)
      by h (inl k) was = (
        ap (λ b. cond b (had + 1) had) (not_eq v 0 k.0) ∙ was ∙ ap one_if (k.1 ∙ sym k.2.0),
        k.2.1,
      )
      by h (inr k) was = (
        ap (λ b. cond b (had + 1) had) (is_eq v 0 k.0) ∙ ap (λ n. n + 1) (was ∙ ap over_at k.1)
            ∙ sym (ap one_if k.2),
        k.3,
      )
  placed_step (Looks v) old m = absurd m
  placed_step (HearsClock a) old m =
      let h : Hand = m.0 in
      let c = clock_on s (place_numbered h.place.at) a (noted_by s h.place) m.2 in
      let known : Placed s had (Some h) = subst (Placed s had) m.1 old in
      subst (Placed s had) (sym m.3)
      (placed_on s had h (told (place_numbered h.place.at) a (noted_by s h.place))
      (known.0 ∙ ap one_if (c.0 ∙ sym c.1.0), c.1.1))
  placed_step (HearsDraw a) old m = absurd m
  placed_step (Sends q) old m =
      let h : Hand = m.0 in
      let known : Placed s had (Some h) = subst (Placed s had) m.1 old in
      let at = at_send s (place_numbered h.place.at) (noted_by s h.place) m.2 in
      let one : had + 1 ≡ 1 = ap (λ n. n + 1) (known.0 ∙ ap over_at at) in
      subst (Placed s (had + 1)) (sym m.4)
      (placed_on s (had + 1) h (goes Ends (noted_by s h.place)) (one, tt))
  placed_step EndsIt old m = subst (Placed s had) (sym m.3) tt

pub run_placed : (s : Settings) (threads : ℕ) (inputs : ℕ → List Packet) (steps : List (Step BalancerValue))
    → AreSettings s → IsHistory (balancer_meaning s) inputs threads steps → (t : ℕ)
    → Placed s (outcomes t steps) (thread_after steps t).hand
run_placed s threads inputs [] is h t = tt
run_placed s threads inputs (x ∷ earlier) is h t =
    let m = made s (inputs x.thread) (value_after (balancer_meaning s) earlier) (thread_after earlier x.thread).taken
    x.after h.0.2 (thread_after earlier x.thread).hand h.0.1 h.0.3 in
    let fits = values_fit (balancer_meaning s) (Fits s) (balancer_lawful s is) inputs threads earlier h.1 in
    let new = placed_step s is (inputs x.thread) x.thread (thread_after earlier x.thread).taken x.after.taken earlier
    (value_after (balancer_meaning s) earlier) fits (thread_after earlier x.thread).hand x.after.hand
    (outcomes x.thread earlier) h.0.2 (run_placed s threads inputs earlier is h.1 x.thread) m in
    by (is_or x.thread t) new (run_placed s threads inputs earlier is h.1 t)
  where
    by : (x.thread ≡ t) ⊎ (x.thread ≢ t)
        → Placed s (outcomes_by (act_of x.thread earlier x.after.taken h.0.2) (outcomes x.thread earlier)) x.after.hand
        → Placed s (outcomes t earlier) (thread_after earlier t).hand
        → Placed s (outcomes t (x ∷ earlier)) (thread_after (x ∷ earlier) t).hand
    by (inl e) new old =
        subst (λ (u : ℕ). Placed s (outcomes u (x ∷ earlier)) (thread_after (x ∷ earlier) u).hand) e
        (rw (is_eq x.thread x.thread refl, h.0.4) new)
    by (inr e) new old = rw (not_eq x.thread t e) old

-- a packet on which the work ends had one outcome
ended_once : (s : Settings) (packets : List Packet) (t taken taken_then k had : ℕ)
    (earlier : List (Step BalancerValue)) (value : ℕ → BalancerValue) (before after : Option Hand)
    (d : Effect BalancerValue) → Placed s had before → Made s packets taken value before after d
    → act_of t earlier taken_then d ≡ Ended k → had ≡ 1
ended_once s packets t taken taken_then k had earlier value before after Takes placed m e = absurd (cc)
ended_once s packets t taken taken_then k had earlier value before after (Touches v left) placed m e = absurd (cc)
ended_once s packets t taken taken_then k had earlier value before after (Looks v) placed m e = absurd m
ended_once s packets t taken taken_then k had earlier value before after (HearsClock a) placed m e = absurd (cc)
ended_once s packets t taken taken_then k had earlier value before after (HearsDraw a) placed m e = absurd m
ended_once s packets t taken taken_then k had earlier value before after (Sends q) placed m e = absurd (cc)
ended_once s packets t taken taken_then k had earlier value before after EndsIt placed m e =
    let h : Hand = m.0 in
    let known : Placed s had (Some h) = subst (Placed s had) m.1 placed in
    known.0 ∙ ap over_at (at_end s (place_numbered h.place.at) (noted_by s h.place) m.2)

pub each_has_one : EachHasOneOutcome
each_has_one s threads inputs x earlier k is h act =
    let m = made s (inputs x.thread) (value_after (balancer_meaning s) earlier) (thread_after earlier x.thread).taken
    x.after h.0.2 (thread_after earlier x.thread).hand h.0.1 h.0.3 in
    ended_once s (inputs x.thread) x.thread (thread_after earlier x.thread).taken x.after.taken k
    (outcomes x.thread earlier) earlier (value_after (balancer_meaning s) earlier)
    (thread_after earlier x.thread).hand x.after.hand h.0.2 (run_placed s threads inputs earlier is h.1 x.thread) m
    (sym h.0.4 ∙ act)

-- a packet in hand waits until it is over
pub waits_at : (s : Settings) (n : ℕ) (hand : Option Hand) (h : Hand) (over : Bool) → Placed s n hand
    → hand ≡ Some h → is_over (place_numbered h.place.at) ≡ over → waits hand n ≡ one_if (not over)
waits_at s n hand h over placed is at =
    let known : Placed s n (Some h) = subst (Placed s n) is placed in
    ap (λ (y : Option Hand). waits y n) is ∙ ap (λ (k : ℕ). one_if (k == 0)) (known.0 ∙ ap one_if at) ∙ by over
  where
    by : (b : Bool) → one_if (one_if b == 0) ≡ one_if (not b)
    by true = refl
    by false = refl
