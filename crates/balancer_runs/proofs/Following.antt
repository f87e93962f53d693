-- Connections are followed as the settings say.
use Rattle.std.proofs.Common.{◌≡◌, ◌≢◌, ℕ, ◌+◌, Bool, true, false, List, [], ◌∷◌, ◌++◌, refl, sym, ap, ◌∙◌, subst, ◌⊎◌}
use Rattle.std.proofs.Common.{inl, inr, Option, Some, None}
use Rattle.std.specs.Prelude.{nat_eq, cond, ◌==◌, ◌&&◌, not, if◌then◌else◌}
use Rattle.std.proofs.lemmas.Bool.{eqb-true}
use Rattle.plain_text.specs.declared.packet.Packet.{Packet}
use Rattle.packet_headers.specs.declared.flow.Flow.{Flow}
use Rattle.plain_machine.specs.Machine.{Hand, Thread, Effect, Takes, Touches, Looks, HearsClock, HearsDraw, Sends}
use Rattle.plain_machine.specs.Machine.{Ends as EndsIt}
use Rattle.plain_machine.specs.History.{Step, act_of, left_by, thread_after, value_after}
use Rattle.plain_machine.proofs.Histories.{is_eq}
use Rattle.plain_machine.proofs.Bounds.{values_fit}
use Rattle.nat_tables.specs.declared.entries.Endpoint.{Endpoint}
use Rattle.nat_tables.specs.declared.slot.Slot.{Slot}
use Rattle.nat_tables.specs.declared.phase.Phase.{Phase}
use Rattle.nat_tables.specs.declared.phase.Phase.TheVariants.{Plain}
use Rattle.nat_tables.specs.Keys.{same_endpoint}
use Rattle.nat_tables.specs.Forwards.{Forwards, slot_of, is_idle, first_idle, refreshed, refresh, in_phase, without}
use Rattle.nat_tables.specs.Forwards.{without_idle, found_there, found, bound, lives, lives_at, AreMappings}
use Rattle.nat_tables.proofs.Counting.{same_is}
use Rattle.flow_boxes.proofs.Fitting.{same_self}
use Rattle.balancer_box.specs.declared.place.Place.{Place}
use Rattle.balancer_box.specs.declared.place.Place.TheVariants.{HearsTime, FindsConnection, LowersIdle, RaisesLeast}
use Rattle.balancer_box.specs.declared.place.Place.TheVariants.{Connects, LowersSpare, ChecksConnection, CountsDrop}
use Rattle.balancer_box.specs.declared.place.Place.TheVariants.{SendsOut, LowersVain, Ends}
use Rattle.balancer_box.specs.declared.place.Class.{Class}
use Rattle.balancer_box.specs.declared.place.Class.TheVariants.{Client, Answer}
use Rattle.balancer_box.specs.declared.place.Tells.{Tells}
use Rattle.balancer_box.specs.declared.place.Tells.TheVariants.{Nothing}
use Rattle.balancer_box.specs.declared.place.Noted.{Noted}
use Rattle.balancer_box.specs.declared.value.BalancerValue.{BalancerValue}
use Rattle.balancer_box.specs.declared.value.BalancerValue.TheVariants.{Dropped, Loaded, Connected}
use Rattle.balancer_box.specs.Connections.{closed, without_if, phase_told}
use Rattle.balancer_box.specs.Places.{place_numbered}
use Rattle.balancer_box.specs.Settings.{Settings, AreSettings}
use Rattle.balancer_box.specs.Balancer.{tells_by, phase_then, noting, gives_way, met, met_there, met_by, new_slot}
use Rattle.balancer_box.specs.Balancer.{connected_by, checked_there, checked_by, finds, connects, checks, touched}
use Rattle.balancer_box.specs.Balancer.{noted_by, balancer_meaning, MayConnect, Fits}
use Rattle.balancer_box.specs.Lawful.{balancer_lawful}
use Rattle.balancer_box.specs.Entries.{connections_in}
use Rattle.balancer_box.specs.Emissions.{Trail, trail_of}
use Rattle.balancer_box.proofs.ConnectionLemmas.{slot_refreshed, slot_in_phase, slot_appended, without_refreshed}
use Rattle.balancer_box.proofs.Making.{Made, made}
use Rattle.balancer_runs.specs.Choosing.{loads_met}
use Rattle.balancer_runs.specs.Following.{Follows as SegmentFollows, PhaseGoesOn, HadPhase, IsOfSide, IsFollowedOn}
use Rattle.balancer_runs.specs.Following.{SidesFollow}
use Rattle.balancer_runs.proofs.Tables.{other_refresh, other_in_phase, other_without, other_append, none_without}
use Rattle.balancer_runs.proofs.Tables.{without_idle_had}
use Rattle.balancer_runs.proofs.Known.{IsBase, KnownAt, Known, both}
use Rattle.balancer_runs.proofs.Knowing.{run_known}
use Rattle.balancer_runs.proofs.Connections.{touch_is}
use Rattle.balancer_runs.proofs.Followed.{segment_follows}
use Rattle.balancer_box.proofs.Sendings.{IsOf}

-- What a touch makes of a client's phase: the connection was there, the same, or it is the packet's, and notes it

abbrev pub NowAt : Option ℕ → Noted → Phase → Phase
NowAt None n old = old
NowAt (Some seconds) n old = phase_then seconds n old

-- an answer's connection is to its backend
abbrev pub IsItsBackend : ℕ → Noted → Class → Type 0
IsItsBackend backend n Client = Unit {0}
IsItsBackend backend n Answer = backend ≡ n.backend

abbrev pub IsNow : Option ℕ → Noted → Forwards → Slot → Type 0
IsNow c n es slot =
    (old : Phase) × HadPhase old (slot_of n.client es) × (slot.phase ≡ NowAt c n old)
    × IsItsBackend slot.port n n.class

abbrev pub WasOrNow : Option ℕ → Noted → Forwards → Endpoint → Slot → Type 0
WasOrNow c n es client slot = (slot_of client es ≡ Some slot) ⊎ ((client ≡ n.client) × IsNow c n es slot)

abbrev pub AllWere : Option ℕ → Noted → Forwards → Forwards → Type 0
AllWere c n es left = (client : Endpoint) (slot : Slot) → slot_of client left ≡ Some slot → WasOrNow c n es client slot

-- and the one of the packet's client notes it
abbrev pub AreNow : Option ℕ → Noted → Forwards → Forwards → Type 0
AreNow c n es left =
    AllWere c n es left × ((slot : Slot) → slot_of n.client left ≡ Some slot → IsNow c n es slot)

module _ (c : Option ℕ) (n : Noted) (es : Forwards) where
  all_were : AllWere c n es es
  all_were client slot at = inl at

  -- by a change at the packet's own client alone
  were_by : (left : Forwards)
      → ((client : Endpoint) → same_endpoint client n.client ≡ false → slot_of client left ≡ slot_of client es)
      → ((slot : Slot) → slot_of n.client left ≡ Some slot → IsNow c n es slot) → AreNow c n es left
  were_by left others own =
      (λ client slot at. by client slot at (same_endpoint client n.client) refl, λ slot at. own slot at)
    where
      by : (client : Endpoint) (slot : Slot) → slot_of client left ≡ Some slot → (b : Bool)
          → same_endpoint client n.client ≡ b → WasOrNow c n es client slot
      by client slot at true q =
          let k : client ≡ n.client = same_is client n.client q in
          inr (k, own slot (subst (λ (x : Endpoint). slot_of x left ≡ Some slot) k at))
      by client slot at false q = inl (sym (others client q) ∙ at)

  had_phase : (slot : Slot) → slot_of n.client es ≡ Some slot → HadPhase slot.phase (slot_of n.client es)
  had_phase slot at = subst (HadPhase slot.phase) (sym at) refl

  had_plain : slot_of n.client es ≡ None → HadPhase Plain (slot_of n.client es)
  had_plain at = subst (HadPhase Plain) (sym at) refl

  were_without : (May : Endpoint → Slot → Type 0) → AreMappings May es → AreNow c n es (without n.client es)
  were_without May all = were_by (without n.client es) (λ client q. other_without n.client client es q)
      (λ slot at. absurd (let none = none_without May n.client es all in cc))

module _ (n : Noted) (es : Forwards) where
  abbrev Its : Slot → Type 0
  Its slot = IsItsBackend slot.port n n.class

  were_refresh : (slot : Slot) → slot_of n.client es ≡ Some slot → Its slot
      → AreNow None n es (refresh n.client n.time es)
  were_refresh slot at its = were_by None n es (refresh n.client n.time es)
      (λ client q. other_refresh n.client n.time client es q)
      (λ new there.
      (let e : refreshed n.time slot ≡ new = cc (slot_refreshed n.client n.time slot es at, there) in
      (slot.phase, had_phase None n es slot at, ap (λ (x : Slot). x.phase) (sym e), subst Its e its)))

  were_noting : (seconds : ℕ) (slot : Slot) (left : Forwards)
      → ((client : Endpoint) → same_endpoint client n.client ≡ false → slot_of client left ≡ slot_of client es)
      → slot_of n.client left ≡ Some slot → HadPhase slot.phase (slot_of n.client es) → Its slot
      → AreNow (Some seconds) n es (noting seconds n slot left)
  were_noting seconds slot left others at had its =
      let phase : Phase = phase_then seconds n slot.phase in
      were_by (Some seconds) n es (noting seconds n slot left)
      (λ client q. other_in_phase n.client phase client left q ∙ others client q)
      (λ new there.
      (let e : in_phase phase slot ≡ new = cc (slot_in_phase n.client phase slot left at, there) in
      (slot.phase, had, ap (λ (x : Slot). x.phase) (sym e), subst Its e its)))

  were_used : (seconds : ℕ) (slot : Slot) → slot_of n.client es ≡ Some slot → Its slot
      → AreNow (Some seconds) n es (noting seconds n slot (refresh n.client n.time es))
  were_used seconds slot at its =
      were_noting seconds (refreshed n.time slot) (refresh n.client n.time es)
      (λ client q. other_refresh n.client n.time client es q) (slot_refreshed n.client n.time slot es at)
      (had_phase (Some seconds) n es slot at) its

  pub were_checked : (seconds : ℕ) (slot : Slot) → slot_of n.client es ≡ Some slot → Its slot
      → AreNow (Some seconds) n es (noting seconds n slot es)
  were_checked seconds slot at its =
      were_noting seconds slot es (λ client q. refl) at (had_phase (Some seconds) n es slot at) its

  were_new : (seconds : ℕ) → slot_of n.client es ≡ None → Its (new_slot n)
      → AreNow (Some seconds) n es (noting seconds n (new_slot n) (es ++ (n.client, new_slot n) ∷ []))
  were_new seconds at its =
      were_noting seconds (new_slot n) (es ++ (n.client, new_slot n) ∷ [])
      (λ client q. other_append n.client (new_slot n) client es q)
      (slot_appended n.client (new_slot n) es at (same_self n.client)) (had_plain (Some seconds) n es at) its

  were_bound : slot_of n.client es ≡ None → Its (new_slot n)
      → AreNow None n es (es ++ (n.client, new_slot n) ∷ [])
  were_bound at its = were_by None n es (es ++ (n.client, new_slot n) ∷ [])
      (λ client q. other_append n.client (new_slot n) client es q)
      (λ new there.
      (let e : new_slot n ≡ new =
      cc (slot_appended n.client (new_slot n) es at (same_self n.client), there) in
      (Plain, had_plain None n es at, ap (λ (x : Slot). x.phase) (sym e), subst Its e its)))

  of_port : (port : ℕ) → port ≡ n.backend → (k : Class) → IsItsBackend port n k
  of_port port is Client = tt
  of_port port is Answer = is

  pub of_client : n.class ≡ Client → (slot : Slot) → Its slot
  of_client class slot = subst (IsItsBackend slot.port n) (sym class) tt

  module _ (May : Endpoint → Slot → Type 0) (all : AreMappings May es) (its : (slot : Slot) → Its slot) where
    were_idle : (c : Option ℕ) → slot_of n.client es ≡ None → AreNow c n es (without_idle n.time es)
    were_idle c at = (
      λ client slot there. inl (without_idle_had May n.time client slot es all there),
      λ slot there. absurd (let had = without_idle_had May n.time n.client slot es all there in cc (had, at)),
    )

    were_same : (c : Option ℕ) → slot_of n.client es ≡ None → AreNow c n es es
    were_same c at = (all_were c n es, λ slot there. absurd (cc (there, at)))

    were_found : (o : Option Slot) (idle : Option (Endpoint × Slot)) → slot_of n.client es ≡ o
        → (let f = found n.client n.time es o idle in AreNow None n es (closed f.0 n.resets n.client f.1))
    were_found (Some slot) idle at = by (is_idle n.time (n.client, slot))
      where
        of_used : (b : Bool) → AreNow None n es (without_if b n.client (refresh n.client n.time es))
        of_used true =
            subst (AreNow None n es) (sym (without_refreshed n.client n.time es)) (were_without None n es May all)
        of_used false = were_refresh slot at (its slot)

        by : (b : Bool)
            → (let f = found_there n.client n.time es slot b in AreNow None n es (closed f.0 n.resets n.client f.1))
        by true = were_without None n es May all
        by false = of_used n.resets
    were_found None (Some e) at = were_idle None at
    were_found None None at = were_same None at

    pub were_finds : (c : Option ℕ) → AreNow c n es (finds c n es).0
    were_finds None = were_found (slot_of n.client es) (first_idle n.time es) refl
    were_finds (Some seconds) = by (slot_of n.client es) (first_idle n.time es) refl
      where
        of_met : (slot : Slot) (b : Bool) → slot_of n.client es ≡ Some slot
            → AreNow (Some seconds) n es (met seconds n es slot b).0
        of_met slot true at = were_without (Some seconds) n es May all
        of_met slot false at = were_used seconds slot at (its slot)

        of_there : (slot : Slot) (b : Bool) → slot_of n.client es ≡ Some slot
            → AreNow (Some seconds) n es (met_there seconds n es slot b).0
        of_there slot true at = were_without (Some seconds) n es May all
        of_there slot false at = of_met slot (gives_way n slot) at

        by : (o : Option Slot) (idle : Option (Endpoint × Slot)) → slot_of n.client es ≡ o
            → AreNow (Some seconds) n es (met_by seconds n es o idle).0
        by (Some slot) idle at = of_there slot (is_idle n.time (n.client, slot)) at
        by None (Some e) at = were_idle (Some seconds) at
        by None None at = were_same (Some seconds) at

    pub were_connects : (c : Option ℕ) → AreNow c n es (connects c n es).0
    were_connects None = by (slot_of n.client es) refl
      where
        by : (o : Option Slot) → slot_of n.client es ≡ o
            → AreNow None n es (bound n.client n.backend n.time es o).1
        by (Some slot) at = were_refresh slot at (its slot)
        by None at = were_bound at (its (new_slot n))
    were_connects (Some seconds) = by (slot_of n.client es) refl
      where
        by : (o : Option Slot) → slot_of n.client es ≡ o → AreNow (Some seconds) n es (connected_by seconds n es o).0
        by (Some slot) at = were_used seconds slot at (its slot)
        by None at = were_new seconds at (its (new_slot n))

  module _ (May : Endpoint → Slot → Type 0) (all : AreMappings May es) where
    were_checks : (c : Option ℕ) → AllWere c n es (checks c n es).0
    were_checks None = by (lives n.client n.backend n.time es && n.resets)
      where
        by : (b : Bool) → AllWere None n es (without_if b n.client es)
        by true = (were_without None n es May all).0
        by false = all_were None n es
    were_checks (Some seconds) = by (slot_of n.client es) refl
      where
        of_there : (slot : Slot) (b : Bool) → slot_of n.client es ≡ Some slot
            → lives_at n.client n.backend n.time (Some slot) ≡ b
            → AllWere (Some seconds) n es (checked_there seconds n es slot b).0
        of_there slot true at is =
            let port : slot.port ≡ n.backend =
            eqb-true _ _ (both (slot.port == n.backend) (not (is_idle n.time (n.client, slot))) is).0 in
            (were_checked seconds slot at (of_port slot.port port n.class)).0
        of_there slot false at is = all_were (Some seconds) n es

        by : (o : Option Slot) → slot_of n.client es ≡ o → AllWere (Some seconds) n es (checked_by seconds n es o).0
        by (Some slot) at = of_there slot (lives_at n.client n.backend n.time (Some slot)) at refl
        by None at = all_were (Some seconds) n es

module _ (s : Settings) (r : Trail) (met_loads : Option (List ℕ × List ℕ)) (p : Packet) (n : Noted) where
  -- what the packet made of the phase, by its control bits
  pub now_goes_on : (c : Option ℕ) (flags : ℕ) (old : Phase) → n.tells ≡ tells_by c flags
      → PhaseGoesOn c n.client.protocol n.class flags old (NowAt c n old)
  now_goes_on None flags old is = refl
  now_goes_on (Some seconds) flags old is = by (n.client.protocol == 6) refl
    where
      by : (b : Bool) → (n.client.protocol == 6) ≡ b
          → (let new = phase_told seconds n.class (if b then n.tells else Nothing) old in
          ((n.client.protocol ≢ 6) × (new ≡ old))
          ⊎ ((n.client.protocol ≡ 6) × SegmentFollows seconds flags n.class old new))
      by true q = inr (
        eqb-true _ _ q,
        subst (λ (t : Tells). SegmentFollows seconds flags n.class old (phase_told seconds n.class t old)) (sym is)
            (segment_follows seconds n.class flags old),
      )
      by false q = inl (λ e. absurd (let z : (n.client.protocol == 6) ≡ true = is_eq n.client.protocol 6 e in cc), refl)

  of_side : (flow : Flow) (client : Endpoint) (port : ℕ) (k : Class) → client ≡ n.client → IsOf s flow n k
      → IsItsBackend port n k → IsOfSide s client port flow k
  of_side flow client port Client same of its = (of.0, same ∙ of.1)
  of_side flow client port Answer same of its = (of.0, of.2 ∙ ap Some (sym its), same ∙ of.1)

  abbrev Follows : Forwards → Forwards → Type 0
  Follows es left =
      (client : Endpoint) (slot : Slot) → slot_of client left ≡ Some slot
      → (slot_of client es ≡ Some slot) ⊎ IsFollowedOn s es client slot p

  follows_on : (es left : Forwards) → IsBase s p n → AllWere s.closing n es left → Follows es left
  follows_on es left base all client slot at = on (all client slot at)
    where
      on : WasOrNow s.closing n es client slot → (slot_of client es ≡ Some slot) ⊎ IsFollowedOn s es client slot p
      on (inl k) = inl k
      on (inr (same, (old, had, phase, its))) = inr (
        base.flow,
        base.seen,
        n.class,
        of_side base.flow client slot.port n.class same base.of its,
        old,
        subst (λ (x : Endpoint). HadPhase old (slot_of x es)) (sym same) had,
        subst (λ (x : Endpoint). PhaseGoesOn s.closing x.protocol n.class base.flow.flags old slot.phase) (sym same)
            (subst (PhaseGoesOn s.closing n.client.protocol n.class base.flow.flags old) (sym phase)
            (now_goes_on s.closing base.flow.flags old base.notes)),
      )

  same_follows : (es : Forwards) → Follows es es
  same_follows es client slot at = inl at

  touch_follows : (place : Place) (x : BalancerValue) (v : ℕ) → Fits s v x → KnownAt s r met_loads p place n
      → Follows (connections_in x) (connections_in (touched s.closing place x n).0)
  touch_follows HearsTime x v fits k = same_follows (connections_in x)
  touch_follows FindsConnection (Dropped d) v fits k = same_follows []
  touch_follows FindsConnection (Loaded loads) v fits k = same_follows []
  touch_follows FindsConnection (Connected es) v fits k =
      follows_on es (finds s.closing n es).0 k.base
      (were_finds n es (MayConnect s v) fits.2 (of_client n es k.is_class) s.closing).0
  touch_follows LowersIdle (Dropped d) v fits k = same_follows []
  touch_follows LowersIdle (Loaded loads) v fits k = same_follows []
  touch_follows LowersIdle (Connected es) v fits k = same_follows es
  touch_follows RaisesLeast (Dropped d) v fits k = same_follows []
  touch_follows RaisesLeast (Loaded loads) v fits k = same_follows []
  touch_follows RaisesLeast (Connected es) v fits k = same_follows es
  touch_follows Connects (Dropped d) v fits k = same_follows []
  touch_follows Connects (Loaded loads) v fits k = same_follows []
  touch_follows Connects (Connected es) v fits k =
      follows_on es (connects s.closing n es).0 k.0.base
      (were_connects n es (MayConnect s v) fits.2 (of_client n es k.0.is_class) s.closing).0
  touch_follows LowersVain (Dropped d) v fits k = same_follows []
  touch_follows LowersVain (Loaded loads) v fits k = same_follows []
  touch_follows LowersVain (Connected es) v fits k = same_follows es
  touch_follows LowersSpare (Dropped d) v fits k = same_follows []
  touch_follows LowersSpare (Loaded loads) v fits k = same_follows []
  touch_follows LowersSpare (Connected es) v fits k = same_follows es
  touch_follows ChecksConnection (Dropped d) v fits k = same_follows []
  touch_follows ChecksConnection (Loaded loads) v fits k = same_follows []
  touch_follows ChecksConnection (Connected es) v fits k =
      follows_on es (checks s.closing n es).0 k.base (were_checks n es (MayConnect s v) fits.2 s.closing)
  touch_follows CountsDrop (Dropped d) v fits k = same_follows []
  touch_follows CountsDrop (Loaded loads) v fits k = same_follows []
  touch_follows CountsDrop (Connected es) v fits k = same_follows es
  touch_follows SendsOut x v fits k = same_follows (connections_in x)
  touch_follows Ends x v fits k = same_follows (connections_in x)

-- Each step

module _ (s : Settings) (is : AreSettings s) (packets : List Packet) (t taken taken_then : ℕ)
    (value : ℕ → BalancerValue) (before after : Option Hand) (earlier : List (Step BalancerValue)) (r : Trail)
    (loads : Option (List ℕ × List ℕ)) (known : Known s r loads before) (v : ℕ) (fits : Fits s v (value v)) where
  abbrev Follow : Endpoint → Slot → Type 0
  Follow client slot =
      (slot_of client (connections_in (value v)) ≡ Some slot)
      ⊎ ((h : Hand) × (before ≡ Some h) × IsFollowedOn s (connections_in (value v)) client slot h.packet)

  deed_follows : (client : Endpoint) (slot : Slot) (d : Effect BalancerValue)
      → slot_of client (connections_in (left_by v (act_of t earlier taken_then d) (value v))) ≡ Some slot
      → Made s packets taken value before after d → Follow client slot
  deed_follows client slot Takes at m = inl at
  deed_follows client slot (Looks w) at m = absurd m
  deed_follows client slot (HearsClock a) at m = inl at
  deed_follows client slot (HearsDraw a) at m = absurd m
  deed_follows client slot (Sends q) at m = inl at
  deed_follows client slot EndsIt at m = inl at
  deed_follows client slot (Touches w left) at m = by (nat_eq w v) refl at
    where
      of_touch : (h : Hand) → before ≡ Some h
          → (slot_of client (connections_in (value v)) ≡ Some slot)
          ⊎ IsFollowedOn s (connections_in (value v)) client slot h.packet → Follow client slot
      of_touch h is_held (inl k) = inl k
      of_touch h is_held (inr k) = inr (h, is_held, k)

      by : (b : Bool) → nat_eq w v ≡ b → slot_of client (connections_in (cond b left (value v))) ≡ Some slot
          → Follow client slot
      by false q at = inl at
      by true q at =
          let k = touch_is s is packets t taken taken_then value before after earlier r loads known v fits w left m
          (eqb-true _ _ q) in
          let h : Hand = k.0 in
          let n : Noted = noted_by s h.place in
          let there = subst (λ (y : BalancerValue). slot_of client (connections_in y) ≡ Some slot) k.3 at in
          of_touch h k.1
          (touch_follows s r loads h.packet n (place_numbered h.place.at) (value v) v fits k.4 client slot there)

pub sides_follow : SidesFollow
sides_follow s threads inputs x earlier v client slot is bytes h low at =
    let value : ℕ → BalancerValue = value_after (balancer_meaning s) earlier in
    let old : Thread = thread_after earlier x.thread in
    let m = made s (inputs x.thread) value old.taken x.after h.0.2 old.hand h.0.1 h.0.3 in
    let fits = values_fit (balancer_meaning s) (Fits s) (balancer_lawful s is) inputs threads earlier h.1 v low in
    deed_follows s is (inputs x.thread) x.thread old.taken x.after.taken value old.hand x.after.hand earlier
    (trail_of s x.thread earlier) (loads_met s x.thread earlier)
    (run_known s threads inputs earlier is bytes h.1 x.thread) v fits client slot h.0.2 (rw h.0.4 at at) m
