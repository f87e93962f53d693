-- A connection never changes its backend.
use Rattle.std.proofs.Common.{◌≡◌, ℕ, Bool, true, false, List, [], ◌∷◌, ◌++◌, refl, sym, ap, ◌∙◌, subst, Option, Some}
use Rattle.std.proofs.Common.{None}
use Rattle.std.specs.Prelude.{nat_eq, cond, ◌&&◌, if◌then◌else◌}
use Rattle.std.proofs.lemmas.Bool.{eqb-true}
use Rattle.plain_text.specs.declared.packet.Packet.{Packet}
use Rattle.plain_machine.specs.Machine.{Hand, Thread, Effect, Takes, Touches, Looks, HearsClock, HearsDraw, Sends}
use Rattle.plain_machine.specs.Machine.{Ends as EndsIt}
use Rattle.plain_machine.specs.History.{Step, act_of, left_by, thread_after, value_after}
use Rattle.plain_machine.proofs.Bounds.{values_fit}
use Rattle.nat_tables.specs.Keys.{same_endpoint}
use Rattle.nat_tables.specs.Forwards.{Forwards, is_idle, slot_of, refresh, without, first_idle, without_idle}
use Rattle.nat_tables.specs.Forwards.{found_there, found, bound, lives, lives_at, with_phase, Misses}
use Rattle.nat_tables.specs.Forwards.{AreMappings}
use Rattle.nat_tables.proofs.Counting.{same_is}
use Rattle.nat_tables.specs.declared.entries.Endpoint.{Endpoint}
use Rattle.nat_tables.specs.declared.slot.Slot.{Slot}
use Rattle.nat_tables.specs.declared.phase.Phase.{Phase}
use Rattle.nat_tables.specs.declared.phase.Phase.TheVariants.{Plain}
use Rattle.balancer_box.specs.declared.place.Place.{Place}
use Rattle.balancer_box.specs.declared.place.Place.TheVariants.{HearsTime, FindsConnection, LowersIdle, RaisesLeast}
use Rattle.balancer_box.specs.declared.place.Place.TheVariants.{Connects, LowersSpare, ChecksConnection, CountsDrop}
use Rattle.balancer_box.specs.declared.place.Place.TheVariants.{SendsOut, LowersVain, Ends}
use Rattle.balancer_box.specs.declared.place.Noted.{Noted}
use Rattle.balancer_box.specs.declared.value.BalancerValue.{BalancerValue}
use Rattle.balancer_box.specs.declared.value.BalancerValue.TheVariants.{Dropped, Loaded, Connected}
use Rattle.balancer_box.specs.Connections.{closed, without_if}
use Rattle.balancer_box.specs.Places.{place_numbered}
use Rattle.balancer_box.specs.Settings.{Settings}
use Rattle.balancer_box.specs.Balancer.{phase_then, gives_way, met, met_there, met_by, new_slot}
use Rattle.balancer_box.specs.Balancer.{connected_by, checked_there, checked_by, finds, connects, checks, touched}
use Rattle.balancer_box.specs.Balancer.{noted_by, balancer_meaning, MayConnect, Fits}
use Rattle.balancer_box.specs.Lawful.{balancer_lawful}
use Rattle.balancer_box.specs.Entries.{connections_in, IsKept, AreKept, ConnectionsKeepBackends}
use Rattle.balancer_box.proofs.ConnectionLemmas.{without_refreshed, missed}
use Rattle.balancer_box.proofs.Making.{Made, made}

kept_if : (slot : Slot) (o : Option Slot) → o ≡ Some slot → IsKept slot o
kept_if slot None is = absurd (cc)
kept_if slot (Some new) is = let e : new ≡ slot = cc in ap (λ (x : Slot). x.port) e

kept_all : (es : Forwards) → AreKept es es
kept_all es client slot is = kept_if slot (slot_of client es) is

kept_refresh : (key : Endpoint) (now : ℕ) (es : Forwards) → AreKept es (refresh key now es)
kept_refresh key now [] client slot is = tt
kept_refresh key now (e ∷ es) client slot is =
    by (same_endpoint key e.0) (same_endpoint client e.0) refl refl is (kept_refresh key now es client slot)
  where
    by : (a b : Bool) → same_endpoint key e.0 ≡ a → same_endpoint client e.0 ≡ b
        → (if b then Some e.1 else slot_of client es) ≡ Some slot
        → (slot_of client es ≡ Some slot → IsKept slot (slot_of client (refresh key now es)))
        → IsKept slot (slot_of client (refresh key now (e ∷ es)))
    by true true p q is rest = let s : e.1 ≡ slot = cc in rw (p, q) (ap (λ (x : Slot). x.port) s)
    by true false p q is rest = rw (p, q) (kept_if slot (slot_of client es) is)
    by false true p q is rest = rw (p, q) (kept_if slot (Some e.1) is)
    by false false p q is rest = rw (p, q) (rest is)

-- another phase changes no backend
in_phase_kept : (slot : Slot) (key : Endpoint) (phase : Phase) (client : Endpoint) (es : Forwards)
    → IsKept slot (slot_of client es) → IsKept slot (slot_of client (with_phase key phase es))
in_phase_kept slot key phase client [] kept = tt
in_phase_kept slot key phase client (e ∷ es) kept =
    by (same_endpoint key e.0) (same_endpoint client e.0) refl refl kept (in_phase_kept slot key phase client es)
  where
    by : (a b : Bool) → same_endpoint key e.0 ≡ a → same_endpoint client e.0 ≡ b
        → IsKept slot (if b then Some e.1 else slot_of client es)
        → (IsKept slot (slot_of client es) → IsKept slot (slot_of client (with_phase key phase es)))
        → IsKept slot (slot_of client (with_phase key phase (e ∷ es)))
    by true true p q kept rest = rw (p, q) kept
    by true false p q kept rest = rw (p, q) kept
    by false true p q kept rest = rw (p, q) kept
    by false false p q kept rest = rw (p, q) (rest kept)

kept_in_phase : (key : Endpoint) (phase : Phase) (es left : Forwards) → AreKept es left
    → AreKept es (with_phase key phase left)
kept_in_phase key phase es left kept client slot is = in_phase_kept slot key phase client left (kept client slot is)

module _ (May : Endpoint → Slot → Type 0) where
  -- behind a connection of a client there is no other one of this client
  gone : (client : Endpoint) (e : Endpoint × Slot) (es : Forwards) → same_endpoint client e.0 ≡ true → Misses es e.0
      → slot_of client es ≡ None
  gone client e es same none =
      let k : e.0 ≡ client = sym (same_is client e.0 same) in missed client es (subst (Misses es) k none)

  -- the first connection that this test finds is removed
  kept_behind : (client : Endpoint) (slot : Slot) (e : Endpoint × Slot) (es : Forwards) (b : Bool)
      → same_endpoint client e.0 ≡ b → (if b then Some e.1 else slot_of client es) ≡ Some slot → Misses es e.0
      → IsKept slot (slot_of client es)
  kept_behind client slot e es true same is none = subst (IsKept slot) (sym (gone client e es same none)) tt
  kept_behind client slot e es false same is none = kept_if slot (slot_of client es) is

  kept_more : (client : Endpoint) (slot : Slot) (e : Endpoint × Slot) (es left : Forwards) (b : Bool)
      → same_endpoint client e.0 ≡ b → (if b then Some e.1 else slot_of client es) ≡ Some slot
      → (slot_of client es ≡ Some slot → IsKept slot (slot_of client left)) → IsKept slot (slot_of client (e ∷ left))
  kept_more client slot e es left true same is rest = rw same (kept_if slot (Some e.1) is)
  kept_more client slot e es left false same is rest = rw same (rest is)

  kept_without : (key : Endpoint) (es : Forwards) → AreMappings May es → AreKept es (without key es)
  kept_without key [] all client slot is = tt
  kept_without key (e ∷ es) all client slot is = by (same_endpoint key e.0) refl (kept_without key es all.2 client slot)
    where
      by : (b : Bool) → same_endpoint key e.0 ≡ b
          → (slot_of client es ≡ Some slot → IsKept slot (slot_of client (without key es)))
          → IsKept slot (slot_of client (without key (e ∷ es)))
      by true q rest = rw q (kept_behind client slot e es (same_endpoint client e.0) refl is all.1)
      by false q rest = rw q (kept_more client slot e es (without key es) (same_endpoint client e.0) refl is rest)

  kept_without_idle : (now : ℕ) (es : Forwards) → AreMappings May es → AreKept es (without_idle now es)
  kept_without_idle now [] all client slot is = tt
  kept_without_idle now (e ∷ es) all client slot is =
      by (is_idle now e) refl (kept_without_idle now es all.2 client slot)
    where
      by : (b : Bool) → is_idle now e ≡ b
          → (slot_of client es ≡ Some slot → IsKept slot (slot_of client (without_idle now es)))
          → IsKept slot (slot_of client (without_idle now (e ∷ es)))
      by true q rest = rw q (kept_behind client slot e es (same_endpoint client e.0) refl is all.1)
      by false q rest = rw q (kept_more client slot e es (without_idle now es) (same_endpoint client e.0) refl is rest)

  kept_append : (es new : Forwards) → AreKept es (es ++ new)
  kept_append [] new client slot is = absurd (cc)
  kept_append (e ∷ es) new client slot is =
      kept_more client slot e es (es ++ new) (same_endpoint client e.0) refl is (kept_append es new client slot)

  -- a connection is closed, or not
  kept_closed : (b : Bool) (key : Endpoint) (now : ℕ) (es : Forwards) → AreMappings May es
      → AreKept es (without_if b key (refresh key now es))
  kept_closed true key now es all client slot is = subst (λ (left : Forwards). IsKept slot (slot_of client left))
      (sym (without_refreshed key now es)) (kept_without key es all client slot is)
  kept_closed false key now es all client slot is = kept_refresh key now es client slot is

  kept_without_if : (b : Bool) (key : Endpoint) (es : Forwards) → AreMappings May es → AreKept es (without_if b key es)
  kept_without_if true key es all = kept_without key es all
  kept_without_if false key es all = kept_all es

  kept_there : (resets : Bool) (key : Endpoint) (now : ℕ) (es : Forwards) (slot : Slot) (idle : Bool)
      → AreMappings May es → (let f = found_there key now es slot idle in AreKept es (closed f.0 resets key f.1))
  kept_there resets key now es slot true all = kept_without key es all
  kept_there resets key now es slot false all = kept_closed resets key now es all

  kept_found : (resets : Bool) (key : Endpoint) (now : ℕ) (es : Forwards) (a : Option Slot)
      (b : Option (Endpoint × Slot)) → AreMappings May es
      → (let f = found key now es a b in AreKept es (closed f.0 resets key f.1))
  kept_found resets key now es (Some slot) b all = kept_there resets key now es slot (is_idle now (key, slot)) all
  kept_found resets key now es None (Some idle) all = kept_without_idle now es all
  kept_found resets key now es None None all = kept_all es

  kept_bound : (key : Endpoint) (backend now : ℕ) (es : Forwards) (a : Option Slot)
      → AreKept es (bound key backend now es a).1
  kept_bound key backend now es (Some slot) = kept_refresh key now es
  kept_bound key backend now es None = kept_append es ((key, record { port = backend; last = now; phase = Plain }) ∷ [])

module _ (s : Settings) (v : ℕ) (n : Noted) (es : Forwards) (all : AreMappings (MayConnect s v) es) where
  finds_keep : (c : Option ℕ) → AreKept es (finds c n es).0
  finds_keep None =
      kept_found (MayConnect s v) n.resets n.client n.time es (slot_of n.client es) (first_idle n.time es) all
  finds_keep (Some seconds) = by (slot_of n.client es) (first_idle n.time es)
    where
      met_keeps : (slot : Slot) (b : Bool) → AreKept es (met seconds n es slot b).0
      met_keeps slot true = kept_without (MayConnect s v) n.client es all
      met_keeps slot false =
          kept_in_phase n.client (phase_then seconds n slot.phase) es (refresh n.client n.time es)
          (kept_refresh n.client n.time es)

      there_keeps : (slot : Slot) (b : Bool) → AreKept es (met_there seconds n es slot b).0
      there_keeps slot true = kept_without (MayConnect s v) n.client es all
      there_keeps slot false = met_keeps slot (gives_way n slot)

      by : (o : Option Slot) (idle : Option (Endpoint × Slot)) → AreKept es (met_by seconds n es o idle).0
      by (Some slot) idle = there_keeps slot (is_idle n.time (n.client, slot))
      by None (Some e) = kept_without_idle (MayConnect s v) n.time es all
      by None None = kept_all es

  connects_keep : (c : Option ℕ) → AreKept es (connects c n es).0
  connects_keep None = kept_bound (MayConnect s v) n.client n.backend n.time es (slot_of n.client es)
  connects_keep (Some seconds) = by (slot_of n.client es)
    where
      by : (o : Option Slot) → AreKept es (connected_by seconds n es o).0
      by (Some slot) =
          kept_in_phase n.client (phase_then seconds n slot.phase) es (refresh n.client n.time es)
          (kept_refresh n.client n.time es)
      by None =
          kept_in_phase n.client (phase_then seconds n Plain) es (es ++ (n.client, new_slot n) ∷ [])
          (kept_append (MayConnect s v) es ((n.client, new_slot n) ∷ []))

  checks_keep : (c : Option ℕ) → AreKept es (checks c n es).0
  checks_keep None =
      kept_without_if (MayConnect s v) (lives n.client n.backend n.time es && n.resets) n.client es all
  checks_keep (Some seconds) = by (slot_of n.client es)
    where
      there_keeps : (slot : Slot) (b : Bool) → AreKept es (checked_there seconds n es slot b).0
      there_keeps slot true = kept_in_phase n.client (phase_then seconds n slot.phase) es es (kept_all es)
      there_keeps slot false = kept_all es

      by : (o : Option Slot) → AreKept es (checked_by seconds n es o).0
      by (Some slot) = there_keeps slot (lives_at n.client n.backend n.time (Some slot))
      by None = kept_all es

kept_touch : (s : Settings) (p : Place) (x : BalancerValue) (n : Noted) (v : ℕ) → Fits s v x
    → AreKept (connections_in x) (connections_in (touched s.closing p x n).0)
kept_touch s HearsTime x n v fits = kept_all (connections_in x)
kept_touch s FindsConnection (Dropped d) n v fits = kept_all []
kept_touch s FindsConnection (Loaded loads) n v fits = kept_all []
kept_touch s FindsConnection (Connected es) n v fits =
    finds_keep s v n es fits.2 s.closing
kept_touch s LowersIdle (Dropped d) n v fits = kept_all []
kept_touch s LowersIdle (Loaded loads) n v fits = kept_all []
kept_touch s LowersIdle (Connected es) n v fits = kept_all es
kept_touch s RaisesLeast (Dropped d) n v fits = kept_all []
kept_touch s RaisesLeast (Loaded loads) n v fits = kept_all []
kept_touch s RaisesLeast (Connected es) n v fits = kept_all es
kept_touch s Connects (Dropped d) n v fits = kept_all []
kept_touch s Connects (Loaded loads) n v fits = kept_all []
kept_touch s Connects (Connected es) n v fits =
    connects_keep s v n es fits.2 s.closing
kept_touch s LowersVain (Dropped d) n v fits = kept_all []
kept_touch s LowersSpare (Dropped d) n v fits = kept_all []
kept_touch s LowersVain (Loaded loads) n v fits = kept_all []
kept_touch s LowersSpare (Loaded loads) n v fits = kept_all []
kept_touch s LowersVain (Connected es) n v fits = kept_all es
kept_touch s LowersSpare (Connected es) n v fits = kept_all es
kept_touch s ChecksConnection (Dropped d) n v fits = kept_all []
kept_touch s ChecksConnection (Loaded loads) n v fits = kept_all []
kept_touch s ChecksConnection (Connected es) n v fits =
    checks_keep s v n es fits.2 s.closing
kept_touch s CountsDrop (Dropped d) n v fits = kept_all []
kept_touch s CountsDrop (Loaded loads) n v fits = kept_all []
kept_touch s CountsDrop (Connected es) n v fits = kept_all es
kept_touch s SendsOut x n v fits = kept_all (connections_in x)
kept_touch s Ends x n v fits = kept_all (connections_in x)

deed_keeps : (s : Settings) (packets : List Packet) (t taken taken_then : ℕ) (value : ℕ → BalancerValue)
    (before after : Option Hand) (earlier : List (Step BalancerValue)) (d : Effect BalancerValue) (v : ℕ)
    → Fits s v (value v) → Made s packets taken value before after d
    → AreKept (connections_in (value v)) (connections_in (left_by v (act_of t earlier taken_then d) (value v)))
deed_keeps s packets t taken taken_then value before after earlier Takes v fits m = kept_all (connections_in (value v))
deed_keeps s packets t taken taken_then value before after earlier (Looks w) v fits m = absurd m
deed_keeps s packets t taken taken_then value before after earlier (HearsClock a) v fits m =
    kept_all (connections_in (value v))
deed_keeps s packets t taken taken_then value before after earlier (HearsDraw a) v fits m = absurd m
deed_keeps s packets t taken taken_then value before after earlier (Sends q) v fits m =
    kept_all (connections_in (value v))
deed_keeps s packets t taken taken_then value before after earlier EndsIt v fits m = kept_all (connections_in (value v))
deed_keeps s packets t taken taken_then value before after earlier (Touches w left) v fits m = by (nat_eq w v) refl
  where
    h : Hand
    h = m.0

    by : (b : Bool) → nat_eq w v ≡ b → AreKept (connections_in (value v)) (connections_in (cond b left (value v)))
    by false q = kept_all (connections_in (value v))
    by true q =
        let e : w ≡ v = eqb-true _ _ q in
        let same : left ≡ (touched s.closing (place_numbered h.place.at) (value v) (noted_by s h.place)).0 =
        m.3 ∙ ap (λ (u : ℕ). (touched s.closing (place_numbered h.place.at) (value u) (noted_by s h.place)).0) e in
        subst (λ (x : BalancerValue). AreKept (connections_in (value v)) (connections_in x)) (sym same)
        (kept_touch s (place_numbered h.place.at) (value v) (noted_by s h.place) v fits)

pub connections_keep : ConnectionsKeepBackends
connections_keep s threads inputs x earlier is h v low =
    let value : ℕ → BalancerValue = value_after (balancer_meaning s) earlier in
    let old : Thread = thread_after earlier x.thread in
    let m = made s (inputs x.thread) value old.taken x.after h.0.2 old.hand h.0.1 h.0.3 in
    let fits = values_fit (balancer_meaning s) (Fits s) (balancer_lawful s is) inputs threads earlier h.1 v low in
    rw h.0.4 (deed_keeps s (inputs x.thread) x.thread old.taken x.after.taken value old.hand x.after.hand earlier h.0.2
    v fits m)
