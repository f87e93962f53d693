-- Idle connections give way.
use Rattle.std.proofs.Common.{◌≡◌, ℕ, ◌≤◌, Bool, true, false, List, [], ◌∷◌, refl, sym, ap, ◌∙◌, subst, ◌⊎◌, inl, inr}
use Rattle.std.proofs.Common.{arith, Option, Some, None}
use Rattle.std.specs.Prelude.{if◌then◌else◌}
use Rattle.plain_text.specs.declared.packet.Packet.{Packet}
use Rattle.plain_machine.specs.declared.local.Move.TheVariants.{Access}
use Rattle.plain_machine.specs.History.{value_after}
use Rattle.nat_tables.specs.declared.entries.Endpoint.{Endpoint}
use Rattle.nat_tables.specs.declared.slot.Slot.{Slot}
use Rattle.nat_tables.specs.Keys.{same_endpoint}
use Rattle.nat_tables.specs.Forwards.{Forwards, slot_of, is_idle, first_idle, refresh, without, without_idle}
use Rattle.nat_tables.specs.Forwards.{found_there, found, Misses, AreMappings}
use Rattle.nat_tables.proofs.Counting.{same_is}
use Rattle.nat_tables.proofs.Keeping.{may_slot}
use Rattle.flow_boxes.proofs.Fitting.{same_self}
use Rattle.balancer_box.specs.declared.place.Place.{Place}
use Rattle.balancer_box.specs.declared.place.Place.TheVariants.{HearsTime, FindsConnection, LowersIdle, RaisesLeast}
use Rattle.balancer_box.specs.declared.place.Place.TheVariants.{Connects, LowersSpare, ChecksConnection, CountsDrop}
use Rattle.balancer_box.specs.declared.place.Place.TheVariants.{SendsOut, LowersVain, Ends}
use Rattle.balancer_box.specs.declared.place.Noted.{Noted}
use Rattle.balancer_box.specs.declared.value.BalancerValue.TheVariants.{Connected}
use Rattle.balancer_box.specs.Connections.{closed, without_if}
use Rattle.balancer_box.specs.Places.{place_numbered}
use Rattle.balancer_box.specs.Settings.{Settings}
use Rattle.balancer_box.specs.Balancer.{next_move, phase_then, noting, gives_way, met, met_there, met_by, finds}
use Rattle.balancer_box.specs.Balancer.{connects, touched, noted_by, balancer_meaning, HasPhase, MayConnect, Fits}
use Rattle.balancer_box.specs.Entries.{connections_in}
use Rattle.balancer_box.specs.Emissions.{Trail, trail_of}
use Rattle.balancer_box.proofs.ConnectionLemmas.{missed}
use Rattle.balancer_runs.specs.Choosing.{loads_met}
use Rattle.balancer_runs.specs.Refreshing.{IsOfClient}
use Rattle.balancer_runs.specs.GivingWay.{IsDated, IsGone, GiveWay, IdleGiveWay}
use Rattle.balancer_runs.proofs.Tables.{idle_is, live_is, other_refresh, other_in_phase, other_without, none_without}
use Rattle.balancer_runs.proofs.Tables.{without_idle_had}
use Rattle.balancer_runs.proofs.Known.{KnownAt}
use Rattle.balancer_runs.proofs.Refreshing.{WasUsed, IsRefreshed, finds_used, connects_used, own_client, not_answer}
use Rattle.balancer_runs.proofs.Touching.{table_touched}

-- The first idle connection of a table

-- a client with a connection is not one that has none there
apart : (es : Forwards) (own other : Endpoint) (slot : Slot) → Misses es own → slot_of other es ≡ Some slot
    → same_endpoint other own ≡ false
apart es own other slot none at = by (same_endpoint other own) refl
  where
    by : (b : Bool) → same_endpoint other own ≡ b → same_endpoint other own ≡ false
    by true q =
        let k : other ≡ own = same_is other own q in
        let nothing : slot_of other es ≡ None = missed other es (subst (Misses es) (sym k) none) in
        absurd (cc (nothing, at))
    by false q = q

-- it was there, is idle, and is gone
abbrev IsRemoved : ℕ → Forwards → Endpoint × Slot → Type 0
IsRemoved now es e =
    (slot_of e.0 es ≡ Some e.1) × (is_idle now e ≡ true) × (slot_of e.0 (without_idle now es) ≡ None)

first_removed : (May : Endpoint → Slot → Type 0) (now : ℕ) (es : Forwards) (e : Endpoint × Slot) → AreMappings May es
    → first_idle now es ≡ Some e → IsRemoved now es e
first_removed May now [] e all q = absurd (cc)
first_removed May now (x ∷ es) e all q = by (is_idle now x) refl q (first_removed May now es e all.2)
  where
    by : (b : Bool) → is_idle now x ≡ b → (if b then Some x else first_idle now es) ≡ Some e
        → (first_idle now es ≡ Some e → IsRemoved now es e) → IsRemoved now (x ∷ es) e
    by true i q rest =
        let same : x ≡ e = cc in
        let here : slot_of x.0 (x ∷ es) ≡ Some x.1 = rw (same_self x.0) refl in
        let gone : slot_of x.0 (without_idle now (x ∷ es)) ≡ None = rw i (missed x.0 es all.1) in
        subst (IsRemoved now (x ∷ es)) same (here, i, gone)
    by false i q rest =
        let r = rest q in
        let other : same_endpoint e.0 x.0 ≡ false = apart es x.0 e.0 e.1 all.1 r.0 in
        let here : slot_of e.0 (x ∷ es) ≡ Some e.1 = rw other r.0 in
        let gone : slot_of e.0 (without_idle now (x ∷ es)) ≡ None = rw i (rw other r.2) in
        (here, r.1, gone)

-- and no other one is gone
first_alone : (now : ℕ) (es : Forwards) (e : Endpoint × Slot) (client : Endpoint) (slot : Slot)
    → first_idle now es ≡ Some e → slot_of client es ≡ Some slot → slot_of client (without_idle now es) ≡ None
    → client ≡ e.0
first_alone now [] e client slot q at none = absurd (cc)
first_alone now (x ∷ es) e client slot q at none =
    by (is_idle now x) (same_endpoint client x.0) refl q at none (first_alone now es e client slot)
  where
    by : (a b : Bool) → same_endpoint client x.0 ≡ b → (if a then Some x else first_idle now es) ≡ Some e
        → (if b then Some x.1 else slot_of client es) ≡ Some slot
        → slot_of client (if a then es else x ∷ without_idle now es) ≡ None
        → (first_idle now es ≡ Some e → slot_of client es ≡ Some slot → slot_of client (without_idle now es) ≡ None
        → client ≡ e.0) → client ≡ e.0
    by true true p q at none rest =
        let same : x ≡ e = cc in same_is client x.0 p ∙ ap (λ (f : Endpoint × Slot). f.0) same
    by true false p q at none rest = absurd (cc)
    by false true p q at none rest = absurd (cc (rw p at none))
    by false false p q at none rest = rest q at (rw p at none)

none_idle : (now : ℕ) (es : Forwards) (client : Endpoint) (slot : Slot) → first_idle now es ≡ None
    → slot_of client es ≡ Some slot → is_idle now (client, slot) ≡ false
none_idle now [] client slot q at = absurd (cc)
none_idle now (x ∷ es) client slot q at =
    by (is_idle now x) (same_endpoint client x.0) refl refl q at (none_idle now es client slot)
  where
    by : (a b : Bool) → is_idle now x ≡ a → same_endpoint client x.0 ≡ b
        → (if a then Some x else first_idle now es) ≡ None
        → (if b then Some x.1 else slot_of client es) ≡ Some slot
        → (first_idle now es ≡ None → slot_of client es ≡ Some slot → is_idle now (client, slot) ≡ false)
        → is_idle now (client, slot) ≡ false
    by true b i p q at rest = absurd (cc)
    by false true i p q at rest =
        let k : client ≡ x.0 = same_is client x.0 p in
        let s : x.1 ≡ slot = cc in
        subst (λ (c : Endpoint). is_idle now (c, slot) ≡ false) (sym k)
        (subst (λ (y : Slot). is_idle now (x.0, y) ≡ false) s i)
    by false false i p q at rest = rest q at

-- What a packet leaves that looks for its connection

module _ (s : Settings) (n : Noted) (es : Forwards) (v : ℕ) (all : AreMappings (MayConnect s v) es) where
  abbrev Gives : Forwards → Type 0
  Gives left = GiveWay n.client n.time es left

  abbrev LeavesOthers : Forwards → Type 0
  LeavesOthers left =
      (client : Endpoint) → same_endpoint client n.client ≡ false → slot_of client left ≡ slot_of client es

  has_phase : (client : Endpoint) (slot : Slot) → slot_of client es ≡ Some slot
      → HasPhase s.closing client.protocol slot.phase
  has_phase client slot at = (may_slot (MayConnect s v) client slot es at all).3

  only_own : (left : Forwards) → LeavesOthers left → (client : Endpoint) → IsGone es left client → client ≡ n.client
  only_own left others client gone = by (same_endpoint client n.client) refl
    where
      by : (b : Bool) → same_endpoint client n.client ≡ b → client ≡ n.client
      by true q = same_is client n.client q
      by false q =
          let same = others client q in
          let was = gone.0.1 in
          let none = gone.1 in
          absurd (cc (same, was, none))

  -- its own was idle
  own_gone : (slot : Slot) → slot_of n.client es ≡ Some slot → Gives (without n.client es)
  own_gone slot at = record {
    own = λ later there. absurd (let none = none_without (MayConnect s v) n.client es all in cc (none, there));
    other = λ none idle was there is. absurd (cc (none, at));
    one = λ a b gone gone_too.
        only_own (without n.client es) (λ client q. other_without n.client client es q) a gone
        ∙ sym (only_own (without n.client es) (λ client q. other_without n.client client es q) b gone_too);
  }

  -- its own was live, whatever the packet makes of it
  own_used : (slot : Slot) (left : Forwards) → slot_of n.client es ≡ Some slot
      → is_idle n.time (n.client, slot) ≡ false → LeavesOthers left → Gives left
  own_used slot left at live others = record {
    own = λ later there. (slot, at, live_is s.closing n.time n.client slot (has_phase n.client slot at) live);
    other = λ none idle was there is. absurd (cc (none, at));
    one = λ a b gone gone_too. only_own left others a gone ∙ sym (only_own left others b gone_too);
  }

  first_gone : (e : Endpoint × Slot) → slot_of n.client es ≡ None → first_idle n.time es ≡ Some e
      → Gives (without_idle n.time es)
  first_gone e at first =
      let k = first_removed (MayConnect s v) n.time es e all first in
      record {
        own = λ later there.
            absurd (let had = without_idle_had (MayConnect s v) n.time n.client later es all there in cc (had, at));
        other = λ none idle was there is. (e.0, e.1, k.0, idle_is n.time e.0 e.1 k.1, k.2);
        one = λ a b gone gone_too.
            first_alone n.time es e a gone.0.0 first gone.0.1 gone.1
            ∙ sym (first_alone n.time es e b gone_too.0.0 first gone_too.0.1 gone_too.1);
      }

  none_gone : slot_of n.client es ≡ None → first_idle n.time es ≡ None → Gives es
  none_gone at first = record {
    own = λ later there. absurd (cc (there, at));
    other = λ none idle was there is.
        let live =
        live_is s.closing n.time idle was (has_phase idle was there) (none_idle n.time es idle was first there) in
        absurd (omega (arith, live, is));
    one = λ a b gone gone_too. absurd (let was = gone.0.1 in let none = gone.1 in cc (was, none));
  }

  found_gives : (o : Option Slot) (idle : Option (Endpoint × Slot)) → slot_of n.client es ≡ o
      → first_idle n.time es ≡ idle
      → (let f = found n.client n.time es o idle in Gives (closed f.0 n.resets n.client f.1))
  found_gives (Some slot) idle at first = by (is_idle n.time (n.client, slot)) refl
    where
      of_used : (b : Bool) → is_idle n.time (n.client, slot) ≡ false
          → Gives (without_if b n.client (refresh n.client n.time es))
      of_used true q =
          own_used slot (without n.client (refresh n.client n.time es)) at q
          (λ client o. other_without n.client client (refresh n.client n.time es) o
          ∙ other_refresh n.client n.time client es o)
      of_used false q =
          own_used slot (refresh n.client n.time es) at q (λ client o. other_refresh n.client n.time client es o)

      by : (b : Bool) → is_idle n.time (n.client, slot) ≡ b
          → (let f = found_there n.client n.time es slot b in Gives (closed f.0 n.resets n.client f.1))
      by true q = own_gone slot at
      by false q = of_used n.resets q
  found_gives None (Some e) at first = first_gone e at first
  found_gives None None at first = none_gone at first

  finds_give : (c : Option ℕ) → Gives (finds c n es).0
  finds_give None = found_gives (slot_of n.client es) (first_idle n.time es) refl refl
  finds_give (Some seconds) = by (slot_of n.client es) (first_idle n.time es) refl refl
    where
      of_met : (slot : Slot) (b : Bool) → slot_of n.client es ≡ Some slot
          → is_idle n.time (n.client, slot) ≡ false → Gives (met seconds n es slot b).0
      of_met slot true at q =
          own_used slot (without n.client es) at q (λ client o. other_without n.client client es o)
      of_met slot false at q =
          own_used slot (noting seconds n slot (refresh n.client n.time es)) at q
          (λ client o.
          other_in_phase n.client (phase_then seconds n slot.phase) client (refresh n.client n.time es) o
          ∙ other_refresh n.client n.time client es o)

      of_there : (slot : Slot) (b : Bool) → slot_of n.client es ≡ Some slot → is_idle n.time (n.client, slot) ≡ b
          → Gives (met_there seconds n es slot b).0
      of_there slot true at q = own_gone slot at
      of_there slot false at q = of_met slot (gives_way n slot) at q

      by : (o : Option Slot) (idle : Option (Endpoint × Slot)) → slot_of n.client es ≡ o
          → first_idle n.time es ≡ idle → Gives (met_by seconds n es o idle).0
      by (Some slot) idle at first = of_there slot (is_idle n.time (n.client, slot)) at refl
      by None (Some e) at first = first_gone e at first
      by None None at first = none_gone at first

  dated : (left : Forwards) → IsRefreshed n es left → IsDated n.client n.time es left
  dated left used slot at = by (used.0 n.client slot at) (used.1 slot at)
    where
      by : WasUsed n es n.client slot → n.time ≤ slot.last
          → (slot.last ≡ n.time)
          ⊎ ((old : Slot) × (slot_of n.client es ≡ Some old) × (slot.last ≡ old.last) × (n.time ≤ old.last))
      by (inl (old, there, last)) new = inr (old, there, last, subst (λ (k : ℕ). n.time ≤ k) last new)
      by (inr k) new = inl k.1

-- Each touch of a table

module _ (s : Settings) (r : Trail) (loads : Option (List ℕ × List ℕ)) (p : Packet) (n : Noted) (v : ℕ)
    (es : Forwards) (fits : Fits s v (Connected es)) (client : Endpoint) (of : IsOfClient s client p) where
  abbrev Leaves : Forwards → Type 0
  Leaves left =
      (client ≡ n.client) × (r.clock ≡ Some n.time) × IsDated n.client n.time es left
      × (r.found ≡ None → GiveWay n.client n.time es left)

  touch_leaves : (place : Place) → next_move s place n ≡ Access v → KnownAt s r loads p place n
      → Leaves (connections_in (touched s.closing place (Connected es) n).0)
  touch_leaves HearsTime move k = absurd (cc)
  touch_leaves FindsConnection move k = (
    own_client s r loads p n client k of,
    k.clock,
    dated s n es v fits.2 (finds s.closing n es).0 (finds_used n es (MayConnect s v) fits.2 s.closing),
    λ first. finds_give s n es v fits.2 s.closing,
  )
  touch_leaves LowersIdle move k =
      let one : 1 ≡ v = cc in let low = fits.0 in absurd (omega (arith, one, low))
  touch_leaves RaisesLeast move k =
      let one : 1 ≡ v = cc in let low = fits.0 in absurd (omega (arith, one, low))
  touch_leaves Connects move k = (
    own_client s r loads p n client k.0 of,
    k.0.clock,
    dated s n es v fits.2 (connects s.closing n es).0 (connects_used n es (MayConnect s v) fits.2 s.closing),
    λ first. absurd (let found = k.2.1 in cc (found, first)),
  )
  touch_leaves LowersVain move k =
      let one : 1 ≡ v = cc in let low = fits.0 in absurd (omega (arith, one, low))
  touch_leaves LowersSpare move k =
      let one : 1 ≡ v = cc in let low = fits.0 in absurd (omega (arith, one, low))
  touch_leaves ChecksConnection move k = absurd (not_answer s r loads p n client k of)
  touch_leaves CountsDrop move k =
      let none : 0 ≡ v = cc in let low = fits.0 in absurd (omega (arith, none, low))
  touch_leaves SendsOut move k = absurd (cc)
  touch_leaves Ends move k = absurd (cc)

pub idle_give_way : IdleGiveWay
idle_give_way s threads inputs x earlier entry left v place h es client is bytes run act what low held of table =
    let r : Trail = trail_of s x.thread earlier in
    let n : Noted = noted_by s h.place in
    let t = table_touched s threads inputs x earlier entry left v place h es is bytes run act what low held table in
    let k = touch_leaves s r (loads_met s x.thread earlier) h.packet n v es t.fits client of
    (place_numbered h.place.at) t.move t.known in
    let after : Forwards = connections_in (value_after (balancer_meaning s) (x ∷ earlier) v) in
    let same = ap connections_in t.left in
    let there = subst (λ (l : Forwards).
    IsDated n.client n.time es l × (r.found ≡ None → GiveWay n.client n.time es l)) (sym same) (k.2, k.3) in
    let own = subst (λ (c : Endpoint). IsDated c n.time es after × (r.found ≡ None → GiveWay c n.time es after))
    (sym k.0) there in
    (n.time, k.1, own.0, own.1)
