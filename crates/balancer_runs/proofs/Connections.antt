-- A connection stays until it is idle or reset, and a new one is to a backend of least load.
use Rattle.std.proofs.Common.{◌≡◌, ℕ, Bool, true, false, List, [], ◌∷◌, refl, sym, ap, ◌∙◌, subst, ◌⊎◌, inl, inr, arith}
use Rattle.std.proofs.Common.{◌≤◌, Option, Some, None}
use Rattle.std.specs.Prelude.{nat_eq, cond, ◌&&◌, ◌++◌}
use Rattle.std.proofs.lemmas.Bool.{eqb-true}
use Rattle.plain_text.specs.declared.packet.Packet.{Packet}
use Rattle.plain_machine.specs.declared.local.Local.{Local}
use Rattle.plain_machine.specs.declared.local.Move.TheVariants.{Access}
use Rattle.plain_machine.specs.Machine.{Hand, Thread, Effect, Takes, Touches, Looks, HearsClock, HearsDraw, Sends}
use Rattle.plain_machine.specs.Machine.{Ends as EndsIt}
use Rattle.plain_machine.specs.History.{Step, act_of, left_by, thread_after, value_after}
use Rattle.plain_machine.proofs.Bounds.{values_fit}
use Rattle.nat_tables.specs.declared.entries.Endpoint.{Endpoint}
use Rattle.nat_tables.specs.declared.slot.Slot.{Slot}
use Rattle.nat_tables.specs.declared.phase.Phase.{Phase}
use Rattle.nat_tables.specs.declared.phase.Phase.TheVariants.{Plain, Opening, Established, Closing, EndedByClient}
use Rattle.nat_tables.specs.declared.phase.Phase.TheVariants.{EndedByServer, Kept}
use Rattle.nat_tables.specs.Forwards.{Forwards, is_idle, slot_of, refresh, first_idle, found_there, found, bound, lives}
use Rattle.nat_tables.specs.Forwards.{lives_at, without, without_idle, AreMappings}
use Rattle.balancer_box.specs.declared.place.Place.{Place}
use Rattle.balancer_box.specs.declared.place.Place.TheVariants.{HearsTime, FindsConnection, LowersIdle, RaisesLeast}
use Rattle.balancer_box.specs.declared.place.Place.TheVariants.{Connects, LowersSpare, ChecksConnection, CountsDrop}
use Rattle.balancer_box.specs.declared.place.Place.TheVariants.{SendsOut, LowersVain, Ends}
use Rattle.balancer_box.specs.declared.place.Class.TheVariants.{Client, Answer}
use Rattle.balancer_box.specs.declared.place.Noted.{Noted}
use Rattle.balancer_box.specs.declared.value.BalancerValue.{BalancerValue}
use Rattle.balancer_box.specs.declared.value.BalancerValue.TheVariants.{Dropped, Loaded, Connected}
use Rattle.balancer_box.specs.Connections.{closed, without_if, has_ended}
use Rattle.balancer_box.specs.Places.{place_numbered}
use Rattle.balancer_box.specs.Settings.{Settings, AreSettings}
use Rattle.balancer_box.specs.Balancer.{next_move, heard, phase_then, noting, opens, gives_way, met as met_connection}
use Rattle.balancer_box.specs.Balancer.{met_there, met_by, new_slot, connected_by, checked_there, checked_by, finds}
use Rattle.balancer_box.specs.Balancer.{connects, checks, touched, noted_by, balancer_meaning, MayConnect, Fits}
use Rattle.balancer_box.specs.Lawful.{balancer_lawful}
use Rattle.balancer_box.specs.Entries.{connections_in}
use Rattle.balancer_box.specs.Emissions.{Trail, trail_of}
use Rattle.balancer_box.proofs.ConnectionLemmas.{without_refreshed, lives_there}
use Rattle.balancer_box.proofs.Making.{Made, made}
use Rattle.balancer_runs.specs.Staying.{WasIdle, WasReset, GaveWay, Stays, ConnectionsStay}
use Rattle.balancer_runs.specs.Choosing.{loads_met, WasChosen, IsFromClient, NewConnectionsHaveLeastLoad}
use Rattle.balancer_runs.proofs.Tables.{idle_is, Goes, GoAll, all_stay, all_used, all_without, all_without_idle}
use Rattle.balancer_runs.proofs.Tables.{all_append, NoneComes, none_by_refresh, none_by_without, none_by_without_idle}
use Rattle.balancer_runs.proofs.Tables.{all_in_phase, none_by_in_phase, in_phase_had, new_appended}
use Rattle.balancer_runs.proofs.Known.{IsBase, IsTold, KnownAt, Known, has_reset, has_opening, heard_opens, both}
use Rattle.balancer_runs.proofs.Known.{client_of, answer_of}
use Rattle.balancer_runs.proofs.Knowing.{run_known}

same_stays : (s : Settings) (clock : Option ℕ) (hand : Option Hand) (client : Endpoint) (slot : Slot) (o : Option Slot)
    → o ≡ Some slot → Stays s clock hand client slot o
same_stays s clock hand client slot None is = absurd (cc)
same_stays s clock hand client slot (Some new) is =
    let e : new ≡ slot = cc in (ap (λ (x : Slot). x.port) e, inl (ap (λ (x : Slot). x.last) e))

ended_is : (phase : Phase) → has_ended phase ≡ true → (seconds : ℕ) × (phase ≡ Closing seconds)
ended_is Plain is = absurd (cc)
ended_is (Opening seconds) is = absurd (cc)
ended_is Established is = absurd (cc)
ended_is (Closing seconds) is = (seconds, refl)
ended_is EndedByClient is = absurd (cc)
ended_is EndedByServer is = absurd (cc)
ended_is Kept is = absurd (cc)

module _ (s : Settings) (r : Trail) (met : Option (List ℕ × List ℕ)) (p : Packet) (stands : Local) (n : Noted) where
  abbrev hand : Option Hand
  hand = Some (record { packet = p; place = stands })

  -- why a connection is gone
  abbrev Gone : Endpoint → Slot → Type 0
  Gone client slot = WasIdle r.clock client slot ⊎ (WasReset s hand client slot ⊎ GaveWay s hand client slot)

  of_idle : (client : Endpoint) (slot : Slot) → r.clock ≡ Some n.time → is_idle n.time (client, slot) ≡ true
      → Gone client slot
  of_idle client slot clock idle =
      inl (subst (λ (c : Option ℕ). WasIdle c client slot) (sym clock) (idle_is n.time client slot idle))

  of_client_reset : (slot : Slot) → s.closing ≡ None → IsTold s r p n Client → n.resets ≡ true → Gone n.client slot
  of_client_reset slot none told is =
      let base : IsBase s p n = told.base in
      let of = client_of s p n base told.is_class in
      inr (inl (none, (base.flow, base.seen, has_reset base.flow n base.reset is, inl (of.0, of.1))))

  of_answer_reset : (slot : Slot) → s.closing ≡ None → IsTold s r p n Answer → n.resets ≡ true
      → slot.port ≡ n.backend → Gone n.client slot
  of_answer_reset slot none told is port =
      let base : IsBase s p n = told.base in
      let of = answer_of s p n base told.is_class in
      inr (inl (
        none,
        (
          base.flow,
          base.seen,
          has_reset base.flow n base.reset is,
          inr (of.0, of.2 ∙ ap Some (sym port), of.1),
        ),
      ))

  -- an ended connection, whose client opens another
  of_opening : (slot : Slot) → IsTold s r p n Client → gives_way n slot ≡ true → Gone n.client slot
  of_opening slot told way =
      let base : IsBase s p n = told.base in
      let of = client_of s p n base told.is_class in
      let parts = both (has_ended slot.phase) (opens (heard n)) way in
      let heard_it = heard_opens n parts.1 in
      let ended = ended_is slot.phase parts.0 in
      inr (inr (
        ended.0,
        ended.1,
        heard_it.0,
        base.flow,
        base.seen,
        has_opening s.closing base.flow (sym base.notes ∙ heard_it.1),
        of.0,
        of.1,
      ))

  abbrev AllGo : Forwards → Forwards → Type 0
  AllGo = GoAll Gone n.time

  module _ (v : ℕ) (es : Forwards) (all : AreMappings (MayConnect s v) es) where
    -- the client's connection is removed, for a cause
    removed_go : (slot : Slot) → slot_of n.client es ≡ Some slot → Gone n.client slot → AllGo es (without n.client es)
    removed_go slot at gone = all_without Gone n.time (MayConnect s v) n.client es all (λ other there.
        (let e : slot ≡ other = cc in subst (Gone n.client) e gone))

    idle_go : IsTold s r p n Client → AllGo es (without_idle n.time es)
    idle_go told =
        all_without_idle Gone n.time (MayConnect s v) es all (λ e may idle. of_idle e.0 e.1 told.clock idle)

    there_go : s.closing ≡ None → IsTold s r p n Client → (slot : Slot) (idle : Bool) → slot_of n.client es ≡ Some slot
        → is_idle n.time (n.client, slot) ≡ idle
        → (let f = found_there n.client n.time es slot idle in AllGo es (closed f.0 n.resets n.client f.1))
    there_go none told slot true at is = removed_go slot at (of_idle n.client slot told.clock is)
    there_go none told slot false at is = by n.resets refl
      where
        by : (b : Bool) → n.resets ≡ b → AllGo es (without_if b n.client (refresh n.client n.time es))
        by true q =
            subst (AllGo es) (sym (without_refreshed n.client n.time es))
            (removed_go slot at (of_client_reset slot none told q))
        by false q = all_used Gone n.time n.client es

    found_go : s.closing ≡ None → IsTold s r p n Client → (a : Option Slot) (b : Option (Endpoint × Slot))
        → slot_of n.client es ≡ a
        → (let f = found n.client n.time es a b in AllGo es (closed f.0 n.resets n.client f.1))
    found_go none told (Some slot) b at = there_go none told slot (is_idle n.time (n.client, slot)) at refl
    found_go none told None (Some gone) at = idle_go told
    found_go none told None None at = all_stay Gone n.time es

    -- the packet is noted in a connection that is used
    noted_go : (seconds : ℕ) (slot : Slot) (left : Forwards) → AllGo es left → AllGo es (noting seconds n slot left)
    noted_go seconds slot left go = all_in_phase Gone n.time n.client (phase_then seconds n slot.phase) es left go

    met_go : (seconds : ℕ) → IsTold s r p n Client → (slot : Slot) (b : Bool) → slot_of n.client es ≡ Some slot
        → gives_way n slot ≡ b → AllGo es (met_connection seconds n es slot b).0
    met_go seconds told slot true at way = removed_go slot at (of_opening slot told way)
    met_go seconds told slot false at way =
        noted_go seconds slot (refresh n.client n.time es) (all_used Gone n.time n.client es)

    met_there_go : (seconds : ℕ) → IsTold s r p n Client → (slot : Slot) (b : Bool) → slot_of n.client es ≡ Some slot
        → is_idle n.time (n.client, slot) ≡ b → AllGo es (met_there seconds n es slot b).0
    met_there_go seconds told slot true at is = removed_go slot at (of_idle n.client slot told.clock is)
    met_there_go seconds told slot false at is = met_go seconds told slot (gives_way n slot) at refl

    met_by_go : (seconds : ℕ) → IsTold s r p n Client → (o : Option Slot) (idle : Option (Endpoint × Slot))
        → slot_of n.client es ≡ o → AllGo es (met_by seconds n es o idle).0
    met_by_go seconds told (Some slot) idle at =
        met_there_go seconds told slot (is_idle n.time (n.client, slot)) at refl
    met_by_go seconds told None (Some e) at = idle_go told
    met_by_go seconds told None None at = all_stay Gone n.time es

    finds_go : (c : Option ℕ) → s.closing ≡ c → IsTold s r p n Client → AllGo es (finds c n es).0
    finds_go None none told = found_go none told (slot_of n.client es) (first_idle n.time es) refl
    finds_go (Some seconds) is told = met_by_go seconds told (slot_of n.client es) (first_idle n.time es) refl

    bound_go : (a : Option Slot) → AllGo es (bound n.client n.backend n.time es a).1
    bound_go (Some slot) = all_used Gone n.time n.client es
    bound_go None = all_append Gone n.time es ((n.client, new_slot n) ∷ [])

    connects_go : (c : Option ℕ) → AllGo es (connects c n es).0
    connects_go None = bound_go (slot_of n.client es)
    connects_go (Some seconds) = by (slot_of n.client es)
      where
        by : (o : Option Slot) → AllGo es (connected_by seconds n es o).0
        by (Some slot) = noted_go seconds slot (refresh n.client n.time es) (all_used Gone n.time n.client es)
        by None = noted_go seconds (new_slot n) (es ++ (n.client, new_slot n) ∷ [])
            (all_append Gone n.time es ((n.client, new_slot n) ∷ []))

    checked_go : s.closing ≡ None → IsTold s r p n Answer → (a b : Bool) → lives n.client n.backend n.time es ≡ a
        → n.resets ≡ b → AllGo es (without_if (a && b) n.client es)
    checked_go none told true true is q =
        let there = lives_there n.client n.backend n.time es (slot_of n.client es) refl is in
        removed_go there.0 there.1 (of_answer_reset there.0 none told q there.2)
    checked_go none told true false is q = all_stay Gone n.time es
    checked_go none told false b is q = all_stay Gone n.time es

    checks_go : (c : Option ℕ) → s.closing ≡ c → IsTold s r p n Answer → AllGo es (checks c n es).0
    checks_go None none told = checked_go none told (lives n.client n.backend n.time es) n.resets refl refl
    checks_go (Some seconds) is told = by (slot_of n.client es)
      where
        there : (slot : Slot) (b : Bool) → AllGo es (checked_there seconds n es slot b).0
        there slot true = noted_go seconds slot es (all_stay Gone n.time es)
        there slot false = all_stay Gone n.time es

        by : (o : Option Slot) → AllGo es (checked_by seconds n es o).0
        by (Some slot) = there slot (lives_at n.client n.backend n.time (Some slot))
        by None = all_stay Gone n.time es

    none_by_find : (a : Option Slot) (b : Option (Endpoint × Slot))
        → (let f = found n.client n.time es a b in NoneComes es (closed f.0 n.resets n.client f.1))
    none_by_find (Some slot) b = by (is_idle n.time (n.client, slot))
      where
        by : (idle : Bool)
            → (let f = found_there n.client n.time es slot idle in NoneComes es (closed f.0 n.resets n.client f.1))
        by true = none_by_without n.client es
        by false = of_used n.resets
          where
            of_used : (b : Bool) → NoneComes es (without_if b n.client (refresh n.client n.time es))
            of_used true = λ client none.
                none_by_without n.client (refresh n.client n.time es) client
                (none_by_refresh n.client n.time es client none)
            of_used false = none_by_refresh n.client n.time es
    none_by_find None (Some gone) = none_by_without_idle n.time es
    none_by_find None None = λ client none. none

    none_by_noting : (seconds : ℕ) (slot : Slot) (left : Forwards) → NoneComes es left
        → NoneComes es (noting seconds n slot left)
    none_by_noting seconds slot left comes client none =
        none_by_in_phase n.client (phase_then seconds n slot.phase) left client (comes client none)

    none_by_finds : (c : Option ℕ) → NoneComes es (finds c n es).0
    none_by_finds None = none_by_find (slot_of n.client es) (first_idle n.time es)
    none_by_finds (Some seconds) = by (slot_of n.client es) (first_idle n.time es)
      where
        met_none : (slot : Slot) (b : Bool) → NoneComes es (met_connection seconds n es slot b).0
        met_none slot true = none_by_without n.client es
        met_none slot false =
            none_by_noting seconds slot (refresh n.client n.time es) (none_by_refresh n.client n.time es)

        there_none : (slot : Slot) (b : Bool) → NoneComes es (met_there seconds n es slot b).0
        there_none slot true = none_by_without n.client es
        there_none slot false = met_none slot (gives_way n slot)

        by : (o : Option Slot) (idle : Option (Endpoint × Slot)) → NoneComes es (met_by seconds n es o idle).0
        by (Some slot) idle = there_none slot (is_idle n.time (n.client, slot))
        by None (Some e) = none_by_without_idle n.time es
        by None None = λ client none. none

    none_by_check : (b : Bool) → NoneComes es (without_if b n.client es)
    none_by_check true = none_by_without n.client es
    none_by_check false = λ client none. none

    none_by_checks : (c : Option ℕ) → NoneComes es (checks c n es).0
    none_by_checks None = none_by_check (lives n.client n.backend n.time es && n.resets)
    none_by_checks (Some seconds) = by (slot_of n.client es)
      where
        there_none : (slot : Slot) (b : Bool) → NoneComes es (checked_there seconds n es slot b).0
        there_none slot true = none_by_noting seconds slot es (λ client none. none)
        there_none slot false = λ client none. none

        by : (o : Option Slot) → NoneComes es (checked_by seconds n es o).0
        by (Some slot) = there_none slot (lives_at n.client n.backend n.time (Some slot))
        by None = λ client none. none

  -- a new connection is the one that the packet makes
  abbrev IsNew : Endpoint → Slot → Type 0
  IsNew client slot = (client ≡ n.client) × (slot.port ≡ n.backend) × (slot.last ≡ n.time)

  appended_new : (es : Forwards) (client : Endpoint) (slot : Slot) → slot_of client es ≡ None
      → slot_of client (es ++ (n.client, new_slot n) ∷ []) ≡ Some slot → IsNew client slot
  appended_new es client slot none is =
      let k = new_appended n.client client slot (new_slot n) es none is in
      (k.0, ap (λ (x : Slot). x.port) k.1, ap (λ (x : Slot). x.last) k.1)

  bound_new : (es : Forwards) (a : Option Slot) (client : Endpoint) (slot : Slot) → slot_of n.client es ≡ a
      → slot_of client es ≡ None → slot_of client (bound n.client n.backend n.time es a).1 ≡ Some slot
      → IsNew client slot
  bound_new es (Some there) client slot at none is =
      let k = none_by_refresh n.client n.time es client none in absurd (cc)
  bound_new es None client slot at none is = appended_new es client slot none is

  connected_new : (seconds : ℕ) (es : Forwards) (o : Option Slot) (client : Endpoint) (slot : Slot)
      → slot_of client es ≡ None → slot_of client (connected_by seconds n es o).0 ≡ Some slot → IsNew client slot
  connected_new seconds es (Some there) client slot none is =
      let k = none_by_in_phase n.client (phase_then seconds n there.phase) (refresh n.client n.time es) client
      (none_by_refresh n.client n.time es client none) in absurd (cc)
  connected_new seconds es None client slot none is =
      let had = in_phase_had n.client (phase_then seconds n Plain) client slot (es ++ (n.client, new_slot n) ∷ []) is in
      let k = appended_new es client had.0 none had.1 in
      (k.0, had.2 ∙ k.1, had.3 ∙ k.2)

  connects_new : (c : Option ℕ) (es : Forwards) (client : Endpoint) (slot : Slot) → slot_of client es ≡ None
      → slot_of client (connects c n es).0 ≡ Some slot → IsNew client slot
  connects_new None es client slot none is = bound_new es (slot_of n.client es) client slot refl none is
  connects_new (Some seconds) es client slot none is =
      connected_new seconds es (slot_of n.client es) client slot none is

  touch_goes : (place : Place) (x : BalancerValue) (v : ℕ) → Fits s v x → KnownAt s r met p place n
      → AllGo (connections_in x) (connections_in (touched s.closing place x n).0)
  touch_goes HearsTime x v fits k = all_stay Gone n.time (connections_in x)
  touch_goes FindsConnection (Dropped d) v fits k = all_stay Gone n.time []
  touch_goes FindsConnection (Loaded loads) v fits k = all_stay Gone n.time []
  touch_goes FindsConnection (Connected es) v fits k =
      finds_go v es fits.2 s.closing refl k
  touch_goes LowersIdle (Dropped d) v fits k = all_stay Gone n.time []
  touch_goes LowersIdle (Loaded loads) v fits k = all_stay Gone n.time []
  touch_goes LowersIdle (Connected es) v fits k = all_stay Gone n.time es
  touch_goes RaisesLeast (Dropped d) v fits k = all_stay Gone n.time []
  touch_goes RaisesLeast (Loaded loads) v fits k = all_stay Gone n.time []
  touch_goes RaisesLeast (Connected es) v fits k = all_stay Gone n.time es
  touch_goes Connects (Dropped d) v fits k = all_stay Gone n.time []
  touch_goes Connects (Loaded loads) v fits k = all_stay Gone n.time []
  touch_goes Connects (Connected es) v fits k = connects_go v es fits.2 s.closing
  touch_goes LowersVain (Dropped d) v fits k = all_stay Gone n.time []
  touch_goes LowersSpare (Dropped d) v fits k = all_stay Gone n.time []
  touch_goes LowersVain (Loaded loads) v fits k = all_stay Gone n.time []
  touch_goes LowersSpare (Loaded loads) v fits k = all_stay Gone n.time []
  touch_goes LowersVain (Connected es) v fits k = all_stay Gone n.time es
  touch_goes LowersSpare (Connected es) v fits k = all_stay Gone n.time es
  touch_goes ChecksConnection (Dropped d) v fits k = all_stay Gone n.time []
  touch_goes ChecksConnection (Loaded loads) v fits k = all_stay Gone n.time []
  touch_goes ChecksConnection (Connected es) v fits k =
      checks_go v es fits.2 s.closing refl k
  touch_goes CountsDrop (Dropped d) v fits k = all_stay Gone n.time []
  touch_goes CountsDrop (Loaded loads) v fits k = all_stay Gone n.time []
  touch_goes CountsDrop (Connected es) v fits k = all_stay Gone n.time es
  touch_goes SendsOut x v fits k = all_stay Gone n.time (connections_in x)
  touch_goes Ends x v fits k = all_stay Gone n.time (connections_in x)

  -- the new connection of a touch
  abbrev Brings : Place → BalancerValue → BalancerValue → Type 0
  Brings place x left =
      (client : Endpoint) (slot : Slot) → slot_of client (connections_in x) ≡ None
      → slot_of client (connections_in left) ≡ Some slot → (place ≡ Connects) × IsNew client slot

  no_new : (place : Place) (es : Forwards) (client : Endpoint) (slot : Slot) → slot_of client es ≡ None
      → slot_of client es ≡ Some slot → (place ≡ Connects) × IsNew client slot
  no_new place es client slot none is = absurd (cc)

  none_new : (place : Place) (es left : Forwards) → NoneComes es left → (client : Endpoint) (slot : Slot)
      → slot_of client es ≡ None → slot_of client left ≡ Some slot → (place ≡ Connects) × IsNew client slot
  none_new place es left comes client slot none is = let k = comes client none in absurd (cc)

  touch_brings : (place : Place) (x : BalancerValue) (v : ℕ) → Fits s v x
      → Brings place x (touched s.closing place x n).0
  touch_brings HearsTime x v fits = no_new HearsTime (connections_in x)
  touch_brings FindsConnection (Dropped d) v fits = no_new FindsConnection []
  touch_brings FindsConnection (Loaded loads) v fits = no_new FindsConnection []
  touch_brings FindsConnection (Connected es) v fits =
      none_new FindsConnection es (finds s.closing n es).0 (none_by_finds v es fits.2 s.closing)
  touch_brings LowersIdle (Dropped d) v fits = no_new LowersIdle []
  touch_brings LowersIdle (Loaded loads) v fits = no_new LowersIdle []
  touch_brings LowersIdle (Connected es) v fits = no_new LowersIdle es
  touch_brings RaisesLeast (Dropped d) v fits = no_new RaisesLeast []
  touch_brings RaisesLeast (Loaded loads) v fits = no_new RaisesLeast []
  touch_brings RaisesLeast (Connected es) v fits = no_new RaisesLeast es
  touch_brings Connects (Dropped d) v fits = no_new Connects []
  touch_brings Connects (Loaded loads) v fits = no_new Connects []
  touch_brings Connects (Connected es) v fits =
      λ client slot none is. (refl, connects_new s.closing es client slot none is)
  touch_brings LowersVain (Dropped d) v fits = no_new LowersVain []
  touch_brings LowersSpare (Dropped d) v fits = no_new LowersSpare []
  touch_brings LowersVain (Loaded loads) v fits = no_new LowersVain []
  touch_brings LowersSpare (Loaded loads) v fits = no_new LowersSpare []
  touch_brings LowersVain (Connected es) v fits = no_new LowersVain es
  touch_brings LowersSpare (Connected es) v fits = no_new LowersSpare es
  touch_brings ChecksConnection (Dropped d) v fits = no_new ChecksConnection []
  touch_brings ChecksConnection (Loaded loads) v fits = no_new ChecksConnection []
  touch_brings ChecksConnection (Connected es) v fits =
      none_new ChecksConnection es (checks s.closing n es).0 (none_by_checks v es fits.2 s.closing)
  touch_brings CountsDrop (Dropped d) v fits = no_new CountsDrop []
  touch_brings CountsDrop (Loaded loads) v fits = no_new CountsDrop []
  touch_brings CountsDrop (Connected es) v fits = no_new CountsDrop es
  touch_brings SendsOut x v fits = no_new SendsOut (connections_in x)
  touch_brings Ends x v fits = no_new Ends (connections_in x)

-- the time noted is the one that was told, wherever a table is touched
pub time_noted : (s : Settings) (r : Trail) (met : Option (List ℕ × List ℕ)) (p : Packet) (place : Place) (n : Noted)
    (v : ℕ) → 2 ≤ v → next_move s place n ≡ Access v → KnownAt s r met p place n → r.clock ≡ Some n.time
time_noted s r met p HearsTime n v table e k = absurd (cc)
time_noted s r met p FindsConnection n v table e k = k.clock
time_noted s r met p LowersIdle n v table e k = k.0.clock
time_noted s r met p RaisesLeast n v table e k = k.0.clock
time_noted s r met p Connects n v table e k = k.0.clock
time_noted s r met p LowersVain n v table e k = let one : 1 ≡ v = cc in absurd (omega arith)
time_noted s r met p LowersSpare n v table e k = let one : 1 ≡ v = cc in absurd (omega arith)
time_noted s r met p ChecksConnection n v table e k = k.clock
time_noted s r met p CountsDrop n v table e k = let none : 0 ≡ v = cc in absurd (omega arith)
time_noted s r met p SendsOut n v table e k = absurd (cc)
time_noted s r met p Ends n v table e k = absurd (cc)

-- a connection is in a table
pub in_table : (s : Settings) (v : ℕ) (x : BalancerValue) (client : Endpoint) (slot : Slot) → Fits s v x
    → slot_of client (connections_in x) ≡ Some slot → 2 ≤ v
in_table s v (Dropped d) client slot fits is = absurd (cc)
in_table s v (Loaded loads) client slot fits is = absurd (cc)
in_table s v (Connected es) client slot fits is = fits.0

goes_stays : (s : Settings) (r : Trail) (met : Option (List ℕ × List ℕ)) (h : Hand) (n : Noted) (client : Endpoint)
    (slot : Slot) (o : Option Slot) → r.clock ≡ Some n.time
    → Goes (Gone s r met h.packet h.place n) n.time client slot o
    → Stays s r.clock (Some h) client slot o
goes_stays s r met h n client slot None clock g = g
goes_stays s r met h n client slot (Some new) clock (port, inl last) = (port, inl last)
goes_stays s r met h n client slot (Some new) clock (port, inr k) = (port, inr (k.0, clock ∙ ap Some (sym k.1)))

-- Each step

module _ (s : Settings) (is : AreSettings s) (packets : List Packet) (t taken taken_then : ℕ)
    (value : ℕ → BalancerValue) (before after : Option Hand) (earlier : List (Step BalancerValue)) (r : Trail)
    (met : Option (List ℕ × List ℕ)) (known : Known s r met before) (v : ℕ) (fits : Fits s v (value v)) where
  -- a touch of the variable, by the packet in hand
  pub touch_is : (w : ℕ) (left : BalancerValue) → Made s packets taken value before after (Touches w left) → w ≡ v
      → (h : Hand) × (before ≡ Some h)
      × (next_move s (place_numbered h.place.at) (noted_by s h.place) ≡ Access v)
      × (left ≡ (touched s.closing (place_numbered h.place.at) (value v) (noted_by s h.place)).0)
      × KnownAt s r met h.packet (place_numbered h.place.at) (noted_by s h.place)
  touch_is w left m e = (
    m.0,
    m.1,
    m.2 ∙ ap Access e,
    m.3 ∙ ap (λ (u : ℕ). (touched s.closing (place_numbered m.0.place.at) (value u) (noted_by s m.0.place)).0) e,
    subst (Known s r met) m.1 known,
  )

  deed_stays : (client : Endpoint) (slot : Slot) (d : Effect BalancerValue)
      → slot_of client (connections_in (value v)) ≡ Some slot → Made s packets taken value before after d
      → Stays s r.clock before client slot
      (slot_of client (connections_in (left_by v (act_of t earlier taken_then d) (value v))))
  deed_stays client slot Takes at m = same_stays s r.clock before client slot _ at
  deed_stays client slot (Looks w) at m = absurd m
  deed_stays client slot (HearsClock a) at m = same_stays s r.clock before client slot _ at
  deed_stays client slot (HearsDraw a) at m = absurd m
  deed_stays client slot (Sends q) at m = same_stays s r.clock before client slot _ at
  deed_stays client slot EndsIt at m = same_stays s r.clock before client slot _ at
  deed_stays client slot (Touches w left) at m = by (nat_eq w v) refl
    where
      by : (b : Bool) → nat_eq w v ≡ b
          → Stays s r.clock before client slot (slot_of client (connections_in (cond b left (value v))))
      by false q = same_stays s r.clock before client slot _ at
      by true q =
          let k = touch_is w left m (eqb-true _ _ q) in
          let h : Hand = k.0 in
          let n : Noted = noted_by s h.place in
          let clock : r.clock ≡ Some n.time =
          time_noted s r met h.packet (place_numbered h.place.at) n v (in_table s v (value v) client slot fits at)
          k.2 k.4 in
          let goes = touch_goes s r met h.packet h.place n (place_numbered h.place.at) (value v) v fits k.4 client
          slot at in
          let there = goes_stays s r met h n client slot
          (slot_of client (connections_in (touched s.closing (place_numbered h.place.at) (value v) n).0)) clock goes in
          subst (λ (y : BalancerValue). Stays s r.clock before client slot (slot_of client (connections_in y)))
          (sym k.3)
          (subst (λ (y : Option Hand). Stays s r.clock y client slot
          (slot_of client (connections_in (touched s.closing (place_numbered h.place.at) (value v) n).0))) (sym k.1)
          there)

  abbrev IsFresh : Endpoint → Slot → Type 0
  IsFresh client slot = WasChosen met slot.port × IsFromClient s client before × (r.clock ≡ Some slot.last)

  fresh_of : (h : Hand) (client : Endpoint) (slot : Slot) (place : Place) → before ≡ Some h → place ≡ Connects
      → KnownAt s r met h.packet place (noted_by s h.place)
      → IsNew s r met h.packet h.place (noted_by s h.place) client slot
      → IsFresh client slot
  fresh_of h client slot place at here k new =
      let n : Noted = noted_by s h.place in
      let c = subst (λ (q : Place). KnownAt s r met h.packet q n) here k in
      let told : IsTold s r h.packet n Client = c.0 in
      let base : IsBase s h.packet n = told.base in
      let of = client_of s h.packet n base told.is_class in
      let from : IsFromClient s client (Some h) = (base.flow, base.seen, of.0, new.0 ∙ of.1) in (
        subst (WasChosen met) (sym new.1) c.1,
        subst (IsFromClient s client) (sym at) from,
        told.clock ∙ ap Some (sym new.2),
      )

  deed_brings : (client : Endpoint) (slot : Slot) (d : Effect BalancerValue)
      → slot_of client (connections_in (value v)) ≡ None
      → slot_of client (connections_in (left_by v (act_of t earlier taken_then d) (value v))) ≡ Some slot
      → Made s packets taken value before after d → IsFresh client slot
  deed_brings client slot Takes none at m = absurd (cc)
  deed_brings client slot (Looks w) none at m = absurd m
  deed_brings client slot (HearsClock a) none at m = absurd (cc)
  deed_brings client slot (HearsDraw a) none at m = absurd m
  deed_brings client slot (Sends q) none at m = absurd (cc)
  deed_brings client slot EndsIt none at m = absurd (cc)
  deed_brings client slot (Touches w left) none at m = by (nat_eq w v) refl at
    where
      by : (b : Bool) → nat_eq w v ≡ b → slot_of client (connections_in (cond b left (value v))) ≡ Some slot
          → IsFresh client slot
      by false q at = absurd (cc)
      by true q at =
          let k = touch_is w left m (eqb-true _ _ q) in
          let h : Hand = k.0 in
          let n : Noted = noted_by s h.place in
          let there = subst (λ (y : BalancerValue). slot_of client (connections_in y) ≡ Some slot) k.3 at in
          let new =
          touch_brings s r met h.packet h.place n (place_numbered h.place.at) (value v) v fits client slot none there in
          fresh_of h client slot (place_numbered h.place.at) k.1 new.0 k.4 new.1

pub connections_stay : ConnectionsStay
connections_stay s threads inputs x earlier is bytes h v low client slot at =
    let value : ℕ → BalancerValue = value_after (balancer_meaning s) earlier in
    let old : Thread = thread_after earlier x.thread in
    let m = made s (inputs x.thread) value old.taken x.after h.0.2 old.hand h.0.1 h.0.3 in
    let fits = values_fit (balancer_meaning s) (Fits s) (balancer_lawful s is) inputs threads earlier h.1 v low in
    rw h.0.4 (deed_stays s is (inputs x.thread) x.thread old.taken x.after.taken value old.hand x.after.hand earlier
    (trail_of s x.thread earlier) (loads_met s x.thread earlier)
    (run_known s threads inputs earlier is bytes h.1 x.thread) v fits client slot h.0.2 at m)

pub new_have_least : NewConnectionsHaveLeastLoad
new_have_least s threads inputs x earlier is bytes h v low client slot none at =
    let value : ℕ → BalancerValue = value_after (balancer_meaning s) earlier in
    let old : Thread = thread_after earlier x.thread in
    let m = made s (inputs x.thread) value old.taken x.after h.0.2 old.hand h.0.1 h.0.3 in
    let fits = values_fit (balancer_meaning s) (Fits s) (balancer_lawful s is) inputs threads earlier h.1 v low in
    deed_brings s is (inputs x.thread) x.thread old.taken x.after.taken value old.hand x.after.hand earlier
    (trail_of s x.thread earlier) (loads_met s x.thread earlier)
    (run_known s threads inputs earlier is bytes h.1 x.thread) v fits client slot h.0.2 none (rw h.0.4 at at) m
