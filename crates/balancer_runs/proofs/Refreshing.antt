-- Clients refresh their own connections.
use Rattle.std.proofs.Common.{◌≡◌, ℕ, ◌<◌, ◌≤◌, max, Bool, true, false, List, [], ◌∷◌, ◌++◌, refl, sym, ap, ◌∙◌, subst}
use Rattle.std.proofs.Common.{◌⊎◌, inl, inr, arith, Option, Some, None}
use Rattle.std.specs.Prelude.{nat_eq, cond, ◌&&◌, Ok}
use Rattle.std.proofs.lemmas.Bool.{eqb-true, cases_lt}
use Rattle.plain_text.specs.declared.packet.Packet.{Packet}
use Rattle.packet_headers.specs.declared.flow.Flow.{Flow}
use Rattle.plain_machine.specs.declared.local.Move.TheVariants.{Access}
use Rattle.plain_machine.specs.Machine.{Hand, Thread, Effect, Takes, Touches, Looks, HearsClock, HearsDraw, Sends}
use Rattle.plain_machine.specs.Machine.{Ends as EndsIt}
use Rattle.plain_machine.specs.History.{Step, act_of, left_by, thread_after, value_after}
use Rattle.plain_machine.proofs.Bounds.{values_fit}
use Rattle.nat_tables.specs.declared.entries.Endpoint.{Endpoint}
use Rattle.nat_tables.specs.declared.slot.Slot.{Slot}
use Rattle.nat_tables.specs.Keys.{same_endpoint}
use Rattle.nat_tables.specs.Forwards.{Forwards, slot_of, is_idle, first_idle, refreshed, refresh, in_phase, with_phase}
use Rattle.nat_tables.specs.Forwards.{without, without_idle, found_there, found, bound, lives, lives_at, AreMappings}
use Rattle.nat_tables.proofs.Counting.{same_is}
use Rattle.flow_boxes.proofs.Fitting.{same_self}
use Rattle.balancer_box.specs.declared.place.Place.{Place}
use Rattle.balancer_box.specs.declared.place.Place.TheVariants.{HearsTime, FindsConnection, LowersIdle, RaisesLeast}
use Rattle.balancer_box.specs.declared.place.Place.TheVariants.{Connects, LowersSpare, ChecksConnection, CountsDrop}
use Rattle.balancer_box.specs.declared.place.Place.TheVariants.{SendsOut, LowersVain, Ends}
use Rattle.balancer_box.specs.declared.place.Class.TheVariants.{Client, Answer}
use Rattle.balancer_box.specs.declared.place.Noted.{Noted}
use Rattle.balancer_box.specs.declared.value.BalancerValue.{BalancerValue}
use Rattle.balancer_box.specs.declared.value.BalancerValue.TheVariants.{Dropped, Loaded, Connected}
use Rattle.flow_boxes.specs.Flows.{source_of}
use Rattle.balancer_box.specs.Connections.{closed, without_if}
use Rattle.balancer_box.specs.Places.{place_numbered}
use Rattle.balancer_box.specs.Settings.{Settings, AreSettings}
use Rattle.balancer_box.specs.Balancer.{is_virtual, next_move, phase_then, noting, gives_way, met, met_there, met_by}
use Rattle.balancer_box.specs.Balancer.{new_slot, connected_by, checked_there, checked_by, finds, connects, checks}
use Rattle.balancer_box.specs.Balancer.{touched, noted_by, balancer_meaning, MayConnect, Fits}
use Rattle.balancer_box.specs.Lawful.{balancer_lawful}
use Rattle.balancer_box.specs.Entries.{connections_in}
use Rattle.balancer_box.specs.Emissions.{Trail, trail_of}
use Rattle.balancer_box.proofs.ConnectionLemmas.{slot_refreshed, slot_in_phase, slot_appended, without_refreshed}
use Rattle.balancer_box.proofs.Making.{Made, made}
use Rattle.balancer_box.proofs.Sendings.{IsOf}
use Rattle.balancer_runs.specs.Choosing.{loads_met}
use Rattle.balancer_runs.specs.Refreshing.{IsOfClient, OnlyClientsRefresh, ClientsRefresh}
use Rattle.balancer_runs.proofs.Tables.{other_refresh, other_in_phase, other_without, other_append, none_without}
use Rattle.balancer_runs.proofs.Tables.{without_idle_had}
use Rattle.balancer_runs.proofs.Known.{IsTold, KnownAt, Known, client_of, answer_of}
use Rattle.balancer_runs.proofs.Knowing.{run_known}
use Rattle.balancer_runs.proofs.Connections.{touch_is}
use Rattle.balancer_runs.proofs.Touching.{table_touched}

-- What a touch leaves

-- a connection was last used when it was before; or it is the packet's client's, and was used at its time
abbrev pub WasUsed : Noted → Forwards → Endpoint → Slot → Type 0
WasUsed n es client slot =
    ((old : Slot) × (slot_of client es ≡ Some old) × (slot.last ≡ old.last))
    ⊎ ((client ≡ n.client) × (slot.last ≡ n.time))

abbrev pub AllUsed : Noted → Forwards → Forwards → Type 0
AllUsed n es left = (client : Endpoint) (slot : Slot) → slot_of client left ≡ Some slot → WasUsed n es client slot

-- the client's own was used at the packet's time or later
abbrev pub IsFresh : Noted → Forwards → Type 0
IsFresh n left = (slot : Slot) → slot_of n.client left ≡ Some slot → n.time ≤ slot.last

abbrev pub IsRefreshed : Noted → Forwards → Forwards → Type 0
IsRefreshed n es left = AllUsed n es left × IsFresh n left

later_or : (last now : ℕ) → (max last now ≡ now) ⊎ ((max last now ≡ last) × (now ≤ last))
later_or last now = by (cases_lt last now)
  where
    by : (last < now) ⊎ (now ≤ last) → (max last now ≡ now) ⊎ ((max last now ≡ last) × (now ≤ last))
    by (inl less) = inl (omega (arith, less))
    by (inr more) = inr (omega (arith, more), more)

module _ (n : Noted) (es : Forwards) where
  -- by a change at the packet's own client alone
  used_by : (left : Forwards)
      → ((client : Endpoint) → same_endpoint client n.client ≡ false → slot_of client left ≡ slot_of client es)
      → ((slot : Slot) → slot_of n.client left ≡ Some slot → WasUsed n es n.client slot) → AllUsed n es left
  used_by left others own client slot at = by (same_endpoint client n.client) refl
    where
      by : (b : Bool) → same_endpoint client n.client ≡ b → WasUsed n es client slot
      by true q =
          let k : client ≡ n.client = same_is client n.client q in
          subst (λ (x : Endpoint). WasUsed n es x slot) (sym k)
          (own slot (subst (λ (x : Endpoint). slot_of x left ≡ Some slot) k at))
      by false q = inl (slot, sym (others client q) ∙ at, refl)

  same : AllUsed n es es
  same client slot at = inl (slot, at, refl)

  gone : (left : Forwards)
      → ((client : Endpoint) → same_endpoint client n.client ≡ false → slot_of client left ≡ slot_of client es)
      → slot_of n.client left ≡ None → IsRefreshed n es left
  gone left others none =
      (used_by left others (λ slot at. absurd (cc (none, at))), λ slot at. absurd (cc (none, at)))

  without_own : (May : Endpoint → Slot → Type 0) → AreMappings May es → IsRefreshed n es (without n.client es)
  without_own May all = gone (without n.client es) (λ client q. other_without n.client client es q)
      (none_without May n.client es all)

  -- the client's is this one
  is_now : (left : Forwards) (own : Slot)
      → ((client : Endpoint) → same_endpoint client n.client ≡ false → slot_of client left ≡ slot_of client es)
      → slot_of n.client left ≡ Some own → WasUsed n es n.client own → n.time ≤ own.last → IsRefreshed n es left
  is_now left own others at used fresh = (
    used_by left others (λ slot there. (let e : own ≡ slot = cc (at, there) in subst (WasUsed n es n.client) e used)),
    λ slot there. (let e : own ≡ slot = cc (at, there) in subst (λ (x : Slot). n.time ≤ x.last) e fresh),
  )

  last_used : (slot : Slot) → slot_of n.client es ≡ Some slot → WasUsed n es n.client (refreshed n.time slot)
  last_used slot at = by (later_or slot.last n.time)
    where
      by : (max slot.last n.time ≡ n.time) ⊎ ((max slot.last n.time ≡ slot.last) × (n.time ≤ slot.last))
          → WasUsed n es n.client (refreshed n.time slot)
      by (inl k) = inr (refl, k)
      by (inr k) = inl (slot, at, k.0)

  refresh_own : (slot : Slot) → slot_of n.client es ≡ Some slot → IsRefreshed n es (refresh n.client n.time es)
  refresh_own slot at =
      is_now (refresh n.client n.time es) (refreshed n.time slot)
      (λ client q. other_refresh n.client n.time client es q) (slot_refreshed n.client n.time slot es at)
      (last_used slot at) (omega arith)

  note_own : (seconds : ℕ) (slot : Slot) → slot_of n.client es ≡ Some slot
      → IsRefreshed n es (noting seconds n slot (refresh n.client n.time es))
  note_own seconds slot at =
      let phase = phase_then seconds n slot.phase in
      let left : Forwards = refresh n.client n.time es in
      is_now (with_phase n.client phase left) (in_phase phase (refreshed n.time slot))
      (λ client q. other_in_phase n.client phase client left q ∙ other_refresh n.client n.time client es q)
      (slot_in_phase n.client phase (refreshed n.time slot) left (slot_refreshed n.client n.time slot es at))
      (last_used slot at) (omega arith)

  new_own : slot_of n.client es ≡ None → IsRefreshed n es (es ++ (n.client, new_slot n) ∷ [])
  new_own at =
      is_now (es ++ (n.client, new_slot n) ∷ []) (new_slot n)
      (λ client q. other_append n.client (new_slot n) client es q)
      (slot_appended n.client (new_slot n) es at (same_self n.client)) (inr (refl, refl)) (omega arith)

  note_new : (seconds : ℕ) → slot_of n.client es ≡ None
      → IsRefreshed n es (noting seconds n (new_slot n) (es ++ (n.client, new_slot n) ∷ []))
  note_new seconds at =
      let phase = phase_then seconds n (new_slot n).phase in
      let left : Forwards = es ++ (n.client, new_slot n) ∷ [] in
      is_now (with_phase n.client phase left) (in_phase phase (new_slot n))
      (λ client q. other_in_phase n.client phase client left q ∙ other_append n.client (new_slot n) client es q)
      (slot_in_phase n.client phase (new_slot n) left
      (slot_appended n.client (new_slot n) es at (same_self n.client))) (inr (refl, refl)) (omega arith)

  -- an answer notes what it tells, and nothing else
  note_answer : (seconds : ℕ) (slot : Slot) → slot_of n.client es ≡ Some slot → AllUsed n es (noting seconds n slot es)
  note_answer seconds slot at =
      let phase = phase_then seconds n slot.phase in
      used_by (with_phase n.client phase es) (λ client q. other_in_phase n.client phase client es q)
      (λ new there.
      (let e : in_phase phase slot ≡ new = cc (slot_in_phase n.client phase slot es at, there) in
      subst (WasUsed n es n.client) e (inl (slot, at, refl))))

  module _ (May : Endpoint → Slot → Type 0) (all : AreMappings May es) where
    idle_gone : slot_of n.client es ≡ None → IsRefreshed n es (without_idle n.time es)
    idle_gone at = (
      λ client slot there. inl (slot, without_idle_had May n.time client slot es all there, refl),
      λ slot there. (let had = without_idle_had May n.time n.client slot es all there in absurd (cc (had, at))),
    )

    unchanged : slot_of n.client es ≡ None → IsRefreshed n es es
    unchanged at = (same, λ slot there. absurd (cc (there, at)))

    found_used : (o : Option Slot) (idle : Option (Endpoint × Slot)) → slot_of n.client es ≡ o
        → (let f = found n.client n.time es o idle in IsRefreshed n es (closed f.0 n.resets n.client f.1))
    found_used (Some slot) idle at = by (is_idle n.time (n.client, slot))
      where
        of_used : (b : Bool) → IsRefreshed n es (without_if b n.client (refresh n.client n.time es))
        of_used true =
            subst (IsRefreshed n es) (sym (without_refreshed n.client n.time es)) (without_own May all)
        of_used false = refresh_own slot at

        by : (b : Bool)
            → (let f = found_there n.client n.time es slot b in
            IsRefreshed n es (closed f.0 n.resets n.client f.1))
        by true = without_own May all
        by false = of_used n.resets
    found_used None (Some e) at = idle_gone at
    found_used None None at = unchanged at

    pub finds_used : (c : Option ℕ) → IsRefreshed n es (finds c n es).0
    finds_used None = found_used (slot_of n.client es) (first_idle n.time es) refl
    finds_used (Some seconds) = by (slot_of n.client es) (first_idle n.time es) refl
      where
        of_met : (slot : Slot) (b : Bool) → slot_of n.client es ≡ Some slot
            → IsRefreshed n es (met seconds n es slot b).0
        of_met slot true at = without_own May all
        of_met slot false at = note_own seconds slot at

        of_there : (slot : Slot) (b : Bool) → slot_of n.client es ≡ Some slot
            → IsRefreshed n es (met_there seconds n es slot b).0
        of_there slot true at = without_own May all
        of_there slot false at = of_met slot (gives_way n slot) at

        by : (o : Option Slot) (idle : Option (Endpoint × Slot)) → slot_of n.client es ≡ o
            → IsRefreshed n es (met_by seconds n es o idle).0
        by (Some slot) idle at = of_there slot (is_idle n.time (n.client, slot)) at
        by None (Some e) at = idle_gone at
        by None None at = unchanged at

    pub connects_used : (c : Option ℕ) → IsRefreshed n es (connects c n es).0
    connects_used None = by (slot_of n.client es) refl
      where
        by : (o : Option Slot) → slot_of n.client es ≡ o
            → IsRefreshed n es (bound n.client n.backend n.time es o).1
        by (Some slot) at = refresh_own slot at
        by None at = new_own at
    connects_used (Some seconds) = by (slot_of n.client es) refl
      where
        by : (o : Option Slot) → slot_of n.client es ≡ o → IsRefreshed n es (connected_by seconds n es o).0
        by (Some slot) at = note_own seconds slot at
        by None at = note_new seconds at

    -- and so what an answer leaves is used as it was: it is not its client's
    abbrev AllWere : Forwards → Type 0
    AllWere left =
        (client : Endpoint) (slot : Slot) → slot_of client left ≡ Some slot
        → (old : Slot) × (slot_of client es ≡ Some old) × (slot.last ≡ old.last)

    note_were : (seconds : ℕ) (slot : Slot) → slot_of n.client es ≡ Some slot → AllWere (noting seconds n slot es)
    note_were seconds own at client slot there = by (same_endpoint client n.client) refl
      where
        by : (b : Bool) → same_endpoint client n.client ≡ b
            → (old : Slot) × (slot_of client es ≡ Some old) × (slot.last ≡ old.last)
        by true q =
            let k : client ≡ n.client = same_is client n.client q in
            let here = subst (λ (x : Endpoint). slot_of x (noting seconds n own es) ≡ Some slot) k there in
            let e : in_phase (phase_then seconds n own.phase) own ≡ slot =
            cc (slot_in_phase n.client (phase_then seconds n own.phase) own es at, here) in
            (own, ap (λ (x : Endpoint). slot_of x es) k ∙ at, ap (λ (x : Slot). x.last) (sym e))
        by false q =
            (slot, sym (other_in_phase n.client (phase_then seconds n own.phase) client es q) ∙ there, refl)

    without_were : AllWere (without n.client es)
    without_were client slot there = by (same_endpoint client n.client) refl
      where
        by : (b : Bool) → same_endpoint client n.client ≡ b
            → (old : Slot) × (slot_of client es ≡ Some old) × (slot.last ≡ old.last)
        by true q =
            let k : client ≡ n.client = same_is client n.client q in
            let here = subst (λ (x : Endpoint). slot_of x (without n.client es) ≡ Some slot) k there in
            let none = none_without May n.client es all in
            absurd (cc)
        by false q = (slot, sym (other_without n.client client es q) ∙ there, refl)

    pub checks_used : (c : Option ℕ) → AllWere (checks c n es).0
    checks_used None = by (lives n.client n.backend n.time es && n.resets)
      where
        by : (b : Bool) → AllWere (without_if b n.client es)
        by true = without_were
        by false = λ client slot at. (slot, at, refl)
    checks_used (Some seconds) = by (slot_of n.client es) refl
      where
        of_there : (slot : Slot) (b : Bool) → slot_of n.client es ≡ Some slot
            → AllWere (checked_there seconds n es slot b).0
        of_there slot true at = note_were seconds slot at
        of_there slot false at = λ client slot at. (slot, at, refl)

        by : (o : Option Slot) → slot_of n.client es ≡ o → AllWere (checked_by seconds n es o).0
        by (Some slot) at = of_there slot (lives_at n.client n.backend n.time (Some slot)) at
        by None at = λ client slot at. (slot, at, refl)

-- Of a packet that is known

module _ (s : Settings) (r : Trail) (loads : Option (List ℕ × List ℕ)) (p : Packet) (n : Noted) where
  abbrev Used : Forwards → Forwards → Type 0
  Used es left =
      (client : Endpoint) (slot : Slot) → slot_of client left ≡ Some slot
      → ((old : Slot) × (slot_of client es ≡ Some old) × (slot.last ≡ old.last))
      ⊎ (IsOfClient s client p × (r.clock ≡ Some slot.last))

  -- and a packet of a client leaves its own fresh
  abbrev Fresh : Forwards → Type 0
  Fresh left =
      (client : Endpoint) (slot : Slot) → IsOfClient s client p → slot_of client left ≡ Some slot
      → (now : ℕ) × (r.clock ≡ Some now) × (now ≤ slot.last)

  same_used : (es : Forwards) → Used es es
  same_used es client slot at = inl (slot, at, refl)

  used_on : (es left : Forwards) → IsTold s r p n Client → AllUsed n es left → Used es left
  used_on es left told all client slot at = on (all client slot at)
    where
      of : IsOf s told.base.flow n Client
      of = client_of s p n told.base told.is_class

      on : WasUsed n es client slot
          → ((old : Slot) × (slot_of client es ≡ Some old) × (slot.last ≡ old.last))
          ⊎ (IsOfClient s client p × (r.clock ≡ Some slot.last))
      on (inl k) = inl k
      on (inr k) =
          inr ((told.base.flow, told.base.seen, of.0, k.0 ∙ of.1), told.clock ∙ ap Some (sym k.1))

  pub own_client : (client : Endpoint) → IsTold s r p n Client → IsOfClient s client p → client ≡ n.client
  own_client client told is =
      let of : IsOf s told.base.flow n Client = client_of s p n told.base told.is_class in
      let both : Ok is.0 ≡ Ok told.base.flow = sym is.1 ∙ told.base.seen in
      let one : is.0 ≡ told.base.flow = cc in
      is.3 ∙ ap source_of one ∙ sym of.1

  fresh_on : (left : Forwards) → IsTold s r p n Client → IsFresh n left → Fresh left
  fresh_on left told fresh client slot is at =
      let k : client ≡ n.client = own_client client told is in
      (n.time, told.clock, fresh slot (subst (λ (x : Endpoint). slot_of x left ≡ Some slot) k at))

  pub not_answer : (client : Endpoint) → IsTold s r p n Answer → IsOfClient s client p → ⊥
  not_answer client told is =
      let of : IsOf s told.base.flow n Answer = answer_of s p n told.base told.is_class in
      let both : Ok is.0 ≡ Ok told.base.flow = sym is.1 ∙ told.base.seen in
      let one : is.0 ≡ told.base.flow = cc in
      let virtual : is_virtual s told.base.flow.dest told.base.flow.dest_port ≡ true =
      subst (λ (g : Flow). is_virtual s g.dest g.dest_port ≡ true) one is.2 in
      let not_virtual : is_virtual s told.base.flow.dest told.base.flow.dest_port ≡ false = of.0 in
      absurd (cc)

  no_answer : (left : Forwards) → IsTold s r p n Answer → Fresh left
  no_answer left told client slot is at = absurd (not_answer client told is)

  touch_used : (place : Place) (x : BalancerValue) (v : ℕ) → Fits s v x → KnownAt s r loads p place n
      → Used (connections_in x) (connections_in (touched s.closing place x n).0)
  touch_used HearsTime x v fits k = same_used (connections_in x)
  touch_used FindsConnection (Dropped d) v fits k = same_used []
  touch_used FindsConnection (Loaded loads) v fits k = same_used []
  touch_used FindsConnection (Connected es) v fits k =
      used_on es (finds s.closing n es).0 k (finds_used n es (MayConnect s v) fits.2 s.closing).0
  touch_used LowersIdle (Dropped d) v fits k = same_used []
  touch_used LowersIdle (Loaded loads) v fits k = same_used []
  touch_used LowersIdle (Connected es) v fits k = same_used es
  touch_used RaisesLeast (Dropped d) v fits k = same_used []
  touch_used RaisesLeast (Loaded loads) v fits k = same_used []
  touch_used RaisesLeast (Connected es) v fits k = same_used es
  touch_used Connects (Dropped d) v fits k = same_used []
  touch_used Connects (Loaded loads) v fits k = same_used []
  touch_used Connects (Connected es) v fits k =
      used_on es (connects s.closing n es).0 k.0 (connects_used n es (MayConnect s v) fits.2 s.closing).0
  touch_used LowersVain (Dropped d) v fits k = same_used []
  touch_used LowersVain (Loaded loads) v fits k = same_used []
  touch_used LowersVain (Connected es) v fits k = same_used es
  touch_used LowersSpare (Dropped d) v fits k = same_used []
  touch_used LowersSpare (Loaded loads) v fits k = same_used []
  touch_used LowersSpare (Connected es) v fits k = same_used es
  touch_used ChecksConnection (Dropped d) v fits k = same_used []
  touch_used ChecksConnection (Loaded loads) v fits k = same_used []
  touch_used ChecksConnection (Connected es) v fits k =
      λ client slot at. inl (checks_used n es (MayConnect s v) fits.2 s.closing client slot at)
  touch_used CountsDrop (Dropped d) v fits k = same_used []
  touch_used CountsDrop (Loaded loads) v fits k = same_used []
  touch_used CountsDrop (Connected es) v fits k = same_used es
  touch_used SendsOut x v fits k = same_used (connections_in x)
  touch_used Ends x v fits k = same_used (connections_in x)

  -- a touch of a connection table
  touch_fresh : (place : Place) (es : Forwards) (v : ℕ) → Fits s v (Connected es) → next_move s place n ≡ Access v
      → KnownAt s r loads p place n → Fresh (connections_in (touched s.closing place (Connected es) n).0)
  touch_fresh HearsTime es v fits move k = absurd (cc)
  touch_fresh FindsConnection es v fits move k =
      fresh_on (finds s.closing n es).0 k (finds_used n es (MayConnect s v) fits.2 s.closing).1
  touch_fresh LowersIdle es v fits move k =
      let one : 1 ≡ v = cc in let low = fits.0 in absurd (omega (arith, one, low))
  touch_fresh RaisesLeast es v fits move k =
      let one : 1 ≡ v = cc in let low = fits.0 in absurd (omega (arith, one, low))
  touch_fresh Connects es v fits move k =
      fresh_on (connects s.closing n es).0 k.0 (connects_used n es (MayConnect s v) fits.2 s.closing).1
  touch_fresh LowersVain es v fits move k =
      let one : 1 ≡ v = cc in let low = fits.0 in absurd (omega (arith, one, low))
  touch_fresh LowersSpare es v fits move k =
      let one : 1 ≡ v = cc in let low = fits.0 in absurd (omega (arith, one, low))
  touch_fresh ChecksConnection es v fits move k = no_answer (checks s.closing n es).0 k
  touch_fresh CountsDrop es v fits move k =
      let none : 0 ≡ v = cc in let low = fits.0 in absurd (omega (arith, none, low))
  touch_fresh SendsOut es v fits move k = absurd (cc)
  touch_fresh Ends es v fits move k = absurd (cc)

-- Each step

module _ (s : Settings) (is : AreSettings s) (packets : List Packet) (t taken taken_then : ℕ)
    (value : ℕ → BalancerValue) (before after : Option Hand) (earlier : List (Step BalancerValue)) (r : Trail)
    (loads : Option (List ℕ × List ℕ)) (known : Known s r loads before) (v : ℕ) (fits : Fits s v (value v)) where
  abbrev IsUsedBy : Endpoint → Slot → Type 0
  IsUsedBy client slot =
      ((old : Slot) × (slot_of client (connections_in (value v)) ≡ Some old) × (slot.last ≡ old.last))
      ⊎ ((h : Hand) × (before ≡ Some h) × IsOfClient s client h.packet × (r.clock ≡ Some slot.last))

  deed_uses : (client : Endpoint) (slot : Slot) (d : Effect BalancerValue)
      → slot_of client (connections_in (left_by v (act_of t earlier taken_then d) (value v))) ≡ Some slot
      → Made s packets taken value before after d → IsUsedBy client slot
  deed_uses client slot Takes at m = inl (slot, at, refl)
  deed_uses client slot (Looks w) at m = absurd m
  deed_uses client slot (HearsClock a) at m = inl (slot, at, refl)
  deed_uses client slot (HearsDraw a) at m = absurd m
  deed_uses client slot (Sends q) at m = inl (slot, at, refl)
  deed_uses client slot EndsIt at m = inl (slot, at, refl)
  deed_uses client slot (Touches w left) at m = by (nat_eq w v) refl at
    where
      of_touch : (h : Hand) → before ≡ Some h
          → ((old : Slot) × (slot_of client (connections_in (value v)) ≡ Some old) × (slot.last ≡ old.last))
          ⊎ (IsOfClient s client h.packet × (r.clock ≡ Some slot.last)) → IsUsedBy client slot
      of_touch h is_held (inl k) = inl k
      of_touch h is_held (inr k) = inr (h, is_held, k.0, k.1)

      by : (b : Bool) → nat_eq w v ≡ b → slot_of client (connections_in (cond b left (value v))) ≡ Some slot
          → IsUsedBy client slot
      by false q at = inl (slot, at, refl)
      by true q at =
          let k = touch_is s is packets t taken taken_then value before after earlier r loads known v fits w left m
          (eqb-true _ _ q) in
          let h : Hand = k.0 in
          let n : Noted = noted_by s h.place in
          let there = subst (λ (y : BalancerValue). slot_of client (connections_in y) ≡ Some slot) k.3 at in
          of_touch h k.1
          (touch_used s r loads h.packet n (place_numbered h.place.at) (value v) v fits k.4 client slot there)

pub only_clients_refresh : OnlyClientsRefresh
only_clients_refresh s threads inputs x earlier v client slot is bytes h low at =
    let value : ℕ → BalancerValue = value_after (balancer_meaning s) earlier in
    let old : Thread = thread_after earlier x.thread in
    let m = made s (inputs x.thread) value old.taken x.after h.0.2 old.hand h.0.1 h.0.3 in
    let fits = values_fit (balancer_meaning s) (Fits s) (balancer_lawful s is) inputs threads earlier h.1 v low in
    deed_uses s is (inputs x.thread) x.thread old.taken x.after.taken value old.hand x.after.hand earlier
    (trail_of s x.thread earlier) (loads_met s x.thread earlier)
    (run_known s threads inputs earlier is bytes h.1 x.thread) v fits client slot h.0.2 (rw h.0.4 at at) m

pub clients_refresh : ClientsRefresh
clients_refresh s threads inputs x earlier entry left v place hand es client slot is bytes h act what low held of table
    at =
    let t = table_touched s threads inputs x earlier entry left v place hand es is bytes h act what low held table in
    let there = subst (λ (y : BalancerValue). slot_of client (connections_in y) ≡ Some slot) t.left at in
    touch_fresh s (trail_of s x.thread earlier) (loads_met s x.thread earlier) hand.packet (noted_by s hand.place)
    (place_numbered hand.place.at) es v t.fits t.move t.known client slot of there
