-- How connections end.
use Rattle.std.proofs.Common.{◌≡◌, ℕ, Bool, true, false, List, refl, sym, ap, ◌∙◌, subst, ◌⊎◌, inl, inr, arith, Option}
use Rattle.std.proofs.Common.{Some, None}
use Rattle.std.specs.Prelude.{◌==◌, ◌&&◌, not, bit_and, Ok}
use Rattle.std.proofs.lemmas.Bool.{eqb-true}
use Rattle.plain_text.specs.declared.packet.Packet.{Packet}
use Rattle.packet_headers.specs.declared.flow.Flow.{Flow}
use Rattle.packet_headers.specs.View.{viewed}
use Rattle.plain_machine.specs.declared.local.Move.TheVariants.{Access}
use Rattle.plain_machine.proofs.Histories.{is_eq}
use Rattle.nat_tables.specs.declared.entries.Endpoint.{Endpoint}
use Rattle.nat_tables.specs.declared.slot.Slot.{Slot}
use Rattle.nat_tables.specs.declared.phase.Phase.{Phase}
use Rattle.nat_tables.specs.declared.phase.Phase.TheVariants.{Closing}
use Rattle.nat_tables.specs.Forwards.{Forwards, slot_of, is_idle, first_idle, refresh, in_phase, found_there, found}
use Rattle.nat_tables.specs.Forwards.{lives, lives_at, AreMappings}
use Rattle.nat_tables.proofs.Keeping.{may_slot}
use Rattle.flow_boxes.specs.Flows.{source_of, dest_of}
use Rattle.balancer_box.specs.declared.place.Place.{Place}
use Rattle.balancer_box.specs.declared.place.Place.TheVariants.{HearsTime, FindsConnection, LowersIdle, RaisesLeast}
use Rattle.balancer_box.specs.declared.place.Place.TheVariants.{Connects, LowersSpare, ChecksConnection, CountsDrop}
use Rattle.balancer_box.specs.declared.place.Place.TheVariants.{SendsOut, LowersVain, Ends}
use Rattle.balancer_box.specs.declared.place.Class.{Class}
use Rattle.balancer_box.specs.declared.place.Class.TheVariants.{Client, Answer}
use Rattle.balancer_box.specs.declared.place.Tells.TheVariants.{Opens}
use Rattle.balancer_box.specs.declared.place.Noted.{Noted}
use Rattle.balancer_box.specs.declared.value.BalancerValue.{BalancerValue}
use Rattle.balancer_box.specs.declared.value.BalancerValue.TheVariants.{Connected}
use Rattle.balancer_box.specs.Connections.{closed, without_if, has_ended}
use Rattle.balancer_box.specs.Places.{place_numbered}
use Rattle.balancer_box.specs.Settings.{Settings}
use Rattle.balancer_box.specs.Balancer.{is_virtual, backend_at, next_move, resets, tells_by, heard, phase_then, opens}
use Rattle.balancer_box.specs.Balancer.{gives_way, met, met_there, met_by, checked_there, checked_by, finds, connects}
use Rattle.balancer_box.specs.Balancer.{checks, touched, noted_by, HasPhase, MayConnect, Fits}
use Rattle.balancer_box.specs.Entries.{connections_in}
use Rattle.balancer_box.specs.Emissions.{Trail, trail_of}
use Rattle.balancer_box.proofs.ConnectionLemmas.{slot_in_phase, without_refreshed}
use Rattle.balancer_box.proofs.Sendings.{IsOf}
use Rattle.balancer_runs.specs.Choosing.{loads_met}
use Rattle.balancer_runs.specs.Idle.{IsIdleAt, IsLiveAt}
use Rattle.balancer_runs.specs.Staying.{HasReset, HasOpening}
use Rattle.balancer_runs.specs.Following.{PhaseGoesOn, HadPhase, IsOfSide}
use Rattle.balancer_runs.specs.Ending.{IsHeard, SidesAreHeard, EndedGiveWay, ResetsRemove}
use Rattle.balancer_runs.proofs.Tables.{idle_is, live_is, none_without}
use Rattle.balancer_runs.proofs.Known.{IsBase, IsTold, KnownAt, client_of, answer_of}
use Rattle.balancer_runs.proofs.Followed.{tells_open}
use Rattle.balancer_runs.proofs.Following.{NowAt, AreNow, were_finds, were_connects, of_client, now_goes_on}
use Rattle.balancer_runs.proofs.Touching.{table_touched}

-- What an answer leaves of its client's connection, where that is one to its backend

module _ (s : Settings) (n : Noted) (es : Forwards) (v : ℕ) (all : AreMappings (MayConnect s v) es) where
  has_phase : (slot : Slot) → slot_of n.client es ≡ Some slot → HasPhase s.closing n.client.protocol slot.phase
  has_phase slot at = (may_slot (MayConnect s v) n.client slot es at all).3

  -- it was live, and notes the packet; or it was, and is the same
  abbrev IsChecked : Option ℕ → Slot → Type 0
  IsChecked c new =
      (old : Slot) × (slot_of n.client es ≡ Some old)
      × ((IsLiveAt n.time n.client old × (new.phase ≡ NowAt c n old.phase))
      ⊎ (IsIdleAt n.time n.client old × (old ≡ new)))

  -- the same connection, of a box that follows none
  plain_checked : (new : Slot) → slot_of n.client es ≡ Some new → IsChecked None new
  plain_checked new at = by (is_idle n.time (n.client, new)) refl
    where
      by : (b : Bool) → is_idle n.time (n.client, new) ≡ b → IsChecked None new
      by true q = (new, at, inr (idle_is n.time n.client new q, refl))
      by false q = (new, at, inl (live_is s.closing n.time n.client new (has_phase new at) q, refl))

  of_live : (slot new : Slot) (seconds : ℕ) → slot_of n.client es ≡ Some slot
      → is_idle n.time (n.client, slot) ≡ false
      → slot_of n.client (checked_there seconds n es slot true).0 ≡ Some new → IsChecked (Some seconds) new
  of_live slot new seconds at live there =
      let phase : Phase = phase_then seconds n slot.phase in
      let e : in_phase phase slot ≡ new = cc (slot_in_phase n.client phase slot es at, there) in (
        slot,
        at,
        inl (live_is s.closing n.time n.client slot (has_phase slot at) live, ap (λ (x : Slot). x.phase) (sym e)),
      )

  of_idle : (slot new : Slot) (seconds : ℕ) → slot_of n.client es ≡ Some slot
      → is_idle n.time (n.client, slot) ≡ true → slot_of n.client es ≡ Some new → IsChecked (Some seconds) new
  of_idle slot new seconds at idle there =
      (slot, at, inr (idle_is n.time n.client slot idle, (let both : Some slot ≡ Some new = sym at ∙ there in cc)))

  checks_leave : (c : Option ℕ) (new : Slot) → new.port ≡ n.backend
      → slot_of n.client (checks c n es).0 ≡ Some new → IsChecked c new
  checks_leave None new port there = by (lives n.client n.backend n.time es && n.resets) there
    where
      by : (b : Bool) → slot_of n.client (without_if b n.client es) ≡ Some new → IsChecked None new
      by true there = absurd (let none = none_without (MayConnect s v) n.client es all in cc (none, there))
      by false there = plain_checked new there
  checks_leave (Some seconds) new port there = by (slot_of n.client es) refl there
    where
      of : (slot : Slot) → slot_of n.client es ≡ Some slot → (a b : Bool) → (slot.port == n.backend) ≡ a
          → is_idle n.time (n.client, slot) ≡ b
          → slot_of n.client (checked_there seconds n es slot (a && not b)).0 ≡ Some new → IsChecked (Some seconds) new
      of slot at true false p q there = of_live slot new seconds at q there
      of slot at true true p q there = of_idle slot new seconds at q there
      of slot at false b p q there =
          let both : Some slot ≡ Some new = sym at ∙ there in
          let same : slot ≡ new = cc in
          let it : (slot.port == n.backend) ≡ true =
          is_eq slot.port n.backend (ap (λ (x : Slot). x.port) same ∙ port) in
          absurd (cc (it, p))

      by : (o : Option Slot) → slot_of n.client es ≡ o → slot_of n.client (checked_by seconds n es o).0 ≡ Some new
          → IsChecked (Some seconds) new
      by (Some slot) at there =
          of slot at (slot.port == n.backend) (is_idle n.time (n.client, slot)) refl refl there
      by None at there = absurd (cc (at, there))

  -- An ended connection gives way

  ended_gone : (seconds : ℕ) (slot : Slot) (o : Option Slot) (idle : Option (Endpoint × Slot))
      → o ≡ Some slot → gives_way n slot ≡ true → slot_of n.client (met_by seconds n es o idle).0 ≡ None
  ended_gone seconds slot None idle is way = absurd (cc)
  ended_gone seconds slot (Some own) idle is way =
      let same : slot ≡ own = cc in
      there own (subst (λ (x : Slot). gives_way n x ≡ true) same way) (is_idle n.time (n.client, own))
    where
      of_met : (own : Slot) (b : Bool) → b ≡ true → slot_of n.client (met seconds n es own b).0 ≡ None
      of_met own true is = none_without (MayConnect s v) n.client es all
      of_met own false is = absurd (cc)

      there : (own : Slot) → gives_way n own ≡ true → (b : Bool)
          → slot_of n.client (met_there seconds n es own b).0 ≡ None
      there own way true = none_without (MayConnect s v) n.client es all
      there own way false = of_met own (gives_way n own) way

  finds_ended : (c : Option ℕ) (seconds : ℕ) (slot : Slot) → c ≡ Some seconds → slot_of n.client es ≡ Some slot
      → gives_way n slot ≡ true → slot_of n.client (finds c n es).0 ≡ None
  finds_ended None seconds slot is at way = absurd (cc)
  finds_ended (Some own) seconds slot is at way =
      ended_gone own slot (slot_of n.client es) (first_idle n.time es) at way

  -- A reset removes a connection, where none is followed

  reset_gone : n.resets ≡ true → (slot : Slot) (o : Option Slot) (idle : Option (Endpoint × Slot)) → o ≡ Some slot
      → (let f = found n.client n.time es o idle in
      slot_of n.client (closed f.0 n.resets n.client f.1) ≡ None)
  reset_gone reset slot None idle is = absurd (cc)
  reset_gone reset slot (Some own) idle is = by (is_idle n.time (n.client, own))
    where
      of_used : (b : Bool) → b ≡ true
          → slot_of n.client (without_if b n.client (refresh n.client n.time es)) ≡ None
      of_used true q =
          ap (slot_of n.client) (without_refreshed n.client n.time es) ∙ none_without (MayConnect s v) n.client es all
      of_used false q = absurd (cc)

      by : (b : Bool)
          → (let f = found_there n.client n.time es own b in
          slot_of n.client (closed f.0 n.resets n.client f.1) ≡ None)
      by true = none_without (MayConnect s v) n.client es all
      by false = of_used n.resets reset

  finds_reset : (c : Option ℕ) (slot : Slot) → c ≡ None → n.resets ≡ true → slot_of n.client es ≡ Some slot
      → slot_of n.client (finds c n es).0 ≡ None
  finds_reset None slot is reset at = reset_gone reset slot (slot_of n.client es) (first_idle n.time es) at
  finds_reset (Some seconds) slot is reset at = absurd (cc)

  not_idle : (slot : Slot) → IsLiveAt n.time n.client slot → is_idle n.time (n.client, slot) ≡ false
  not_idle slot live = by (is_idle n.time (n.client, slot)) refl
    where
      by : (b : Bool) → is_idle n.time (n.client, slot) ≡ b → is_idle n.time (n.client, slot) ≡ false
      by true q = let idle = idle_is n.time n.client slot q in absurd (omega (arith, live, idle))
      by false q = q

  checks_reset : (c : Option ℕ) (slot : Slot) → c ≡ None → n.resets ≡ true → slot_of n.client es ≡ Some slot
      → slot.port ≡ n.backend → IsLiveAt n.time n.client slot → slot_of n.client (checks c n es).0 ≡ None
  checks_reset (Some seconds) slot is reset at port live = absurd (cc)
  checks_reset None slot is reset at port live =
      let living : lives_at n.client n.backend n.time (Some slot) ≡ true =
      rw (is_eq slot.port n.backend port, not_idle slot live) refl in
      let alive : lives n.client n.backend n.time es ≡ true =
      ap (lives_at n.client n.backend n.time) at ∙ living in
      rw (alive, reset) (none_without (MayConnect s v) n.client es all)

-- Of a packet that is known

module _ (s : Settings) (r : Trail) (loads : Option (List ℕ × List ℕ)) (p : Packet) (n : Noted) (v : ℕ)
    (es : Forwards) (fits : Fits s v (Connected es)) (flow : Flow)
    (seen : viewed p.bytes p.original ≡ Ok flow) where
  flow_is : (b : IsBase s p n) → b.flow ≡ flow
  flow_is b = let both : Ok b.flow ≡ Ok flow = sym b.seen ∙ seen in cc

  -- a packet is of one side alone

  client_side : (told : IsTold s r p n Client) (side : Class) (client : Endpoint) (backend : ℕ)
      → IsOfSide s client backend flow side → (side ≡ Client) × (client ≡ n.client)
  client_side told side client backend of = by side of
    where
      is : IsOf s told.base.flow n Client
      is = client_of s p n told.base told.is_class

      by : (k : Class) → IsOfSide s client backend flow k → (k ≡ Client) × (client ≡ n.client)
      by Client of = (refl, of.1 ∙ ap source_of (sym (flow_is told.base)) ∙ sym is.1)
      by Answer of =
          let virtual : is_virtual s flow.dest flow.dest_port ≡ true =
          subst (λ (g : Flow). is_virtual s g.dest g.dest_port ≡ true) (flow_is told.base) is.0 in
          let off = of.0 in
          absurd (cc (virtual, off))

  answer_side : (told : IsTold s r p n Answer) (side : Class) (client : Endpoint) (backend : ℕ)
      → IsOfSide s client backend flow side → (side ≡ Answer) × (client ≡ n.client) × (backend ≡ n.backend)
  answer_side told side client backend of = by side of
    where
      is : IsOf s told.base.flow n Answer
      is = answer_of s p n told.base told.is_class

      by : (k : Class) → IsOfSide s client backend flow k
          → (k ≡ Answer) × (client ≡ n.client) × (backend ≡ n.backend)
      by Answer of =
          let own : backend_at s.backends flow.source flow.source_port ≡ Some n.backend =
          subst (λ (g : Flow). backend_at s.backends g.source g.source_port ≡ Some n.backend) (flow_is told.base)
          is.2 in
          let both : Some backend ≡ Some n.backend = sym of.1 ∙ own in
          let same : backend ≡ n.backend = cc in
          (refl, of.2 ∙ ap dest_of (sym (flow_is told.base)) ∙ sym is.1, same)
      by Client of =
          let off : is_virtual s flow.dest flow.dest_port ≡ false =
          subst (λ (g : Flow). is_virtual s g.dest g.dest_port ≡ false) (flow_is told.base) is.0 in
          let virtual = of.0 in
          absurd (cc (virtual, off))

  -- what the packet made of a phase

  abbrev GoesOn : Class → Endpoint → Phase → Phase → Type 0
  GoesOn side client old new = PhaseGoesOn s.closing client.protocol side flow.flags old new

  goes_on : (told : IsBase s p n) (old new : Phase) → new ≡ NowAt s.closing n old → GoesOn n.class n.client old new
  goes_on base old new is =
      subst (GoesOn n.class n.client old) (sym is)
      (subst (λ (g : Flow). PhaseGoesOn s.closing n.client.protocol n.class g.flags old (NowAt s.closing n old))
      (flow_is base) (now_goes_on s r loads p n s.closing base.flow.flags old base.notes))

  abbrev Hears : Class → Endpoint → Slot → Type 0
  Hears side client new =
      (now : ℕ) × (old : Phase) × (r.clock ≡ Some now) × HadPhase old (slot_of client es)
      × (IsHeard side now client (slot_of client es) → GoesOn side client old new.phase)
      × ((IsHeard side now client (slot_of client es) → ⊥) → slot_of client es ≡ Some new)

  client_hears : (left : Forwards) → IsTold s r p n Client → AreNow s.closing n es left → (new : Slot)
      → slot_of n.client left ≡ Some new → Hears Client n.client new
  client_hears left told all new at =
      let own = all.1 new at in
      let goes = goes_on told.base own.0 new.phase own.2 in (
        n.time,
        own.0,
        told.clock,
        own.1,
        λ heard. subst (λ (k : Class). GoesOn k n.client own.0 new.phase) told.is_class goes,
        λ not_heard. absurd (not_heard tt),
      )

  answer_hears : IsTold s r p n Answer → (new : Slot) → new.port ≡ n.backend
      → slot_of n.client (checks s.closing n es).0 ≡ Some new → Hears Answer n.client new
  answer_hears told new port at = by (checks_leave s n es v fits.2 s.closing new port at)
    where
      had : (old : Slot) → slot_of n.client es ≡ Some old → HadPhase old.phase (slot_of n.client es)
      had old there = subst (HadPhase old.phase) (sym there) refl

      hears : (old : Slot) → slot_of n.client es ≡ Some old → IsHeard Answer n.time n.client (slot_of n.client es)
          → IsLiveAt n.time n.client old
      hears old there heard = subst (IsHeard Answer n.time n.client) there heard

      by : IsChecked s n es v fits.2 s.closing new → Hears Answer n.client new
      by (old, there, inl (live, phase)) = (
        n.time,
        old.phase,
        told.clock,
        had old there,
        λ heard. subst (λ (k : Class). GoesOn k n.client old.phase new.phase) told.is_class
            (goes_on told.base old.phase new.phase phase),
        λ not_heard. absurd (not_heard (subst (IsHeard Answer n.time n.client) (sym there) live)),
      )
      by (old, there, inr (idle, same)) = (
        n.time,
        old.phase,
        told.clock,
        had old there,
        λ heard. (let live = hears old there heard in absurd (omega (arith, live, idle))),
        λ not_heard. there ∙ ap Some same,
      )

  -- at each place

  as_client : (left : Forwards) → IsTold s r p n Client → AreNow s.closing n es left → (side : Class)
      (client : Endpoint) (new : Slot) → slot_of client left ≡ Some new → IsOfSide s client new.port flow side
      → Hears side client new
  as_client left told all side client new at of =
      let k = client_side told side client new.port of in
      subst (λ (c : Class). Hears c client new) (sym k.0)
      (subst (λ (x : Endpoint). Hears Client x new) (sym k.1)
      (client_hears left told all new (subst (λ (x : Endpoint). slot_of x left ≡ Some new) k.1 at)))

  as_answer : IsTold s r p n Answer → (side : Class) (client : Endpoint) (new : Slot)
      → slot_of client (checks s.closing n es).0 ≡ Some new → IsOfSide s client new.port flow side
      → Hears side client new
  as_answer told side client new at of =
      let k = answer_side told side client new.port of in
      subst (λ (c : Class). Hears c client new) (sym k.0)
      (subst (λ (x : Endpoint). Hears Answer x new) (sym k.1)
      (answer_hears told new k.2
      (subst (λ (x : Endpoint). slot_of x (checks s.closing n es).0 ≡ Some new) k.1 at)))

  touch_hears : (place : Place) → next_move s place n ≡ Access v → KnownAt s r loads p place n → (side : Class)
      (client : Endpoint) (new : Slot)
      → slot_of client (connections_in (touched s.closing place (Connected es) n).0) ≡ Some new
      → IsOfSide s client new.port flow side → Hears side client new
  touch_hears HearsTime move k side client new at of = absurd (cc)
  touch_hears FindsConnection move k side client new at of =
      as_client (finds s.closing n es).0 k
      (were_finds n es (MayConnect s v) fits.2 (of_client n es k.is_class) s.closing) side client new at of
  touch_hears LowersIdle move k side client new at of =
      let one : 1 ≡ v = cc in let low = fits.0 in absurd (omega (arith, one, low))
  touch_hears RaisesLeast move k side client new at of =
      let one : 1 ≡ v = cc in let low = fits.0 in absurd (omega (arith, one, low))
  touch_hears Connects move k side client new at of =
      as_client (connects s.closing n es).0 k.0
      (were_connects n es (MayConnect s v) fits.2 (of_client n es k.0.is_class) s.closing) side client new at of
  touch_hears LowersVain move k side client new at of =
      let one : 1 ≡ v = cc in let low = fits.0 in absurd (omega (arith, one, low))
  touch_hears LowersSpare move k side client new at of =
      let one : 1 ≡ v = cc in let low = fits.0 in absurd (omega (arith, one, low))
  touch_hears ChecksConnection move k side client new at of = as_answer k side client new at of
  touch_hears CountsDrop move k side client new at of =
      let none : 0 ≡ v = cc in let low = fits.0 in absurd (omega (arith, none, low))
  touch_hears SendsOut move k side client new at of = absurd (cc)
  touch_hears Ends move k side client new at of = absurd (cc)

  -- an ended connection, whose client opens another
  opens_another : (told : IsTold s r p n Client) (slot : Slot) (seconds : ℕ) → HasOpening flow
      → slot_of n.client es ≡ Some slot → slot.phase ≡ Closing seconds
      → (s.closing ≡ Some seconds) × (gives_way n slot ≡ true)
  opens_another told slot seconds opening at phase =
      let has : HasPhase s.closing n.client.protocol (Closing seconds) =
      subst (HasPhase s.closing n.client.protocol) phase (has_phase s n es v fits.2 slot at) in
      let notes : n.tells ≡ tells_by s.closing flow.flags =
      told.base.notes ∙ ap (λ (g : Flow). tells_by s.closing g.flags) (flow_is told.base) in
      let tells : n.tells ≡ Opens =
      notes ∙ ap (λ (c : Option ℕ). tells_by c flow.flags) has.0
      ∙ tells_open flow.flags opening.3 opening.2 opening.0 opening.1 in
      let tcp : (n.client.protocol == 6) ≡ true = is_eq n.client.protocol 6 has.1 in
      let hears : heard n ≡ Opens = rw tcp tells in
      let ended : has_ended slot.phase ≡ true = ap has_ended phase in
      let opened : opens (heard n) ≡ true = ap opens hears in
      (has.0, rw (ended, opened) refl)

  as_opening : IsTold s r p n Client → (client : Endpoint) (slot : Slot) (seconds : ℕ)
      → IsOfSide s client slot.port flow Client → HasOpening flow → slot_of client es ≡ Some slot
      → slot.phase ≡ Closing seconds → slot_of client (finds s.closing n es).0 ≡ None
  as_opening told client slot seconds of opening at phase =
      let k = (client_side told Client client slot.port of).1 in
      let there = subst (λ (x : Endpoint). slot_of x es ≡ Some slot) k at in
      let way = opens_another told slot seconds opening there phase in
      subst (λ (x : Endpoint). slot_of x (finds s.closing n es).0 ≡ None) (sym k)
      (finds_ended s n es v fits.2 s.closing seconds slot way.0 there way.1)

  touch_gives_way : (place : Place) → next_move s place n ≡ Access v → KnownAt s r loads p place n
      → r.found ≡ None → (client : Endpoint) (slot : Slot) (seconds : ℕ) → IsOfSide s client slot.port flow Client
      → HasOpening flow → slot_of client es ≡ Some slot → slot.phase ≡ Closing seconds
      → slot_of client (connections_in (touched s.closing place (Connected es) n).0) ≡ None
  touch_gives_way HearsTime move k first client slot seconds of opening at phase = absurd (cc)
  touch_gives_way FindsConnection move k first client slot seconds of opening at phase =
      as_opening k client slot seconds of opening at phase
  touch_gives_way LowersIdle move k first client slot seconds of opening at phase =
      let one : 1 ≡ v = cc in let low = fits.0 in absurd (omega (arith, one, low))
  touch_gives_way RaisesLeast move k first client slot seconds of opening at phase =
      let one : 1 ≡ v = cc in let low = fits.0 in absurd (omega (arith, one, low))
  touch_gives_way Connects move k first client slot seconds of opening at phase =
      absurd (let found = k.2.1 in cc (found, first))
  touch_gives_way LowersVain move k first client slot seconds of opening at phase =
      let one : 1 ≡ v = cc in let low = fits.0 in absurd (omega (arith, one, low))
  touch_gives_way LowersSpare move k first client slot seconds of opening at phase =
      let one : 1 ≡ v = cc in let low = fits.0 in absurd (omega (arith, one, low))
  touch_gives_way ChecksConnection move k first client slot seconds of opening at phase =
      absurd (let side = (answer_side k Client client slot.port of).0 in cc (side))
  touch_gives_way CountsDrop move k first client slot seconds of opening at phase =
      let none : 0 ≡ v = cc in let low = fits.0 in absurd (omega (arith, none, low))
  touch_gives_way SendsOut move k first client slot seconds of opening at phase = absurd (cc)
  touch_gives_way Ends move k first client slot seconds of opening at phase = absurd (cc)

  -- a reset

  notes_reset : (base : IsBase s p n) → HasReset flow → n.resets ≡ true
  notes_reset base has =
      base.reset ∙ ap resets (flow_is base) ∙ by (bit_and flow.flags 4 == 0) refl
    where
      by : (b : Bool) → (bit_and flow.flags 4 == 0) ≡ b → not b ≡ true
      by true q = absurd (has (eqb-true _ _ q))
      by false q = refl

  abbrev Removes : Forwards → Endpoint → Slot → Type 0
  Removes left client slot =
      (now : ℕ) × (r.clock ≡ Some now) × (IsLiveAt now client slot → slot_of client left ≡ None)

  client_removes : (told : IsTold s r p n Client) → s.closing ≡ None → (side : Class) (client : Endpoint) (slot : Slot)
      → IsOfSide s client slot.port flow side → HasReset flow → slot_of client es ≡ Some slot
      → Removes (finds s.closing n es).0 client slot
  client_removes told none side client slot of reset at =
      let k = (client_side told side client slot.port of).1 in
      let there = subst (λ (x : Endpoint). slot_of x es ≡ Some slot) k at in
      let gone = finds_reset s n es v fits.2 s.closing slot none (notes_reset told.base reset) there in (
        n.time,
        told.clock,
        λ live. subst (λ (x : Endpoint). slot_of x (finds s.closing n es).0 ≡ None) (sym k) gone,
      )

  answer_removes : (told : IsTold s r p n Answer) → s.closing ≡ None → (side : Class) (client : Endpoint) (slot : Slot)
      → IsOfSide s client slot.port flow side → HasReset flow → slot_of client es ≡ Some slot
      → Removes (checks s.closing n es).0 client slot
  answer_removes told none side client slot of reset at =
      let k = answer_side told side client slot.port of in
      let there = subst (λ (x : Endpoint). slot_of x es ≡ Some slot) k.1 at in (
        n.time,
        told.clock,
        λ live. subst (λ (x : Endpoint). slot_of x (checks s.closing n es).0 ≡ None) (sym k.1)
            (checks_reset s n es v fits.2 s.closing slot none (notes_reset told.base reset) there k.2
            (subst (λ (x : Endpoint). IsLiveAt n.time x slot) k.1 live)),
      )

  touch_removes : (place : Place) → next_move s place n ≡ Access v → KnownAt s r loads p place n
      → s.closing ≡ None → (side : Class) (client : Endpoint) (slot : Slot) → IsOfSide s client slot.port flow side
      → HasReset flow → slot_of client es ≡ Some slot
      → Removes (connections_in (touched s.closing place (Connected es) n).0) client slot
  touch_removes HearsTime move k none side client slot of reset at = absurd (cc)
  touch_removes FindsConnection move k none side client slot of reset at =
      client_removes k none side client slot of reset at
  touch_removes LowersIdle move k none side client slot of reset at =
      let one : 1 ≡ v = cc in let low = fits.0 in absurd (omega (arith, one, low))
  touch_removes RaisesLeast move k none side client slot of reset at =
      let one : 1 ≡ v = cc in let low = fits.0 in absurd (omega (arith, one, low))
  touch_removes Connects move k none side client slot of reset at =
      absurd (let noted = notes_reset k.0.base reset in let not_reset = k.3 in cc (noted, not_reset))
  touch_removes LowersVain move k none side client slot of reset at =
      let one : 1 ≡ v = cc in let low = fits.0 in absurd (omega (arith, one, low))
  touch_removes LowersSpare move k none side client slot of reset at =
      let one : 1 ≡ v = cc in let low = fits.0 in absurd (omega (arith, one, low))
  touch_removes ChecksConnection move k none side client slot of reset at =
      answer_removes k none side client slot of reset at
  touch_removes CountsDrop move k none side client slot of reset at =
      let zero : 0 ≡ v = cc in let low = fits.0 in absurd (omega (arith, zero, low))
  touch_removes SendsOut move k none side client slot of reset at = absurd (cc)
  touch_removes Ends move k none side client slot of reset at = absurd (cc)

pub sides_are_heard : SidesAreHeard
sides_are_heard s threads inputs x earlier entry left v place h es flow side client new is bytes run act what low held
    seen table at of =
    let n : Noted = noted_by s h.place in
    let t = table_touched s threads inputs x earlier entry left v place h es is bytes run act what low held table in
    let there = subst (λ (y : BalancerValue). slot_of client (connections_in y) ≡ Some new) t.left at in
    touch_hears s (trail_of s x.thread earlier) (loads_met s x.thread earlier) h.packet n v es t.fits flow seen
    (place_numbered h.place.at) t.move t.known side client new there of

pub ended_give_way : EndedGiveWay
ended_give_way s threads inputs x earlier entry left v place h es flow client slot seconds is bytes run act what low
    held seen table of first opening at phase =
    let n : Noted = noted_by s h.place in
    let t = table_touched s threads inputs x earlier entry left v place h es is bytes run act what low held table in
    subst (λ (y : BalancerValue). slot_of client (connections_in y) ≡ None) (sym t.left)
    (touch_gives_way s (trail_of s x.thread earlier) (loads_met s x.thread earlier) h.packet n v es t.fits flow seen
    (place_numbered h.place.at) t.move t.known first client slot seconds of opening at phase)

pub resets_remove : ResetsRemove
resets_remove s threads inputs x earlier entry left v place h es flow side client slot is bytes run act what low held
    seen table none of reset at =
    let n : Noted = noted_by s h.place in
    let r : Trail = trail_of s x.thread earlier in
    let t = table_touched s threads inputs x earlier entry left v place h es is bytes run act what low held table in
    subst (λ (y : BalancerValue).
    (now : ℕ) × (r.clock ≡ Some now) × (IsLiveAt now client slot → slot_of client (connections_in y) ≡ None))
    (sym t.left)
    (touch_removes s r (loads_met s x.thread earlier) h.packet n v es t.fits flow seen
    (place_numbered h.place.at) t.move t.known none side client slot of reset at)
