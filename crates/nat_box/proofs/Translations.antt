-- What is known of a packet in hand, by where it is, of what is to go out.
use Rattle.std.proofs.Common.{◌≡◌, ℕ, ◌+◌, ◌-◌, Bool, true, false, [], ◌∷◌, ◌++◌, refl, sym, ap, ◌∙◌, subst, inl, inr}
use Rattle.std.proofs.Common.{Option, Some, None}
use Rattle.std.specs.Prelude.{Ok}
use Rattle.plain_text.specs.declared.packet.Packet.{Packet}
use Rattle.packet_headers.specs.declared.flow.Flow.{Flow}
use Rattle.plain_machine.specs.declared.local.Move.TheVariants.{Access, Read, Clock, Draw}
use Rattle.plain_machine.specs.Machine.{Hand}
use Rattle.nat_tables.specs.Ports.{PoolPorts, reserve}
use Rattle.nat_tables.specs.Forwards.{Forwards, slot_of, refresh, refreshed, is_idle, first_idle, found_there, found}
use Rattle.nat_tables.specs.Forwards.{bound, lives, port_of}
use Rattle.nat_tables.specs.Reverses.{endpoint_of}
use Rattle.nat_tables.specs.declared.entries.Endpoint.{Endpoint}
use Rattle.nat_tables.specs.declared.slot.Slot.{Slot}
use Rattle.nat_tables.specs.declared.phase.Phase.TheVariants.{Plain}
use Rattle.nat_box.specs.declared.place.Place.{Place}
use Rattle.nat_box.specs.declared.place.Place.TheVariants.{HearsTime, FindsMapping, UnbindsFreed, GivesBackFreed}
use Rattle.nat_box.specs.declared.place.Place.TheVariants.{DrawsWord, ReservesPort, BindsPort, FindsOrBinds}
use Rattle.nat_box.specs.declared.place.Place.TheVariants.{UnbindsLost, GivesBackLost, FindsEndpoint, AsksIfLives}
use Rattle.nat_box.specs.declared.place.Place.TheVariants.{CountsDrop, SendsOut, Ends, FindsPort}
use Rattle.nat_box.specs.declared.place.Class.{Class}
use Rattle.nat_box.specs.declared.place.Class.TheVariants.{Outbound, Hairpin, Inbound, OutboundError}
use Rattle.nat_box.specs.declared.place.Noted.{Noted}
use Rattle.nat_box.specs.declared.value.NatValue.{NatValue}
use Rattle.nat_box.specs.declared.value.NatValue.TheVariants.{Dropped, Free, Mapped, Taken}
use Rattle.flow_boxes.specs.Flows.{endpoint, source_of}
use Rattle.nat_box.specs.Places.{place_numbered, noted, source_key, dest_key, drawn_word, no_port}
use Rattle.nat_box.specs.declared.place.Goes.{Goes}
use Rattle.nat_box.specs.Settings.{Settings}
use Rattle.nat_box.specs.Nat.{next_move, flow_seen, class_seen, live_port, after_port}
use Rattle.nat_box.proofs.LivePorts.{live_lives}
use Rattle.nat_box.specs.Nat.{mapped, after_find, after_reserve, after_bind, touched, after_endpoint, looked_by, looked}
use Rattle.nat_box.specs.Nat.{after_time, told, local_at, followed}
use Rattle.nat_box.specs.LimitLaws.{Comes, IsPort}
use Rattle.nat_box.specs.Noting.{place_again, IsNoted, noted_again}
use Rattle.nat_box.specs.Emissions.{Trail, left_forward, WasMapped, Lived}
use Rattle.flow_boxes.proofs.Fitting.{slot_refreshed, slot_bound}
use Rattle.nat_box.proofs.Making.{goes_on}
use Rattle.nat_box.proofs.Following.{was_followed}

-- Tables after a refresh and after a bind

-- What is known of a packet in hand

pub record IsBase (s : Settings) (p : Packet) (n : Noted) : Type 0 where
  pub flow : Flow
  pub seen : flow_seen s p ≡ Ok flow
  pub class : class_seen s p ≡ Some n.class
  pub source : n.source ≡ source_of flow
  pub dest_port : n.dest_port ≡ flow.dest_port

abbrev pub IsOutward : Class → Type 0
IsOutward Outbound = Unit {0}
IsOutward Hairpin = Unit {0}
IsOutward Inbound = ⊥
IsOutward OutboundError = ⊥

abbrev pub IsInward : Class → Type 0
IsInward Outbound = ⊥
IsInward Hairpin = Unit {0}
IsInward Inbound = Unit {0}
IsInward OutboundError = ⊥

abbrev pub IfOutward : Class → Type 0 → Type 0
IfOutward Outbound X = X
IfOutward Hairpin X = X
IfOutward Inbound X = Unit {0}
IfOutward OutboundError X = Unit {0}

abbrev pub IfInward : Class → Type 0 → Type 0
IfInward Outbound X = Unit {0}
IfInward Hairpin X = X
IfInward Inbound X = X
IfInward OutboundError X = Unit {0}

abbrev pub IfError : Class → Type 0 → Type 0
IfError Outbound X = Unit {0}
IfError Hairpin X = Unit {0}
IfError Inbound X = Unit {0}
IfError OutboundError X = X

abbrev pub KnownAt : Settings → Trail → Packet → Place → Noted → Type 0
KnownAt s r p HearsTime n = IsBase s p n
KnownAt s r p FindsMapping n = IsBase s p n × (r.clock ≡ Some n.time) × IsOutward n.class
KnownAt s r p UnbindsFreed n = IsBase s p n × (r.clock ≡ Some n.time) × IsOutward n.class
KnownAt s r p GivesBackFreed n = IsBase s p n × (r.clock ≡ Some n.time) × IsOutward n.class
KnownAt s r p DrawsWord n = IsBase s p n × (r.clock ≡ Some n.time) × IsOutward n.class
KnownAt s r p ReservesPort n = IsBase s p n × (r.clock ≡ Some n.time) × IsOutward n.class
KnownAt s r p BindsPort n = IsBase s p n × (r.clock ≡ Some n.time) × IsOutward n.class
KnownAt s r p FindsOrBinds n = IsBase s p n × (r.clock ≡ Some n.time) × IsOutward n.class
KnownAt s r p UnbindsLost n =
    IsBase s p n × (r.clock ≡ Some n.time) × IsOutward n.class
    × (IsPort s.limit n.port → WasMapped r.forward n.source n.port)
KnownAt s r p GivesBackLost n =
    IsBase s p n × (r.clock ≡ Some n.time) × IsOutward n.class
    × (IsPort s.limit n.port → WasMapped r.forward n.source n.port)
KnownAt s r p FindsEndpoint n =
    IsBase s p n × (r.clock ≡ Some n.time) × IsInward n.class × IfOutward n.class (WasMapped r.forward n.source n.port)
KnownAt s r p AsksIfLives n =
    IsBase s p n × (r.clock ≡ Some n.time) × IsInward n.class × IfOutward n.class (WasMapped r.forward n.source n.port)
KnownAt s r p SendsOut n =
    IsBase s p n
    × IfOutward n.class (WasMapped r.forward n.source n.port)
    × IfInward n.class (Lived r n.target n.dest_port)
    × IfError n.class (Lived r n.source n.port)
KnownAt s r p CountsDrop n = Unit {0}
KnownAt s r p Ends n = Unit {0}
KnownAt s r p FindsPort n = IsBase s p n × (r.clock ≡ Some n.time) × (n.class ≡ OutboundError)

abbrev pub Known : Settings → Trail → Option Hand → Type 0
Known s r None = Unit {0}
Known s r (Some h) = KnownAt s r h.packet (place_numbered h.place.at) (noted h.place)

pub known_on : (s : Settings) (r : Trail) (h : Hand) (g : Goes) → IsNoted g.noted → KnownAt s r h.packet g.place g.noted
    → Known s r (goes_on h g)
known_on s r h g is k =
    let a : place_numbered (local_at g).at ≡ g.place = place_again g.place in
    let b : noted (local_at g) ≡ g.noted = noted_again g.place g.noted is in
    rw (a, b) k

-- the trail after a touch that left this value
abbrev pub after_touch : NatValue → Trail → Trail
after_touch left r = record { forward = left_forward (Some left) r.forward; read = r.read; clock = r.clock }

module _ (s : Settings) (p : Packet) where
  -- what was noted is of the same flow
  base_on : (n m : Noted) → m.class ≡ n.class → m.source ≡ n.source → m.dest_port ≡ n.dest_port → IsBase s p n
      → IsBase s p m
  base_on n m c f d b = record {
    flow = b.flow;
    seen = b.seen;
    class = b.class ∙ ap Some (sym c);
    source = f ∙ b.source;
    dest_port = d ∙ b.dest_port;
  }

  mapped_known : (r : Trail) (n : Noted) (c : Class) → n.class ≡ c → IsBase s p n → r.clock ≡ Some n.time
      → IsOutward n.class → WasMapped r.forward n.source n.port → KnownAt s r p (mapped n c).place (mapped n c).noted
  mapped_known r n Outbound is base clock out m = (
    base,
    subst (λ (c : Class). IfOutward c (WasMapped r.forward n.source n.port)) (sym is) m,
    subst (λ (c : Class). IfInward c (Lived r n.target n.dest_port)) (sym is) tt,
    subst (λ (c : Class). IfError c (Lived r n.source n.port)) (sym is) tt,
  )
  mapped_known r n Hairpin is base clock out m = (
    base,
    clock,
    subst IsInward (sym is) tt,
    subst (λ (c : Class). IfOutward c (WasMapped r.forward n.source n.port)) (sym is) m,
  )
  mapped_known r n Inbound is base clock out m = absurd (subst IsOutward is out)
  mapped_known r n OutboundError is base clock out m = absurd (subst IsOutward is out)

  module _ (r : Trail) (n : Noted) (es : Forwards) (base : IsBase s p n) (clock : r.clock ≡ Some n.time)
      (out : IsOutward n.class) where
    there_known : (slot : Slot) (idle : Bool) → slot_of n.source es ≡ Some slot
        → (let f = found_there n.source n.time es slot idle in
        KnownAt s (after_touch (Mapped f.1) r) p (after_find n f.0).place (after_find n f.0).noted)
    there_known slot true is =
        (base_on n (record n { freed = port_of (n.source, slot) }) refl refl refl base, clock, out)
    there_known slot false is =
        let m : Noted = record n { port = slot.port } in
        let left : Forwards = refresh n.source n.time es in
        mapped_known (after_touch (Mapped left) r) m m.class refl (base_on n m refl refl refl base) clock out
        (left, refreshed n.time slot, refl, slot_refreshed n.source n.time slot es is, refl)

    found_known : (a : Option Slot) (b : Option (Endpoint × Slot)) → slot_of n.source es ≡ a
        → (let f = found n.source n.time es a b in
        KnownAt s (after_touch (Mapped f.1) r) p (after_find n f.0).place (after_find n f.0).noted)
    found_known (Some slot) b is = there_known slot (is_idle n.time (n.source, slot)) is
    found_known None (Some gone) is = (base_on n (record n { freed = port_of gone }) refl refl refl base, clock, out)
    found_known None None is = (base, clock, out)

    bound_known : (a : Option Slot) → slot_of n.source es ≡ a
        → (let f = bound n.source n.port n.time es a in
        KnownAt s (after_touch (Mapped f.1) r) p (after_bind n f.0).place (after_bind n f.0).noted)
    bound_known (Some slot) is =
        let m : Noted = record n { port = slot.port; freed = source_key n } in
        let left : Forwards = refresh n.source n.time es in (
          base_on n m refl refl refl base,
          clock,
          out,
          λ port. (left, refreshed n.time slot, refl, slot_refreshed n.source n.time slot es is, refl),
        )
    bound_known None is =
        let slot : Slot = record { port = n.port; last = n.time; phase = Plain } in
        let left : Forwards = es ++ (n.source, slot) ∷ [] in
        mapped_known (after_touch (Mapped left) r) n n.class refl base clock out
        (left, slot, refl, slot_bound n.source slot es is, refl)

  reserved_known : (r : Trail) (n : Noted) (o : Option ℕ) → IsBase s p n → r.clock ≡ Some n.time → IsOutward n.class
      → KnownAt s r p (after_reserve n o).place (after_reserve n o).noted
  reserved_known r n (Some port) base clock out = (base_on n (record n { port = port }) refl refl refl base, clock, out)
  reserved_known r n None base clock out = tt

  outward_by : (c : Class) (X Y : Type 0) → (X → Y) → IfOutward c X → IfOutward c Y
  outward_by Outbound X Y f k = f k
  outward_by Hairpin X Y f k = f k
  outward_by Inbound X Y f k = tt
  outward_by OutboundError X Y f k = tt

  -- another table in which each endpoint has the port that it had
  with_forward : (f g : Option Forwards) (read : Option NatValue) (clock : Option ℕ)
      → ((key : Endpoint) (port : ℕ) → WasMapped f key port → WasMapped g key port) → (place : Place) (n : Noted)
      → KnownAt s (record { forward = f; read = read; clock = clock }) p place n
      → KnownAt s (record { forward = g; read = read; clock = clock }) p place n
  with_forward f g read clock each HearsTime n k = k
  with_forward f g read clock each FindsMapping n k = k
  with_forward f g read clock each UnbindsFreed n k = k
  with_forward f g read clock each GivesBackFreed n k = k
  with_forward f g read clock each DrawsWord n k = k
  with_forward f g read clock each ReservesPort n k = k
  with_forward f g read clock each BindsPort n k = k
  with_forward f g read clock each FindsOrBinds n k = k
  with_forward f g read clock each UnbindsLost n k = (k.0, k.1, k.2, λ is. each n.source n.port (k.3 is))
  with_forward f g read clock each GivesBackLost n k = (k.0, k.1, k.2, λ is. each n.source n.port (k.3 is))
  with_forward f g read clock each FindsEndpoint n k = (
    k.0,
    k.1,
    k.2,
    outward_by n.class (WasMapped f n.source n.port) (WasMapped g n.source n.port) (each n.source n.port) k.3,
  )
  with_forward f g read clock each AsksIfLives n k = (
    k.0,
    k.1,
    k.2,
    outward_by n.class (WasMapped f n.source n.port) (WasMapped g n.source n.port) (each n.source n.port) k.3,
  )
  with_forward f g read clock each CountsDrop n k = k
  with_forward f g read clock each SendsOut n k = (
    k.0,
    outward_by n.class (WasMapped f n.source n.port) (WasMapped g n.source n.port) (each n.source n.port) k.1,
    k.2,
    k.3,
  )
  with_forward f g read clock each Ends n k = k
  with_forward f g read clock each FindsPort n k = k

  pub followed_known : (r : Trail) (n : Noted) (x : NatValue) (place : Place) (m : Noted)
      → KnownAt s (after_touch x r) p place m → KnownAt s (after_touch (followed s n x) r) p place m
  followed_known r n x place m k =
      with_forward (left_forward (Some x) r.forward) (left_forward (Some (followed s n x)) r.forward) r.read r.clock
      (was_followed s n x r.forward) place m k

  touch_known : (r : Trail) (place : Place) (x : NatValue) (n : Noted) (v : ℕ) → next_move s place n ≡ Access v
      → KnownAt s r p place n
      → ((pool : PoolPorts) → place ≡ GivesBackLost → x ≡ Free pool → IsPort s.limit n.port)
      → KnownAt s (after_touch (touched place x n).0 r) p (touched place x n).1.place (touched place x n).1.noted
  touch_known r HearsTime x n v e k port = absurd (cc)
  touch_known r FindsMapping (Dropped d) n v e k port = tt
  touch_known r FindsMapping (Free pool) n v e k port = tt
  touch_known r FindsMapping (Mapped es) n v e k port =
      found_known r n es k.0 k.1 k.2 (slot_of n.source es) (first_idle n.time es) refl
  touch_known r FindsMapping (Taken bs) n v e k port = tt
  touch_known r UnbindsFreed (Dropped d) n v e k port = tt
  touch_known r UnbindsFreed (Free pool) n v e k port = tt
  touch_known r UnbindsFreed (Mapped es) n v e k port = tt
  touch_known r UnbindsFreed (Taken bs) n v e k port = k
  touch_known r GivesBackFreed (Dropped d) n v e k port = tt
  touch_known r GivesBackFreed (Free pool) n v e k port = k
  touch_known r GivesBackFreed (Mapped es) n v e k port = tt
  touch_known r GivesBackFreed (Taken bs) n v e k port = tt
  touch_known r DrawsWord x n v e k port = absurd (cc)
  touch_known r ReservesPort (Dropped d) n v e k port = tt
  touch_known r ReservesPort (Free pool) n v e k port =
      reserved_known r n (reserve n.source.protocol n.source.port (drawn_word n) pool).0 k.0 k.1 k.2
  touch_known r ReservesPort (Mapped es) n v e k port = tt
  touch_known r ReservesPort (Taken bs) n v e k port = tt
  touch_known r BindsPort (Dropped d) n v e k port = tt
  touch_known r BindsPort (Free pool) n v e k port = tt
  touch_known r BindsPort (Mapped es) n v e k port = tt
  touch_known r BindsPort (Taken bs) n v e k port = k
  touch_known r FindsOrBinds (Dropped d) n v e k port = tt
  touch_known r FindsOrBinds (Free pool) n v e k port = tt
  touch_known r FindsOrBinds (Mapped es) n v e k port = bound_known r n es k.0 k.1 k.2 (slot_of n.source es) refl
  touch_known r FindsOrBinds (Taken bs) n v e k port = tt
  touch_known r UnbindsLost (Dropped d) n v e k port = tt
  touch_known r UnbindsLost (Free pool) n v e k port = tt
  touch_known r UnbindsLost (Mapped es) n v e k port = tt
  touch_known r UnbindsLost (Taken bs) n v e k port = k
  touch_known r GivesBackLost (Dropped d) n v e k port = tt
  touch_known r GivesBackLost (Free pool) n v e k port =
      mapped_known r n n.class refl k.0 k.1 k.2 (k.3 (port pool refl refl))
  touch_known r GivesBackLost (Mapped es) n v e k port = tt
  touch_known r GivesBackLost (Taken bs) n v e k port = tt
  touch_known r FindsEndpoint x n v e k port = absurd (cc)
  touch_known r AsksIfLives x n v e k port = absurd (cc)
  touch_known r CountsDrop (Dropped d) n v e k port = tt
  touch_known r CountsDrop (Free pool) n v e k port = tt
  touch_known r CountsDrop (Mapped es) n v e k port = tt
  touch_known r CountsDrop (Taken bs) n v e k port = tt
  touch_known r SendsOut x n v e k port = absurd (cc)
  touch_known r Ends x n v e k port = absurd (cc)
  touch_known r FindsPort x n v e k port = absurd (cc)

  -- by what comes of it where hosts have a limit
  pub limited_known : (r : Trail) (place : Place) (x : NatValue) (n : Noted) (v : ℕ) (t : NatValue × Goes)
      → next_move s place n ≡ Access v → KnownAt s r p place n → Comes s.limit place x n t
      → KnownAt s (after_touch t.0 r) p t.1.place t.1.noted
  limited_known r place x n v t e k (inl agrees) = rw agrees.same (touch_known r place x n v e k agrees.port)
  limited_known r place x n v t e k (inr (inl (inl up))) =
      let known : KnownAt s r p FindsMapping n = subst (λ (q : Place). KnownAt s r p q n) up.at k in
      rw up.goes_on
      (base_on n (record n { freed = port_of up.gone }) refl refl refl known.0, known.1, known.2)
  limited_known r place x n v t e k (inr (inl (inr full))) = rw full.goes_on tt
  limited_known r place x n v t e k (inr (inr (inl refused))) =
      let known : KnownAt s r p FindsOrBinds n = subst (λ (q : Place). KnownAt s r p q n) refused.at k in
      let none : IsPort s.limit 0 → ⊥ = rw refused.within (λ is. absurd (cc)) in
      rw refused.goes_on (
        base_on n (record n { port = no_port; freed = source_key n }) refl refl refl known.0,
        known.1,
        known.2,
        λ port. absurd (none port),
      )
  limited_known r place x n v t e k (inr (inr (inr late))) = rw late.goes_on tt

  -- a read
  abbrev pub after_look : NatValue → Trail → Trail
  after_look x r = record { forward = r.forward; read = Some x; clock = r.clock }

  endpoint_known : (r : Trail) (x : NatValue) (n : Noted) (o : Option Endpoint) → KnownAt s r p FindsEndpoint n
      → KnownAt s (after_look x r) p (after_endpoint n o).place (after_endpoint n o).noted
  endpoint_known r x n (Some key) k = (
    base_on n (record n { target = endpoint n.source.protocol key.address key.port }) refl refl refl k.0,
    k.1,
    k.2,
    k.3,
  )
  endpoint_known r x n None k = tt

  given_inward : (c : Class) (X : Type 0) → X → IfInward c X
  given_inward Outbound X x = tt
  given_inward Hairpin X x = x
  given_inward Inbound X x = x
  given_inward OutboundError X x = tt

  inward_is_no_error : (c : Class) (X : Type 0) → IsInward c → IfError c X
  inward_is_no_error Outbound X inward = tt
  inward_is_no_error Hairpin X inward = tt
  inward_is_no_error Inbound X inward = tt
  inward_is_no_error OutboundError X inward = absurd inward

  lives_known : (r : Trail) (es : Forwards) (n : Noted) (b : Bool) → lives n.target n.dest_port n.time es ≡ b
      → KnownAt s r p AsksIfLives n
      → (let g = (looked_by n b) in KnownAt s (after_look (Mapped es) r) p g.place g.noted)
  lives_known r es n true is k = (
    k.0,
    k.3,
    given_inward n.class (Lived (after_look (Mapped es) r) n.target n.dest_port) (es, n.time, refl, k.1, is),
    inward_is_no_error n.class (Lived (after_look (Mapped es) r) n.source n.port) k.2,
  )
  lives_known r es n false is k = tt

  port_known : (r : Trail) (es : Forwards) (n : Noted) (o : Option ℕ) → live_port n.source n.time es ≡ o
      → KnownAt s r p FindsPort n
      → (let g = after_port n o in KnownAt s (after_look (Mapped es) r) p g.place g.noted)
  port_known r es n (Some port) is k =
      let m : Noted = record n { port = port } in
      let lived : Lived (after_look (Mapped es) r) n.source port =
      (es, n.time, refl, k.1, live_lives n.source n.time port es is) in (
        base_on n m refl refl refl k.0,
        subst (λ (c : Class). IfOutward c (WasMapped r.forward m.source m.port)) (sym k.2) tt,
        subst (λ (c : Class). IfInward c (Lived (after_look (Mapped es) r) m.target m.dest_port)) (sym k.2) tt,
        subst (λ (c : Class). IfError c (Lived (after_look (Mapped es) r) m.source m.port)) (sym k.2) lived,
      )
  port_known r es n None is k = tt

  pub look_known : (r : Trail) (place : Place) (x : NatValue) (n : Noted) (v : ℕ) → next_move s place n ≡ Read v
      → KnownAt s r p place n → KnownAt s (after_look x r) p (looked place x n).place (looked place x n).noted
  look_known r HearsTime x n v e k = absurd (cc)
  look_known r FindsMapping x n v e k = absurd (cc)
  look_known r UnbindsFreed x n v e k = absurd (cc)
  look_known r GivesBackFreed x n v e k = absurd (cc)
  look_known r DrawsWord x n v e k = absurd (cc)
  look_known r ReservesPort x n v e k = absurd (cc)
  look_known r BindsPort x n v e k = absurd (cc)
  look_known r FindsOrBinds x n v e k = absurd (cc)
  look_known r UnbindsLost x n v e k = absurd (cc)
  look_known r GivesBackLost x n v e k = absurd (cc)
  look_known r FindsEndpoint (Dropped d) n v e k = tt
  look_known r FindsEndpoint (Free pool) n v e k = tt
  look_known r FindsEndpoint (Mapped es) n v e k = tt
  look_known r FindsEndpoint (Taken bs) n v e k = endpoint_known r (Taken bs) n (endpoint_of (dest_key n) bs) k
  look_known r AsksIfLives (Dropped d) n v e k = tt
  look_known r AsksIfLives (Free pool) n v e k = tt
  look_known r AsksIfLives (Mapped es) n v e k = lives_known r es n (lives n.target n.dest_port n.time es) refl k
  look_known r AsksIfLives (Taken bs) n v e k = tt
  look_known r CountsDrop x n v e k = absurd (cc)
  look_known r SendsOut x n v e k = absurd (cc)
  look_known r Ends x n v e k = absurd (cc)
  look_known r FindsPort (Dropped d) n v e k = tt
  look_known r FindsPort (Free pool) n v e k = tt
  look_known r FindsPort (Mapped es) n v e k = port_known r es n (live_port n.source n.time es) refl k
  look_known r FindsPort (Taken bs) n v e k = tt

  abbrev pub after_clock : ℕ → Trail → Trail
  after_clock a r = record { forward = r.forward; read = r.read; clock = Some a }

  time_known : (r : Trail) (a : ℕ) (n : Noted) (c : Class) → n.class ≡ c → IsBase s p n → n.time ≡ a
      → KnownAt s (after_clock a r) p (after_time n c).place (after_time n c).noted
  time_known r a n Outbound is base now = (base, ap Some (sym now), subst IsOutward (sym is) tt)
  time_known r a n Hairpin is base now = (base, ap Some (sym now), subst IsOutward (sym is) tt)
  time_known r a n Inbound is base now = (
    base,
    ap Some (sym now),
    subst IsInward (sym is) tt,
    subst (λ (c : Class). IfOutward c (WasMapped r.forward n.source n.port)) (sym is) tt,
  )
  time_known r a n OutboundError is base now = (base, ap Some (sym now), is)

  pub clock_known : (r : Trail) (place : Place) (a : ℕ) (n : Noted) → next_move s place n ≡ Clock
      → KnownAt s r p place n → KnownAt s (after_clock a r) p (told place a n).place (told place a n).noted
  clock_known r HearsTime a n e k =
      time_known r a (record n { time = a }) n.class refl (base_on n (record n { time = a }) refl refl refl k) refl
  clock_known r FindsMapping a n e k = absurd (cc)
  clock_known r UnbindsFreed a n e k = absurd (cc)
  clock_known r GivesBackFreed a n e k = absurd (cc)
  clock_known r DrawsWord a n e k = absurd (cc)
  clock_known r ReservesPort a n e k = absurd (cc)
  clock_known r BindsPort a n e k = absurd (cc)
  clock_known r FindsOrBinds a n e k = absurd (cc)
  clock_known r UnbindsLost a n e k = absurd (cc)
  clock_known r GivesBackLost a n e k = absurd (cc)
  clock_known r FindsEndpoint a n e k = absurd (cc)
  clock_known r AsksIfLives a n e k = absurd (cc)
  clock_known r CountsDrop a n e k = absurd (cc)
  clock_known r SendsOut a n e k = absurd (cc)
  clock_known r Ends a n e k = absurd (cc)
  clock_known r FindsPort a n e k = absurd (cc)

  pub draw_known : (r : Trail) (place : Place) (a : ℕ) (n : Noted) → next_move s place n ≡ Draw → KnownAt s r p place n
      → KnownAt s r p (told place a n).place (told place a n).noted
  draw_known r HearsTime a n e k = absurd (cc)
  draw_known r FindsMapping a n e k = absurd (cc)
  draw_known r UnbindsFreed a n e k = absurd (cc)
  draw_known r GivesBackFreed a n e k = absurd (cc)
  draw_known r DrawsWord a n e k = (base_on n (record n { word_or_reason = a }) refl refl refl k.0, k.1, k.2)
  draw_known r ReservesPort a n e k = absurd (cc)
  draw_known r BindsPort a n e k = absurd (cc)
  draw_known r FindsOrBinds a n e k = absurd (cc)
  draw_known r UnbindsLost a n e k = absurd (cc)
  draw_known r GivesBackLost a n e k = absurd (cc)
  draw_known r FindsEndpoint a n e k = absurd (cc)
  draw_known r AsksIfLives a n e k = absurd (cc)
  draw_known r CountsDrop a n e k = absurd (cc)
  draw_known r SendsOut a n e k = absurd (cc)
  draw_known r Ends a n e k = absurd (cc)
  draw_known r FindsPort a n e k = absurd (cc)
