-- What is known of a packet in hand, by where it is, of what is to go out.
use Rattle.std.proofs.Common.{◌≡◌, ℕ, ◌+◌, ◌-◌, Bool, true, false, [], ◌∷◌, ◌++◌, length, refl, sym, ap, ◌∙◌, subst}
use Rattle.std.proofs.Common.{Option, Some, None}
use Rattle.std.specs.Prelude.{◌&&◌, Ok}
use Rattle.plain_text.specs.declared.packet.Packet.{Packet}
use Rattle.packet_headers.specs.declared.flow.Flow.{Flow}
use Rattle.packet_headers.specs.View.{viewed}
use Rattle.plain_machine.specs.declared.local.Move.TheVariants.{Access, Clock}
use Rattle.plain_machine.specs.Machine.{Hand}
use Rattle.nat_tables.specs.Keys.{same_endpoint}
use Rattle.nat_tables.specs.Forwards.{Forwards, slot_of, refresh, refreshed, is_idle, first_idle, found_there, found}
use Rattle.nat_tables.specs.Forwards.{bound, lives, lives_at, in_phase, without, without_idle}
use Rattle.flow_boxes.specs.Flows.{source_of, dest_of}
use Rattle.flow_boxes.proofs.Fitting.{same_self}
use Rattle.nat_tables.specs.declared.entries.Endpoint.{Endpoint}
use Rattle.nat_tables.specs.declared.slot.Slot.{Slot}
use Rattle.nat_tables.specs.declared.phase.Phase.TheVariants.{Plain}
use Rattle.balancer_box.specs.declared.place.Place.{Place}
use Rattle.balancer_box.specs.declared.place.Place.TheVariants.{HearsTime, FindsConnection, LowersIdle, RaisesLeast}
use Rattle.balancer_box.specs.declared.place.Place.TheVariants.{Connects, LowersSpare, ChecksConnection, CountsDrop}
use Rattle.balancer_box.specs.declared.place.Place.TheVariants.{SendsOut, LowersVain, Ends}
use Rattle.balancer_box.specs.declared.place.Class.{Class}
use Rattle.balancer_box.specs.declared.place.Class.TheVariants.{Client, Answer}
use Rattle.balancer_box.specs.declared.place.Noted.{Noted}
use Rattle.balancer_box.specs.declared.value.BalancerValue.{BalancerValue}
use Rattle.balancer_box.specs.declared.value.BalancerValue.TheVariants.{Dropped, Loaded, Connected}
use Rattle.balancer_box.specs.declared.place.Goes.{Goes}
use Rattle.balancer_box.specs.Loads.{least_loaded}
use Rattle.balancer_box.specs.Connections.{closed, without_if, has_ended}
use Rattle.balancer_box.specs.Places.{place_numbered}
use Rattle.balancer_box.specs.Settings.{Settings}
use Rattle.balancer_box.specs.Balancer.{next_move, resets, is_virtual, backend_at, begins, goes_to, after_find}
use Rattle.balancer_box.specs.Balancer.{after_bind, after_check, touched, after_time, told, phase_then, ends, noting}
use Rattle.balancer_box.specs.Balancer.{after_idle, gives_way, met, met_there, met_by, new_slot, gives_up, connected_by}
use Rattle.balancer_box.specs.Balancer.{checked_there, checked_by, finds, connects, checks, local_at, noted_by}
use Rattle.balancer_box.specs.Noting.{place_again, IsNoted, noted_again}
use Rattle.balancer_box.specs.Emissions.{Trail, trail_of_touch, naming, WasConnected, Lived}
use Rattle.balancer_box.proofs.ConnectionLemmas.{slot_refreshed, slot_in_phase, slot_appended}
use Rattle.balancer_box.proofs.Making.{goes_on}

-- What is known of a packet in hand

abbrev pub IsOf : Settings → Flow → Noted → Class → Type 0
IsOf s flow n Client = (is_virtual s flow.dest flow.dest_port ≡ true) × (n.client ≡ source_of flow)
IsOf s flow n Answer =
    (is_virtual s flow.dest flow.dest_port ≡ false)
    × (n.client ≡ dest_of flow)
    × (backend_at s.backends flow.source flow.source_port ≡ Some n.backend)

pub record IsBase (s : Settings) (p : Packet) (n : Noted) : Type 0 where
  pub flow : Flow
  pub seen : viewed p.bytes p.original ≡ Ok flow
  pub reset : n.resets ≡ resets flow
  pub of : IsOf s flow n n.class

-- the packet has its backend
abbrev pub IsSettled : Trail → Noted → Class → Type 0
IsSettled r n Client = WasConnected (naming r n.resets) n.client n.backend
IsSettled r n Answer = Lived r n.client n.backend

abbrev pub KnownAt : Settings → Trail → Packet → Place → Noted → Type 0
KnownAt s r p HearsTime n = IsBase s p n
KnownAt s r p FindsConnection n = IsBase s p n × (n.class ≡ Client)
KnownAt s r p LowersIdle n = IsBase s p n × (n.class ≡ Client)
KnownAt s r p RaisesLeast n = IsBase s p n × (n.class ≡ Client) × (n.resets ≡ false)
KnownAt s r p Connects n = IsBase s p n × (n.class ≡ Client) × (n.resets ≡ false)
KnownAt s r p LowersVain n = IsBase s p n × IsSettled r n n.class
KnownAt s r p LowersSpare n = IsBase s p n × IsSettled r n n.class
KnownAt s r p ChecksConnection n = IsBase s p n × (n.class ≡ Answer) × (r.clock ≡ Some n.time)
KnownAt s r p CountsDrop n = Unit {0}
KnownAt s r p SendsOut n = IsBase s p n × IsSettled r n n.class
KnownAt s r p Ends n = Unit {0}

abbrev pub Known : Settings → Trail → Option Hand → Type 0
Known s r None = Unit {0}
Known s r (Some h) = KnownAt s r h.packet (place_numbered h.place.at) (noted_by s h.place)

pub known_on : (s : Settings) (r : Trail) (h : Hand) (g : Goes) → IsNoted (length s.backends) g.noted
    → KnownAt s r h.packet g.place g.noted → Known s r (goes_on h g)
known_on s r h g is k =
    let a : place_numbered (local_at g).at ≡ g.place = place_again g.place in
    let b : noted_by s (local_at g) ≡ g.noted = noted_again (length s.backends) g.place g.noted is in
    rw (a, b) k

-- the trail after a touch that found this value and left that one
abbrev pub after_touch : BalancerValue → BalancerValue → Trail → Trail
after_touch x left r = trail_of_touch x (Some left) r

module _ (s : Settings) (p : Packet) where
  -- a client's packet that notes another backend is of the same flow
  client_on : (n m : Noted) → n.class ≡ Client → m.class ≡ n.class → m.resets ≡ n.resets → m.client ≡ n.client
      → IsBase s p n → IsBase s p m
  client_on n m is c f e b =
      let old : IsOf s b.flow n Client = subst (IsOf s b.flow n) is b.of in
      record {
        flow = b.flow;
        seen = b.seen;
        reset = f ∙ b.reset;
        of = subst (IsOf s b.flow m) (sym (c ∙ is)) (old.0, e ∙ old.1);
      }

  -- a packet that notes neither another client nor another backend
  base_on : (n m : Noted) → m.class ≡ n.class → m.resets ≡ n.resets → m.client ≡ n.client → m.backend ≡ n.backend
      → IsBase s p n → IsBase s p m
  base_on n m c f e d b = record { flow = b.flow; seen = b.seen; reset = f ∙ b.reset; of = by n.class b.of c }
    where
      by : (k : Class) → IsOf s b.flow n k → m.class ≡ k → IsOf s b.flow m m.class
      by Client old is = subst (IsOf s b.flow m) (sym is) (old.0, e ∙ old.1)
      by Answer old is = subst (IsOf s b.flow m) (sym is) (old.0, e ∙ old.1, old.2 ∙ ap Some (sym d))

  begins_known : (r : Trail) (n : Noted) (b : Bool) → n.resets ≡ b → n.class ≡ Client → IsBase s p n
      → KnownAt s r p (begins n b).place (begins n b).noted
  begins_known r n true q class base = tt
  begins_known r n false q class base = (base, class, q)

  module _ (r : Trail) (n : Noted) (es : Forwards) (base : IsBase s p n) (class : n.class ≡ Client)
      (self : same_endpoint n.client n.client ≡ true) where
    -- a connection that was found, and closed or refreshed
    used_known : (slot : Slot) (b : Bool) → n.resets ≡ b → slot_of n.client es ≡ Some slot
        → KnownAt s (after_touch (Connected es) (Connected (without_if b n.client (refresh n.client n.time es))) r) p
        (goes_to n b slot.port).place (goes_to n b slot.port).noted
    used_known slot true q at =
        let m : Noted = record n { backend = slot.port; spare = slot.port } in
        let t : Trail =
        after_touch (Connected es) (Connected (without_if true n.client (refresh n.client n.time es))) r in
        let was : WasConnected (naming t n.resets) n.client slot.port =
        subst (λ (c : Bool). WasConnected (naming t c) n.client slot.port) (sym q) (es, slot, refl, at, refl) in
        (client_on n m class refl refl refl base, subst (IsSettled t m) (sym class) was)
    used_known slot false q at =
        let m : Noted = record n { backend = slot.port } in
        let left : Forwards = refresh n.client n.time es in
        let t : Trail = after_touch (Connected es) (Connected left) r in
        let was : WasConnected (naming t n.resets) n.client slot.port =
        subst (λ (c : Bool). WasConnected (naming t c) n.client slot.port) (sym q)
        (left, refreshed n.time slot, refl, slot_refreshed n.client n.time slot es at, refl) in
        (client_on n m class refl refl refl base, subst (IsSettled t m) (sym class) was)

    there_known : (slot : Slot) (idle : Bool) → slot_of n.client es ≡ Some slot
        → (let f = found_there n.client n.time es slot idle in
        KnownAt s (after_touch (Connected es) (Connected (closed f.0 n.resets n.client f.1)) r) p
        (after_find n f.0).place (after_find n f.0).noted)
    there_known slot true at = (client_on n (record n { spare = slot.port }) class refl refl refl base, class)
    there_known slot false at = used_known slot n.resets refl at

    found_known : (a : Option Slot) (b : Option (Endpoint × Slot)) → slot_of n.client es ≡ a
        → (let f = found n.client n.time es a b in
        KnownAt s (after_touch (Connected es) (Connected (closed f.0 n.resets n.client f.1)) r) p
        (after_find n f.0).place (after_find n f.0).noted)
    found_known (Some slot) b at = there_known slot (is_idle n.time (n.client, slot)) at
    found_known None (Some gone) at = (client_on n (record n { spare = gone.1.port }) class refl refl refl base, class)
    found_known None None at = begins_known (after_touch (Connected es) (Connected es) r) n n.resets refl class base

    bound_known : n.resets ≡ false → (a : Option Slot) → slot_of n.client es ≡ a
        → (let f = bound n.client n.backend n.time es a in
        KnownAt s (after_touch (Connected es) (Connected f.1) r) p (after_bind n f.0).place (after_bind n f.0).noted)
    bound_known q (Some slot) at =
        let m : Noted = record n { backend = slot.port; spare = n.backend } in
        let left : Forwards = refresh n.client n.time es in
        let t : Trail = after_touch (Connected es) (Connected left) r in
        let was : WasConnected (naming t n.resets) n.client slot.port =
        subst (λ (c : Bool). WasConnected (naming t c) n.client slot.port) (sym q)
        (left, refreshed n.time slot, refl, slot_refreshed n.client n.time slot es at, refl) in
        (client_on n m class refl refl refl base, subst (IsSettled t m) (sym class) was)
    bound_known q None at =
        let slot : Slot = record { port = n.backend; last = n.time; phase = Plain } in
        let left : Forwards = es ++ (n.client, slot) ∷ [] in
        let t : Trail = after_touch (Connected es) (Connected left) r in
        let was : WasConnected (naming t n.resets) n.client n.backend =
        subst (λ (c : Bool). WasConnected (naming t c) n.client n.backend) (sym q)
        (left, slot, refl, slot_appended n.client slot es at self, refl) in
        (base, subst (IsSettled t n) (sym class) was)

  -- an answer that found its client's connection
  module _ (r : Trail) (n : Noted) (es left : Forwards) (base : IsBase s p n) (class : n.class ≡ Answer)
      (clock : r.clock ≡ Some n.time) (there : lives n.client n.backend n.time es ≡ true) where
    abbrev checked : Trail
    checked = after_touch (Connected es) (Connected left) r

    answer_known : (b : Bool) → KnownAt s checked p (goes_to n b n.backend).place (goes_to n b n.backend).noted
    answer_known true =
        let m : Noted = record n { spare = n.backend } in
        (base_on n m refl refl refl refl base, subst (IsSettled checked m) (sym class) (es, n.time, refl, clock, there))
    answer_known false = (base, subst (IsSettled checked n) (sym class) (es, n.time, refl, clock, there))

  check_known : (r : Trail) (n : Noted) (es : Forwards) → IsBase s p n → n.class ≡ Answer → r.clock ≡ Some n.time
      → (b : Bool) → lives n.client n.backend n.time es ≡ b
      → KnownAt s (after_touch (Connected es) (Connected (without_if (b && n.resets) n.client es)) r) p
      (after_check n b).place (after_check n b).noted
  check_known r n es base class clock true is =
      answer_known r n es (without_if n.resets n.client es) base class clock is n.resets
  check_known r n es base class clock false is = tt

  -- where connections are followed
  module _ (r : Trail) (seconds : ℕ) (n : Noted) (es : Forwards) (base : IsBase s p n) where
    abbrev next : Forwards → Trail
    next left = after_touch (Connected es) (Connected left) r

    module _ (class : n.class ≡ Client) where
      goes_known : (left : Forwards) (b : Bool) (backend : ℕ)
          → WasConnected (naming (next left) n.resets) n.client backend
          → KnownAt s (next left) p (goes_to n b backend).place (goes_to n b backend).noted
      goes_known left true backend was =
          let m : Noted = record n { backend = backend; spare = backend } in
          (client_on n m class refl refl refl base, subst (IsSettled (next left) m) (sym class) was)
      goes_known left false backend was =
          let m : Noted = record n { backend = backend } in
          (client_on n m class refl refl refl base, subst (IsSettled (next left) m) (sym class) was)

      gives_known : (left : Forwards) (b : Bool) (backend : ℕ)
          → WasConnected (naming (next left) n.resets) n.client backend
          → KnownAt s (next left) p (gives_up n b backend).place (gives_up n b backend).noted
      gives_known left true backend was =
          let m : Noted = record n { backend = backend; spare = n.backend } in
          (client_on n m class refl refl refl base, subst (IsSettled (next left) m) (sym class) was)
      gives_known left false backend was =
          let m : Noted = record n { backend = backend; spare = n.backend } in
          (client_on n m class refl refl refl base, subst (IsSettled (next left) m) (sym class) was)

      after_idle_known : (t : Trail) (b : Bool) (backend : ℕ)
          → KnownAt s t p (after_idle n backend b).place (after_idle n backend b).noted
      after_idle_known t true backend = begins_known t n n.resets refl class base
      after_idle_known t false backend =
          (client_on n (record n { spare = backend }) class refl refl refl base, class)

      -- a connection that stands in the table that was left, and in the one that was found where the packet resets it
      was_named : (left : Forwards) (backend : ℕ) → WasConnected (Some es) n.client backend
          → WasConnected (Some left) n.client backend → WasConnected (naming (next left) n.resets) n.client backend
      was_named left backend found later = by n.resets
        where
          by : (b : Bool) → WasConnected (naming (next left) b) n.client backend
          by true = found
          by false = later

      -- a connection in which the packet was noted
      noted_there : (slot : Slot) (left : Forwards) → slot_of n.client left ≡ Some slot
          → WasConnected (Some (noting seconds n slot left)) n.client slot.port
      noted_there slot left at = (
        noting seconds n slot left,
        in_phase (phase_then seconds n slot.phase) slot,
        refl,
        slot_in_phase n.client (phase_then seconds n slot.phase) slot left at,
        refl,
      )

      met_known : (slot : Slot) (b : Bool) → slot_of n.client es ≡ Some slot
          → (let f = met seconds n es slot b in KnownAt s (next f.0) p f.1.place f.1.noted)
      met_known slot true at = begins_known (next (without n.client es)) n n.resets refl class base
      met_known slot false at =
          let left : Forwards = noting seconds n slot (refresh n.client n.time es) in
          goes_known left (ends seconds n slot) slot.port
          (was_named left slot.port (es, slot, refl, at, refl)
          (noted_there (refreshed n.time slot) (refresh n.client n.time es)
          (slot_refreshed n.client n.time slot es at)))

      met_there_known : (slot : Slot) (b : Bool) → slot_of n.client es ≡ Some slot
          → (let f = met_there seconds n es slot b in KnownAt s (next f.0) p f.1.place f.1.noted)
      met_there_known slot true at =
          after_idle_known (next (without n.client es)) (has_ended slot.phase) slot.port
      met_there_known slot false at = met_known slot (gives_way n slot) at

      met_by_known : (o : Option Slot) (idle : Option (Endpoint × Slot)) → slot_of n.client es ≡ o
          → (let f = met_by seconds n es o idle in KnownAt s (next f.0) p f.1.place f.1.noted)
      met_by_known (Some slot) idle at = met_there_known slot (is_idle n.time (n.client, slot)) at
      met_by_known None (Some e) at =
          after_idle_known (next (without_idle n.time es)) (has_ended e.1.phase) e.1.port
      met_by_known None None at = begins_known (next es) n n.resets refl class base

      -- a packet that resets nothing connects its client
      was_left : (left : Forwards) (backend : ℕ) → n.resets ≡ false → WasConnected (Some left) n.client backend
          → WasConnected (naming (next left) n.resets) n.client backend
      was_left left backend none was =
          subst (λ (c : Bool). WasConnected (naming (next left) c) n.client backend) (sym none) was

      connected_known : n.resets ≡ false → (o : Option Slot) → slot_of n.client es ≡ o
          → (let f = connected_by seconds n es o in KnownAt s (next f.0) p f.1.place f.1.noted)
      connected_known none (Some slot) at =
          let left : Forwards = noting seconds n slot (refresh n.client n.time es) in
          gives_known left (ends seconds n slot) slot.port
          (was_left left slot.port none (noted_there (refreshed n.time slot) (refresh n.client n.time es)
          (slot_refreshed n.client n.time slot es at)))
      connected_known none None at =
          let left : Forwards = noting seconds n (new_slot n) (es ++ (n.client, new_slot n) ∷ []) in
          goes_known left (ends seconds n (new_slot n)) n.backend
          (was_left left n.backend none (noted_there (new_slot n) (es ++ (n.client, new_slot n) ∷ [])
          (slot_appended n.client (new_slot n) es at (same_self n.client))))

    checked_known : n.class ≡ Answer → r.clock ≡ Some n.time → (o : Option Slot) → slot_of n.client es ≡ o
        → (let f = checked_by seconds n es o in KnownAt s (next f.0) p f.1.place f.1.noted)
    checked_known class clock None at = tt
    checked_known class clock (Some slot) at = by (lives_at n.client n.backend n.time (Some slot)) refl
      where
        by : (b : Bool) → lives_at n.client n.backend n.time (Some slot) ≡ b
            → (let f = checked_there seconds n es slot b in KnownAt s (next f.0) p f.1.place f.1.noted)
        by false q = tt
        by true q =
            let there : lives n.client n.backend n.time es ≡ true =
            subst (λ (o : Option Slot). lives_at n.client n.backend n.time o ≡ true) (sym at) q in
            answer_known r n es (noting seconds n slot es) base class clock there (ends seconds n slot)

  -- where they are followed, and where not

  finds_known : (r : Trail) (c : Option ℕ) (n : Noted) (es : Forwards) → IsBase s p n → n.class ≡ Client
      → same_endpoint n.client n.client ≡ true
      → KnownAt s (after_touch (Connected es) (Connected (finds c n es).0) r) p (finds c n es).1.place
      (finds c n es).1.noted
  finds_known r None n es base class self =
      found_known r n es base class self (slot_of n.client es) (first_idle n.time es) refl
  finds_known r (Some seconds) n es base class self =
      met_by_known r seconds n es base class (slot_of n.client es) (first_idle n.time es) refl

  connects_known : (r : Trail) (c : Option ℕ) (n : Noted) (es : Forwards) → IsBase s p n → n.class ≡ Client
      → same_endpoint n.client n.client ≡ true → n.resets ≡ false
      → KnownAt s (after_touch (Connected es) (Connected (connects c n es).0) r) p (connects c n es).1.place
      (connects c n es).1.noted
  connects_known r None n es base class self none =
      bound_known r n es base class self none (slot_of n.client es) refl
  connects_known r (Some seconds) n es base class self none =
      connected_known r seconds n es base class none (slot_of n.client es) refl

  checks_known : (r : Trail) (c : Option ℕ) (n : Noted) (es : Forwards) → IsBase s p n → n.class ≡ Answer
      → r.clock ≡ Some n.time
      → KnownAt s (after_touch (Connected es) (Connected (checks c n es).0) r) p (checks c n es).1.place
      (checks c n es).1.noted
  checks_known r None n es base class clock =
      check_known r n es base class clock (lives n.client n.backend n.time es) refl
  checks_known r (Some seconds) n es base class clock =
      checked_known r seconds n es base class clock (slot_of n.client es) refl

  pub touch_known : (r : Trail) (place : Place) (x : BalancerValue) (n : Noted) (v : ℕ) → next_move s place n ≡ Access v
      → same_endpoint n.client n.client ≡ true → KnownAt s r p place n
      → KnownAt s (after_touch x (touched s.closing place x n).0 r) p (touched s.closing place x n).1.place
      (touched s.closing place x n).1.noted
  touch_known r HearsTime x n v e self k = absurd (cc)
  touch_known r FindsConnection (Dropped d) n v e self k = tt
  touch_known r FindsConnection (Loaded loads) n v e self k = tt
  touch_known r FindsConnection (Connected es) n v e self k =
      finds_known r s.closing n es k.0 k.1 self
  touch_known r LowersIdle (Dropped d) n v e self k = tt
  touch_known r LowersIdle (Loaded loads) n v e self k = begins_known r n n.resets refl k.1 k.0
  touch_known r LowersIdle (Connected es) n v e self k = tt
  touch_known r RaisesLeast (Dropped d) n v e self k = tt
  touch_known r RaisesLeast (Loaded loads) n v e self k =
      (client_on n (record n { backend = least_loaded loads }) k.1 refl refl refl k.0, k.1, k.2)
  touch_known r RaisesLeast (Connected es) n v e self k = tt
  touch_known r Connects (Dropped d) n v e self k = tt
  touch_known r Connects (Loaded loads) n v e self k = tt
  touch_known r Connects (Connected es) n v e self k = connects_known r s.closing n es k.0 k.1 self k.2
  touch_known r LowersVain (Dropped d) n v e self k = tt
  touch_known r LowersSpare (Dropped d) n v e self k = tt
  touch_known r LowersVain (Loaded loads) n v e self k =
      (base_on n (record n { spare = n.backend }) refl refl refl refl k.0, k.1)
  touch_known r LowersSpare (Loaded loads) n v e self k = k
  touch_known r LowersVain (Connected es) n v e self k = tt
  touch_known r LowersSpare (Connected es) n v e self k = tt
  touch_known r ChecksConnection (Dropped d) n v e self k = tt
  touch_known r ChecksConnection (Loaded loads) n v e self k = tt
  touch_known r ChecksConnection (Connected es) n v e self k =
      checks_known r s.closing n es k.0 k.1 k.2
  touch_known r CountsDrop (Dropped d) n v e self k = tt
  touch_known r CountsDrop (Loaded loads) n v e self k = tt
  touch_known r CountsDrop (Connected es) n v e self k = tt
  touch_known r SendsOut x n v e self k = absurd (cc)
  touch_known r Ends x n v e self k = absurd (cc)

  abbrev pub after_clock : ℕ → Trail → Trail
  after_clock a r = record { found = r.found; left = r.left; clock = Some a }

  time_known : (r : Trail) (a : ℕ) (n : Noted) (c : Class) → n.class ≡ c → IsBase s p n → n.time ≡ a
      → KnownAt s (after_clock a r) p (after_time n c).place (after_time n c).noted
  time_known r a n Client is base now = (base, is)
  time_known r a n Answer is base now = (base, is, ap Some (sym now))

  pub clock_known : (r : Trail) (place : Place) (a : ℕ) (n : Noted) → next_move s place n ≡ Clock
      → KnownAt s r p place n → KnownAt s (after_clock a r) p (told place a n).place (told place a n).noted
  clock_known r HearsTime a n e k =
      time_known r a (record n { time = a }) n.class refl (base_on n (record n { time = a }) refl refl refl refl k) refl
  clock_known r FindsConnection a n e k = absurd (cc)
  clock_known r LowersIdle a n e k = absurd (cc)
  clock_known r RaisesLeast a n e k = absurd (cc)
  clock_known r Connects a n e k = absurd (cc)
  clock_known r LowersVain a n e k = absurd (cc)
  clock_known r LowersSpare a n e k = absurd (cc)
  clock_known r ChecksConnection a n e k = absurd (cc)
  clock_known r CountsDrop a n e k = absurd (cc)
  clock_known r SendsOut a n e k = absurd (cc)
  clock_known r Ends a n e k = absurd (cc)
