-- What is known of a packet in hand at each place, by what its own moves met.
use Rattle.std.proofs.Common.{◌≡◌, ◌≢◌, ℕ, Bool, true, false, List, [], length, refl, sym, ap, ◌∙◌, subst, inl, inr}
use Rattle.std.proofs.Common.{arith, Option, Some, None}
use Rattle.std.specs.Prelude.{◌==◌, ◌&&◌, not, if◌then◌else◌, bit_and, Ok}
use Rattle.std.proofs.lemmas.Bool.{eqb-true}
use Rattle.plain_text.specs.declared.packet.Packet.{Packet}
use Rattle.packet_headers.specs.declared.flow.Flow.{Flow}
use Rattle.packet_headers.specs.View.{viewed}
use Rattle.plain_machine.specs.declared.local.Move.TheVariants.{Access, Clock}
use Rattle.plain_machine.specs.Machine.{Hand}
use Rattle.plain_machine.proofs.Histories.{is_eq}
use Rattle.nat_tables.specs.declared.entries.Endpoint.{Endpoint}
use Rattle.nat_tables.specs.declared.slot.Slot.{Slot}
use Rattle.nat_tables.specs.Forwards.{Forwards, slot_of, is_idle, first_idle, found_there, found, bound, lives_at}
use Rattle.nat_tables.specs.Forwards.{lives}
use Rattle.flow_boxes.specs.Flows.{source_of, dest_of}
use Rattle.balancer_box.specs.declared.place.Place.{Place}
use Rattle.balancer_box.specs.declared.place.Place.TheVariants.{HearsTime, FindsConnection, LowersIdle, RaisesLeast}
use Rattle.balancer_box.specs.declared.place.Place.TheVariants.{Connects, LowersSpare, ChecksConnection, CountsDrop}
use Rattle.balancer_box.specs.declared.place.Place.TheVariants.{SendsOut, LowersVain, Ends}
use Rattle.balancer_box.specs.declared.place.Class.{Class}
use Rattle.balancer_box.specs.declared.place.Class.TheVariants.{Client, Answer}
use Rattle.balancer_box.specs.declared.place.Tells.{Tells}
use Rattle.balancer_box.specs.declared.place.Tells.TheVariants.{Nothing, Opens, Finishes, Resets}
use Rattle.balancer_box.specs.declared.place.Noted.{Noted}
use Rattle.balancer_box.specs.declared.value.BalancerValue.{BalancerValue}
use Rattle.balancer_box.specs.declared.value.BalancerValue.TheVariants.{Dropped, Loaded, Connected}
use Rattle.balancer_box.specs.declared.place.Goes.{Goes}
use Rattle.balancer_box.specs.Loads.{least_loaded}
use Rattle.balancer_box.specs.Connections.{has_ended}
use Rattle.balancer_box.specs.Places.{place_numbered}
use Rattle.balancer_box.specs.Settings.{Settings, AreSettings}
use Rattle.balancer_box.specs.Balancer.{next_move, resets, begins, goes_to, after_find, after_bind, after_check}
use Rattle.balancer_box.specs.Balancer.{touched, after_time, told, local_at, tells_by, heard, ends, after_idle, opens}
use Rattle.balancer_box.specs.Balancer.{gives_way, met as met_connection, met_there, met_by, new_slot, gives_up}
use Rattle.balancer_box.specs.Balancer.{connected_by, checked_there, checked_by, finds, connects, checks, dropped}
use Rattle.balancer_box.specs.Balancer.{no_connection, noted_by, Fits}
use Rattle.balancer_box.specs.Noting.{place_again, IsNoted, noted_again}
use Rattle.balancer_box.specs.Ranks.{var_of}
use Rattle.balancer_box.specs.Emissions.{Trail, trail_of_touch}
use Rattle.balancer_box.proofs.LoadLemmas.{has_least}
use Rattle.balancer_box.proofs.Making.{goes_on}
use Rattle.balancer_box.proofs.Sendings.{IsOf}
use Rattle.balancer_runs.specs.Staying.{HasReset, HasOpening}
use Rattle.balancer_runs.specs.Causes.{HasNone, HasNoneTo, HasCause}
use Rattle.balancer_runs.specs.Choosing.{loads_met_in, WasChosen}
use Rattle.balancer_runs.proofs.Tables.{idle_is}

-- whose packet it is
pub record IsBase (s : Settings) (p : Packet) (n : Noted) : Type 0 where
  pub flow : Flow
  pub seen : viewed p.bytes p.original ≡ Ok flow
  pub reset : n.resets ≡ resets flow
  pub notes : n.tells ≡ tells_by s.closing flow.flags
  pub of : IsOf s flow n n.class

-- the time was told, and is noted
pub record IsTold (s : Settings) (r : Trail) (p : Packet) (n : Noted) (class : Class) : Type 0 where
  pub base : IsBase s p n
  pub is_class : n.class ≡ class
  pub clock : r.clock ≡ Some n.time

-- the packet's find met no connection of the client that lives
abbrev pub FoundNone : Trail → Noted → Type 0
FoundNone r n = (es : Forwards) × (r.found ≡ Some es) × HasNone n.client n.time (slot_of n.client es)

-- the packet touched a connection table
abbrev pub HasFound : Trail → Type 0
HasFound r = (es : Forwards) × (r.found ≡ Some es)

abbrev pub KnownAt : Settings → Trail → Option (List ℕ × List ℕ) → Packet → Place → Noted → Type 0
KnownAt s r met p HearsTime n = IsBase s p n
KnownAt s r met p FindsConnection n = IsTold s r p n Client
KnownAt s r met p LowersIdle n = IsTold s r p n Client × FoundNone r n
KnownAt s r met p RaisesLeast n = IsTold s r p n Client × HasFound r × (n.resets ≡ false)
KnownAt s r met p Connects n =
    IsTold s r p n Client × WasChosen met n.backend × HasFound r × (n.resets ≡ false)
KnownAt s r met p LowersVain n = Unit {0}
KnownAt s r met p LowersSpare n = Unit {0}
KnownAt s r met p ChecksConnection n = IsTold s r p n Answer
KnownAt s r met p CountsDrop n = HasCause s r p n.reason
KnownAt s r met p SendsOut n = Unit {0}
KnownAt s r met p Ends n = Unit {0}

abbrev pub Known : Settings → Trail → Option (List ℕ × List ℕ) → Option Hand → Type 0
Known s r met None = Unit {0}
Known s r met (Some h) = KnownAt s r met h.packet (place_numbered h.place.at) (noted_by s h.place)

pub known_on : (s : Settings) (r : Trail) (met : Option (List ℕ × List ℕ)) (h : Hand) (g : Goes)
    → IsNoted (length s.backends) g.noted → KnownAt s r met h.packet g.place g.noted → Known s r met (goes_on h g)
known_on s r met h g is k =
    let a : place_numbered (local_at g).at ≡ g.place = place_again g.place in
    let b : noted_by s (local_at g) ≡ g.noted = noted_again (length s.backends) g.place g.noted is in
    rw (a, b) k

-- the control bit, as a number
pub has_reset : (flow : Flow) (n : Noted) → n.resets ≡ resets flow → n.resets ≡ true → HasReset flow
has_reset flow n same is zero_is =
    let q : not (bit_and flow.flags 4 == 0) ≡ true = sym same ∙ is in
    let z : (bit_and flow.flags 4 == 0) ≡ true = is_eq (bit_and flow.flags 4) 0 zero_is in
    absurd (cc)

-- the control bits of a segment that opens a connection

is_opens : (t : Tells) → opens t ≡ true → t ≡ Opens
is_opens Nothing e = absurd (cc)
is_opens Opens e = refl
is_opens Finishes e = absurd (cc)
is_opens Resets e = absurd (cc)

pub heard_opens : (n : Noted) → opens (heard n) ≡ true → (n.client.protocol ≡ 6) × (n.tells ≡ Opens)
heard_opens n e = by (n.client.protocol == 6) refl e
  where
    by : (b : Bool) → (n.client.protocol == 6) ≡ b → opens (if b then n.tells else Nothing) ≡ true
        → (n.client.protocol ≡ 6) × (n.tells ≡ Opens)
    by true q e = (eqb-true _ _ q, is_opens n.tells e)
    by false q e = absurd (cc)

abbrev AreOpening : ℕ → Type 0
AreOpening flags =
    ((bit_and flags 4 == 0) ≡ true) × ((bit_and flags 1 == 0) ≡ true) × ((bit_and flags 2 == 0) ≡ false)
    × ((bit_and flags 16 == 0) ≡ true)

opening_bits : (c : Option ℕ) (flags : ℕ) → tells_by c flags ≡ Opens → AreOpening flags
opening_bits None flags e = absurd (cc)
opening_bits (Some seconds) flags e =
    by (bit_and flags 4 == 0) (bit_and flags 1 == 0) (bit_and flags 2 == 0) (bit_and flags 16 == 0)
    refl refl refl refl e
  where
    by : (a b c d : Bool) → (bit_and flags 4 == 0) ≡ a → (bit_and flags 1 == 0) ≡ b → (bit_and flags 2 == 0) ≡ c
        → (bit_and flags 16 == 0) ≡ d
        → (if not a then Resets else if not b then Finishes else if c then Nothing else if d then Opens else Nothing)
        ≡ Opens → AreOpening flags
    by false b c d w x y z e = absurd (cc)
    by true false c d w x y z e = absurd (cc)
    by true true true d w x y z e = absurd (cc)
    by true true false false w x y z e = absurd (cc)
    by true true false true w x y z e = (w, x, y, z)

pub has_opening : (c : Option ℕ) (flow : Flow) → tells_by c flow.flags ≡ Opens → HasOpening flow
has_opening c flow e =
    let bits = opening_bits c flow.flags e in
    (not_zero (bit_and flow.flags 2) bits.2, eqb-true _ _ bits.3, eqb-true _ _ bits.1, eqb-true _ _ bits.0)
  where
    not_zero : (k : ℕ) → (k == 0) ≡ false → k ≢ 0
    not_zero k q zero_is = absurd (let z : (k == 0) ≡ true = is_eq k 0 zero_is in cc)

pub both : (a b : Bool) → (a && b) ≡ true → (a ≡ true) × (b ≡ true)
both true b e = (refl, e)
both false b e = absurd (cc)

-- a packet that notes another backend or time, of the same client
module _ (s : Settings) (p : Packet) where
  pub client_of : (n : Noted) (b : IsBase s p n) → n.class ≡ Client → IsOf s b.flow n Client
  client_of n b is = subst (IsOf s b.flow n) is b.of

  pub answer_of : (n : Noted) (b : IsBase s p n) → n.class ≡ Answer → IsOf s b.flow n Answer
  answer_of n b is = subst (IsOf s b.flow n) is b.of

  client_on : (r t : Trail) (n m : Noted) → m.class ≡ n.class → m.resets ≡ n.resets → m.tells ≡ n.tells
      → m.client ≡ n.client → m.time ≡ n.time → t.clock ≡ r.clock → IsTold s r p n Client → IsTold s t p m Client
  client_on r t n m c f g e d k told =
      let b : IsBase s p n = told.base in
      let old : IsOf s b.flow n Client = client_of n b told.is_class in
      let of : IsOf s b.flow m Client = (old.0, e ∙ old.1) in
      record {
        base = record {
          flow = b.flow;
          seen = b.seen;
          reset = f ∙ b.reset;
          notes = g ∙ b.notes;
          of = subst (IsOf s b.flow m) (sym (c ∙ told.is_class)) of;
        };
        is_class = c ∙ told.is_class;
        clock = k ∙ told.clock ∙ ap Some (sym d);
      }

  -- the time is told
  time_on : (n : Noted) (a : ℕ) → IsBase s p n → IsBase s p (record n { time = a })
  time_on n a b = record {
    flow = b.flow;
    seen = b.seen;
    reset = b.reset;
    notes = b.notes;
    of = by n.class b.of refl;
  }
    where
      by : (k : Class) → IsOf s b.flow n k → n.class ≡ k → IsOf s b.flow (record n { time = a }) n.class
      by Client old is = subst (IsOf s b.flow (record n { time = a })) (sym is) old
      by Answer old is = subst (IsOf s b.flow (record n { time = a })) (sym is) old

  -- a client's packet that found no connection begins one, or is dropped where it resets it
  begins_known : (r : Trail) (met : Option (List ℕ × List ℕ)) (n : Noted) (b : Bool) → n.resets ≡ b
      → IsTold s r p n Client → FoundNone r n → KnownAt s r met p (begins n b).place (begins n b).noted
  begins_known r met n false q told none = (told, (none.0, none.1), q)
  begins_known r met n true q told none =
      let base : IsBase s p n = told.base in
      let of : IsOf s base.flow n Client = client_of n base told.is_class in
      let has : HasNone (source_of base.flow) n.time (slot_of (source_of base.flow) none.0) =
      subst (λ (k : Endpoint). HasNone k n.time (slot_of k none.0)) of.1 none.2 in
      inr (
        base.flow,
        base.seen,
        inr (
          refl,
          (
            none.0,
            n.time,
            none.1,
            told.clock,
            inl (of.0, has_reset base.flow n base.reset q, has),
          ),
        ),
      )

  goes_known : (r : Trail) (met : Option (List ℕ × List ℕ)) (n : Noted) (b : Bool) (backend : ℕ)
      → KnownAt s r met p (goes_to n b backend).place (goes_to n b backend).noted
  goes_known r met n true backend = tt
  goes_known r met n false backend = tt

  -- the trail after a touch that found this value and left that one
  abbrev pub after_touch : BalancerValue → BalancerValue → Trail → Trail
  after_touch x left r = trail_of_touch x (Some left) r

  module _ (r : Trail) (met : Option (List ℕ × List ℕ)) (n : Noted) (es : Forwards) (left : BalancerValue)
      (told : IsTold s r p n Client) where
    abbrev next : Trail
    next = after_touch (Connected es) left r

    told_next : IsTold s next p n Client
    told_next = client_on r next n n refl refl refl refl refl refl told

    there_known : (slot : Slot) (idle : Bool) → slot_of n.client es ≡ Some slot → is_idle n.time (n.client, slot) ≡ idle
        → (let f = found_there n.client n.time es slot idle in
        KnownAt s next met p (after_find n f.0).place (after_find n f.0).noted)
    there_known slot true at is = (
      client_on r next n (record n { spare = slot.port }) refl refl refl refl refl refl told,
      (es, refl, subst (HasNone n.client n.time) (sym at) (idle_is n.time n.client slot is)),
    )
    there_known slot false at is = goes_known next met n n.resets slot.port

    found_known : (a : Option Slot) (b : Option (Endpoint × Slot)) → slot_of n.client es ≡ a
        → (let f = found n.client n.time es a b in
        KnownAt s next met p (after_find n f.0).place (after_find n f.0).noted)
    found_known (Some slot) b at = there_known slot (is_idle n.time (n.client, slot)) at refl
    found_known None (Some gone) at = (
      client_on r next n (record n { spare = gone.1.port }) refl refl refl refl refl refl told,
      (es, refl, subst (HasNone n.client n.time) (sym at) tt),
    )
    found_known None None at =
        begins_known next met n n.resets refl told_next (es, refl, subst (HasNone n.client n.time) (sym at) tt)

    -- where connections are followed

    after_idle_known : (b : Bool) (backend : ℕ) → HasNone n.client n.time (slot_of n.client es)
        → KnownAt s next met p (after_idle n backend b).place (after_idle n backend b).noted
    after_idle_known true backend none = begins_known next met n n.resets refl told_next (es, refl, none)
    after_idle_known false backend none =
        (client_on r next n (record n { spare = backend }) refl refl refl refl refl refl told, (es, refl, none))

    -- a packet that opens a connection resets none
    opens_known : opens (heard n) ≡ true → KnownAt s next met p (begins n n.resets).place (begins n n.resets).noted
    opens_known opening =
        let base : IsBase s p n = told.base in
        let bits = opening_bits s.closing base.flow.flags (sym base.notes ∙ (heard_opens n opening).1) in
        let none : n.resets ≡ false = base.reset ∙ ap not bits.0 in
        subst (λ (b : Bool). KnownAt s next met p (begins n b).place (begins n b).noted) (sym none)
        (told_next, (es, refl), none)

    met_known : (seconds : ℕ) (slot : Slot) (b : Bool) → gives_way n slot ≡ b
        → (let f = met_connection seconds n es slot b in KnownAt s next met p f.1.place f.1.noted)
    met_known seconds slot true way = opens_known (both (has_ended slot.phase) (opens (heard n)) way).1
    met_known seconds slot false way = goes_known next met n (ends seconds n slot) slot.port

    met_there_known : (seconds : ℕ) (slot : Slot) (b : Bool) → slot_of n.client es ≡ Some slot
        → is_idle n.time (n.client, slot) ≡ b
        → (let f = met_there seconds n es slot b in KnownAt s next met p f.1.place f.1.noted)
    met_there_known seconds slot true at is =
        after_idle_known (has_ended slot.phase) slot.port
        (subst (HasNone n.client n.time) (sym at) (idle_is n.time n.client slot is))
    met_there_known seconds slot false at is = met_known seconds slot (gives_way n slot) refl

    met_by_known : (seconds : ℕ) (o : Option Slot) (idle : Option (Endpoint × Slot)) → slot_of n.client es ≡ o
        → (let f = met_by seconds n es o idle in KnownAt s next met p f.1.place f.1.noted)
    met_by_known seconds (Some slot) idle at =
        met_there_known seconds slot (is_idle n.time (n.client, slot)) at refl
    met_by_known seconds None (Some e) at =
        after_idle_known (has_ended e.1.phase) e.1.port (subst (HasNone n.client n.time) (sym at) tt)
    met_by_known seconds None None at =
        begins_known next met n n.resets refl told_next (es, refl, subst (HasNone n.client n.time) (sym at) tt)

    finds_known : (c : Option ℕ) → KnownAt s next met p (finds c n es).1.place (finds c n es).1.noted
    finds_known None = found_known (slot_of n.client es) (first_idle n.time es) refl
    finds_known (Some seconds) = met_by_known seconds (slot_of n.client es) (first_idle n.time es) refl

  connects_known : (r : Trail) (met : Option (List ℕ × List ℕ)) (c : Option ℕ) (n : Noted) (es : Forwards)
      → KnownAt s r met p (connects c n es).1.place (connects c n es).1.noted
  connects_known r met None n es = by (slot_of n.client es)
    where
      by : (a : Option Slot)
          → (let b = bound n.client n.backend n.time es a in
          KnownAt s r met p (after_bind n b.0).place (after_bind n b.0).noted)
      by None = tt
      by (Some slot) = tt
  connects_known r met (Some seconds) n es = by (slot_of n.client es)
    where
      given_up : (b : Bool) (backend : ℕ) → KnownAt s r met p (gives_up n b backend).place (gives_up n b backend).noted
      given_up true backend = tt
      given_up false backend = tt

      by : (o : Option Slot)
          → (let f = connected_by seconds n es o in KnownAt s r met p f.1.place f.1.noted)
      by (Some slot) = given_up (ends seconds n slot) slot.port
      by None = goes_known r met n (ends seconds n (new_slot n)) n.backend

  -- an answer that found no connection
  not_lives : (client : Endpoint) (backend now : ℕ) (o : Option Slot) → lives_at client backend now o ≡ false
      → HasNoneTo backend client now o
  not_lives client backend now None is = tt
  not_lives client backend now (Some slot) is = by (slot.port == backend) refl (is_idle now (client, slot)) refl
    where
      by : (a : Bool) → (slot.port == backend) ≡ a → (b : Bool) → is_idle now (client, slot) ≡ b
          → HasNoneTo backend client now (Some slot)
      by false q b t = inl (λ e. absurd (let z : (slot.port == backend) ≡ true = is_eq slot.port backend e in cc))
      by true q true t = inr (idle_is now client slot t)
      by true q false t =
          let z : ((slot.port == backend) && not (is_idle now (client, slot))) ≡ true = rw (q, t) refl in absurd (cc)

  module _ (r : Trail) (met : Option (List ℕ × List ℕ)) (n : Noted) (es left : Forwards)
      (told : IsTold s r p n Answer) where
    abbrev after_check_of : Trail
    after_check_of = after_touch (Connected es) (Connected left) r

    unconnected_known : HasNoneTo n.backend n.client n.time (slot_of n.client es)
        → KnownAt s after_check_of met p CountsDrop (dropped n no_connection).noted
    unconnected_known none =
        let base : IsBase s p n = told.base in
        let of : IsOf s base.flow n Answer = answer_of n base told.is_class in
        let has : HasNoneTo n.backend (dest_of base.flow) n.time (slot_of (dest_of base.flow) es) =
        subst (λ (k : Endpoint). HasNoneTo n.backend k n.time (slot_of k es)) of.1 none in
        inr (
          base.flow,
          base.seen,
          inr (
            refl,
            (
              es,
              n.time,
              refl,
              told.clock,
              inr (of.0, n.backend, of.2, has),
            ),
          ),
        )

    check_known : (b : Bool) → lives n.client n.backend n.time es ≡ b
        → KnownAt s after_check_of met p (after_check n b).place (after_check n b).noted
    check_known true is = goes_known after_check_of met n n.resets n.backend
    check_known false is =
        unconnected_known (not_lives n.client n.backend n.time (slot_of n.client es) is)

    checked_known : (seconds : ℕ) (o : Option Slot) → slot_of n.client es ≡ o
        → (let f = checked_by seconds n es o in KnownAt s after_check_of met p f.1.place f.1.noted)
    checked_known seconds None at =
        unconnected_known (subst (HasNoneTo n.backend n.client n.time) (sym at) tt)
    checked_known seconds (Some slot) at = by (lives_at n.client n.backend n.time (Some slot)) refl
      where
        by : (b : Bool) → lives_at n.client n.backend n.time (Some slot) ≡ b
            → (let f = checked_there seconds n es slot b in KnownAt s after_check_of met p f.1.place f.1.noted)
        by true q = goes_known after_check_of met n (ends seconds n slot) n.backend
        by false q =
            unconnected_known (subst (HasNoneTo n.backend n.client n.time) (sym at)
            (not_lives n.client n.backend n.time (Some slot) q))

    checks_known : (c : Option ℕ) → KnownAt s after_check_of met p (checks c n es).1.place (checks c n es).1.noted
    checks_known None = check_known (lives n.client n.backend n.time es) refl
    checks_known (Some seconds) = checked_known seconds (slot_of n.client es) refl

  -- each touch; what it left of the loads matters where one is chosen
  pub touch_known : (r : Trail) (met later : Option (List ℕ × List ℕ)) (place : Place) (x : BalancerValue) (n : Noted)
      (v : ℕ) → next_move s place n ≡ Access v → var_of s place n ≡ v → Fits s v x → AreSettings s
      → (place ≡ RaisesLeast → later ≡ loads_met_in x (Some (touched s.closing place x n).0))
      → KnownAt s r met p place n
      → KnownAt s (after_touch x (touched s.closing place x n).0 r) later p (touched s.closing place x n).1.place
      (touched s.closing place x n).1.noted
  touch_known r met later HearsTime x n v e at fits is chosen k = absurd (cc)
  touch_known r met later FindsConnection (Dropped d) n v e at fits is chosen k = tt
  touch_known r met later FindsConnection (Loaded loads) n v e at fits is chosen k = tt
  touch_known r met later FindsConnection (Connected es) n v e at fits is chosen k =
      finds_known r later n es (Connected (finds s.closing n es).0) k s.closing
  touch_known r met later LowersIdle (Dropped d) n v e at fits is chosen k = tt
  touch_known r met later LowersIdle (Loaded loads) n v e at fits is chosen k =
      begins_known r later n n.resets refl k.0 k.1
  touch_known r met later LowersIdle (Connected es) n v e at fits is chosen k = tt
  touch_known r met later RaisesLeast (Dropped d) n v e at fits is chosen k = absurd (omega (arith, at, fits))
  touch_known r met later RaisesLeast (Loaded loads) n v e at fits is chosen k = (
    client_on r r n (record n { backend = least_loaded loads }) refl refl refl refl refl refl k.0,
    (loads, has_least loads (omega (arith, fits.1, is.some_backends)), chosen refl),
    k.1,
    k.2,
  )
  touch_known r met later RaisesLeast (Connected es) n v e at fits is chosen k = absurd (omega (arith, at, fits.0))
  touch_known r met later Connects (Dropped d) n v e at fits is chosen k = tt
  touch_known r met later Connects (Loaded loads) n v e at fits is chosen k = tt
  touch_known r met later Connects (Connected es) n v e at fits is chosen k =
      connects_known (after_touch (Connected es) (Connected (connects s.closing n es).0) r) later s.closing n es
  touch_known r met later LowersVain (Dropped d) n v e at fits is chosen k = tt
  touch_known r met later LowersSpare (Dropped d) n v e at fits is chosen k = tt
  touch_known r met later LowersVain (Loaded loads) n v e at fits is chosen k = tt
  touch_known r met later LowersSpare (Loaded loads) n v e at fits is chosen k = tt
  touch_known r met later LowersVain (Connected es) n v e at fits is chosen k = tt
  touch_known r met later LowersSpare (Connected es) n v e at fits is chosen k = tt
  touch_known r met later ChecksConnection (Dropped d) n v e at fits is chosen k = tt
  touch_known r met later ChecksConnection (Loaded loads) n v e at fits is chosen k = tt
  touch_known r met later ChecksConnection (Connected es) n v e at fits is chosen k =
      checks_known r later n es (checks s.closing n es).0 k s.closing
  touch_known r met later CountsDrop (Dropped d) n v e at fits is chosen k = tt
  touch_known r met later CountsDrop (Loaded loads) n v e at fits is chosen k = tt
  touch_known r met later CountsDrop (Connected es) n v e at fits is chosen k = tt
  touch_known r met later SendsOut x n v e at fits is chosen k = absurd (cc)
  touch_known r met later Ends x n v e at fits is chosen k = absurd (cc)

  abbrev pub after_clock : ℕ → Trail → Trail
  after_clock a r = record { found = r.found; left = r.left; clock = Some a }

  time_known : (r : Trail) (met : Option (List ℕ × List ℕ)) (a : ℕ) (n : Noted) (c : Class) → n.class ≡ c
      → IsBase s p n → n.time ≡ a → KnownAt s (after_clock a r) met p (after_time n c).place (after_time n c).noted
  time_known r met a n Client is base now = record { base = base; is_class = is; clock = ap Some (sym now) }
  time_known r met a n Answer is base now = record { base = base; is_class = is; clock = ap Some (sym now) }

  pub clock_known : (r : Trail) (met : Option (List ℕ × List ℕ)) (place : Place) (a : ℕ) (n : Noted)
      → next_move s place n ≡ Clock → KnownAt s r met p place n
      → KnownAt s (after_clock a r) met p (told place a n).place (told place a n).noted
  clock_known r met HearsTime a n e k =
      time_known r met a (record n { time = a }) n.class refl (time_on n a k) refl
  clock_known r met FindsConnection a n e k = absurd (cc)
  clock_known r met LowersIdle a n e k = absurd (cc)
  clock_known r met RaisesLeast a n e k = absurd (cc)
  clock_known r met Connects a n e k = absurd (cc)
  clock_known r met LowersVain a n e k = absurd (cc)
  clock_known r met LowersSpare a n e k = absurd (cc)
  clock_known r met ChecksConnection a n e k = absurd (cc)
  clock_known r met CountsDrop a n e k = absurd (cc)
  clock_known r met SendsOut a n e k = absurd (cc)
  clock_known r met Ends a n e k = absurd (cc)
