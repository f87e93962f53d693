-- Single entries, by what is counted.
use Rattle.std.proofs.Common.{◌≡◌, ℕ, zero, suc, ◌+◌, ◌*◌, ◌<◌, ◌≤◌, Bool, true, false, [], ◌∷◌, refl, sym, ap, ◌∙◌}
use Rattle.std.proofs.Common.{subst, ◌⊎◌, inl, inr, arith, Option, Some, None}
use Rattle.std.specs.Prelude.{◌&&◌, ◌==◌}
use Rattle.std.proofs.lemmas.Bool.Decides.{nat_tests}
use Rattle.entry_order.specs.Stamps.{sum_below}
use Rattle.plain_machine.specs.Machine.{Hand, Thread}
use Rattle.plain_machine.specs.History.{thread_after, value_after}
use Rattle.plain_machine.proofs.Bounds.{values_fit}
use Rattle.nat_tables.specs.declared.entries.Endpoint.{Endpoint}
use Rattle.nat_tables.specs.declared.entries.PortKey.{PortKey}
use Rattle.nat_tables.specs.declared.slot.Slot.{Slot}
use Rattle.nat_tables.specs.Ports.{one_if}
use Rattle.nat_tables.specs.Keys.{same_endpoint, same_port}
use Rattle.nat_tables.specs.Forwards.{Forwards, port_of, total, Misses, AreMappings}
use Rattle.nat_tables.specs.Reverses.{Reverses, endpoint_of, total_bound, AreBound}
use Rattle.nat_tables.proofs.Counting.{same_is, port_is}
use Rattle.nat_box.specs.declared.place.Place.{Place}
use Rattle.nat_box.specs.declared.place.Place.TheVariants.{HearsTime, FindsMapping, UnbindsFreed, GivesBackFreed}
use Rattle.nat_box.specs.declared.place.Place.TheVariants.{DrawsWord, ReservesPort, BindsPort, FindsOrBinds}
use Rattle.nat_box.specs.declared.place.Place.TheVariants.{UnbindsLost, GivesBackLost, FindsEndpoint, AsksIfLives}
use Rattle.nat_box.specs.declared.place.Place.TheVariants.{CountsDrop, SendsOut, Ends, FindsPort}
use Rattle.nat_box.specs.declared.place.Noted.{Noted}
use Rattle.nat_box.specs.declared.value.NatValue.{NatValue}
use Rattle.nat_box.specs.declared.value.NatValue.TheVariants.{Dropped, Free, Mapped, Taken}
use Rattle.nat_box.specs.Places.{place_numbered, noted, source_key}
use Rattle.nat_box.specs.Settings.{Settings, AreSettings}
use Rattle.nat_box.specs.Nat.{forward_table, reverse_table, nat_meaning, MayMap, MayBind, Fits}
use Rattle.nat_box.specs.Lawful.{nat_lawful}
use Rattle.nat_box.specs.PortStanding.{maps, maps_for, mapped_at, binds, binds_for, taken_at, queued, queued_for, loose}
use Rattle.nat_box.specs.PortStanding.{in_values, in_hand, in_hands, tally_of, IsSound, places_of}
use Rattle.nat_box.specs.Sentences.{Has, mappings_in, bound_in, IsMapping, HaveReverse, HaveOneEndpoint, HaveOneMapping}
use Rattle.nat_box.specs.Sentences.{IsBetween, Belong, EntriesStand}
use Rattle.flow_boxes.proofs.Fitting.{same_self}
use Rattle.flow_boxes.proofs.Summing.{term_of_sum}
use Rattle.nat_box.proofs.StaticPlaces.{places_one}
use Rattle.nat_box.proofs.Standing.{for_below, ports_stand}

same_port_self : (k : PortKey) → same_port k k ≡ true
same_port_self k =
    let a : (k.protocol == k.protocol) ≡ true = grind (arith, nat_tests) in
    let b : (k.port == k.port) ≡ true = grind (arith, nat_tests) in rw (a, b) refl

-- Sums and their terms

pub some_term : (n : ℕ) (f : ℕ → ℕ) → 1 ≤ sum_below n f → (u : ℕ) × (u < n) × (1 ≤ f u)
some_term zero f some = absurd (omega arith)
some_term (suc n) f some = by (f n) refl (some_term n f)
  where
    by : (m : ℕ) → f n ≡ m → (1 ≤ sum_below n f → (u : ℕ) × (u < n) × (1 ≤ f u)) → (u : ℕ) × (u < suc n) × (1 ≤ f u)
    by zero e rest = let r = rest (omega arith) in (r.0, omega (arith, r.1), r.2)
    by (suc m) e rest = (n, omega arith, omega arith)

term_of_total : (w : Endpoint → ℕ → ℕ) (es : Forwards) (e : Endpoint × Slot) → Has es e → w e.0 e.1.port ≤ total w es
term_of_total w [] e h = absurd h
term_of_total w (x ∷ es) e (inl q) = let a : w x.0 x.1.port ≡ w e.0 e.1.port = rw q refl in omega arith
term_of_total w (x ∷ es) e (inr h) = let a = term_of_total w es e h in omega arith

term_of_bound : (w : PortKey → Endpoint → ℕ) (bs : Reverses) (b : PortKey × Endpoint) → Has bs b
    → w b.0 b.1 ≤ total_bound w bs
term_of_bound w [] b h = absurd h
term_of_bound w (x ∷ bs) b (inl q) = let a : w x.0 x.1 ≡ w b.0 b.1 = rw q refl in omega arith
term_of_bound w (x ∷ bs) b (inr h) = let a = term_of_bound w bs b h in omega arith

some_mapping : (k : PortKey) (es : Forwards) → 1 ≤ total (maps k) es
    → (e : Endpoint × Slot) × Has es e × (k ≡ port_of e)
some_mapping k [] some = absurd (omega arith)
some_mapping k (x ∷ es) some = by (same_port k (port_of x)) refl (some_mapping k es)
  where
    by : (b : Bool) → same_port k (port_of x) ≡ b
        → (1 ≤ total (maps k) es → (e : Endpoint × Slot) × Has es e × (k ≡ port_of e))
        → (e : Endpoint × Slot) × Has (x ∷ es) e × (k ≡ port_of e)
    by true q rest = (x, inl refl, port_is k (port_of x) q)
    by false q rest =
        let zero_here : one_if (same_port k (port_of x)) ≡ 0 = ap one_if q in
        let r = rest (omega arith) in (r.0, inr r.1, r.2)

bound_below : (k : PortKey) (e : Endpoint) (bs : Reverses) → total_bound (binds_for k e) bs ≤ total_bound (binds k) bs
bound_below k e [] = omega arith
bound_below k e (b ∷ bs) =
    let a = bound_below k e bs in let c = for_below (same_port k b.0) (same_endpoint e b.1) in omega arith

-- a port that is bound once, and once to this endpoint, is bound to it
names : (k : PortKey) (e : Endpoint) (bs : Reverses) → total_bound (binds k) bs ≤ 1 → 1 ≤ total_bound (binds_for k e) bs
    → endpoint_of k bs ≡ Some e
names k e [] once some = absurd (omega arith)
names k e (b ∷ bs) once some = by (same_port k b.0) (same_endpoint e b.1) refl refl (names k e bs)
  where
    by : (p q : Bool) → same_port k b.0 ≡ p → same_endpoint e b.1 ≡ q
        → (total_bound (binds k) bs ≤ 1 → 1 ≤ total_bound (binds_for k e) bs → endpoint_of k bs ≡ Some e)
        → endpoint_of k (b ∷ bs) ≡ Some e
    by true true x y rest = rw x (ap Some (sym (same_is e b.1 y)))
    by true false x y rest =
        let a : one_if (same_port k b.0) ≡ 1 = ap one_if x in
        let c : one_if (same_port k b.0 && same_endpoint e b.1) ≡ 0 = rw (x, y) refl in
        let d = bound_below k e bs in absurd (omega arith)
    by false q x y rest =
        let a : one_if (same_port k b.0) ≡ 0 = ap one_if x in
        let c : one_if (same_port k b.0 && same_endpoint e b.1) ≡ 0 = rw x refl in
        rw x (rest (omega arith) (omega arith))

mapped_is : (number : Endpoint → ℕ → ℕ) (x : NatValue) → mapped_at number x ≡ total number (mappings_in x)
mapped_is number (Dropped d) = refl
mapped_is number (Free pool) = refl
mapped_is number (Mapped es) = refl
mapped_is number (Taken bs) = refl

taken_is : (number : PortKey → Endpoint → ℕ) (x : NatValue) → taken_at number x ≡ total_bound number (bound_in x)
taken_is number (Dropped d) = refl
taken_is number (Free pool) = refl
taken_is number (Mapped es) = refl
taken_is number (Taken bs) = refl

-- Distinct keys

missed : (es : Forwards) (key : Endpoint) → Misses es key → (f : Endpoint × Slot) → Has es f → key ≡ f.0 → ⊥
missed [] key m f h k = h
missed (y ∷ es) key m f (inl p) k =
    let a : same_endpoint y.0 key ≡ true = rw (k, p) (same_self f.0) in absurd (cc)
missed (y ∷ es) key m f (inr h) k = missed es key m.1 f h k

one_of_key : (May : Endpoint → Slot → Type 0) (es : Forwards) (e f : Endpoint × Slot) → AreMappings May es → Has es e
    → Has es f → e.0 ≡ f.0 → e ≡ f
one_of_key May [] e f all h g same = absurd h
one_of_key May (x ∷ es) e f all (inl p) (inl q) same = sym p ∙ q
one_of_key May (x ∷ es) e f all (inl p) (inr g) same =
    absurd (missed es x.0 all.1 f g (ap (λ (y : Endpoint × Slot). y.0) p ∙ same))
one_of_key May (x ∷ es) e f all (inr h) (inl q) same =
    absurd (missed es x.0 all.1 e h (ap (λ (y : Endpoint × Slot). y.0) q ∙ sym same))
one_of_key May (x ∷ es) e f all (inr h) (inr g) same = one_of_key May es e f all.2 h g same

may_has : (May : Endpoint → Slot → Type 0) (es : Forwards) (e : Endpoint × Slot) → AreMappings May es → Has es e
    → May e.0 e.1
may_has May [] e all h = absurd h
may_has May (x ∷ es) e all (inl p) = subst (λ (y : Endpoint × Slot). May y.0 y.1) p all.0
may_has May (x ∷ es) e all (inr h) = may_has May es e all.2 h

bound_has : (May : PortKey → Endpoint → Type 0) (bs : Reverses) (b : PortKey × Endpoint) → AreBound May bs → Has bs b
    → May b.0 b.1
bound_has May [] b all h = absurd h
bound_has May (x ∷ bs) b all (inl p) = subst (λ (y : PortKey × Endpoint). May y.0 y.1) p all.0
bound_has May (x ∷ bs) b all (inr h) = bound_has May bs b all.2 h

-- what a packet in hand with the port is

of_one : (a b : PortKey) → 1 ≤ one_if (same_port a b) → a ≡ b
of_one a b some = by (same_port a b) refl
  where
    by : (t : Bool) → same_port a b ≡ t → a ≡ b
    by true q = port_is a b q
    by false q = let z : one_if (same_port a b) ≡ 0 = ap one_if q in absurd (omega arith)

queued_at : (k : PortKey) (p : Place) (n : Noted) → 1 ≤ queued k p n → (p ≡ FindsOrBinds) × (k ≡ source_key n)
queued_at k HearsTime n some = absurd (omega arith)
queued_at k FindsMapping n some = absurd (omega arith)
queued_at k UnbindsFreed n some = absurd (omega arith)
queued_at k GivesBackFreed n some = absurd (omega arith)
queued_at k DrawsWord n some = absurd (omega arith)
queued_at k ReservesPort n some = absurd (omega arith)
queued_at k BindsPort n some = absurd (omega arith)
queued_at k FindsOrBinds n some = (refl, of_one k (source_key n) some)
queued_at k UnbindsLost n some = absurd (omega arith)
queued_at k GivesBackLost n some = absurd (omega arith)
queued_at k FindsEndpoint n some = absurd (omega arith)
queued_at k AsksIfLives n some = absurd (omega arith)
queued_at k CountsDrop n some = absurd (omega arith)
queued_at k SendsOut n some = absurd (omega arith)
queued_at k Ends n some = absurd (omega arith)
queued_at k FindsPort n some = absurd (omega arith)

loose_at : (k : PortKey) (p : Place) (n : Noted) → 1 ≤ loose k p n
    → ((p ≡ UnbindsFreed) ⊎ (p ≡ UnbindsLost)) × (k ≡ n.freed)
loose_at k HearsTime n some = absurd (omega arith)
loose_at k FindsMapping n some = absurd (omega arith)
loose_at k UnbindsFreed n some = (inl refl, of_one k n.freed some)
loose_at k GivesBackFreed n some = absurd (omega arith)
loose_at k DrawsWord n some = absurd (omega arith)
loose_at k ReservesPort n some = absurd (omega arith)
loose_at k BindsPort n some = absurd (omega arith)
loose_at k FindsOrBinds n some = absurd (omega arith)
loose_at k UnbindsLost n some = (inr refl, of_one k n.freed some)
loose_at k GivesBackLost n some = absurd (omega arith)
loose_at k FindsEndpoint n some = absurd (omega arith)
loose_at k AsksIfLives n some = absurd (omega arith)
loose_at k CountsDrop n some = absurd (omega arith)
loose_at k SendsOut n some = absurd (omega arith)
loose_at k Ends n some = absurd (omega arith)
loose_at k FindsPort n some = absurd (omega arith)

between_queued : (k : PortKey) (h : Option Hand) → 1 ≤ in_hand (queued k) h
    → (g : Hand) × (h ≡ Some g) × (place_numbered g.place.at ≡ FindsOrBinds) × (k ≡ source_key (noted g.place))
between_queued k None some = absurd (omega arith)
between_queued k (Some g) some =
    let q = queued_at k (place_numbered g.place.at) (noted g.place) some in (g, refl, q.0, q.1)

between_loose : (k : PortKey) (key : Endpoint) (h : Option Hand) → 1 ≤ in_hand (loose k) h → IsBetween k key h
between_loose k key None some = absurd (omega arith)
between_loose k key (Some g) some =
    let q = loose_at k (place_numbered g.place.at) (noted g.place) some in inr (q.0, sym q.1)

module _ (s : Settings) (is : AreSettings s) (threads : ℕ) (value : ℕ → NatValue) (thread : ℕ → Thread)
    (sound : (k : PortKey) (e : Endpoint) → IsSound (places_of s k) (tally_of s threads k e value thread))
    (fits : (v : ℕ) → v < 2 + 2 * s.shards → Fits s v (value v)) where
  -- a port that a forward entry or a packet before its find-or-bind has, for an endpoint
  named : (k : PortKey) (e : Endpoint)
      → 1 ≤ in_values s (mapped_at (maps_for k e)) value + in_hands (queued_for k e) threads thread
      → endpoint_of k (bound_in (value (reverse_table s k))) ≡ Some e
  named k e some =
      let y = sound k e in
      let one = places_one s k in
      let a : taken_at (binds k) (value (reverse_table s k))
      ≡ total_bound (binds k) (bound_in (value (reverse_table s k))) = taken_is (binds k) (value (reverse_table s k)) in
      let b : taken_at (binds_for k e) (value (reverse_table s k))
      ≡ total_bound (binds_for k e) (bound_in (value (reverse_table s k))) =
      taken_is (binds_for k e) (value (reverse_table s k)) in
      names k e (bound_in (value (reverse_table s k))) (omega (arith, y.one, y.bound, one, a))
      (omega (arith, y.same, some, b))

  mapping_counts : (v : ℕ) (e : Endpoint × Slot) → IsMapping s value v e
      → 1 ≤ in_values s (mapped_at (maps_for (port_of e) e.0)) value
  mapping_counts v e m =
      let w : Endpoint → ℕ → ℕ = maps_for (port_of e) e.0 in
      let a : mapped_at w (value v) ≤ in_values s (mapped_at w) value =
      term_of_sum (2 + 2 * s.shards) v (λ u. mapped_at w (value u)) m.0 in
      let b : w e.0 e.1.port ≤ total w (mappings_in (value v)) = term_of_total w (mappings_in (value v)) e m.1 in
      let c : mapped_at w (value v) ≡ total w (mappings_in (value v)) = mapped_is w (value v) in
      let d : w e.0 e.1.port ≡ 1 = rw (same_port_self (port_of e), same_self e.0) refl in
      omega arith

  have_reverse : HaveReverse s value
  have_reverse v e m = let a = mapping_counts v e m in named (port_of e) e.0 (omega arith)

  have_one_endpoint : HaveOneEndpoint s value
  have_one_endpoint v w e f m o same =
      let a : endpoint_of (port_of e) (bound_in (value (reverse_table s (port_of e)))) ≡ Some e.0 =
      have_reverse v e m in
      let b : endpoint_of (port_of f) (bound_in (value (reverse_table s (port_of f)))) ≡ Some f.0 =
      have_reverse w f o in
      let c : endpoint_of (port_of e) (bound_in (value (reverse_table s (port_of e))))
      ≡ endpoint_of (port_of f) (bound_in (value (reverse_table s (port_of f)))) =
      ap (λ (k : PortKey). endpoint_of k (bound_in (value (reverse_table s k)))) same in
      let d : Some e.0 ≡ Some f.0 = sym a ∙ c ∙ b in cc

  mappings_fit : (v : ℕ) → v < 2 + 2 * s.shards → AreMappings (MayMap s v) (mappings_in (value v))
  mappings_fit v low = by (value v) (fits v low)
    where
      by : (x : NatValue) → Fits s v x → AreMappings (MayMap s v) (mappings_in x)
      by (Dropped d) f = tt
      by (Free pool) f = tt
      by (Mapped es) f = f.2
      by (Taken bs) f = tt

  bound_fit : (v : ℕ) → v < 2 + 2 * s.shards → AreBound (MayBind s v) (bound_in (value v))
  bound_fit v low = by (value v) (fits v low)
    where
      by : (x : NatValue) → Fits s v x → AreBound (MayBind s v) (bound_in x)
      by (Dropped d) f = tt
      by (Free pool) f = tt
      by (Mapped es) f = tt
      by (Taken bs) f = f.1

  have_one_mapping : HaveOneMapping s value
  have_one_mapping v w e f m o same =
      let a = may_has (MayMap s v) (mappings_in (value v)) e (mappings_fit v m.0) m.1 in
      let b = may_has (MayMap s w) (mappings_in (value w)) f (mappings_fit w o.0) o.1 in
      let c : v ≡ w = a.0 ∙ ap (forward_table s) same ∙ sym b.0 in
      let g : Has (mappings_in (value v)) f = subst (λ (u : ℕ). Has (mappings_in (value u)) f) (sym c) o.1 in
      (c, one_of_key (MayMap s v) (mappings_in (value v)) e f (mappings_fit v m.0) m.1 g same)

  belong : Belong s threads value thread
  belong v port key low has =
      let at : v ≡ reverse_table s port =
      (bound_has (MayBind s v) (bound_in (value v)) (port, key) (bound_fit v low) has).0 in
      let here : Has (bound_in (value (reverse_table s port))) (port, key) =
      subst (λ (u : ℕ). Has (bound_in (value u)) (port, key)) at has in
      let bs : Reverses = bound_in (value (reverse_table s port)) in
      let y = sound port key in
      let one = places_one s port in
      let a : taken_at (binds port) (value (reverse_table s port)) ≡ total_bound (binds port) bs =
      taken_is (binds port) (value (reverse_table s port)) in
      let b : binds port port key ≤ total_bound (binds port) bs = term_of_bound (binds port) bs (port, key) here in
      let c : binds port port key ≡ 1 = ap one_if (same_port_self port) in
      let d : binds_for port key port key ≤ total_bound (binds_for port key) bs =
      term_of_bound (binds_for port key) bs (port, key) here in
      let f : binds_for port key port key ≡ 1 = rw (same_port_self port, same_self key) refl in
      let bound : endpoint_of port bs ≡ Some key =
      names port key bs (omega (arith, y.one, y.bound, one, a)) (omega (arith, d, f)) in
      by (in_values s (mapped_at (maps port)) value) (in_hands (queued port) threads thread) refl refl bound
      (omega (arith, y.bound, a, b, c))
    where
      by_mapping : (some : (w : ℕ) × (w < 2 + 2 * s.shards) × (1 ≤ mapped_at (maps port) (value w)))
          → endpoint_of port (bound_in (value (reverse_table s port))) ≡ Some key
          → (w : ℕ) × (slot : Slot) × IsMapping s value w (key, slot) × (port_of (key, slot) ≡ port)
      by_mapping some bound =
          let a : mapped_at (maps port) (value some.0) ≡ total (maps port) (mappings_in (value some.0)) =
          mapped_is (maps port) (value some.0) in
          let m = some_mapping port (mappings_in (value some.0)) (omega (arith, a, some.2)) in
          let b : endpoint_of (port_of m.0) (bound_in (value (reverse_table s (port_of m.0)))) ≡ Some m.0.0 =
          have_reverse some.0 m.0 (some.1, m.1) in
          let c : endpoint_of port (bound_in (value (reverse_table s port)))
          ≡ endpoint_of (port_of m.0) (bound_in (value (reverse_table s (port_of m.0)))) =
          ap (λ (k : PortKey). endpoint_of k (bound_in (value (reverse_table s k)))) m.2 in
          let d : Some key ≡ Some m.0.0 = sym bound ∙ c ∙ b in
          let f : m.0.0 ≡ key = cc in
          let g : m.0 ≡ (key, m.0.1) = λ i. (f i, m.0.1) in
          (some.0, m.0.1, (some.1, subst (Has (mappings_in (value some.0))) g m.1), sym (m.2 ∙ ap port_of g))

      by_queued : (some : (t : ℕ) × (t < threads) × (1 ≤ in_hand (queued port) (thread t).hand))
          → endpoint_of port (bound_in (value (reverse_table s port))) ≡ Some key
          → (t : ℕ) × (t < threads) × IsBetween port key (thread t).hand
      by_queued some bound =
          let q = between_queued port (thread some.0).hand some.2 in
          let source : Endpoint = (noted q.0.place).source in
          let w : Place → Noted → ℕ = queued_for port source in
          let a : in_hand w (thread some.0).hand ≤ in_hands w threads thread =
          term_of_sum threads some.0 (λ u. in_hand w (thread u).hand) some.1 in
          let b : in_hand w (thread some.0).hand ≡ 1 =
          ap (in_hand w) q.1 ∙ one_queued (place_numbered q.0.place.at) (noted q.0.place) q.2 q.3 in
          let c : endpoint_of port (bound_in (value (reverse_table s port))) ≡ Some source =
          named port source (omega (arith, a, b)) in
          let d : Some source ≡ Some key = sym c ∙ bound in
          let f : source ≡ key = cc in
          (some.0, some.1, rw q.1 (inl (q.2, sym q.3, f)))
        where
          one_queued : (p : Place) (n : Noted) → p ≡ FindsOrBinds → port ≡ source_key n
              → queued_for port n.source p n ≡ 1
          one_queued p n at same = rw at (let x : same_port port (source_key n) ≡ true =
              ap (same_port port) (sym same) ∙ same_port_self port in
              rw (x, same_self n.source) refl)

      by : (m q : ℕ) → in_values s (mapped_at (maps port)) value ≡ m → in_hands (queued port) threads thread ≡ q
          → endpoint_of port (bound_in (value (reverse_table s port))) ≡ Some key
          → 1
          ≤ in_values s (mapped_at (maps port)) value + in_hands (queued port) threads thread
          + in_hands (loose port) threads thread
          → ((w : ℕ) × (slot : Slot) × IsMapping s value w (key, slot) × (port_of (key, slot) ≡ port))
          ⊎ ((t : ℕ) × (t < threads) × IsBetween port key (thread t).hand)
      by (suc m) q e f bound some =
          inl (by_mapping (some_term (2 + 2 * s.shards) (λ v. mapped_at (maps port) (value v)) (omega arith)) bound)
      by zero (suc q) e f bound some =
          inr (by_queued (some_term threads (λ t. in_hand (queued port) (thread t).hand) (omega arith)) bound)
      by zero zero e f bound some =
          let r = some_term threads (λ t. in_hand (loose port) (thread t).hand) (omega arith) in
          inr (r.0, r.1, between_loose port key (thread r.0).hand r.2)

pub entries_stand : EntriesStand
entries_stand s threads inputs steps is h =
    let value : ℕ → NatValue = value_after (nat_meaning s) steps in
    let thread : ℕ → Thread = thread_after steps in
    let sound = ports_stand s threads inputs steps is h in
    let fits = values_fit (nat_meaning s) (Fits s) (nat_lawful s is) inputs threads steps h in (
      have_reverse s is threads value thread sound fits,
      have_one_endpoint s is threads value thread sound fits,
      have_one_mapping s is threads value thread sound fits,
      belong s is threads value thread sound fits,
    )
