-- What is known of a packet in hand after each of its touches, reads and answers.
use Rattle.std.proofs.Common.{◌≡◌, ◌≢◌, ℕ, ◌+◌, ◌*◌, ◌<◌, ◌≤◌, Bool, true, false, [], ◌∷◌, ◌++◌, refl, sym, ap, ◌∙◌}
use Rattle.std.proofs.Common.{subst, ◌⊎◌, inl, inr, arith, Option, Some, None}
use Rattle.std.specs.Prelude.{if◌then◌else◌}
use Rattle.std.proofs.lemmas.Bool.Decides.{nat_tests}
use Rattle.plain_text.specs.declared.packet.Packet.{Packet}
use Rattle.entry_order.proofs.Order.{is_or}
use Rattle.packet_headers.specs.Fields.{AreBytes}
use Rattle.nat_tables.specs.declared.entries.Endpoint.{Endpoint}
use Rattle.nat_tables.specs.declared.entries.PortKey.{PortKey}
use Rattle.nat_tables.specs.declared.slot.Slot.{Slot}
use Rattle.nat_tables.specs.declared.phase.Phase.TheVariants.{Plain}
use Rattle.nat_tables.specs.declared.entries.Find.{Find}
use Rattle.nat_tables.specs.declared.entries.Find.TheVariants.{Live, Absent}
use Rattle.nat_tables.specs.declared.entries.Bind.{Bind}
use Rattle.nat_tables.specs.declared.entries.Bind.TheVariants.{Other}
use Rattle.nat_tables.specs.Keys.{port_key}
use Rattle.nat_tables.specs.Ports.{PoolPorts, reserve}
use Rattle.nat_tables.specs.Forwards.{Forwards, refresh, refreshed, is_idle, slot_of, first_idle, found_there, found}
use Rattle.nat_tables.specs.Forwards.{bound, port_of, lives}
use Rattle.nat_tables.specs.Hosts.{count_of, is_full}
use Rattle.nat_tables.specs.Reverses.{Reverses, endpoint_of}
use Rattle.nat_box.specs.declared.place.Place.{Place}
use Rattle.nat_box.specs.declared.place.Place.TheVariants.{HearsTime, FindsMapping, UnbindsFreed, GivesBackFreed}
use Rattle.nat_box.specs.declared.place.Place.TheVariants.{DrawsWord, ReservesPort, BindsPort, FindsOrBinds}
use Rattle.nat_box.specs.declared.place.Place.TheVariants.{UnbindsLost, GivesBackLost, FindsEndpoint, AsksIfLives}
use Rattle.nat_box.specs.declared.place.Place.TheVariants.{CountsDrop, SendsOut, Ends, FindsPort}
use Rattle.nat_box.specs.declared.place.Class.{Class}
use Rattle.nat_box.specs.declared.place.Class.TheVariants.{Outbound, Hairpin, Inbound, OutboundError}
use Rattle.nat_box.specs.declared.place.Noted.{Noted}
use Rattle.nat_box.specs.declared.value.NatValue.{NatValue}
use Rattle.nat_box.specs.declared.value.NatValue.TheVariants.{Free, Mapped, Taken}
use Rattle.flow_boxes.specs.Flows.{endpoint}
use Rattle.nat_box.specs.Places.{dest_key, drawn_word, is_refused, no_port}
use Rattle.nat_box.specs.Settings.{Settings}
use Rattle.nat_box.specs.Nat.{goes, forward_table, reverse_table, live_slot, live_port, after_port, dropped, over_limit}
use Rattle.nat_box.specs.Nat.{after_find_within, after_bind_within, after_lost, touched_by, followed_by, followed}
use Rattle.nat_box.specs.Nat.{mapped, after_find, after_reserve, after_bind, after_endpoint, looked_by, looked}
use Rattle.nat_box.specs.Nat.{after_time, MayMap, Fits}
use Rattle.nat_box.specs.Ranks.{var_of}
use Rattle.nat_box.specs.PortStanding.{free_at}
use Rattle.nat_box.specs.Sentences.{Has, mappings_in, bound_in, IsMapping}
use Rattle.nat_box.proofs.Following.{slot_followed}
use Rattle.nat_runs.specs.Met.{Met, met_by_touch, met_by_read}
use Rattle.nat_runs.specs.Causes.{IsUnbound, HasNoneLive, FoundNoneLive, Cause}
use Rattle.nat_runs.proofs.TableEntries.{slot_in, endpoint_in, not_bound, AreIdle, lives_not, none_free}
use Rattle.flow_boxes.proofs.Fitting.{slot_refreshed, slot_bound}
use Rattle.nat_box.proofs.LivePorts.{none_lives}
use Rattle.nat_box.proofs.Translations.{IsOutward, IsInward, IfOutward}
use Rattle.nat_runs.proofs.Within.{by_find, by_bind, full_has, found_none, count_followed, none_followed_there}
use Rattle.nat_runs.proofs.ThreadMoves.{TouchKind, finds, unbinds_freed, gives_freed, reserves, binds, finds_or_binds}
use Rattle.nat_runs.proofs.ThreadMoves.{unbinds_lost, gives_lost, counts, LookKind, finds_endpoint, asks, finds_port}
use Rattle.nat_runs.proofs.ThreadMoves.{at}
use Rattle.nat_runs.proofs.Known.{IsBase, IsOnWay, WasUnmapped, IsWanting, Refreshed, IsRefused, HasLost, IsBoundTo}
use Rattle.nat_runs.proofs.Known.{IsToCount, KnownAt, bound_at, mapping_at, free_elsewhere, outward_flow, from_inside}
use Rattle.nat_runs.proofs.Known.{goes_inside, IsMappingPlace, find_place, bind_place, given_outward}

module _ (s : Settings) (p : Packet) where
  pub base_on : (n o : Noted) → o.class ≡ n.class → o.source ≡ n.source → o.dest_port ≡ n.dest_port
      → o.segment ≡ n.segment → IsBase s p n → IsBase s p o
  base_on n o c f d g b = record {
    flow = b.flow;
    seen = b.seen;
    class = b.class ∙ ap Some (sym c);
    source = λ bytes. f ∙ b.source bytes;
    dest_port = λ bytes. d ∙ b.dest_port bytes;
    segment = λ bytes. g ∙ b.segment bytes;
  }

  mapped_known : (m : Met) (n : Noted) (c : Class) → n.class ≡ c → IsOnWay s m p n → Refreshed m n
      → KnownAt s m p (mapped n c).place (mapped n c).noted
  mapped_known m n Outbound is k r = ((k.0, k.1), given_outward n.class (Refreshed m n) r)
  mapped_known m n Hairpin is k r =
      ((k.0, k.1), subst IsInward (sym is) tt, given_outward n.class (Refreshed m n) r)
  mapped_known m n Inbound is k r = ((k.0, k.1), given_outward n.class (Refreshed m n) r)
  mapped_known m n OutboundError is k r = ((k.0, k.1), given_outward n.class (Refreshed m n) r)

  module _ (m : Met) (n : Noted) (es : Forwards) (k : IsOnWay s m p n) where
    abbrev leaving : Forwards → Met
    leaving left = record m { left = Some left }

    refreshes : (slot : Slot) → slot_of n.source es ≡ Some slot → Refreshed (leaving (refresh n.source n.time es)) n
    refreshes slot is = (
      refresh n.source n.time es,
      refreshed n.time slot,
      refl,
      slot_refreshed n.source n.time slot es is,
      omega arith,
    )

    -- where it has no live mapping, it had none when the packet touched the table
    module _ (unmapped : live_port n.source n.time es ≡ None → WasUnmapped s m n) where
      there_known : (slot : Slot) (idle : Bool) → slot_of n.source es ≡ Some slot
          → is_idle n.time (n.source, slot) ≡ idle
          → (let f = found_there n.source n.time es slot idle in
          KnownAt s (leaving f.1) p (after_find n f.0).place (after_find n f.0).noted)
      there_known slot true is q =
          let none : live_port n.source n.time es ≡ None =
          ap (live_slot n.source n.time) is ∙ ap (λ (b : Bool). if b then None else Some slot.port) q in
          ((base_on n (record n { freed = port_of (n.source, slot) }) refl refl refl refl k.0, k.1, k.2), unmapped none)
      there_known slot false is q =
          let o : Noted = record n { port = slot.port } in
          mapped_known (leaving (refresh n.source n.time es)) o o.class refl
          (base_on n o refl refl refl refl k.0, k.1, k.2) (refreshes slot is)

      found_known : (a : Option Slot) (b : Option (Endpoint × Slot)) → slot_of n.source es ≡ a
          → (let f = found n.source n.time es a b in
          KnownAt s (leaving f.1) p (after_find n f.0).place (after_find n f.0).noted)
      found_known (Some slot) b is = there_known slot (is_idle n.time (n.source, slot)) is refl
      found_known None (Some gone) is = (
        (base_on n (record n { freed = port_of gone }) refl refl refl refl k.0, k.1, k.2),
        unmapped (ap (live_slot n.source n.time) is),
      )
      found_known None None is = (k, unmapped (ap (live_slot n.source n.time) is))

    bound_known : (a : Option Slot) → slot_of n.source es ≡ a
        → ((slot : Slot) → slot_of n.source es ≡ Some slot → 1 ≤ slot.port)
        → (let f = bound n.source n.port n.time es a in
        KnownAt s (leaving f.1) p (after_bind n f.0).place (after_bind n f.0).noted)
    bound_known (Some slot) is some = (
      (base_on n (after_bind n (Other slot.port)).noted refl refl refl refl k.0, k.1, k.2),
      inl (refreshes slot is, some slot is),
    )
    bound_known None is some =
        let slot : Slot = record { port = n.port; last = n.time; phase = Plain } in
        let left : Forwards = es ++ (n.source, slot) ∷ [] in
        mapped_known (leaving left) n n.class refl k (left, slot, refl, slot_bound n.source slot es is, omega arith)

  -- the segment of the packet is noted in the mapping of its source

  refreshed_followed : (m q : Met) (n : Noted) (c : Option ℕ) (u : Noted) (es : Forwards) → m.left ≡ Some es
      → q.left ≡ Some (followed_by c u es) → Refreshed m n → Refreshed q n
  refreshed_followed m q n c u es was now r =
      let same : Some r.0 ≡ Some es = sym r.2 ∙ was in
      let e : r.0 ≡ es = cc in
      let later = slot_followed c u es n.source r.1 (subst (λ (x : Forwards). slot_of n.source x ≡ Some r.1) e r.3) in (
        followed_by c u es,
        later.0,
        now,
        later.1,
        subst (λ (time : ℕ). n.time ≤ time) (sym later.3) r.4,
      )

  refused_followed : (m q : Met) (n : Noted) (c : Option ℕ) (u : Noted) (es : Forwards) → m.left ≡ Some es
      → q.left ≡ Some (followed_by c u es) → IsRefused s m n → IsRefused s q n
  refused_followed m q n c u es was now r =
      let same : Some r.2 ≡ Some es = sym r.3 ∙ was in
      let e : r.2 ≡ es = cc in
      let count = count_followed n.source.protocol n.source.address c u es in (
        r.0,
        r.1,
        followed_by c u es,
        now,
        none_followed_there n.source c u es (subst (λ (x : Forwards). slot_of n.source x ≡ None) e r.4),
        subst (λ (k : ℕ). r.0 ≤ k) (sym count)
            (subst (λ (x : Forwards). r.0 ≤ count_of n.source.protocol n.source.address x) e r.5),
      )

  lost_followed : (m q : Met) (n : Noted) (c : Option ℕ) (u : Noted) (es : Forwards) → m.left ≡ Some es
      → q.left ≡ Some (followed_by c u es) → HasLost s m n → HasLost s q n
  lost_followed m q n c u es was now (inl r) = inl (refreshed_followed m q n c u es was now r.0, r.1)
  lost_followed m q n c u es was now (inr r) = inr (refused_followed m q n c u es was now r.0, r.1)

  outward_by : (c : Class) (X Y : Type 0) → (X → Y) → IfOutward c X → IfOutward c Y
  outward_by Outbound X Y f k = f k
  outward_by Hairpin X Y f k = f k
  outward_by Inbound X Y f k = tt
  outward_by OutboundError X Y f k = tt

  left_by_followed : (m : Met) (c : Option ℕ) (u : Noted) (es : Forwards) (place : Place) (n : Noted)
      → IsMappingPlace place → KnownAt s (record m { left = Some es }) p place n
      → KnownAt s (record m { left = Some (followed_by c u es) }) p place n
  left_by_followed m c u es UnbindsFreed n is k = k
  left_by_followed m c u es DrawsWord n is k = k
  left_by_followed m c u es UnbindsLost n is k = (
    k.0,
    lost_followed (record m { left = Some es }) (record m { left = Some (followed_by c u es) }) n c u es refl refl
        k.1,
  )
  left_by_followed m c u es FindsEndpoint n is k = (
    k.0,
    k.1,
    outward_by n.class (Refreshed (record m { left = Some es }) n)
        (Refreshed (record m { left = Some (followed_by c u es) }) n)
        (refreshed_followed (record m { left = Some es }) (record m { left = Some (followed_by c u es) }) n c u es refl
        refl) k.2,
  )
  left_by_followed m c u es SendsOut n is k = (
    k.0,
    outward_by n.class (Refreshed (record m { left = Some es }) n)
        (Refreshed (record m { left = Some (followed_by c u es) }) n)
        (refreshed_followed (record m { left = Some es }) (record m { left = Some (followed_by c u es) }) n c u es refl
        refl) k.1,
  )
  left_by_followed m c u es HearsTime n is k = k
  left_by_followed m c u es FindsMapping n is k = k
  left_by_followed m c u es GivesBackFreed n is k = k
  left_by_followed m c u es ReservesPort n is k = k
  left_by_followed m c u es BindsPort n is k = k
  left_by_followed m c u es FindsOrBinds n is k = k
  left_by_followed m c u es GivesBackLost n is k = absurd is
  left_by_followed m c u es AsksIfLives n is k = absurd is
  left_by_followed m c u es CountsDrop n is k = absurd is
  left_by_followed m c u es Ends n is k = tt
  left_by_followed m c u es FindsPort n is k = absurd is

  too_many : (m : Met) (n : Noted) → IsOnWay s m p n → IsRefused s m n
      → IsToCount s m p (record n { word_or_reason = over_limit })
  too_many m n k r = (omega arith, omega arith, cause)
    where
      cause : AreBytes p.bytes → Cause s p m over_limit
      cause bytes = inr (inr (inr (inr (inr (
        k.0.flow,
        (outward_flow s p n k.0 k.2).0,
        from_inside s p n k.0 k.2,
        r.0,
        r.1,
        r.2,
        r.3,
        subst (λ (key : Endpoint). slot_of key r.2 ≡ None) (k.0.source bytes) r.4,
        subst (λ (key : Endpoint). r.0 ≤ count_of key.protocol key.address r.2) (k.0.source bytes) r.5,
        refl,
      )))))

  lost_known : (m : Met) (n : Noted) → IsOnWay s m p n → HasLost s m n
      → (let g = after_lost n (is_refused n) in KnownAt s m p g.place g.noted)
  lost_known m n k (inl r) =
      let some : 1 ≤ n.port = r.1 in
      let other : (is_refused n) ≡ false = grind (arith, nat_tests) in
      rw other (mapped_known m n n.class refl k r.0)
  lost_known m n k (inr r) =
      let none : n.port ≡ no_port = r.1 in
      let same : (is_refused n) ≡ true = grind (arith, nat_tests) in
      rw same (too_many m n k r.0)

  -- where hosts have a limit
  module _ (m : Met) (n : Noted) (most : ℕ) (limit : s.limit ≡ Some most) (k : IsOnWay s m p n) where
    within_known : (f : Find) (es : Forwards) → (f ≡ Absent None → slot_of n.source es ≡ None)
        → KnownAt s (record m { left = Some es }) p (after_find n f).place (after_find n f).noted
        → (let g = after_find_within most n f es in
        KnownAt s (record m { left = Some (followed_by s.closing n es) }) p g.place g.noted)
    within_known (Live port) es none known =
        left_by_followed m s.closing n es (after_find n (Live port)).place (after_find n (Live port)).noted
        (find_place n (Live port)) known
    within_known (Absent (Some freed)) es none known = known
    within_known (Absent None) es none known = by (is_full most n.source es) refl
      where
        left : Met
        left = record m { left = Some (followed_by s.closing n es) }

        by : (full : Bool) → is_full most n.source es ≡ full
            → (let g = if full then dropped n over_limit else goes DrawsWord n in KnownAt s left p g.place g.noted)
        by true full =
            too_many left n k
            (refused_followed (record m { left = Some es }) left n s.closing n es refl refl
            (most, limit, es, refl, none refl, full_has most n.source es full))
        by false full = known

    refused_known : (es : Forwards) → slot_of n.source es ≡ None → is_full most n.source es ≡ true
        → (let g = after_bind_within n None in
        KnownAt s (record m { left = Some (followed_by s.closing n es) }) p g.place g.noted)
    refused_known es none full =
        let o : Noted = (after_bind_within n None).noted in
        let old : Met = record m { left = Some es } in
        let left : Met = record m { left = Some (followed_by s.closing n es) } in (
          (base_on n o refl refl refl refl k.0, k.1, k.2),
          inr (
            refused_followed old left o s.closing n es refl refl
                (most, limit, es, refl, none, full_has most n.source es full),
            refl,
          ),
        )

  -- a touch, and a read, of variables with these values
  module _ (value : ℕ → NatValue) (fits : (v : ℕ) → v < 2 + 2 * s.shards → Fits s v (value v))
      (ports : (v : ℕ) (e : Endpoint × Slot) → IsMapping s value v e → 1 ≤ e.1.port) where
    -- where the endpoint's own table has none that is live, no table has
    none_live : (n : Noted) (w : ℕ) (es : Forwards) → value w ≡ Mapped es → w < 2 + 2 * s.shards
        → forward_table s n.source ≡ w → live_port n.source n.time es ≡ None
        → (port : ℕ) → HasNoneLive s value n.source port n.time
    none_live n w es is low at e port v slot h to =
        let there : v ≡ w = mapping_at s v (value v) n.source slot (fits v h.0) h.1 ∙ at in
        let idle : AreIdle es n.source port n.time =
        lives_not (MayMap s w) n.source port n.time es (subst (Fits s w) is (fits w low)).2
        (none_lives n.source n.time es e port) in
        idle slot (subst (λ (x : NatValue). Has (mappings_in x) (n.source, slot)) (ap value there ∙ is) h.1) to

    none_anywhere : (n : Noted) (pool : PoolPorts) (w : ℕ) → value w ≡ Free pool → 1 ≡ w
        → (reserve n.source.protocol n.source.port (drawn_word n) pool).0 ≡ None → (v port : ℕ) → v < 2 + 2 * s.shards
        → free_at (port_key n.source.protocol port) (value v) ≡ 0
    none_anywhere n pool w is at e v port below = by (is_or v 1)
      where
        by : (v ≡ 1) ⊎ (v ≢ 1) → free_at (port_key n.source.protocol port) (value v) ≡ 0
        by (inl q) =
            ap (λ (u : ℕ). free_at (port_key n.source.protocol port) (value u)) (q ∙ at)
            ∙ ap (free_at (port_key n.source.protocol port)) is
            ∙ none_free n.source.protocol n.source.port (drawn_word n) pool e port
        by (inr q) = free_elsewhere s v (value v) (port_key n.source.protocol port) (fits v below) q

    reserved_known : (m : Met) (n : Noted) (pool : PoolPorts) (w : ℕ) (o : Option ℕ) → value w ≡ Free pool → 1 ≡ w
        → (reserve n.source.protocol n.source.port (drawn_word n) pool).0 ≡ o → IsWanting s m p n
        → KnownAt s (record m { at_pool = Some value }) p (after_reserve n o).place (after_reserve n o).noted
    reserved_known m n pool w (Some port) is at e k =
        (base_on n (record n { port = port }) refl refl refl refl k.0.0, k.0.1, k.0.2)
    reserved_known m n pool w None is at e k = (omega arith, omega arith, cause)
      where
        cause : AreBytes p.bytes → Cause s p (record m { at_pool = Some value }) 8
        cause bytes = inr (inr (inl (
          k.0.0.flow,
          (outward_flow s p n k.0.0 k.0.2).0,
          from_inside s p n k.0.0 k.0.2,
          (
            k.1.0,
            n.time,
            k.1.1,
            k.0.1,
            subst (λ (key : Endpoint). (port : ℕ) → HasNoneLive s k.1.0 key port n.time) (k.0.0.source bytes) k.1.2,
          ),
          value,
          refl,
          subst (λ (q : ℕ). (v port : ℕ) → v < 2 + 2 * s.shards → free_at (port_key q port) (value v) ≡ 0)
              (ap (λ (q : Endpoint). q.protocol) (k.0.0.source bytes)) (none_anywhere n pool w is at e),
          refl,
        )))

    own_port : (w : ℕ) (es : Forwards) (key : Endpoint) → value w ≡ Mapped es → w < 2 + 2 * s.shards → (slot : Slot)
        → slot_of key es ≡ Some slot → 1 ≤ slot.port
    own_port w es key is low slot there =
        ports w (key, slot)
        (low, subst (λ (x : NatValue). Has (mappings_in x) (key, slot)) (sym is) (slot_in key slot es there))

    pub touch_known : (m : Met) (w : ℕ) (place : Place) (x : NatValue) (n : Noted) (limit : Option ℕ) → s.limit ≡ limit
        → value w ≡ x → w < 2 + 2 * s.shards → TouchKind place x → var_of s place n ≡ w → KnownAt s m p place n
        → (let r = touched_by limit place x n in
        KnownAt s (met_by_touch value x (Some (followed s n r.0)) m) p r.1.place r.1.noted)
    touch_known m w _ _ n None limit is low (finds es) at k =
        let f = found n.source n.time es (slot_of n.source es) (first_idle n.time es) in
        let q : Met = record m { at_touch = Some value } in
        left_by_followed q s.closing n f.1 (after_find n f.0).place (after_find n f.0).noted (find_place n f.0)
        (found_known q n es k (λ e. (value, refl, none_live n w es is low at e)) (slot_of n.source es)
        (first_idle n.time es) refl)
    touch_known m w _ _ n (Some most) limit is low (finds es) at k =
        let a : Option Slot = slot_of n.source es in
        let b : Option (Endpoint × Slot) = first_idle n.time es in
        let f = found n.source n.time es a b in
        let q : Met = record m { at_touch = Some value } in
        let unmapped : live_port n.source n.time es ≡ None → WasUnmapped s q n =
        (λ e. (value, refl, none_live n w es is low at e)) in
        by_find most n.source n.time es
        (λ (r : Find × Forwards).
        let g = after_find_within most n r.0 r.1 in
        KnownAt s (record q { left = Some (followed_by s.closing n r.1) }) p g.place g.noted)
        (within_known q n most limit k f.0 f.1 (found_none n.source n.time es a b refl)
        (found_known q n es k unmapped a b refl))
        (λ e none idle. (
          (base_on n (record n { freed = port_of e }) refl refl refl refl k.0, k.1, k.2),
          unmapped (ap (live_slot n.source n.time) none),
        ))
        (λ none full.
        within_known q n most limit k (Absent None) es (λ e. none) (k, unmapped (ap (live_slot n.source n.time) none)))
    touch_known m w _ _ n None limit is low (unbinds_freed bs) at k = k
    touch_known m w _ _ n (Some most) limit is low (unbinds_freed bs) at k = k
    touch_known m w _ _ n None limit is low (gives_freed pool) at k = k
    touch_known m w _ _ n (Some most) limit is low (gives_freed pool) at k = k
    touch_known m w _ _ n None limit is low (reserves pool) at k =
        reserved_known m n pool w (reserve n.source.protocol n.source.port (drawn_word n) pool).0 is at refl k
    touch_known m w _ _ n (Some most) limit is low (reserves pool) at k =
        reserved_known m n pool w (reserve n.source.protocol n.source.port (drawn_word n) pool).0 is at refl k
    touch_known m w _ _ n None limit is low (binds bs) at k = k
    touch_known m w _ _ n (Some most) limit is low (binds bs) at k = k
    touch_known m w _ _ n None limit is low (finds_or_binds es) at k =
        let b = bound n.source n.port n.time es (slot_of n.source es) in
        let q : Met = record m { at_touch = Some value } in
        left_by_followed q s.closing n b.1 (after_bind n b.0).place (after_bind n b.0).noted (bind_place n b.0)
        (bound_known q n es k (slot_of n.source es) refl (own_port w es n.source is low))
    touch_known m w _ _ n (Some most) limit is low (finds_or_binds es) at k =
        let b = bound n.source n.port n.time es (slot_of n.source es) in
        let q : Met = record m { at_touch = Some value } in
        by_bind most n.source n.time es n.port
        (λ (r : Option Bind × Forwards).
        let g = after_bind_within n r.0 in
        KnownAt s (record q { left = Some (followed_by s.closing n r.1) }) p g.place g.noted)
        (left_by_followed q s.closing n b.1 (after_bind n b.0).place (after_bind n b.0).noted (bind_place n b.0)
        (bound_known q n es k (slot_of n.source es) refl (own_port w es n.source is low)))
        (refused_known q n most limit k es)
    touch_known m w _ _ n None limit is low (unbinds_lost bs) at k = k
    touch_known m w _ _ n (Some most) limit is low (unbinds_lost bs) at k = k
    touch_known m w _ _ n None limit is low (gives_lost pool) at (k, inl r) =
        mapped_known (record m { at_pool = Some value }) n n.class refl k r.0
    touch_known m w _ _ n None limit is low (gives_lost pool) at (k, inr r) =
        let both : None ≡ Some r.0.0 = sym limit ∙ r.0.1 in absurd (cc)
    touch_known m w _ _ n (Some most) limit is low (gives_lost pool) at k =
        lost_known (record m { at_pool = Some value }) n k.0 k.1
    touch_known m w _ _ n None limit is low (counts d) at k = tt
    touch_known m w _ _ n (Some most) limit is low (counts d) at k = tt

    same_port_key : (n : Noted) (base : IsBase s p n) → AreBytes p.bytes
        → dest_key n ≡ port_key base.flow.protocol base.flow.dest_port
    same_port_key n base bytes =
        λ i. port_key (ap (λ (q : Endpoint). q.protocol) (base.source bytes) i) (base.dest_port bytes i)

    endpoint_known : (m : Met) (n : Noted) (bs : Reverses) (w : ℕ) (o : Option Endpoint) → value w ≡ Taken bs
        → reverse_table s (dest_key n) ≡ w → endpoint_of (dest_key n) bs ≡ o → KnownAt s m p FindsEndpoint n
        → KnownAt s (record m { at_reverse = Some value }) p (after_endpoint n o).place (after_endpoint n o).noted
    endpoint_known m n bs w (Some key) is at e k = (
      (base_on n (after_endpoint n (Some key)).noted refl refl refl refl k.0.0, k.0.1),
      k.1,
      k.2,
      (
        value,
        w,
        key,
        refl,
        subst (λ (x : NatValue). Has (bound_in x) (dest_key n, key)) (sym is) (endpoint_in (dest_key n) key bs e),
        refl,
      ),
    )
    endpoint_known m n bs w None is at e k = (omega arith, omega arith, cause)
      where
        unbound : IsUnbound s value (dest_key n)
        unbound v key below h =
            let there : v ≡ w = bound_at s v (value v) (dest_key n) key (fits v below) h ∙ at in
            not_bound (dest_key n) bs e key
            (subst (λ (x : NatValue). Has (bound_in x) (dest_key n, key)) (ap value there ∙ is) h)

        cause : AreBytes p.bytes → Cause s p (record m { at_reverse = Some value }) 7
        cause bytes = inr (inr (inr (inl (
          k.0.0.flow,
          k.0.0.seen,
          goes_inside s p n k.0.0 k.1,
          value,
          refl,
          inl (subst (IsUnbound s value) (same_port_key n k.0.0 bytes) unbound),
          refl,
        ))))

    lives_known : (m : Met) (n : Noted) (w : ℕ) (es : Forwards) (b : Bool) → value w ≡ Mapped es
        → w < 2 + 2 * s.shards → forward_table s n.target ≡ w → lives n.target n.dest_port n.time es ≡ b
        → KnownAt s m p AsksIfLives n
        → KnownAt s (record m { at_forward = Some value }) p (looked_by n b).place (looked_by n b).noted
    lives_known m n w es true is low at e k = (k.0, k.2)
    lives_known m n w es false is low at e k = (omega arith, omega arith, cause)
      where
        idle : AreIdle es n.target n.dest_port n.time
        idle =
            lives_not (MayMap s w) n.target n.dest_port n.time es (subst (Fits s w) is (fits w low)).2 e

        none : HasNoneLive s value n.target n.dest_port n.time
        none v slot h port =
            let there : v ≡ w = mapping_at s v (value v) n.target slot (fits v h.0) h.1 ∙ at in
            idle slot (subst (λ (x : NatValue). Has (mappings_in x) (n.target, slot)) (ap value there ∙ is) h.1) port

        cause : AreBytes p.bytes → Cause s p (record m { at_forward = Some value }) 7
        cause bytes =
            let base : IsBase s p n = k.0.0 in
            let to : IsBoundTo m n = k.3 in
            let protocol : n.source.protocol ≡ base.flow.protocol =
            ap (λ (q : Endpoint). q.protocol) (base.source bytes) in
            let target : n.target ≡ endpoint base.flow.protocol to.2.address to.2.port =
            to.5 ∙ ap (λ (q : ℕ). endpoint q to.2.address to.2.port) protocol in
            let there : HasNoneLive s value (endpoint base.flow.protocol to.2.address to.2.port) base.flow.dest_port
            n.time =
            subst (λ (port : ℕ). HasNoneLive s value (endpoint base.flow.protocol to.2.address to.2.port) port n.time)
            (base.dest_port bytes) (subst (λ (q : Endpoint). HasNoneLive s value q n.dest_port n.time) target none) in
            let found : FoundNoneLive s base.flow (record m { at_forward = Some value }) to.0 = (
              to.1,
              to.2,
              subst (λ (q : PortKey). Has (bound_in (to.0 to.1)) (q, to.2)) (same_port_key n base bytes) to.4,
              value,
              n.time,
              refl,
              k.0.1,
              there,
            ) in
            inr (inr (inr (inl (base.flow, base.seen, goes_inside s p n base k.1, to.0, to.3, inr found, refl))))

    port_known : (m : Met) (n : Noted) (w : ℕ) (es : Forwards) (o : Option ℕ) → value w ≡ Mapped es
        → w < 2 + 2 * s.shards → forward_table s n.source ≡ w → live_port n.source n.time es ≡ o
        → KnownAt s m p FindsPort n
        → KnownAt s (record m { at_forward = Some value }) p (after_port n o).place (after_port n o).noted
    port_known m n w es (Some port) is low at e k =
        let o : Noted = record n { port = port } in (
          (base_on n o refl refl refl refl k.0.0, k.0.1),
          subst (λ (c : Class). IfOutward c (Refreshed (record m { at_forward = Some value }) o)) (sym k.1) tt,
        )
    port_known m n w es None is low at e k = (omega arith, omega arith, cause)
      where
        cause : AreBytes p.bytes → Cause s p (record m { at_forward = Some value }) 7
        cause bytes =
            let base : IsBase s p n = k.0.0 in
            inr (inr (inr (inr (inl (
              base.flow,
              base.seen,
              base.class ∙ ap (λ (c : Class). Some c) k.1,
              value,
              n.time,
              refl,
              k.0.1,
              subst (λ (key : Endpoint). (port : ℕ) → HasNoneLive s value key port n.time) (base.source bytes)
                  (none_live n w es is low at e),
              refl,
            )))))

    pub look_known : (m : Met) (w : ℕ) (place : Place) (x : NatValue) (n : Noted) → value w ≡ x → LookKind place x
        → w < 2 + 2 * s.shards → var_of s place n ≡ w → KnownAt s m p place n
        → KnownAt s (met_by_read value x m) p (looked place x n).place (looked place x n).noted
    look_known m w _ _ n is (finds_endpoint bs) low at k =
        endpoint_known m n bs w (endpoint_of (dest_key n) bs) is at refl k
    look_known m w _ _ n is (asks es) low at k =
        lives_known m n w es (lives n.target n.dest_port n.time es) is low at refl k
    look_known m w _ _ n is (finds_port es) low at k =
        port_known m n w es (live_port n.source n.time es) is low at refl k

  pub time_known : (m : Met) (n : Noted) (c : Class) → n.class ≡ c → IsBase s p n → m.clock ≡ Some n.time
      → KnownAt s m p (after_time n c).place (after_time n c).noted
  time_known m n Outbound is base clock = (base, clock, subst IsOutward (sym is) tt)
  time_known m n Hairpin is base clock = (base, clock, subst IsOutward (sym is) tt)
  time_known m n Inbound is base clock =
      ((base, clock), subst IsInward (sym is) tt, subst (λ (c : Class). IfOutward c (Refreshed m n)) (sym is) tt)
  time_known m n OutboundError is base clock = ((base, clock), is)
