-- A packet whose host has no room changes nothing, and draws no word.
use Rattle.std.proofs.Common.{◌≡◌, ◌≢◌, ℕ, ◌+◌, ◌*◌, ◌-◌, ◌<◌, Bool, true, false, List, [], ◌∷◌, refl, sym, ap, ◌∙◌}
use Rattle.std.proofs.Common.{subst, ◌⊎◌, inl, inr, arith, Option, Some, None}
use Rattle.std.specs.Prelude.{cond, nat_eq, ◌&&◌, ◌==◌, if◌then◌else◌, Result, Ok, Err}
use Rattle.std.proofs.lemmas.Bool.{eqb-true}
use Rattle.std.proofs.lemmas.Bool.Decides.{nat_tests}
use Rattle.plain_text.specs.declared.packet.Packet.{Packet}
use Rattle.entry_order.specs.Log.{Entry, places}
use Rattle.entry_order.specs.declared.what.What.{What}
use Rattle.entry_order.specs.declared.what.What.TheVariants.{Access as Accessed, Read as WasRead, Clock as Heard}
use Rattle.entry_order.specs.declared.what.What.TheVariants.{Draw as Drew}
use Rattle.entry_order.proofs.Order.{is_or}
use Rattle.packet_headers.specs.declared.flow.Flow.{Flow}
use Rattle.packet_headers.specs.declared.flow.NotFlow.{NotFlow}
use Rattle.plain_machine.specs.Machine.{Hand, Thread, Effect, Moves, held_move}
use Rattle.plain_machine.specs.History.{Act, Did, Step, act_of, entry_of, log_of, thread_after, value_after, IsHistory}
use Rattle.plain_machine.proofs.Histories.{not_eq, is_eq}
use Rattle.plain_machine.proofs.Bounds.{values_fit}
use Rattle.nat_tables.specs.declared.entries.Endpoint.{Endpoint}
use Rattle.nat_tables.specs.declared.slot.Slot.{Slot}
use Rattle.nat_tables.specs.declared.entries.Find.{Find}
use Rattle.nat_tables.specs.declared.entries.Find.TheVariants.{Live, Absent}
use Rattle.nat_tables.specs.declared.entries.Bind.{Bind}
use Rattle.nat_tables.specs.declared.entries.Bind.TheVariants.{Bound, Other}
use Rattle.nat_tables.specs.Ports.{reserve}
use Rattle.nat_tables.specs.Forwards.{Forwards, is_idle, slot_of, first_idle, found_there, found, mark, find, lives}
use Rattle.nat_tables.specs.Forwards.{without, find_or_bind}
use Rattle.nat_tables.specs.Hosts.{count_of, is_full, first_idle_of, given_up, found_within, bind_within}
use Rattle.nat_tables.specs.Reverses.{endpoint_of}
use Rattle.nat_tables.proofs.IdleLemmas.{unmarked}
use Rattle.nat_box.specs.declared.place.Place.{Place}
use Rattle.nat_box.specs.declared.place.Place.TheVariants.{HearsTime, FindsMapping, UnbindsFreed, GivesBackFreed}
use Rattle.nat_box.specs.declared.place.Place.TheVariants.{DrawsWord, ReservesPort, BindsPort, FindsOrBinds}
use Rattle.nat_box.specs.declared.place.Place.TheVariants.{UnbindsLost, GivesBackLost, FindsEndpoint, AsksIfLives}
use Rattle.nat_box.specs.declared.place.Place.TheVariants.{CountsDrop, SendsOut, Ends, FindsPort}
use Rattle.nat_box.specs.declared.place.Class.{Class}
use Rattle.nat_box.specs.declared.place.Class.TheVariants.{Outbound, Hairpin, Inbound, OutboundError}
use Rattle.nat_box.specs.declared.place.Noted.{Noted}
use Rattle.nat_box.specs.declared.place.Goes.{Goes}
use Rattle.nat_box.specs.declared.value.NatValue.{NatValue}
use Rattle.nat_box.specs.declared.value.NatValue.TheVariants.{Free, Mapped}
use Rattle.flow_boxes.specs.Flows.{source_of}
use Rattle.flow_boxes.proofs.HeldInputs.{IsHeld, run_holds}
use Rattle.nat_box.specs.Places.{place_numbered, noted, dest_key, drawn_word, drop_reason, is_refused}
use Rattle.nat_box.specs.Settings.{Settings, AreSettings}
use Rattle.nat_box.specs.Nat.{goes, dropped, over_limit, forward_table, class_seen, flow_seen, begun_by, mapped}
use Rattle.nat_box.specs.Nat.{after_find, after_reserve, after_bind, after_find_within, after_bind_within, after_lost}
use Rattle.nat_box.specs.Nat.{touched_by, followed_by, followed, after_endpoint, looked_by, live_port, after_port}
use Rattle.nat_box.specs.Nat.{looked, after_time, told, local_at, begun, seen_by, nat_meaning, Fits}
use Rattle.nat_box.specs.Noting.{place_again, IsNoted, is_noted, noted_again}
use Rattle.nat_box.specs.Ranks.{var_of, touches_it}
use Rattle.nat_box.specs.Lawful.{nat_lawful}
use Rattle.nat_box.specs.Sentences.{mappings_in}
use Rattle.nat_box.proofs.Noting.{touched_noted}
use Rattle.nat_box.proofs.Emissions.{worded}
use Rattle.nat_box.proofs.Making.{goes_on}
use Rattle.nat_runs.specs.Met.{Met, nothing_met, met_by_touch, met_by_read, met_by, met_of}
use Rattle.nat_runs.specs.FullHosts.{HasRoom, DrawsHadRoom, drawn_by, has_drawn, ChangesNothing, HasChangedNothing}
use Rattle.nat_runs.proofs.TableEntries.{slot_in, idle_is}
use Rattle.nat_runs.proofs.Within.{idle_of_host}
use Rattle.nat_runs.proofs.ThreadMoves.{TouchKind, finds, unbinds_freed, gives_freed, reserves, binds, finds_or_binds}
use Rattle.nat_runs.proofs.ThreadMoves.{unbinds_lost, gives_lost, counts, LookKind, finds_endpoint, asks, finds_port}
use Rattle.nat_runs.proofs.ThreadMoves.{touch_kind, look_kind, at_clock, at_draw, at, touched_below, read_below}
use Rattle.nat_runs.proofs.ThreadMoves.{by_move}
use Rattle.nat_runs.proofs.Known.{IsBase, IsWanting, KnownAt, Known, outward_flow, timed, time_noted, looked_noted}
use Rattle.nat_runs.proofs.Knowing.{run_known}
use Rattle.nat_runs.proofs.ThreadMoves.{entry_is}

-- What is so of a packet in hand, by its place, where this says that it changed nothing, and this whether it drew

abbrev pub RoomAt : Settings → Met → Noted → Type 0
RoomAt s m n =
    (most : ℕ) → s.limit ≡ Some most
    → (value : ℕ → NatValue) × (m.at_touch ≡ Some value)
    × HasRoom most n.source n.time (mappings_in (value (forward_table s n.source)))

abbrev pub FullAt : Settings → Met → Type 0 → Bool → Place → Noted → Type 0
FullAt s m U d HearsTime n = U
FullAt s m U d FindsMapping n = U
FullAt s m U d UnbindsFreed n = RoomAt s m n
FullAt s m U d GivesBackFreed n = RoomAt s m n
FullAt s m U d DrawsWord n = RoomAt s m n
FullAt s m U d ReservesPort n = d ≡ true
FullAt s m U d BindsPort n = d ≡ true
FullAt s m U d FindsOrBinds n = d ≡ true
FullAt s m U d UnbindsLost n = d ≡ true
FullAt s m U d GivesBackLost n = d ≡ true
FullAt s m U d FindsEndpoint n = Unit {0}
FullAt s m U d AsksIfLives n = Unit {0}
FullAt s m U d CountsDrop n = drop_reason n ≡ over_limit → U ⊎ (d ≡ true)
FullAt s m U d SendsOut n = Unit {0}
FullAt s m U d Ends n = Unit {0}
FullAt s m U d FindsPort n = Unit {0}

abbrev pub Full : Settings → Met → Type 0 → Bool → Option Hand → Type 0
Full s m U d None = Unit {0}
Full s m U d (Some h) = FullAt s m U d (place_numbered h.place.at) (noted h.place)

full_on : (s : Settings) (m : Met) (U : Type 0) (d : Bool) (h : Hand) (g : Goes) → IsNoted g.noted
    → FullAt s m U d g.place g.noted → Full s m U d (goes_on h g)
full_on s m U d h g is k =
    let a : place_numbered (local_at g).at ≡ g.place = place_again g.place in
    let b : noted (local_at g) ≡ g.noted = noted_again g.place g.noted is in
    rw (a, b) k

of_host : (key : Endpoint) (now : ℕ) (es : Forwards) (e : Endpoint × Slot) → first_idle_of key now es ≡ Some e
    → (e.0.protocol ≡ key.protocol) × (e.0.address ≡ key.address)
of_host key now [] e q = absurd (cc)
of_host key now (x ∷ es) e q =
    by (x.0.protocol == key.protocol) (x.0.address == key.address) (is_idle now x) refl refl q (of_host key now es e)
  where
    by : (a b c : Bool) → (x.0.protocol == key.protocol) ≡ a → (x.0.address == key.address) ≡ b
        → (if (a && b) && c then Some x else first_idle_of key now es) ≡ Some e
        → (first_idle_of key now es ≡ Some e → (e.0.protocol ≡ key.protocol) × (e.0.address ≡ key.address))
        → (e.0.protocol ≡ key.protocol) × (e.0.address ≡ key.address)
    by true true true p o q rest =
        let same : x ≡ e = cc in
        subst (λ (z : Endpoint × Slot). (z.0.protocol ≡ key.protocol) × (z.0.address ≡ key.address)) same
        (eqb-true _ _ p, eqb-true _ _ o)
    by true true false p o q rest = rest q
    by true false c p o q rest = rest q
    by false b c p o q rest = rest q

unfollowed : (c : Option ℕ) (n : Noted) (es : Forwards) → slot_of n.source es ≡ None → followed_by c n es ≡ es
unfollowed None n es none = refl
unfollowed (Some seconds) n es none = by (n.source.protocol == 6)
  where
    by : (b : Bool) → (if b then mark n.source seconds n.segment es else es) ≡ es
    by true = sym (unmarked n.source seconds n.segment es none)
    by false = refl

module _ (s : Settings) (m : Met) (U : Type 0) (d : Bool) where
  mapped_full : (n : Noted) (c : Class) → FullAt s m U d (mapped n c).place (mapped n c).noted
  mapped_full n Hairpin = tt
  mapped_full n Outbound = tt
  mapped_full n Inbound = tt
  mapped_full n OutboundError = tt

  -- without a limit nothing is said of room
  unlimited_full : (n : Noted) (f : Find) → s.limit ≡ None
      → FullAt s m U d (after_find n f).place (after_find n f).noted
  unlimited_full n (Live port) none = mapped_full (record n { port = port }) n.class
  unlimited_full n (Absent (Some freed)) none = λ most limit. absurd (cc)
  unlimited_full n (Absent None) none = λ most limit. absurd (cc)

  reserved_full : (n : Noted) (o : Option ℕ) → d ≡ true
      → FullAt s m U d (after_reserve n o).place (after_reserve n o).noted
  reserved_full n (Some port) drew = drew
  reserved_full n None drew = λ q. inr drew

  bound_full : (n : Noted) (b : Bind) → d ≡ true → FullAt s m U d (after_bind n b).place (after_bind n b).noted
  bound_full n Bound drew = mapped_full n n.class
  bound_full n (Other port) drew = drew

  bound_within_full : (n : Noted) (b : Option Bind) → d ≡ true
      → FullAt s m U d (after_bind_within n b).place (after_bind_within n b).noted
  bound_within_full n (Some bind) drew = bound_full n bind drew
  bound_within_full n None drew = drew

  lost_full : (n : Noted) (b : Bool) → d ≡ true → FullAt s m U d (after_lost n b).place (after_lost n b).noted
  lost_full n true drew = λ q. inr drew
  lost_full n false drew = mapped_full n n.class

  not_over : (n : Noted) → FullAt s m U d CountsDrop (dropped n 7).noted
  not_over n q = absurd (omega (arith, q))

  looked_full : (place : Place) (x : NatValue) (n : Noted) → LookKind place x
      → FullAt s m U d (looked place x n).place (looked place x n).noted
  looked_full _ _ n (finds_endpoint bs) = by (endpoint_of (dest_key n) bs)
    where
      by : (o : Option Endpoint) → FullAt s m U d (after_endpoint n o).place (after_endpoint n o).noted
      by (Some key) = tt
      by None = not_over n
  looked_full _ _ n (asks es) = by (lives n.target n.dest_port n.time es)
    where
      by : (b : Bool) → FullAt s m U d (looked_by n b).place (looked_by n b).noted
      by true = tt
      by false = not_over n
  looked_full _ _ n (finds_port es) = by (live_port n.source n.time es)
    where
      by : (o : Option ℕ) → FullAt s m U d (after_port n o).place (after_port n o).noted
      by (Some port) = tt
      by None = not_over n

  time_full : (n : Noted) (c : Class) → U → FullAt s m U d (after_time n c).place (after_time n c).noted
  time_full n Outbound u = u
  time_full n Hairpin u = u
  time_full n Inbound u = tt
  time_full n OutboundError u = tt

-- A packet looks for its mapping
module _ (s : Settings) (m : Met) (U : Type 0) (d : Bool) (value : ℕ → NatValue) (v most : ℕ) (n : Noted)
    (es : Forwards) (limit : s.limit ≡ Some most) (is : value v ≡ Mapped es) (it : forward_table s n.source ≡ v)
    (u : U) where
  abbrev Left : Forwards → Type 0
  Left fs = ((w : ℕ) → cond (nat_eq v w) (Mapped (followed_by s.closing n fs)) (value w) ≡ value w) × U

  abbrev met : Forwards → Met
  met fs = record m { at_touch = Some value; left = Some (followed_by s.closing n fs) }

  abbrev Goal : Find × Forwards → Type 0
  Goal r =
      let g = after_find_within most n r.0 r.1 in
      FullAt s (met r.1) (Left r.1) d g.place g.noted

  here : mappings_in (value (forward_table s n.source)) ≡ es
  here = ap mappings_in (ap value it ∙ is)

  room : (fs : Forwards) → HasRoom most n.source n.time es → RoomAt s (met fs) n
  room fs has other q =
      let same : most ≡ other = (let both : Some most ≡ Some other = sym limit ∙ q in cc) in (
        value,
        refl,
        subst (λ (k : ℕ). HasRoom k n.source n.time (mappings_in (value (forward_table s n.source)))) same
            (subst (HasRoom most n.source n.time) (sym here) has),
      )

  unchanged : slot_of n.source es ≡ None → Left es
  unchanged none = (λ w. by w (is_or v w), u)
    where
      by : (w : ℕ) → (v ≡ w) ⊎ (v ≢ w)
          → cond (nat_eq v w) (Mapped (followed_by s.closing n es)) (value w) ≡ value w
      by w (inl q) =
          rw (is_eq v w q)
          (ap Mapped (unfollowed s.closing n es none) ∙ sym is ∙ ap value q)
      by w (inr q) = rw (not_eq v w q) refl

  there : (slot : Slot) (idle : Bool) → slot_of n.source es ≡ Some slot → is_idle n.time (n.source, slot) ≡ idle
      → Goal (found_there n.source n.time es slot idle)
  there slot true q i = room (without n.source es)
      (inr (n.source, slot, slot_in n.source slot es q, refl, refl, idle_is n.time (n.source, slot) i))
  there slot false q i =
      let after : Forwards = (found_there n.source n.time es slot false).1 in
      mapped_full s (met after) (Left after) d (record n { port = slot.port }) n.class

  at_slot : (slot : Slot) → slot_of n.source es ≡ Some slot → Goal (find n.source n.time es)
  at_slot slot q =
      subst (λ (a : Option Slot). Goal (found n.source n.time es a (first_idle n.time es))) (sym q)
      (there slot (is_idle n.time (n.source, slot)) q refl)

  at_idle : (b : Option (Endpoint × Slot)) → slot_of n.source es ≡ None → is_full most n.source es ≡ false
      → Goal (found n.source n.time es None b)
  at_idle (Some e) none few =
      let fewer : count_of n.source.protocol n.source.address es < most = grind (arith, nat_tests) in
      room (found n.source n.time es None (Some e)).1 (inl fewer)
  at_idle None none few =
      let fewer : count_of n.source.protocol n.source.address es < most = grind (arith, nat_tests) in
      subst (λ (b : Bool). let g = if b then dropped n over_limit else goes DrawsWord n in
      FullAt s (met es) (Left es) d g.place g.noted) (sym few) (room es (inl fewer))

  at_few : slot_of n.source es ≡ None → is_full most n.source es ≡ false → Goal (find n.source n.time es)
  at_few none few =
      subst (λ (a : Option Slot). Goal (found n.source n.time es a (first_idle n.time es))) (sym none)
      (at_idle (first_idle n.time es) none few)

  at_full : (b : Option (Endpoint × Slot)) → slot_of n.source es ≡ None → is_full most n.source es ≡ true
      → first_idle_of n.source n.time es ≡ b → Goal (given_up es b)
  at_full (Some e) none full q =
      let own = of_host n.source n.time es e q in
      let has = idle_of_host n.source n.time es e q in
      room (without e.0 es) (inr (e.0, e.1, has.0, own.0, own.1, idle_is n.time e has.1))
  at_full None none full q =
      subst (λ (b : Bool). let g = if b then dropped n over_limit else goes DrawsWord n in
      FullAt s (met es) (Left es) d g.place g.noted) (sym full) (λ word. inl (unchanged none))

  pub find_full : (a : Option Slot) → slot_of n.source es ≡ a → Goal (found_within most n.source n.time es a)
  find_full (Some slot) q = at_slot slot q
  find_full None q = by (is_full most n.source es) refl
    where
      by : (full : Bool) → is_full most n.source es ≡ full
          → Goal (if full then given_up es (first_idle_of n.source n.time es) else find n.source n.time es)
      by true full = at_full (first_idle_of n.source n.time es) q full refl
      by false few = at_few q few

-- Each touch
module _ (s : Settings) (U : Type 0) (d : Bool) (value : ℕ → NatValue) (v : ℕ) where
  abbrev Leaves : NatValue → Type 0
  Leaves left = ((w : ℕ) → cond (nat_eq v w) left (value w) ≡ value w) × U

  abbrev met_after : Met → Option ℕ → Place → NatValue → Noted → Met
  met_after m limit place x n = met_by_touch value x (Some (followed s n (touched_by limit place x n).0)) m

  abbrev LeftBy : Option ℕ → Place → NatValue → Noted → Type 0
  LeftBy limit place x n = Leaves (followed s n (touched_by limit place x n).0)

  touch_full : (m : Met) (place : Place) (x : NatValue) (n : Noted) (limit : Option ℕ) → s.limit ≡ limit
      → value v ≡ x → TouchKind place x → var_of s place n ≡ v → FullAt s m U d place n
      → (let r = touched_by limit place x n in
      FullAt s (met_by_touch value x (Some (followed s n r.0)) m) (Leaves (followed s n r.0)) d r.1.place r.1.noted)
  touch_full m _ _ n None limit is (finds es) it k =
      unlimited_full s (met_after m None FindsMapping (Mapped es) n) (LeftBy None FindsMapping (Mapped es) n) d n
      (find n.source n.time es).0 limit
  touch_full m _ _ n (Some most) limit is (finds es) it k =
      find_full s m U d value v most n es limit is it k (slot_of n.source es) refl
  touch_full m _ _ n None limit is (unbinds_freed bs) it k = k
  touch_full m _ _ n (Some most) limit is (unbinds_freed bs) it k = k
  touch_full m _ _ n None limit is (gives_freed pool) it k = k
  touch_full m _ _ n (Some most) limit is (gives_freed pool) it k = k
  touch_full m _ _ n None limit is (reserves pool) it k =
      reserved_full s (met_after m None ReservesPort (Free pool) n) (LeftBy None ReservesPort (Free pool) n) d n
      (reserve n.source.protocol n.source.port (drawn_word n) pool).0 k
  touch_full m _ _ n (Some most) limit is (reserves pool) it k =
      reserved_full s (met_after m (Some most) ReservesPort (Free pool) n) (LeftBy (Some most) ReservesPort (Free pool)
      n)
      d n (reserve n.source.protocol n.source.port (drawn_word n) pool).0 k
  touch_full m _ _ n None limit is (binds bs) it k = k
  touch_full m _ _ n (Some most) limit is (binds bs) it k = k
  touch_full m _ _ n None limit is (finds_or_binds es) it k =
      bound_full s (met_after m None FindsOrBinds (Mapped es) n) (LeftBy None FindsOrBinds (Mapped es) n) d n
      (find_or_bind n.source n.port n.time es).0 k
  touch_full m _ _ n (Some most) limit is (finds_or_binds es) it k =
      bound_within_full s (met_after m (Some most) FindsOrBinds (Mapped es) n)
      (LeftBy (Some most) FindsOrBinds (Mapped es) n) d n (bind_within most n.source n.port n.time es).0 k
  touch_full m _ _ n None limit is (unbinds_lost bs) it k = k
  touch_full m _ _ n (Some most) limit is (unbinds_lost bs) it k = k
  touch_full m _ _ n None limit is (gives_lost pool) it k =
      mapped_full s (met_after m None GivesBackLost (Free pool) n) (LeftBy None GivesBackLost (Free pool) n) d n n.class
  touch_full m _ _ n (Some most) limit is (gives_lost pool) it k =
      lost_full s (met_after m (Some most) GivesBackLost (Free pool) n) (LeftBy (Some most) GivesBackLost (Free pool)
      n) d
      n (is_refused n) k
  touch_full m _ _ n None limit is (counts drops) it k = tt
  touch_full m _ _ n (Some most) limit is (counts drops) it k = tt

-- The beginning
begun_full : (s : Settings) (p : Packet) (d : Bool)
    → Full s nothing_met (Unit {0}) d (Some (record { packet = p; place = local_at (begun s (seen_by s p)) }))
begun_full s p d = by (flow_seen s p) (class_seen s p)
  where
    by : (r : Result Flow NotFlow) (o : Option Class)
        → Full s nothing_met (Unit {0}) d (Some (record { packet = p; place = local_at (begun_by s r o) }))
    by (Err answer) o = λ q. inl tt
    by (Ok flow) None = λ q. inl tt
    by (Ok flow) (Some class) = tt

-- Each move
module _ (s : Settings) (is : AreSettings s) (packets : List Packet) (value : ℕ → NatValue) (t : ℕ)
    (earlier : List (Step NatValue)) (taken taken_then : ℕ)
    (fits : (v : ℕ) → v < 2 + 2 * s.shards → Fits s v (value v)) (m : Met) (U : Type 0) (d : Bool) where
  abbrev Keeps : Option Hand → Option Hand → Effect NatValue → Type 0
  Keeps before after e =
      let act : Act NatValue = act_of t earlier taken_then e in
      Full s m U d before → Full s (met_by value act m) (ChangesNothing value act U) (drawn_by act d) after

  told_time : (h : Hand) (a : ℕ) (place : Place) → place ≡ HearsTime → FullAt s m U d place (noted h.place)
      → Full s (record m { clock = Some a }) (((v : ℕ) → value v ≡ value v) × U) d
      (goes_on h (told place a (noted h.place)))
  told_time h a place q k =
      let n : Noted = noted h.place in
      let o : Noted = record n { time = a } in
      let u : U = subst (λ (z : Place). FullAt s m U d z n) q k in
      subst (λ (z : Place). Full s (record m { clock = Some a }) (((v : ℕ) → value v ≡ value v) × U) d
      (goes_on h (told z a n))) (sym q)
      (full_on s (record m { clock = Some a }) (((v : ℕ) → value v ≡ value v) × U) d h (after_time o o.class)
      (time_noted o o.class (timed n a (is_noted h.place)))
      (time_full s (record m { clock = Some a }) (((v : ℕ) → value v ≡ value v) × U) d o o.class (λ v. refl, u)))

  told_word : (h : Hand) (a : ℕ) (place : Place) → place ≡ DrawsWord
      → Full s m (((v : ℕ) → value v ≡ value v) × U) true (goes_on h (told place a (noted h.place)))
  told_word h a place q =
      let n : Noted = noted h.place in
      subst (λ (z : Place). Full s m (((v : ℕ) → value v ≡ value v) × U) true (goes_on h (told z a n))) (sym q)
      (full_on s m (((v : ℕ) → value v ≡ value v) × U) true h (goes ReservesPort (record n { word_or_reason = a }))
      (worded n a (is_noted h.place)) refl)

  pub move_keeps : (after : Thread) (e : Effect NatValue) (hand : Option Hand) (a : Option ℕ)
      → held_move (nat_meaning s) packets value taken a hand ≡ Moves after e → Keeps hand after.hand e
  move_keeps after e hand a move =
      by_move s packets value taken Keeps (λ p input k. begun_full s p false)
      (λ h v w k.
      let below = touched_below s is h v w in
      let r = touched_by s.limit (at h) (value v) (noted h.place) in
      full_on s (met_by_touch value (value v) (Some (followed s (noted h.place) r.0)) m)
      (Leaves s U d value v (followed s (noted h.place) r.0)) d h r.1
      (touched_noted s (at h) (value v) (noted h.place) v (is_noted h.place) (fits v below))
      (touch_full s U d value v m (at h) (value v) (noted h.place) s.limit refl refl
      (touch_kind s is.some (noted h.place) v (value v) (fits v below) (at h) w)
      (touches_it s (at h) (noted h.place) v w) k))
      (λ h v w k.
      let below = read_below s is h v w in
      let kind = look_kind s is.some (noted h.place) v (value v) (fits v below) (at h) w in
      full_on s (met_by_read value (value v) m) (((w : ℕ) → value w ≡ value w) × U) d h
      (looked (at h) (value v) (noted h.place))
      (looked_noted s v (at h) (value v) (noted h.place) kind (fits v below) (is_noted h.place))
      (looked_full s (met_by_read value (value v) m) (((w : ℕ) → value w ≡ value w) × U) d (at h) (value v)
      (noted h.place) kind))
      (λ h x w k. told_time h x (at h) (at_clock s (at h) (noted h.place) w) k)
      (λ h x w k. told_word h x (at h) (at_draw s (at h) (noted h.place) w))
      (λ h w k. full_on s m U d h (goes Ends (noted h.place)) (is_noted h.place) tt) (λ h w k. tt) after e hand a move

pub run_full : (s : Settings) (threads : ℕ) (inputs : ℕ → List Packet) (steps : List (Step NatValue)) → AreSettings s
    → IsHistory (nat_meaning s) inputs threads steps → (t : ℕ)
    → Full s (met_of s t steps) (HasChangedNothing s t steps) (has_drawn t steps) (thread_after steps t).hand
run_full s threads inputs [] is h t = tt
run_full s threads inputs (x ∷ earlier) is h t =
    let fits = values_fit (nat_meaning s) (Fits s) (nat_lawful s is) inputs threads earlier h.1 in
    let new = move_keeps s is (inputs x.thread) (value_after (nat_meaning s) earlier) x.thread earlier
    (thread_after earlier x.thread).taken x.after.taken fits (met_of s x.thread earlier)
    (HasChangedNothing s x.thread earlier) (has_drawn x.thread earlier) x.after h.0.2
    (thread_after earlier x.thread).hand h.0.1 h.0.3 (run_full s threads inputs earlier is h.1 x.thread) in
    by (is_or x.thread t) new (run_full s threads inputs earlier is h.1 t)
  where
    act : Act NatValue
    act = act_of x.thread earlier x.after.taken h.0.2

    value : ℕ → NatValue
    value = value_after (nat_meaning s) earlier

    by : (x.thread ≡ t) ⊎ (x.thread ≢ t)
        → Full s (met_by value act (met_of s x.thread earlier))
        (ChangesNothing value act (HasChangedNothing s x.thread earlier)) (drawn_by act (has_drawn x.thread earlier))
        x.after.hand
        → Full s (met_of s t earlier) (HasChangedNothing s t earlier) (has_drawn t earlier)
        (thread_after earlier t).hand
        → Full s (met_of s t (x ∷ earlier)) (HasChangedNothing s t (x ∷ earlier)) (has_drawn t (x ∷ earlier))
        (thread_after (x ∷ earlier) t).hand
    by (inl e) new old =
        subst (λ (u : ℕ). Full s (met_of s u (x ∷ earlier)) (HasChangedNothing s u (x ∷ earlier))
        (has_drawn u (x ∷ earlier)) (thread_after (x ∷ earlier) u).hand) e
        (rw (is_eq x.thread x.thread refl, h.0.4) new)
    by (inr e) new old = rw (not_eq x.thread t e) old

-- A draw
module _ (s : Settings) (packets : List Packet) (value : ℕ → NatValue) (t : ℕ) (earlier : List (Step NatValue))
    (taken taken_then : ℕ) (entry : Entry) (left : Option NatValue) (word : ℕ) (what : entry.what ≡ Drew word) where
  abbrev Draws : Option Hand → Option Hand → Effect NatValue → Type 0
  Draws before after e =
      act_of t earlier taken_then e ≡ Did entry left → (h : Hand) × (before ≡ Some h) × (at h ≡ DrawsWord)

  what_of : (w : What) (o : Option NatValue) → Did (entry_of t (log_of earlier) w) o ≡ Did entry left → w ≡ Drew word
  what_of w o e = entry_is (entry_of t (log_of earlier) w) entry o left e ∙ what

  not_touched : (v place : ℕ) → Accessed v place ≡ Drew word → ⊥
  not_touched v place e = absurd (cc)

  not_read : (v after : ℕ) → WasRead v after ≡ Drew word → ⊥
  not_read v after e = absurd (cc)

  not_heard : (a : ℕ) → Heard a ≡ Drew word → ⊥
  not_heard a e = absurd (cc)

  pub move_draws : (after : Thread) (e : Effect NatValue) (hand : Option Hand) (a : Option ℕ)
      → held_move (nat_meaning s) packets value taken a hand ≡ Moves after e → Draws hand after.hand e
  move_draws after e hand a move =
      by_move s packets value taken Draws (λ p input e. absurd (cc))
      (λ h v c e. absurd (not_touched v (places v (log_of earlier) + 1)
      (what_of (Accessed v (places v (log_of earlier) + 1)) _ e)))
      (λ h v c e. absurd (not_read v (places v (log_of earlier)) (what_of (WasRead v (places v (log_of earlier))) None
      e)))
      (λ h x c e. absurd (not_heard x (what_of (Heard x) None e)))
      (λ h x c e. (h, refl, at_draw s (at h) (noted h.place) c)) (λ h c e. absurd (cc)) (λ h c e. absurd (cc)) after e
      hand a move

pub draws_had_room : DrawsHadRoom
draws_had_room s threads inputs x earlier entry left word most is bytes h act what limit =
    let m : Met = met_of s x.thread earlier in
    let value : ℕ → NatValue = value_after (nat_meaning s) earlier in
    let before : Thread = thread_after earlier x.thread in
    let c = move_draws s (inputs x.thread) value x.thread earlier before.taken x.after.taken entry left word what
    x.after
    h.0.2 before.hand h.0.1 h.0.3 (sym h.0.4 ∙ act) in
    let held : IsHeld (inputs x.thread) before.taken (Some c.0) =
    subst (IsHeld (inputs x.thread) before.taken) c.1 (run_holds (nat_meaning s) threads inputs earlier h.1 x.thread) in
    let n : Noted = noted c.0.place in
    let k : IsWanting s m c.0.packet n =
    subst (λ (z : Place). KnownAt s m c.0.packet z n) c.2
    (subst (Known s m) c.1 (run_known s threads inputs earlier is h.1 x.thread)) in
    let full : RoomAt s m n =
    subst (λ (z : Place). FullAt s m (HasChangedNothing s x.thread earlier) (has_drawn x.thread earlier) z n) c.2
    (subst (Full s m (HasChangedNothing s x.thread earlier) (has_drawn x.thread earlier)) c.1
    (run_full s threads inputs earlier is h.1 x.thread)) in
    let room = full most limit in
    let base : IsBase s c.0.packet n = k.0.0 in
    let source : n.source ≡ source_of base.flow =
    base.source (bytes x.thread (before.taken - 1) c.0.packet held.1) in (
      c.0,
      base.flow,
      c.1,
      (outward_flow s c.0.packet n base k.0.2).0,
      (
        room.0,
        n.time,
        room.1,
        k.0.1,
        subst (λ (key : Endpoint). HasRoom most key n.time (mappings_in (room.0 (forward_table s key)))) source room.2,
      ),
    )
