-- A new mapping has the parity of its inside port while a port of this parity is free.
use Rattle.std.proofs.Common.{◌≡◌, ◌≢◌, ℕ, ◌+◌, ◌*◌, ◌%◌, ◌<◌, ◌≤◌, Bool, true, false, List, [], ◌∷◌, ◌++◌, refl, sym}
use Rattle.std.proofs.Common.{ap, ◌∙◌, subst, ◌⊎◌, inl, inr, arith, Option, Some, None}
use Rattle.std.specs.Prelude.{cond, nat_eq, ◌==◌, if◌then◌else◌, Result, Ok, Err}
use Rattle.plain_text.specs.declared.packet.Packet.{Packet}
use Rattle.entry_order.proofs.Order.{is_or}
use Rattle.packet_headers.specs.declared.flow.Flow.{Flow}
use Rattle.packet_headers.specs.declared.flow.NotFlow.{NotFlow}
use Rattle.plain_machine.specs.declared.local.Move.TheVariants.{Access}
use Rattle.plain_machine.specs.Machine.{Hand, Thread, Effect, Moves, held_move}
use Rattle.plain_machine.specs.History.{Act, Step, act_of, left_by, thread_after, value_after, IsHistory}
use Rattle.plain_machine.proofs.Histories.{not_eq, is_eq}
use Rattle.plain_machine.proofs.Bounds.{values_fit}
use Rattle.nat_tables.specs.declared.entries.Endpoint.{Endpoint}
use Rattle.nat_tables.specs.declared.slot.Slot.{Slot}
use Rattle.nat_tables.specs.declared.entries.Find.{Find}
use Rattle.nat_tables.specs.declared.entries.Find.TheVariants.{Live, Absent}
use Rattle.nat_tables.specs.declared.entries.Bind.{Bind}
use Rattle.nat_tables.specs.declared.entries.Bind.TheVariants.{Bound, Other}
use Rattle.nat_tables.specs.Keys.{same_endpoint, port_key}
use Rattle.nat_tables.specs.Ports.{PoolPorts, reserve, free_of, ArePorts}
use Rattle.nat_tables.specs.Forwards.{Forwards, is_idle, slot_of, first_idle, refresh, refreshed, found_there, found}
use Rattle.nat_tables.specs.Forwards.{find, bound, find_or_bind, lives}
use Rattle.nat_tables.specs.Hosts.{is_full, find_within, bind_within}
use Rattle.nat_tables.specs.Reverses.{endpoint_of}
use Rattle.nat_tables.proofs.Parity.{keeps_parity}
use Rattle.nat_box.specs.declared.place.Place.{Place}
use Rattle.nat_box.specs.declared.place.Place.TheVariants.{HearsTime, DrawsWord, ReservesPort, BindsPort, FindsOrBinds}
use Rattle.nat_box.specs.declared.place.Place.TheVariants.{Ends}
use Rattle.nat_box.specs.declared.place.Class.{Class}
use Rattle.nat_box.specs.declared.place.Class.TheVariants.{Outbound, Hairpin, Inbound, OutboundError}
use Rattle.nat_box.specs.declared.place.Noted.{Noted}
use Rattle.nat_box.specs.declared.place.Goes.{Goes}
use Rattle.nat_box.specs.declared.value.NatValue.{NatValue}
use Rattle.nat_box.specs.declared.value.NatValue.TheVariants.{Free, Mapped}
use Rattle.nat_box.specs.Places.{place_numbered, noted, dest_key, drawn_word, is_refused}
use Rattle.nat_box.specs.Settings.{Settings, AreSettings}
use Rattle.nat_box.specs.Nat.{goes, dropped, over_limit, class_seen, flow_seen, begun_by, mapped, after_find}
use Rattle.nat_box.specs.Nat.{after_reserve, after_bind, after_find_within, after_bind_within, after_lost, touched_by}
use Rattle.nat_box.specs.Nat.{followed_by, followed, after_endpoint, looked_by, live_port, after_port, looked}
use Rattle.nat_box.specs.Nat.{after_time, told, local_at, begun, seen_by, nat_meaning, Fits}
use Rattle.nat_box.specs.Noting.{place_again, IsNoted, is_noted, noted_again}
use Rattle.nat_box.specs.Ranks.{var_of, touches_it}
use Rattle.nat_box.specs.Lawful.{nat_lawful}
use Rattle.nat_box.specs.PortStanding.{free_at}
use Rattle.nat_box.specs.Sentences.{Has, mappings_in}
use Rattle.nat_box.proofs.Noting.{touched_noted}
use Rattle.nat_box.proofs.Emissions.{worded}
use Rattle.nat_box.proofs.Making.{goes_on, comes_to}
use Rattle.nat_runs.specs.Met.{Met, nothing_met, met_by_touch, met_by_read, met_by, met_of}
use Rattle.nat_runs.specs.Parity.{HasParity, NewHaveParity}
use Rattle.nat_runs.proofs.MarkedEntries.{followed_had}
use Rattle.nat_runs.proofs.Within.{by_find, by_bind}
use Rattle.nat_runs.proofs.TableEntries.{without_was, without_idle_was}
use Rattle.nat_runs.proofs.ThreadMoves.{TouchKind, finds, unbinds_freed, gives_freed, reserves, binds, finds_or_binds}
use Rattle.nat_runs.proofs.ThreadMoves.{unbinds_lost, gives_lost, counts, LookKind, finds_endpoint, asks, finds_port}
use Rattle.nat_runs.proofs.ThreadMoves.{touch_kind, look_kind, at_clock, at_draw, at, touched_below, read_below}
use Rattle.nat_runs.proofs.ThreadMoves.{by_move}
use Rattle.nat_runs.proofs.Known.{free_elsewhere, timed, time_noted, looked_noted}

-- What is so of the port in hand

abbrev HasPort : Settings → Met → Noted → Type 0
HasPort s m n = HasParity s m n.source.protocol n.source.port n.port

abbrev PortAt : Settings → Met → Place → Noted → Type 0
PortAt s m BindsPort n = HasPort s m n
PortAt s m FindsOrBinds n = HasPort s m n
PortAt s m _ n = Unit {0}

abbrev Held : Settings → Met → Option Hand → Type 0
Held s m None = Unit {0}
Held s m (Some h) = PortAt s m (place_numbered h.place.at) (noted h.place)

held_on : (s : Settings) (m : Met) (h : Hand) (g : Goes) → IsNoted g.noted → PortAt s m g.place g.noted
    → Held s m (goes_on h g)
held_on s m h g is k =
    let a : place_numbered (local_at g).at ≡ g.place = place_again g.place in
    let b : noted (local_at g) ≡ g.noted = noted_again g.place g.noted is in
    rw (a, b) k

module _ (s : Settings) (m : Met) where
  mapped_port : (n : Noted) (c : Class) → PortAt s m (mapped n c).place (mapped n c).noted
  mapped_port n Hairpin = tt
  mapped_port n Outbound = tt
  mapped_port n Inbound = tt
  mapped_port n OutboundError = tt

  found_port : (n : Noted) (f : Find) → PortAt s m (after_find n f).place (after_find n f).noted
  found_port n (Live port) = mapped_port (record n { port = port }) n.class
  found_port n (Absent (Some freed)) = tt
  found_port n (Absent None) = tt

  within_port : (most : ℕ) (n : Noted) (f : Find) (es : Forwards)
      → PortAt s m (after_find_within most n f es).place (after_find_within most n f es).noted
  within_port most n (Live port) es = found_port n (Live port)
  within_port most n (Absent (Some freed)) es = tt
  within_port most n (Absent None) es = by (is_full most n.source es)
    where
      by : (b : Bool)
          → (let g : Goes = if b then dropped n over_limit else goes DrawsWord n in PortAt s m g.place g.noted)
      by true = tt
      by false = tt

  bound_port : (n : Noted) (b : Bind) → PortAt s m (after_bind n b).place (after_bind n b).noted
  bound_port n Bound = mapped_port n n.class
  bound_port n (Other port) = tt

  bound_within_port : (n : Noted) (b : Option Bind)
      → PortAt s m (after_bind_within n b).place (after_bind_within n b).noted
  bound_within_port n (Some bind) = bound_port n bind
  bound_within_port n None = tt

  lost_port : (n : Noted) (b : Bool) → PortAt s m (after_lost n b).place (after_lost n b).noted
  lost_port n true = tt
  lost_port n false = mapped_port n n.class

  looked_port : (place : Place) (x : NatValue) (n : Noted) → LookKind place x
      → PortAt s m (looked place x n).place (looked place x n).noted
  looked_port _ _ n (finds_endpoint bs) = by (endpoint_of (dest_key n) bs)
    where
      by : (o : Option Endpoint) → PortAt s m (after_endpoint n o).place (after_endpoint n o).noted
      by (Some key) = tt
      by None = tt
  looked_port _ _ n (asks es) = by (lives n.target n.dest_port n.time es)
    where
      by : (b : Bool) → PortAt s m (looked_by n b).place (looked_by n b).noted
      by true = tt
      by false = tt
  looked_port _ _ n (finds_port es) = by (live_port n.source n.time es)
    where
      by : (o : Option ℕ) → PortAt s m (after_port n o).place (after_port n o).noted
      by (Some port) = tt
      by None = tt

  time_port : (n : Noted) (c : Class) → PortAt s m (after_time n c).place (after_time n c).noted
  time_port n Outbound = tt
  time_port n Hairpin = tt
  time_port n Inbound = tt
  time_port n OutboundError = tt

module _ (s : Settings) (value : ℕ → NatValue) (fits : (v : ℕ) → v < 2 + 2 * s.shards → Fits s v (value v)) where
  -- the port that was reserved
  reserved_port : (m : Met) (n : Noted) (pool : PoolPorts) (w : ℕ) (o : Option ℕ) → value w ≡ Free pool
      → w < 2 + 2 * s.shards → 1 ≡ w → (reserve n.source.protocol n.source.port (drawn_word n) pool).0 ≡ o
      → PortAt s (record m { at_pool = Some value }) (after_reserve n o).place (after_reserve n o).noted
  reserved_port m n pool w None is low at e = tt
  reserved_port m n pool w (Some port) is low at e = (value, refl, same)
    where
      ports : ArePorts pool
      ports = (subst (Fits s w) is (fits w low)).3

      same : (v free : ℕ) → v < 2 + 2 * s.shards → 1 ≤ free_at (port_key n.source.protocol free) (value v)
          → free % 2 ≡ n.source.port % 2 → port % 2 ≡ n.source.port % 2
      same v free below some parity = by (is_or v 1)
        where
          by : (v ≡ 1) ⊎ (v ≢ 1) → port % 2 ≡ n.source.port % 2
          by (inl q) =
              let pool_is : value v ≡ Free pool = ap value (q ∙ at) ∙ is in
              let there : 1 ≤ free_of n.source.protocol free pool =
              subst (λ (y : NatValue). 1 ≤ free_at (port_key n.source.protocol free) y) pool_is some in
              keeps_parity n.source.protocol n.source.port (drawn_word n) port free pool ports e there parity
          by (inr q) =
              let none = free_elsewhere s v (value v) (port_key n.source.protocol free) (fits v below) q in
              absurd (omega (arith, none, some))

  touch_port : (m : Met) (w : ℕ) (place : Place) (x : NatValue) (n : Noted) (limit : Option ℕ) (left : Option NatValue)
      → value w ≡ x → TouchKind place x → w < 2 + 2 * s.shards → var_of s place n ≡ w → PortAt s m place n
      → (let g = (touched_by limit place x n).1 in PortAt s (met_by_touch value x left m) g.place g.noted)
  touch_port m w _ _ n None left is (finds es) low at k =
      found_port s (met_by_touch value (Mapped es) left m) n (find n.source n.time es).0
  touch_port m w _ _ n (Some most) left is (finds es) low at k =
      let r = find_within most n.source n.time es in
      within_port s (met_by_touch value (Mapped es) left m) most n r.0 r.1
  touch_port m w _ _ n None left is (unbinds_freed bs) low at k = tt
  touch_port m w _ _ n (Some most) left is (unbinds_freed bs) low at k = tt
  touch_port m w _ _ n None left is (gives_freed pool) low at k = tt
  touch_port m w _ _ n (Some most) left is (gives_freed pool) low at k = tt
  touch_port m w _ _ n None left is (reserves pool) low at k =
      reserved_port m n pool w (reserve n.source.protocol n.source.port (drawn_word n) pool).0 is low at refl
  touch_port m w _ _ n (Some most) left is (reserves pool) low at k =
      reserved_port m n pool w (reserve n.source.protocol n.source.port (drawn_word n) pool).0 is low at refl
  touch_port m w _ _ n None left is (binds bs) low at k = k
  touch_port m w _ _ n (Some most) left is (binds bs) low at k = k
  touch_port m w _ _ n None left is (finds_or_binds es) low at k =
      bound_port s (met_by_touch value (Mapped es) left m) n (find_or_bind n.source n.port n.time es).0
  touch_port m w _ _ n (Some most) left is (finds_or_binds es) low at k =
      bound_within_port s (met_by_touch value (Mapped es) left m) n (bind_within most n.source n.port n.time es).0
  touch_port m w _ _ n None left is (unbinds_lost bs) low at k = tt
  touch_port m w _ _ n (Some most) left is (unbinds_lost bs) low at k = tt
  touch_port m w _ _ n None left is (gives_lost pool) low at k =
      mapped_port s (met_by_touch value (Free pool) left m) n n.class
  touch_port m w _ _ n (Some most) left is (gives_lost pool) low at k =
      lost_port s (met_by_touch value (Free pool) left m) n (is_refused n)
  touch_port m w _ _ n None left is (counts d) low at k = tt
  touch_port m w _ _ n (Some most) left is (counts d) low at k = tt

begun_port : (s : Settings) (p : Packet)
    → Held s nothing_met (Some (record { packet = p; place = local_at (begun s (seen_by s p)) }))
begun_port s p = by (flow_seen s p) (class_seen s p)
  where
    by : (r : Result Flow NotFlow) (o : Option Class)
        → Held s nothing_met (Some (record { packet = p; place = local_at (begun_by s r o) }))
    by (Err answer) o = tt
    by (Ok flow) None = tt
    by (Ok flow) (Some class) = tt

-- What a touch leaves: its endpoint had a mapping, or it is the new one

abbrev WasOrNew : Noted → Forwards → Endpoint → ℕ → Type 0
WasOrNew n es key port = ((old : Slot) × Has es (key, old)) ⊎ ((n.source ≡ key) × (n.port ≡ port))

refresh_had : (own : Endpoint) (now : ℕ) (es : Forwards) (key : Endpoint) (slot : Slot)
    → Has (refresh own now es) (key, slot) → (old : Slot) × Has es (key, old)
refresh_had own now [] key slot h = absurd h
refresh_had own now (x ∷ es) key slot h = by (same_endpoint own x.0) h (refresh_had own now es key slot)
  where
    by : (b : Bool) → Has (if b then (x.0, refreshed now x.1) ∷ es else x ∷ refresh own now es) (key, slot)
        → (Has (refresh own now es) (key, slot) → (old : Slot) × Has es (key, old))
        → (old : Slot) × Has (x ∷ es) (key, old)
    by true (inl p) rest = (x.1, inl (ap (λ (z : Endpoint × Slot). (z.0, x.1)) p))
    by true (inr h) rest = (slot, inr h)
    by false (inl p) rest = (slot, inl p)
    by false (inr h) rest = let r = rest h in (r.0, inr r.1)

find_had : (own : Endpoint) (now : ℕ) (es : Forwards) (a : Option Slot) (b : Option (Endpoint × Slot)) (key : Endpoint)
    (slot : Slot) → Has (found own now es a b).1 (key, slot) → (old : Slot) × Has es (key, old)
find_had own now es (Some there) b key slot h = by (is_idle now (own, there)) h
  where
    by : (idle : Bool) → Has (found_there own now es there idle).1 (key, slot) → (old : Slot) × Has es (key, old)
    by true h = (slot, without_was own es (key, slot) h)
    by false h = refresh_had own now es key slot h
find_had own now es None (Some gone) key slot h = (slot, without_idle_was now es (key, slot) h)
find_had own now es None None key slot h = (slot, h)

added : (own : Endpoint) (new : Slot) (es : Forwards) (key : Endpoint) (slot : Slot)
    → Has (es ++ (own, new) ∷ []) (key, slot) → Has es (key, slot) ⊎ ((own ≡ key) × (new.port ≡ slot.port))
added own new [] key slot (inl p) =
    inr (ap (λ (z : Endpoint × Slot). z.0) p, ap (λ (z : Endpoint × Slot). z.1.port) p)
added own new [] key slot (inr h) = absurd h
added own new (x ∷ es) key slot (inl p) = inl (inl p)
added own new (x ∷ es) key slot (inr h) = on (added own new es key slot h)
  where
    on : Has es (key, slot) ⊎ ((own ≡ key) × (new.port ≡ slot.port))
        → Has (x ∷ es) (key, slot) ⊎ ((own ≡ key) × (new.port ≡ slot.port))
    on (inl k) = inl (inr k)
    on (inr k) = inr k

bind_new : (n : Noted) (es : Forwards) (a : Option Slot) (key : Endpoint) (slot : Slot)
    → Has (bound n.source n.port n.time es a).1 (key, slot) → WasOrNew n es key slot.port
bind_new n es (Some there) key slot h = inl (refresh_had n.source n.time es key slot h)
bind_new n es None key slot h = on (added n.source _ es key slot h)
  where
    on : Has es (key, slot) ⊎ ((n.source ≡ key) × (n.port ≡ slot.port)) → WasOrNew n es key slot.port
    on (inl k) = inl (slot, k)
    on (inr k) = inr k

module _ (s : Settings) (m : Met) (key : Endpoint) (slot : Slot) where
  abbrev New : NatValue → Type 0
  New x = ((old : Slot) × Has (mappings_in x) (key, old)) ⊎ HasParity s m key.protocol key.port slot.port

  new_of : (n : Noted) (es : Forwards) → HasPort s m n → WasOrNew n es key slot.port → New (Mapped es)
  new_of n es port (inl old) = inl old
  new_of n es port (inr (own, same)) =
      inr (subst (λ (k : Endpoint). HasParity s m k.protocol k.port slot.port) own
      (subst (HasParity s m n.source.protocol n.source.port) same port))

  -- the segment was noted before or after
  unfollowed : (n : Noted) (es after : Forwards)
      → ((old : Slot) → Has after (key, old) → old.port ≡ slot.port → New (Mapped es))
      → Has (followed_by s.closing n after) (key, slot) → New (Mapped es)
  unfollowed n es after new h =
      let old = followed_had s.closing n after key slot h in new old.0 old.1 (sym old.3)

  touch_new : (place : Place) (x : NatValue) (n : Noted) (limit : Option ℕ) → TouchKind place x → PortAt s m place n
      → Has (mappings_in (followed s n (touched_by limit place x n).0)) (key, slot) → New x
  touch_new _ _ n None (finds es) k h =
      unfollowed n es (find n.source n.time es).1
      (λ old there port.
      inl (find_had n.source n.time es (slot_of n.source es) (first_idle n.time es) key old there)) h
  touch_new _ _ n (Some most) (finds es) k h =
      unfollowed n es (find_within most n.source n.time es).1
      (λ old there port.
      inl (by_find most n.source n.time es
      (λ (r : Find × Forwards). Has r.1 (key, old) → (o : Slot) × Has es (key, o))
      (λ there. find_had n.source n.time es (slot_of n.source es) (first_idle n.time es) key old there)
      (λ gone none q there. (old, without_was gone.0 es (key, old) there)) (λ none full there. (old, there)) there)) h
  touch_new _ _ n None (unbinds_freed bs) k h = absurd h
  touch_new _ _ n (Some most) (unbinds_freed bs) k h = absurd h
  touch_new _ _ n None (gives_freed pool) k h = absurd h
  touch_new _ _ n (Some most) (gives_freed pool) k h = absurd h
  touch_new _ _ n None (reserves pool) k h = absurd h
  touch_new _ _ n (Some most) (reserves pool) k h = absurd h
  touch_new _ _ n None (binds bs) k h = absurd h
  touch_new _ _ n (Some most) (binds bs) k h = absurd h
  touch_new _ _ n None (finds_or_binds es) k h =
      unfollowed n es (find_or_bind n.source n.port n.time es).1
      (λ old there port.
      new_of n es k (subst (WasOrNew n es key) port (bind_new n es (slot_of n.source es) key old there))) h
  touch_new _ _ n (Some most) (finds_or_binds es) k h =
      unfollowed n es (bind_within most n.source n.port n.time es).1
      (λ old there port.
      new_of n es k (subst (WasOrNew n es key) port
      (by_bind most n.source n.time es n.port
      (λ (r : Option Bind × Forwards). Has r.1 (key, old) → WasOrNew n es key old.port)
      (λ there. bind_new n es (slot_of n.source es) key old there) (λ none full there. inl (old, there)) there))) h
  touch_new _ _ n None (unbinds_lost bs) k h = absurd h
  touch_new _ _ n (Some most) (unbinds_lost bs) k h = absurd h
  touch_new _ _ n None (gives_lost pool) k h = absurd h
  touch_new _ _ n (Some most) (gives_lost pool) k h = absurd h
  touch_new _ _ n None (counts d) k h = absurd h
  touch_new _ _ n (Some most) (counts d) k h = absurd h

-- Each move
module _ (s : Settings) (is : AreSettings s) (packets : List Packet) (value : ℕ → NatValue) (t : ℕ)
    (earlier : List (Step NatValue)) (taken taken_then : ℕ)
    (fits : (v : ℕ) → v < 2 + 2 * s.shards → Fits s v (value v)) (m : Met) where
  abbrev Keeps : Option Hand → Option Hand → Effect NatValue → Type 0
  Keeps before after d = Held s m before → Held s (met_by value (act_of t earlier taken_then d) m) after

  told_time : (h : Hand) (a : ℕ) (place : Place) → place ≡ HearsTime
      → Held s (record m { clock = Some a }) (goes_on h (told place a (noted h.place)))
  told_time h a place q =
      let n : Noted = noted h.place in
      let o : Noted = record n { time = a } in
      subst (λ (z : Place). Held s (record m { clock = Some a }) (goes_on h (told z a n))) (sym q)
      (held_on s (record m { clock = Some a }) h (after_time o o.class)
      (time_noted o o.class (timed n a (is_noted h.place))) (time_port s (record m { clock = Some a }) o o.class))

  told_word : (h : Hand) (a : ℕ) (place : Place) → place ≡ DrawsWord
      → Held s m (goes_on h (told place a (noted h.place)))
  told_word h a place q =
      let n : Noted = noted h.place in
      subst (λ (z : Place). Held s m (goes_on h (told z a n))) (sym q)
      (held_on s m h (goes ReservesPort (record n { word_or_reason = a })) (worded n a (is_noted h.place)) tt)

  pub move_holds : (after : Thread) (d : Effect NatValue) (hand : Option Hand) (a : Option ℕ)
      → held_move (nat_meaning s) packets value taken a hand ≡ Moves after d → Keeps hand after.hand d
  move_holds after d hand a e =
      by_move s packets value taken Keeps (λ p input k. begun_port s p)
      (λ h v w k.
      let below = touched_below s is h v w in
      let r = touched_by s.limit (at h) (value v) (noted h.place) in
      held_on s (met_by_touch value (value v) (Some (followed s (noted h.place) r.0)) m) h r.1
      (touched_noted s (at h) (value v) (noted h.place) v (is_noted h.place) (fits v below))
      (touch_port s value fits m v (at h) (value v) (noted h.place) s.limit (Some (followed s (noted h.place) r.0)) refl
      (touch_kind s is.some (noted h.place) v (value v) (fits v below) (at h) w) below
      (touches_it s (at h) (noted h.place) v w) k))
      (λ h v w k.
      let below = read_below s is h v w in
      let kind = look_kind s is.some (noted h.place) v (value v) (fits v below) (at h) w in
      held_on s (met_by_read value (value v) m) h (looked (at h) (value v) (noted h.place))
      (looked_noted s v (at h) (value v) (noted h.place) kind (fits v below) (is_noted h.place))
      (looked_port s (met_by_read value (value v) m) (at h) (value v) (noted h.place) kind))
      (λ h x w k. told_time h x (at h) (at_clock s (at h) (noted h.place) w))
      (λ h x w k. told_word h x (at h) (at_draw s (at h) (noted h.place) w))
      (λ h w k. held_on s m h (goes Ends (noted h.place)) (is_noted h.place) tt) (λ h w k. tt) after d hand a e

  module _ (v : ℕ) (key : Endpoint) (slot : Slot) where
    abbrev Makes : Option Hand → Option Hand → Effect NatValue → Type 0
    Makes before after d =
        Held s m before → Has (mappings_in (left_by v (act_of t earlier taken_then d) (value v))) (key, slot)
        → New s m key slot (value v)

    at_touch : (h : Hand) (w : ℕ) → comes_to s h (Access w) → Held s m (Some h)
        → Has (mappings_in (cond (nat_eq w v)
        (followed s (noted h.place) (touched_by s.limit (at h) (value w) (noted h.place)).0) (value v))) (key, slot)
        → New s m key slot (value v)
    at_touch h w move k there = by (is_or w v)
      where
        left : NatValue
        left = followed s (noted h.place) (touched_by s.limit (at h) (value w) (noted h.place)).0

        by : (w ≡ v) ⊎ (w ≢ v) → New s m key slot (value v)
        by (inl q) =
            let below = touched_below s is h w move in
            let kind = touch_kind s is.some (noted h.place) w (value w) (fits w below) (at h) move in
            let now : Has (mappings_in left) (key, slot) =
            subst (λ (b : Bool). Has (mappings_in (cond b left (value v))) (key, slot)) (is_eq w v q) there in
            subst (λ (u : ℕ). New s m key slot (value u)) q
            (touch_new s m key slot (at h) (value w) (noted h.place) s.limit kind k now)
        by (inr q) =
            inl (slot, subst (λ (b : Bool). Has (mappings_in (cond b left (value v))) (key, slot)) (not_eq w v q) there)

    move_makes : (after : Thread) (d : Effect NatValue) (hand : Option Hand) (a : Option ℕ)
        → held_move (nat_meaning s) packets value taken a hand ≡ Moves after d → Makes hand after.hand d
    move_makes after d hand a move =
        by_move s packets value taken Makes (λ p input k h. inl (slot, h)) (λ h w c k there. at_touch h w c k there)
        (λ h w c k there. inl (slot, there)) (λ h x c k there. inl (slot, there)) (λ h x c k there. inl (slot, there))
        (λ h c k there. inl (slot, there)) (λ h c k there. inl (slot, there)) after d hand a move

run_held : (s : Settings) (threads : ℕ) (inputs : ℕ → List Packet) (steps : List (Step NatValue)) → AreSettings s
    → IsHistory (nat_meaning s) inputs threads steps → (t : ℕ) → Held s (met_of s t steps) (thread_after steps t).hand
run_held s threads inputs [] is h t = tt
run_held s threads inputs (x ∷ earlier) is h t =
    let fits = values_fit (nat_meaning s) (Fits s) (nat_lawful s is) inputs threads earlier h.1 in
    let new = move_holds s is (inputs x.thread) (value_after (nat_meaning s) earlier) x.thread earlier
    (thread_after earlier x.thread).taken x.after.taken fits (met_of s x.thread earlier) x.after h.0.2
    (thread_after earlier x.thread).hand h.0.1 h.0.3 (run_held s threads inputs earlier is h.1 x.thread) in
    by (is_or x.thread t) new (run_held s threads inputs earlier is h.1 t)
  where
    by : (x.thread ≡ t) ⊎ (x.thread ≢ t)
        → Held s (met_by (value_after (nat_meaning s) earlier) (act_of x.thread earlier x.after.taken h.0.2)
        (met_of s x.thread earlier)) x.after.hand → Held s (met_of s t earlier) (thread_after earlier t).hand
        → Held s (met_of s t (x ∷ earlier)) (thread_after (x ∷ earlier) t).hand
    by (inl e) new old =
        subst (λ (u : ℕ). Held s (met_of s u (x ∷ earlier)) (thread_after (x ∷ earlier) u).hand) e
        (rw (is_eq x.thread x.thread refl, h.0.4) new)
    by (inr e) new old = rw (not_eq x.thread t e) old

pub new_have_parity : NewHaveParity
new_have_parity s threads inputs x earlier v key slot is h there none =
    let fits = values_fit (nat_meaning s) (Fits s) (nat_lawful s is) inputs threads earlier h.1 in
    let m : Met = met_of s x.thread earlier in
    let value : ℕ → NatValue = value_after (nat_meaning s) earlier in
    let before : Thread = thread_after earlier x.thread in
    let left : Has (mappings_in (left_by v (act_of x.thread earlier x.after.taken h.0.2) (value v))) (key, slot) =
    subst (λ (y : Act NatValue). Has (mappings_in (left_by v y (value v))) (key, slot)) h.0.4 there in
    by (move_makes s is (inputs x.thread) value x.thread earlier before.taken x.after.taken fits m v key slot x.after
    h.0.2 before.hand h.0.1 h.0.3 (run_held s threads inputs earlier is h.1 x.thread) left)
  where
    by : New s (met_of s x.thread earlier) key slot (value_after (nat_meaning s) earlier v)
        → HasParity s (met_of s x.thread earlier) key.protocol key.port slot.port
    by (inl old) = absurd (none old.0 old.1)
    by (inr parity) = parity
