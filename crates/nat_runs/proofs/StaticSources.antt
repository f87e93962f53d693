-- Outbound packets from the inside endpoints of static ports, and what the tables have at the start.
use Rattle.std.proofs.Common.{◌≡◌, ℕ, ◌+◌, ◌*◌, ◌-◌, ◌<◌, Bool, true, false, List, [], ◌∷◌, refl, sym, ap, ◌∙◌, subst}
use Rattle.std.proofs.Common.{arith, ◌⊎◌, inl, inr, Option, Some, None}
use Rattle.std.specs.Prelude.{◌&&◌, ◌==◌, not, nat_lt, if◌then◌else◌, Result, Ok}
use Rattle.entry_order.proofs.Order.{is_or}
use Rattle.plain_text.specs.declared.packet.Packet.{Packet}
use Rattle.entry_order.specs.Log.{Entry, places}
use Rattle.entry_order.specs.declared.what.What.{What}
use Rattle.entry_order.specs.declared.what.What.TheVariants.{Access as Accessed, Read as WasRead, Clock as Heard}
use Rattle.entry_order.specs.declared.what.What.TheVariants.{Draw as Drew}
use Rattle.entry_order.proofs.Order.{touch_only}
use Rattle.packet_headers.specs.declared.flow.Flow.{Flow}
use Rattle.packet_headers.specs.declared.flow.NotFlow.{NotFlow}
use Rattle.packet_headers.specs.Fields.{AreBytes}
use Rattle.plain_machine.specs.declared.local.Move.TheVariants.{Access}
use Rattle.plain_machine.specs.Machine.{Hand, Thread, Effect, Touches, Moves, held_move}
use Rattle.plain_machine.specs.History.{Did, Step, act_of, entry_of, log_of, thread_after, value_after, IsHistory}
use Rattle.plain_machine.proofs.Histories.{not_eq, is_eq}
use Rattle.plain_machine.proofs.Bounds.{values_fit}
use Rattle.nat_tables.specs.declared.entries.Endpoint.{Endpoint}
use Rattle.nat_tables.specs.declared.entries.PortKey.{PortKey}
use Rattle.nat_tables.specs.declared.entries.Find.{Find}
use Rattle.nat_tables.specs.declared.entries.Find.TheVariants.{Live}
use Rattle.nat_tables.specs.declared.slot.Slot.{Slot}
use Rattle.nat_tables.specs.declared.phase.Phase.{Phase}
use Rattle.nat_tables.specs.declared.phase.Phase.TheVariants.{Kept}
use Rattle.nat_tables.specs.Phases.{timer, is_kept}
use Rattle.nat_tables.specs.Ports.{pool_without}
use Rattle.nat_tables.specs.Forwards.{Forwards, first_idle, found_there, found, find, kept_slot, HasKept}
use Rattle.nat_tables.specs.Hosts.{found_within, find_within}
use Rattle.flow_boxes.specs.Drops.{no_drops}
use Rattle.flow_boxes.specs.Flows.{source_of}
use Rattle.flow_boxes.proofs.HeldInputs.{IsHeld, run_holds}
use Rattle.nat_box.specs.declared.settings.StaticPort.{StaticPort}
use Rattle.nat_box.specs.declared.place.Place.{Place}
use Rattle.nat_box.specs.declared.place.Place.TheVariants.{HearsTime, FindsMapping, UnbindsFreed, GivesBackFreed}
use Rattle.nat_box.specs.declared.place.Place.TheVariants.{DrawsWord, ReservesPort, BindsPort, FindsOrBinds}
use Rattle.nat_box.specs.declared.place.Place.TheVariants.{UnbindsLost, GivesBackLost, FindsEndpoint, AsksIfLives}
use Rattle.nat_box.specs.declared.place.Place.TheVariants.{CountsDrop, SendsOut, Ends, FindsPort}
use Rattle.nat_box.specs.declared.place.Class.{Class}
use Rattle.nat_box.specs.declared.place.Class.TheVariants.{Outbound}
use Rattle.nat_box.specs.declared.place.Noted.{Noted}
use Rattle.nat_box.specs.declared.place.Goes.{Goes}
use Rattle.nat_box.specs.declared.value.NatValue.{NatValue}
use Rattle.nat_box.specs.declared.value.NatValue.TheVariants.{Dropped, Free, Mapped, Taken}
use Rattle.nat_box.specs.Places.{place_numbered, noted}
use Rattle.nat_box.specs.Noting.{place_again}
use Rattle.nat_box.specs.Statics.{inside_of, outside_of, static_port, kept, outside_ports, IsStatic}
use Rattle.nat_box.specs.Settings.{Settings, AreSettings}
use Rattle.nat_box.specs.Nat.{forward_table, reverse_table, flow_seen, class_seen, begun_by, mapped, after_find}
use Rattle.nat_box.specs.Nat.{after_find_within, touched_by, followed, looked, told, after_time, local_at, nat_meaning}
use Rattle.nat_box.specs.Nat.{kept_mappings, kept_bound, Fits}
use Rattle.nat_box.specs.Ranks.{var_of, touches_it}
use Rattle.nat_box.specs.Lawful.{nat_lawful}
use Rattle.nat_box.specs.Sentences.{Has, mappings_in, bound_in}
use Rattle.nat_box.proofs.Making.{goes_on, comes_to}
use Rattle.nat_box.proofs.SeenAs.{same_flow, flow_is_seen, class_is_seen}
use Rattle.nat_runs.specs.Met.{Met, met_of}
use Rattle.nat_runs.specs.StaticPorts.{GoesOutFrom, NoneGoingOutIsDropped, OnlyTheyStart}
use Rattle.nat_runs.proofs.ThreadMoves.{TouchKind, finds, unbinds_freed, gives_freed, reserves, binds, finds_or_binds}
use Rattle.nat_runs.proofs.ThreadMoves.{unbinds_lost, gives_lost, counts, LookKind, finds_endpoint, asks, finds_port}
use Rattle.nat_runs.proofs.ThreadMoves.{touch_kind, look_kind, at_clock, at_draw, at, touched_below, read_below}
use Rattle.nat_runs.proofs.ThreadMoves.{by_move, begins_with, entry_is}
use Rattle.nat_runs.proofs.Known.{IsBase, KnownAt, Known}
use Rattle.nat_runs.proofs.Knowing.{run_known}

-- where a packet may be that finds its mapping at once
abbrev IsStraight : Place → Type 0
IsStraight HearsTime = Unit {0}
IsStraight FindsMapping = Unit {0}
IsStraight UnbindsFreed = ⊥
IsStraight GivesBackFreed = ⊥
IsStraight DrawsWord = ⊥
IsStraight ReservesPort = ⊥
IsStraight BindsPort = ⊥
IsStraight FindsOrBinds = ⊥
IsStraight UnbindsLost = ⊥
IsStraight GivesBackLost = ⊥
IsStraight FindsEndpoint = ⊥
IsStraight AsksIfLives = ⊥
IsStraight CountsDrop = ⊥
IsStraight SendsOut = Unit {0}
IsStraight Ends = Unit {0}
IsStraight FindsPort = ⊥

-- a mapping that is kept is found
kept_is_found : (key : Endpoint) (now port : ℕ) (es : Forwards) → HasKept key port es
    → (out : ℕ) × ((find key now es).0 ≡ Live out)
kept_is_found key now port es (slot, there, to, phase) = (
  slot.port,
  ap (λ (o : Option Slot). (found key now es o (first_idle now es)).0) there
      ∙ ap (λ (f : Phase).
      (found_there key now es slot (not (is_kept f) && not (nat_lt now (slot.last + timer key.protocol f)))).0) phase,
)

module _ (s : Settings) (p : StaticPort) (static : IsStatic p (kept s.statics)) where
  abbrev GoesOut : Packet → Type 0
  GoesOut packet = AreBytes packet.bytes × GoesOutFrom s p packet

  abbrev Straight : Option Hand → Type 0
  Straight None = Unit {0}
  Straight (Some h) = GoesOut h.packet → IsStraight (at h)

  straight_on : (h : Hand) (g : Goes) → (GoesOut h.packet → IsStraight g.place) → Straight (goes_on h g)
  straight_on h g is to = subst IsStraight (sym (place_again g.place)) (is to)

  -- its class, and its source
  class_is : (packet : Packet) (n : Noted) → GoesOutFrom s p packet → IsBase s packet n → n.class ≡ Outbound
  class_is packet n to base =
      let both : Some n.class ≡ Some Outbound =
      sym base.class ∙ class_is_seen s packet to.0 to.1 ∙ to.3 in cc

  source_is : (packet : Packet) (n : Noted) → GoesOut packet → IsBase s packet n → n.source ≡ inside_of p
  source_is packet n to base =
      let flow : Flow = to.1.0 in
      let seen : flow_seen s packet ≡ Ok flow = flow_is_seen s packet flow to.1.1 in
      base.source to.0 ∙ ap source_of (same_flow (flow_seen s packet) base.flow flow base.seen seen) ∙ to.1.2

  begun_straight : (packet : Packet) → Straight (begins_with s packet)
  begun_straight packet to =
      let flow : Flow = to.1.0 in
      let seen : flow_seen s packet ≡ Ok flow = flow_is_seen s packet flow to.1.1 in
      let class : class_seen s packet ≡ Some Outbound = class_is_seen s packet flow to.1.1 ∙ to.1.3 in
      subst (λ (r : Result Flow NotFlow).
      IsStraight (place_numbered (local_at (begun_by s r (class_seen s packet))).at)) (sym seen)
      (subst (λ (o : Option Class). IsStraight (place_numbered (local_at (begun_by s (Ok flow) o)).at)) (sym class) tt)

  time_straight : (n : Noted) (c : Class) → c ≡ Outbound → IsStraight (after_time n c).place
  time_straight n c is = subst (λ (d : Class). IsStraight (after_time n d).place) (sym is) tt

  find_straight : (n : Noted) (f : Find) (out : ℕ) → f ≡ Live out → n.class ≡ Outbound
      → IsStraight (after_find n f).place
  find_straight n f out live is =
      subst (λ (g : Find). IsStraight (after_find n g).place) (sym live)
      (subst (λ (c : Class). IsStraight (mapped (record n { port = out }) c).place) (sym is) tt)

  within_straight : (most : ℕ) (n : Noted) (es : Forwards) → HasKept n.source p.outside es → n.class ≡ Outbound
      → (let r = find_within most n.source n.time es in IsStraight (after_find_within most n r.0 r.1).place)
  within_straight most n es has is =
      let live = kept_is_found n.source n.time p.outside es has in
      subst
      (λ (o : Option Slot).
      let r = found_within most n.source n.time es o in IsStraight (after_find_within most n r.0 r.1).place) (sym has.1)
      (subst (λ (f : Find). IsStraight (after_find_within most n f (find n.source n.time es).1).place) (sym live.1)
      (find_straight n (Live live.0) live.0 refl is))

  touch_straight : (m : Met) (packet : Packet) (v : ℕ) (place : Place) (x : NatValue) (n : Noted) (limit : Option ℕ)
      → TouchKind place x → Fits s v x → var_of s place n ≡ v → KnownAt s m packet place n → IsStraight place
      → GoesOut packet → IsStraight (touched_by limit place x n).1.place
  touch_straight m packet v _ _ n (Some most) (finds es) fits it k straight to =
      let source : n.source ≡ inside_of p = source_is packet n to k.0 in
      let has : HasKept (inside_of p) p.outside es = fits.3 p static (sym it ∙ ap (forward_table s) source) in
      within_straight most n es (subst (λ (key : Endpoint). HasKept key p.outside es) (sym source) has)
      (class_is packet n to.1 k.0)
  touch_straight m packet v _ _ n None (finds es) fits it k straight to =
      let source : n.source ≡ inside_of p = source_is packet n to k.0 in
      let has : HasKept (inside_of p) p.outside es = fits.3 p static (sym it ∙ ap (forward_table s) source) in
      let live = kept_is_found n.source n.time p.outside es
      (subst (λ (key : Endpoint). HasKept key p.outside es) (sym source) has) in
      find_straight n (find n.source n.time es).0 live.0 live.1 (class_is packet n to.1 k.0)
  touch_straight m packet v _ _ n limit (unbinds_freed bs) fits it k straight to = absurd straight
  touch_straight m packet v _ _ n limit (gives_freed pool) fits it k straight to = absurd straight
  touch_straight m packet v _ _ n limit (reserves pool) fits it k straight to = absurd straight
  touch_straight m packet v _ _ n limit (binds bs) fits it k straight to = absurd straight
  touch_straight m packet v _ _ n limit (finds_or_binds es) fits it k straight to = absurd straight
  touch_straight m packet v _ _ n limit (unbinds_lost bs) fits it k straight to = absurd straight
  touch_straight m packet v _ _ n limit (gives_lost pool) fits it k straight to = absurd straight
  touch_straight m packet v _ _ n limit (counts d) fits it k straight to = absurd straight

  not_looking : (place : Place) (x : NatValue) → LookKind place x → IsStraight place → ⊥
  not_looking _ _ (finds_endpoint bs) straight = straight
  not_looking _ _ (asks es) straight = straight
  not_looking _ _ (finds_port es) straight = straight

  not_counting : (place : Place) (x : NatValue) (n : Noted) → TouchKind place x → var_of s place n ≡ 0
      → IsStraight place → ⊥
  not_counting _ _ n (finds es) it straight = absurd (omega (arith, it))
  not_counting _ _ n (unbinds_freed bs) it straight = straight
  not_counting _ _ n (gives_freed pool) it straight = straight
  not_counting _ _ n (reserves pool) it straight = straight
  not_counting _ _ n (binds bs) it straight = straight
  not_counting _ _ n (finds_or_binds es) it straight = straight
  not_counting _ _ n (unbinds_lost bs) it straight = straight
  not_counting _ _ n (gives_lost pool) it straight = straight
  not_counting _ _ n (counts d) it straight = straight

  told_time : (m : Met) (h : Hand) (a : ℕ) (place : Place) → place ≡ HearsTime
      → KnownAt s m h.packet place (noted h.place) → Straight (goes_on h (told place a (noted h.place)))
  told_time m h a place q k =
      let n : Noted = noted h.place in
      let base : IsBase s h.packet n = subst (λ (z : Place). KnownAt s m h.packet z n) q k in
      subst (λ (z : Place). Straight (goes_on h (told z a n))) (sym q)
      (straight_on h (told HearsTime a n) (λ to. time_straight (record n { time = a }) n.class
      (class_is h.packet n to.1 base)))

  module _ (is : AreSettings s) (packets : List Packet) (value : ℕ → NatValue) (t : ℕ)
      (earlier : List (Step NatValue)) (taken taken_then : ℕ)
      (fits : (v : ℕ) → v < 2 + 2 * s.shards → Fits s v (value v)) (m : Met) where
    abbrev Keeps : Option Hand → Option Hand → Effect NatValue → Type 0
    Keeps before after d = Known s m before → Straight before → Straight after

    move_keeps : (after : Thread) (d : Effect NatValue) (hand : Option Hand) (a : Option ℕ)
        → held_move (nat_meaning s) packets value taken a hand ≡ Moves after d → Keeps hand after.hand d
    move_keeps after d hand a e =
        by_move s packets value taken Keeps (λ packet input k straight. begun_straight packet)
        (λ h v w k straight.
        let below = touched_below s is h v w in
        let kind = touch_kind s is.some (noted h.place) v (value v) (fits v below) (at h) w in
        straight_on h (touched_by s.limit (at h) (value v) (noted h.place)).1
        (λ to. touch_straight m h.packet v (at h) (value v) (noted h.place) s.limit kind (fits v below)
        (touches_it s (at h) (noted h.place) v w) k (straight to) to))
        (λ h v w k straight.
        let below = read_below s is h v w in
        let kind = look_kind s is.some (noted h.place) v (value v) (fits v below) (at h) w in
        straight_on h (looked (at h) (value v) (noted h.place))
        (λ to. absurd (not_looking (at h) (value v) kind (straight to))))
        (λ h x w k straight. told_time m h x (at h) (at_clock s (at h) (noted h.place) w) k)
        (λ h x w k straight.
        straight_on h (told (at h) x (noted h.place))
        (λ to. absurd (subst IsStraight (at_draw s (at h) (noted h.place) w) (straight to))))
        (λ h w k straight to. tt) (λ h w k straight. tt) after d hand a e

    -- such a packet does not touch variable 0
    module _ (entry : Entry) (left : Option NatValue) (place : ℕ) (what : entry.what ≡ Accessed 0 place) where
      abbrev Never : Option Hand → Option Hand → Effect NatValue → Type 0
      Never None after d = Unit {0}
      Never (Some h) after d =
          Straight (Some h) → GoesOut h.packet → act_of t earlier taken_then d ≡ Did entry left → ⊥

      never_touch : (h : Hand) (w : ℕ) (after : NatValue) → comes_to s h (Access w) → Straight (Some h)
          → GoesOut h.packet → act_of t earlier taken_then (Touches w after) ≡ Did entry left → ⊥
      never_touch h w after move straight to e =
          let this : Entry = entry_of t (log_of earlier) (Accessed w (places w (log_of earlier) + 1)) in
          let both : Accessed w (places w (log_of earlier) + 1) ≡ Accessed 0 place =
          entry_is this entry (Some after) left e ∙ what in
          let none : w ≡ 0 = (touch_only _ _ _ _ both).0 in
          let below = touched_below s is h w move in
          let kind = touch_kind s is.some (noted h.place) w (value w) (fits w below) (at h) move in
          let it : var_of s (at h) (noted h.place) ≡ w = touches_it s (at h) (noted h.place) w move in
          not_counting (at h) (value w) (noted h.place) kind (it ∙ none) (straight to)

      what_of : (w : What) → Did (entry_of t (log_of earlier) w) None ≡ Did entry left → w ≡ Accessed 0 place
      what_of w e = entry_is (entry_of t (log_of earlier) w) entry None left e ∙ what

      not_read : (v after : ℕ) → WasRead v after ≡ Accessed 0 place → ⊥
      not_read v after e = absurd (cc)

      not_heard : (a : ℕ) → Heard a ≡ Accessed 0 place → ⊥
      not_heard a e = absurd (cc)

      not_drew : (a : ℕ) → Drew a ≡ Accessed 0 place → ⊥
      not_drew a e = absurd (cc)

      move_never : (after : Thread) (d : Effect NatValue) (hand : Option Hand) (a : Option ℕ)
          → held_move (nat_meaning s) packets value taken a hand ≡ Moves after d → Never hand after.hand d
      move_never after d hand a move =
          by_move s packets value taken Never (λ packet input. tt)
          (λ h w c straight to e.
          never_touch h w (followed s (noted h.place) (touched_by s.limit (at h) (value w) (noted h.place)).0) c
          straight to e)
          (λ h w c straight to e.
          not_read w (places w (log_of earlier)) (what_of (WasRead w (places w (log_of earlier))) e))
          (λ h x c straight to e. not_heard x (what_of (Heard x) e))
          (λ h x c straight to e. not_drew x (what_of (Drew x) e)) (λ h c straight to e. absurd (cc))
          (λ h c straight to e. absurd (cc)) after d hand a move

  run_straight : (threads : ℕ) (inputs : ℕ → List Packet) (steps : List (Step NatValue)) → AreSettings s
      → IsHistory (nat_meaning s) inputs threads steps → (t : ℕ) → Straight (thread_after steps t).hand
  run_straight threads inputs [] is h t = tt
  run_straight threads inputs (x ∷ earlier) is h t =
      let fits = values_fit (nat_meaning s) (Fits s) (nat_lawful s is) inputs threads earlier h.1 in
      let new = move_keeps is (inputs x.thread) (value_after (nat_meaning s) earlier) x.thread earlier
      (thread_after earlier x.thread).taken x.after.taken fits (met_of s x.thread earlier) x.after h.0.2
      (thread_after earlier x.thread).hand h.0.1 h.0.3 (run_known s threads inputs earlier is h.1 x.thread)
      (run_straight threads inputs earlier is h.1 x.thread) in
      by (is_or x.thread t) new (run_straight threads inputs earlier is h.1 t)
    where
      by : (x.thread ≡ t) ⊎ (x.thread ≡ t → ⊥) → Straight x.after.hand → Straight (thread_after earlier t).hand
          → Straight (thread_after (x ∷ earlier) t).hand
      by (inl e) new old =
          subst (λ (u : ℕ). Straight (thread_after (x ∷ earlier) u).hand) e (rw (is_eq x.thread x.thread refl) new)
      by (inr e) new old = rw (not_eq x.thread t e) old

pub none_going_out_is_dropped : NoneGoingOutIsDropped
none_going_out_is_dropped s threads inputs x earlier entry left place hand p is bytes h there static to act what =
    let fits = values_fit (nat_meaning s) (Fits s) (nat_lawful s is) inputs threads earlier h.1 in
    let value : ℕ → NatValue = value_after (nat_meaning s) earlier in
    let before : Thread = thread_after earlier x.thread in
    let held : IsHeld (inputs x.thread) before.taken (Some hand) =
    subst (IsHeld (inputs x.thread) before.taken) there
    (run_holds (nat_meaning s) threads inputs earlier h.1 x.thread) in
    let frame : AreBytes hand.packet.bytes = bytes x.thread (before.taken - 1) hand.packet held.1 in
    let straight : Straight s p static (Some hand) =
    subst (Straight s p static) there (run_straight s p static threads inputs earlier is h.1 x.thread) in
    let move = subst (λ (o : Option Hand).
    held_move (nat_meaning s) (inputs x.thread) value before.taken h.0.1 o ≡ Moves x.after h.0.2) there h.0.3 in
    move_never s p static is (inputs x.thread) value x.thread earlier before.taken x.after.taken fits
    (met_of s x.thread earlier) entry left place what x.after h.0.2 (Some hand) h.0.1 move straight (frame, to)
    (sym h.0.4 ∙ act)

-- At the start

abbrev IsMappingOf : List StaticPort → Endpoint → Slot → Type 0
IsMappingOf ps key slot = IsStatic (static_port key slot.port) ps × (slot.phase ≡ Kept)

abbrev IsBoundOf : List StaticPort → PortKey → Endpoint → Type 0
IsBoundOf ps port key = (p : StaticPort) × IsStatic p ps × (outside_of p ≡ port) × (inside_of p ≡ key)

module _ (s : Settings) (v : ℕ) where
  mapping_starts : (key : Endpoint) (slot : Slot) (ps : List StaticPort) → Has (kept_mappings s v ps) (key, slot)
      → IsMappingOf ps key slot
  mapping_starts key slot [] h = absurd h
  mapping_starts key slot (q ∷ qs) h =
      by (forward_table s (inside_of q) == v) h (λ g. mapping_starts key slot qs g)
    where
      by : (b : Bool)
          → Has (if b then (inside_of q, kept_slot q.outside) ∷ kept_mappings s v qs else kept_mappings s v qs)
          (key, slot) → (Has (kept_mappings s v qs) (key, slot) → IsMappingOf qs key slot)
          → IsMappingOf (q ∷ qs) key slot
      by true (inl e) rest = (
        inl (ap (λ (x : Endpoint × Slot). static_port x.0 x.1.port) e),
        sym (ap (λ (x : Endpoint × Slot). x.1.phase) e),
      )
      by true (inr g) rest = let r = rest g in (inr r.0, r.1)
      by false g rest = let r = rest g in (inr r.0, r.1)

  bound_starts : (port : PortKey) (key : Endpoint) (ps : List StaticPort) → Has (kept_bound s v ps) (port, key)
      → IsBoundOf ps port key
  bound_starts port key [] h = absurd h
  bound_starts port key (q ∷ qs) h =
      by (reverse_table s (outside_of q) == v) h (λ g. bound_starts port key qs g)
    where
      by : (b : Bool)
          → Has (if b then (outside_of q, inside_of q) ∷ kept_bound s v qs else kept_bound s v qs) (port, key)
          → (Has (kept_bound s v qs) (port, key) → IsBoundOf qs port key) → IsBoundOf (q ∷ qs) port key
      by true (inl e) rest = (
        q,
        inl refl,
        ap (λ (x : PortKey × Endpoint). x.0) e,
        ap (λ (x : PortKey × Endpoint). x.1) e,
      )
      by true (inr g) rest = let r = rest g in (r.0, inr r.1, r.2, r.3)
      by false g rest = let r = rest g in (r.0, inr r.1, r.2, r.3)

  abbrev value_by : Bool → Bool → Bool → NatValue
  value_by zero one low =
      if zero then Dropped no_drops
      else if one then Free (pool_without (outside_ports (kept s.statics)) s.low s.high)
      else if low then Mapped (kept_mappings s v (kept s.statics)) else Taken (kept_bound s v (kept s.statics))

  maps_theirs : (a b c : Bool) (key : Endpoint) (slot : Slot) → Has (mappings_in (value_by a b c)) (key, slot)
      → IsMappingOf (kept s.statics) key slot
  maps_theirs true b c key slot h = absurd h
  maps_theirs false true c key slot h = absurd h
  maps_theirs false false true key slot h = mapping_starts key slot (kept s.statics) h
  maps_theirs false false false key slot h = absurd h

  binds_theirs : (a b c : Bool) (port : PortKey) (key : Endpoint) → Has (bound_in (value_by a b c)) (port, key)
      → IsBoundOf (kept s.statics) port key
  binds_theirs true b c port key h = absurd h
  binds_theirs false true c port key h = absurd h
  binds_theirs false false true port key h = absurd h
  binds_theirs false false false port key h = bound_starts port key (kept s.statics) h

pub only_they_start : OnlyTheyStart
only_they_start s v = (
  λ key slot h. maps_theirs s v (v == 0) (v == 1) (nat_lt v (2 + s.shards)) key slot h,
  λ port key h. binds_theirs s v (v == 0) (v == 1) (nat_lt v (2 + s.shards)) port key h,
)
