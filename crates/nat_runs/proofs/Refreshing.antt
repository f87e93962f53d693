-- Packets from inside refresh the mapping of their own endpoint.
use Rattle.std.proofs.Common.{◌≡◌, ◌≢◌, ℕ, ◌+◌, ◌*◌, ◌-◌, ◌<◌, Bool, true, false, List, refl, sym, ap, ◌∙◌, subst, ◌⊎◌}
use Rattle.std.proofs.Common.{inl, inr, Option, Some, None}
use Rattle.std.specs.Prelude.{cond, nat_eq}
use Rattle.plain_text.specs.declared.packet.Packet.{Packet}
use Rattle.entry_order.proofs.Order.{is_or}
use Rattle.packet_headers.specs.Fields.{AreBytes}
use Rattle.plain_machine.specs.declared.emission.Emission.{Emission}
use Rattle.plain_machine.specs.declared.local.Move.TheVariants.{Access}
use Rattle.plain_machine.specs.Machine.{Hand, Thread, Effect, Moves, held_move}
use Rattle.plain_machine.specs.History.{Act, Emitted, Step, act_of, left_by, thread_after, value_after}
use Rattle.plain_machine.proofs.Histories.{not_eq, is_eq}
use Rattle.plain_machine.proofs.Bounds.{values_fit}
use Rattle.nat_tables.specs.declared.entries.Endpoint.{Endpoint}
use Rattle.nat_tables.specs.declared.slot.Slot.{Slot}
use Rattle.nat_tables.specs.Forwards.{Forwards, is_idle, slot_of, first_idle, found_there, found, bound}
use Rattle.nat_tables.specs.declared.entries.Find.{Find}
use Rattle.nat_tables.specs.declared.entries.Bind.{Bind}
use Rattle.nat_tables.specs.Hosts.{find_within, bind_within}
use Rattle.nat_box.specs.declared.place.Place.{Place}
use Rattle.nat_box.specs.declared.place.Place.TheVariants.{SendsOut}
use Rattle.nat_box.specs.declared.place.Class.{Class}
use Rattle.nat_box.specs.declared.place.Class.TheVariants.{Outbound, Hairpin}
use Rattle.nat_box.specs.declared.place.Noted.{Noted}
use Rattle.nat_box.specs.declared.value.NatValue.{NatValue}
use Rattle.nat_box.specs.declared.value.NatValue.TheVariants.{Mapped}
use Rattle.nat_box.specs.Places.{noted}
use Rattle.nat_box.specs.Settings.{Settings, AreSettings}
use Rattle.nat_box.specs.Nat.{class_of_flow, flow_seen, touched_by, followed, nat_meaning, Fits}
use Rattle.nat_box.specs.Lawful.{nat_lawful}
use Rattle.nat_box.specs.Sentences.{Has, mappings_in}
use Rattle.flow_boxes.specs.Flows.{source_of}
use Rattle.flow_boxes.proofs.HeldInputs.{IsHeld, run_holds}
use Rattle.nat_box.proofs.Making.{comes_to}
use Rattle.nat_runs.specs.Met.{Met, met_of}
use Rattle.nat_runs.specs.Refreshing.{ComesFrom, HostsRefresh, HasRefreshed, SentRefresh}
use Rattle.nat_runs.proofs.MarkedEntries.{followed_was, was_before}
use Rattle.nat_runs.proofs.Within.{by_find, by_bind}
use Rattle.nat_runs.proofs.TableEntries.{slot_in, WasOr, refresh_was, bound_was, without_was, without_idle_was}
use Rattle.nat_runs.proofs.ThreadMoves.{TouchKind, finds, unbinds_freed, gives_freed, reserves, binds, finds_or_binds}
use Rattle.nat_runs.proofs.ThreadMoves.{unbinds_lost, gives_lost, counts, touch_kind, at_emit, at, touched_below}
use Rattle.nat_runs.proofs.ThreadMoves.{by_move}
use Rattle.nat_box.proofs.Translations.{IfOutward}
use Rattle.nat_box.proofs.SeenAs.{same_flow, flow_is_seen, class_is_seen}
use Rattle.nat_runs.proofs.Known.{outward_flow, from_inside, IsBase, Refreshed, IsOnWay, KnownAt, Known}
use Rattle.nat_runs.proofs.Knowing.{run_known}

-- What a touch leaves

there_was : (key : Endpoint) (now : ℕ) (es : Forwards) (slot : Slot) (idle : Bool) (e : Endpoint × Slot)
    → Has (found_there key now es slot idle).1 e → WasOr key e es
there_was key now es slot true e h = inl (without_was key es e h)
there_was key now es slot false e h = refresh_was key now es e h

found_was : (key : Endpoint) (now : ℕ) (es : Forwards) (a : Option Slot) (b : Option (Endpoint × Slot))
    (e : Endpoint × Slot) → Has (found key now es a b).1 e → WasOr key e es
found_was key now es (Some slot) b e h = there_was key now es slot (is_idle now (key, slot)) e h
found_was key now es None (Some gone) e h = inl (without_idle_was now es e h)
found_was key now es None None e h = inl h

bind_was : (key : Endpoint) (port now : ℕ) (es : Forwards) (a : Option Slot) (e : Endpoint × Slot)
    → Has (bound key port now es a).1 e → WasOr key e es
bind_was key port now es (Some slot) e h = refresh_was key now es e h
bind_was key port now es None e h = bound_was key _ es e h

module _ (s : Settings) (m : Met) (p : Packet) (e : Endpoint × Slot) where
  -- it was there, or the packet comes from its endpoint
  abbrev Was : NatValue → Type 0
  Was x = Has (mappings_in x) e ⊎ (AreBytes p.bytes → ComesFrom s e.0 p)

  was_of : (n : Noted) (es : Forwards) → IsOnWay s m p n → WasOr n.source e es → Was (Mapped es)
  was_of n es k (inl h) = inl h
  was_of n es k (inr q) =
      inr (λ bytes. (
        k.0.flow,
        (outward_flow s p n k.0 k.2).0,
        sym (k.0.source bytes) ∙ q,
        from_inside s p n k.0 k.2,
      ))

  touch_was : (place : Place) (x : NatValue) (n : Noted) (limit : Option ℕ) → TouchKind place x → KnownAt s m p place n
      → Has (mappings_in (followed s n (touched_by limit place x n).0)) e → Was x
  touch_was _ _ n None (finds es) k h =
      was_of n es k (was_before n.source e (found n.source n.time es (slot_of n.source es) (first_idle n.time es)).1 es
      (followed_was s.closing n _ e h)
      (found_was n.source n.time es (slot_of n.source es) (first_idle n.time es) e))
  touch_was _ _ n (Some most) (finds es) k h =
      was_of n es k (was_before n.source e (find_within most n.source n.time es).1 es
      (followed_was s.closing n _ e h)
      (by_find most n.source n.time es (λ (r : Find × Forwards). Has r.1 e → WasOr n.source e es)
      (found_was n.source n.time es (slot_of n.source es) (first_idle n.time es) e)
      (λ gone none q h. inl (without_was gone.0 es e h)) (λ none full h. inl h)))
  touch_was _ _ n None (unbinds_freed bs) k h = absurd h
  touch_was _ _ n (Some most) (unbinds_freed bs) k h = absurd h
  touch_was _ _ n None (gives_freed pool) k h = absurd h
  touch_was _ _ n (Some most) (gives_freed pool) k h = absurd h
  touch_was _ _ n None (reserves pool) k h = absurd h
  touch_was _ _ n (Some most) (reserves pool) k h = absurd h
  touch_was _ _ n None (binds bs) k h = absurd h
  touch_was _ _ n (Some most) (binds bs) k h = absurd h
  touch_was _ _ n None (finds_or_binds es) k h =
      was_of n es k (was_before n.source e (bound n.source n.port n.time es (slot_of n.source es)).1 es
      (followed_was s.closing n _ e h) (bind_was n.source n.port n.time es (slot_of n.source es) e))
  touch_was _ _ n (Some most) (finds_or_binds es) k h =
      was_of n es k (was_before n.source e (bind_within most n.source n.port n.time es).1 es
      (followed_was s.closing n _ e h)
      (by_bind most n.source n.time es n.port (λ (r : Option Bind × Forwards). Has r.1 e → WasOr n.source e es)
      (bind_was n.source n.port n.time es (slot_of n.source es) e) (λ none full h. inl h)))
  touch_was _ _ n None (unbinds_lost bs) k h = absurd h
  touch_was _ _ n (Some most) (unbinds_lost bs) k h = absurd h
  touch_was _ _ n None (gives_lost pool) k h = absurd h
  touch_was _ _ n (Some most) (gives_lost pool) k h = absurd h
  touch_was _ _ n None (counts d) k h = absurd h
  touch_was _ _ n (Some most) (counts d) k h = absurd h

-- what a packet from inside has refreshed when it is sent out
sent_refreshed : (s : Settings) (m : Met) (p : Packet) (n : Noted) (key : Endpoint) → AreBytes p.bytes
    → KnownAt s m p SendsOut n → ComesFrom s key p → HasRefreshed m key
sent_refreshed s m p n key bytes k from = by (from.3)
  where
    base : IsBase s p n
    base = k.0.0

    flow : base.flow ≡ from.0
    flow = same_flow (flow_seen s p) base.flow from.0 base.seen (flow_is_seen s p from.0 from.1)

    class : (c : Class) → class_of_flow s from.0.source from.0.dest ≡ Some c → n.class ≡ c
    class c q =
        let same : Some n.class ≡ Some c =
        sym base.class ∙ class_is_seen s p from.0 from.1 ∙ q in
        cc

    own : n.source ≡ key
    own = base.source bytes ∙ ap source_of flow ∙ from.2

    on : Refreshed m n → HasRefreshed m key
    on r = (
      r.0,
      r.1,
      n.time,
      r.2,
      k.0.1,
      subst (λ (y : Endpoint). Has r.0 (y, r.1)) own (slot_in n.source r.1 r.0 r.3),
      r.4,
    )

    by : (class_of_flow s from.0.source from.0.dest ≡ Some Outbound)
        ⊎ (class_of_flow s from.0.source from.0.dest ≡ Some Hairpin) → HasRefreshed m key
    by (inl q) = on (subst (λ (c : Class). IfOutward c (Refreshed m n)) (class Outbound q) k.1)
    by (inr q) = on (subst (λ (c : Class). IfOutward c (Refreshed m n)) (class Hairpin q) k.1)

module _ (s : Settings) (is : AreSettings s) (packets : List Packet) (value : ℕ → NatValue) (t : ℕ)
    (earlier : List (Step NatValue)) (taken taken_then : ℕ)
    (fits : (v : ℕ) → v < 2 + 2 * s.shards → Fits s v (value v)) (m : Met) where
  module _ (v : ℕ) (e : Endpoint × Slot) where
    abbrev Keeps : Option Hand → Option Hand → Effect NatValue → Type 0
    Keeps before after d =
        Known s m before → Has (mappings_in (left_by v (act_of t earlier taken_then d) (value v))) e
        → Has (mappings_in (value v)) e
        ⊎ ((h : Hand) × (before ≡ Some h) × (AreBytes h.packet.bytes → ComesFrom s e.0 h.packet))

    at_touch : (h : Hand) (w : ℕ) → comes_to s h (Access w) → Known s m (Some h)
        → Has (mappings_in (cond (nat_eq w v)
        (followed s (noted h.place) (touched_by s.limit (at h) (value w) (noted h.place)).0) (value v))) e
        → Has (mappings_in (value v)) e
        ⊎ ((g : Hand) × (Some h ≡ Some g) × (AreBytes g.packet.bytes → ComesFrom s e.0 g.packet))
    at_touch h w move k there = by (is_or w v)
      where
        left : NatValue
        left = followed s (noted h.place) (touched_by s.limit (at h) (value w) (noted h.place)).0

        as_hand : Was s m h.packet e (value w) → w ≡ v
            → Has (mappings_in (value v)) e
            ⊎ ((g : Hand) × (Some h ≡ Some g) × (AreBytes g.packet.bytes → ComesFrom s e.0 g.packet))
        as_hand (inl a) q = inl (subst (λ (u : ℕ). Has (mappings_in (value u)) e) q a)
        as_hand (inr a) q = inr (h, refl, a)

        by : (w ≡ v) ⊎ (w ≢ v)
            → Has (mappings_in (value v)) e
            ⊎ ((g : Hand) × (Some h ≡ Some g) × (AreBytes g.packet.bytes → ComesFrom s e.0 g.packet))
        by (inl q) =
            let below = touched_below s is h w move in
            let kind = touch_kind s is.some (noted h.place) w (value w) (fits w below) (at h) move in
            let now : Has (mappings_in left) e =
            subst (λ (b : Bool). Has (mappings_in (cond b left (value v))) e) (is_eq w v q) there in
            as_hand (touch_was s m h.packet e (at h) (value w) (noted h.place) s.limit kind k now) q
        by (inr q) = inl (subst (λ (b : Bool). Has (mappings_in (cond b left (value v))) e) (not_eq w v q) there)

    move_keeps : (after : Thread) (d : Effect NatValue) (hand : Option Hand) (a : Option ℕ)
        → held_move (nat_meaning s) packets value taken a hand ≡ Moves after d → Keeps hand after.hand d
    move_keeps after d hand a move =
        by_move s packets value taken Keeps (λ p input k h. inl h) (λ h w c k there. at_touch h w c k there)
        (λ h w c k there. inl there) (λ h x c k there. inl there) (λ h x c k there. inl there)
        (λ h c k there. inl there) (λ h c k there. inl there) after d hand a move

  module _ (key : Endpoint) (o : Emission) where
    abbrev Comes : Option Hand → Type 0
    Comes None = ⊥
    Comes (Some h) = AreBytes h.packet.bytes × ComesFrom s key h.packet

    abbrev Refreshes : Option Hand → Option Hand → Effect NatValue → Type 0
    Refreshes before after d =
        Known s m before → act_of t earlier taken_then d ≡ Emitted o → Comes before → HasRefreshed m key

    move_refreshes : (after : Thread) (d : Effect NatValue) (hand : Option Hand) (a : Option ℕ)
        → held_move (nat_meaning s) packets value taken a hand ≡ Moves after d → Refreshes hand after.hand d
    move_refreshes after d hand a move =
        by_move s packets value taken Refreshes (λ p input k e from. absurd (cc)) (λ h w c k e from. absurd (cc))
        (λ h w c k e from. absurd (cc)) (λ h x c k e from. absurd (cc)) (λ h x c k e from. absurd (cc))
        (λ h c k e from.
        sent_refreshed s m h.packet (noted h.place) key from.0
        (subst (λ (place : Place). KnownAt s m h.packet place (noted h.place)) (at_emit s (at h) (noted h.place) c) k)
        from.1) (λ h c k e from. absurd (cc)) after d hand a move

pub hosts_refresh : HostsRefresh
hosts_refresh s threads inputs x earlier v key slot is bytes h there =
    let fits = values_fit (nat_meaning s) (Fits s) (nat_lawful s is) inputs threads earlier h.1 in
    let m : Met = met_of s x.thread earlier in
    let value : ℕ → NatValue = value_after (nat_meaning s) earlier in
    let before : Thread = thread_after earlier x.thread in
    let left : Has (mappings_in (left_by v (act_of x.thread earlier x.after.taken h.0.2) (value v))) (key, slot) =
    subst (λ (y : Act NatValue). Has (mappings_in (left_by v y (value v))) (key, slot)) h.0.4 there in
    by (move_keeps s is (inputs x.thread) value x.thread earlier before.taken x.after.taken fits m v (key, slot) x.after
    h.0.2 before.hand h.0.1 h.0.3 (run_known s threads inputs earlier is h.1 x.thread) left)
  where
    old : Thread
    old = thread_after earlier x.thread

    by : Has (mappings_in (value_after (nat_meaning s) earlier v)) (key, slot)
        ⊎ ((g : Hand) × (old.hand ≡ Some g) × (AreBytes g.packet.bytes → ComesFrom s key g.packet))
        → Has (mappings_in (value_after (nat_meaning s) earlier v)) (key, slot)
        ⊎ ((g : Hand) × (old.hand ≡ Some g) × ComesFrom s key g.packet)
    by (inl a) = inl a
    by (inr a) =
        let held : IsHeld (inputs x.thread) old.taken (Some a.0) =
        subst (IsHeld (inputs x.thread) old.taken) a.1
        (run_holds (nat_meaning s) threads inputs earlier h.1 x.thread) in
        inr (a.0, a.1, a.2 (bytes x.thread (old.taken - 1) a.0.packet held.1))

pub sent_refresh : SentRefresh
sent_refresh s threads inputs x earlier o hand key is bytes h act there from =
    let fits = values_fit (nat_meaning s) (Fits s) (nat_lawful s is) inputs threads earlier h.1 in
    let m : Met = met_of s x.thread earlier in
    let value : ℕ → NatValue = value_after (nat_meaning s) earlier in
    let old : Thread = thread_after earlier x.thread in
    let known = subst (Known s m) there (run_known s threads inputs earlier is h.1 x.thread) in
    let held : IsHeld (inputs x.thread) old.taken (Some hand) =
    subst (IsHeld (inputs x.thread) old.taken) there (run_holds (nat_meaning s) threads inputs earlier h.1 x.thread) in
    let move = subst (λ (y : Option Hand).
    held_move (nat_meaning s) (inputs x.thread) value old.taken h.0.1 y ≡ Moves x.after h.0.2) there h.0.3 in
    move_refreshes s is (inputs x.thread) value x.thread earlier old.taken x.after.taken fits m key o x.after h.0.2
    (Some hand) h.0.1 move known (sym h.0.4 ∙ act) (bytes x.thread (old.taken - 1) hand.packet held.1, from)
