-- A mapping stays until it is idle.
use Rattle.std.proofs.Common.{◌≡◌, ◌≢◌, ℕ, ◌+◌, ◌*◌, ◌<◌, ◌≤◌, Bool, true, false, List, refl, sym, ap, ◌∙◌, subst, ◌⊎◌}
use Rattle.std.proofs.Common.{inl, inr, arith, Option, Some, None}
use Rattle.std.specs.Prelude.{cond, nat_eq}
use Rattle.plain_text.specs.declared.packet.Packet.{Packet}
use Rattle.entry_order.proofs.Order.{is_or}
use Rattle.plain_machine.specs.declared.local.Move.TheVariants.{Access}
use Rattle.plain_machine.specs.Machine.{Hand, Thread, Effect, Moves, held_move}
use Rattle.plain_machine.specs.History.{Step, act_of, left_by, thread_after, value_after}
use Rattle.plain_machine.proofs.Histories.{not_eq, is_eq}
use Rattle.plain_machine.proofs.Bounds.{values_fit}
use Rattle.nat_tables.specs.declared.entries.Endpoint.{Endpoint}
use Rattle.nat_tables.specs.declared.slot.Slot.{Slot}
use Rattle.nat_tables.specs.Forwards.{Forwards, is_idle, slot_of, first_idle, without, found_there, found, bound}
use Rattle.nat_tables.specs.Forwards.{AreMappings}
use Rattle.nat_tables.specs.declared.entries.Find.{Find}
use Rattle.nat_tables.specs.declared.entries.Bind.{Bind}
use Rattle.nat_tables.specs.Hosts.{first_idle_of, find_within, bind_within}
use Rattle.nat_box.specs.declared.place.Place.{Place}
use Rattle.nat_box.specs.declared.place.Noted.{Noted}
use Rattle.nat_box.specs.declared.value.NatValue.{NatValue}
use Rattle.nat_box.specs.declared.value.NatValue.TheVariants.{Mapped}
use Rattle.nat_box.specs.Places.{noted}
use Rattle.nat_box.specs.Settings.{Settings, AreSettings}
use Rattle.nat_box.specs.Nat.{touched_by, followed_by, followed, nat_meaning, MayMap, Fits}
use Rattle.nat_box.specs.Lawful.{nat_lawful}
use Rattle.nat_box.specs.Sentences.{Has, mappings_in}
use Rattle.nat_box.proofs.Making.{comes_to}
use Rattle.nat_runs.specs.Met.{Met, met_of}
use Rattle.nat_runs.specs.Idle.{IsIdle}
use Rattle.nat_runs.specs.Staying.{Stays, IsGoneIdle, MappingsStay}
use Rattle.nat_runs.proofs.MarkedEntries.{followed_has, followed_had}
use Rattle.nat_runs.proofs.Within.{by_find, by_bind, idle_of_host}
use Rattle.nat_runs.proofs.TableEntries.{slot_there, idle_is, IsLater, IsLeftOr, refreshed_in, in_front, left_without}
use Rattle.nat_runs.proofs.TableEntries.{left_without_idle, own_slot}
use Rattle.nat_runs.proofs.ThreadMoves.{TouchKind, finds, unbinds_freed, gives_freed, reserves, binds, finds_or_binds}
use Rattle.nat_runs.proofs.ThreadMoves.{unbinds_lost, gives_lost, counts, touch_kind, at, touched_below, by_move}
use Rattle.nat_runs.proofs.Known.{KnownAt, Known}
use Rattle.nat_runs.proofs.Knowing.{run_known}

module _ (m : Met) (e : Endpoint × Slot) where
  abbrev Kept : NatValue → Type 0
  Kept x = Stays m e.0 e.1 x ⊎ IsGoneIdle m e.0 e.1 x

  unchanged : (x : NatValue) → Has (mappings_in x) e → Kept x
  unchanged x h = inl (e.1, h, refl, omega arith, inl refl)

  module _ (now : ℕ) (clock : m.clock ≡ Some now) where
    last_told : (slot : Slot) → (slot.last ≡ e.1.last) ⊎ (now ≡ slot.last)
        → (slot.last ≡ e.1.last) ⊎ (m.clock ≡ Some slot.last)
    last_told slot (inl q) = inl q
    last_told slot (inr q) = inr (clock ∙ ap Some q)

    stays : (es : Forwards) → IsLater now e es → Kept (Mapped es)
    stays es l = inl (l.0, l.1, l.2, l.3, last_told l.0 l.4)

    stays_or : (Why : Type 0) (es : Forwards) → (Why → IsIdle now e.0 e.1) → IsLeftOr Why e es → Kept (Mapped es)
    stays_or Why es idle (inl h) = unchanged (Mapped es) h
    stays_or Why es idle (inr k) = inr (now, clock, idle k.0, k.1)

    module _ (May : Endpoint → Slot → Type 0) (es : Forwards) (all : AreMappings May es) (h : Has es e) (key : Endpoint)
      where
        there_keeps : (slot : Slot) (i : Bool) → slot_of key es ≡ Some slot → is_idle now (key, slot) ≡ i
            → Kept (Mapped (found_there key now es slot i).1)
        there_keeps slot true q i =
            stays_or _ _ (λ same. subst (λ (z : Endpoint × Slot). IsIdle now z.0 z.1)
            (own_slot May key slot es e all h q same) (idle_is now (key, slot) i)) (left_without May key es e all h)
        there_keeps slot false q i = stays _ (refreshed_in key now es e h)

        found_keeps : (a : Option Slot) (b : Option (Endpoint × Slot)) → slot_of key es ≡ a
            → Kept (Mapped (found key now es a b).1)
        found_keeps (Some slot) b q = there_keeps slot (is_idle now (key, slot)) q refl
        found_keeps None (Some x) q = stays_or _ _ (idle_is now e) (left_without_idle May now es e all h)
        found_keeps None None q = unchanged (Mapped es) h

        -- a host gives up a mapping that is idle
        gives_keeps : (gone : Endpoint × Slot) → first_idle_of key now es ≡ Some gone
            → Kept (Mapped (without gone.0 es))
        gives_keeps gone q =
            let is = idle_of_host key now es gone q in
            stays_or _ _
            (λ same. subst (λ (z : Endpoint × Slot). IsIdle now z.0 z.1)
            (own_slot May gone.0 gone.1 es e all h (slot_there May es gone.0 gone.1 all is.0) same)
            (idle_is now gone is.1)) (left_without May gone.0 es e all h)

        bound_keeps : (port : ℕ) (a : Option Slot) → Kept (Mapped (bound key port now es a).1)
        bound_keeps port (Some slot) = stays _ (refreshed_in key now es e h)
        bound_keeps port None = unchanged (Mapped _) (in_front e es _ h)

  -- and noting a segment keeps it so
  followed_keeps : (c : Option ℕ) (n : Noted) (es : Forwards) → Kept (Mapped es) → Kept (Mapped (followed_by c n es))
  followed_keeps c n es (inl k) =
      let new = followed_has c n es e.0 k.0 k.1 in
      inl (
        new.0,
        new.1,
        new.2 ∙ k.2,
        subst (λ (time : ℕ). e.1.last ≤ time) (sym new.3) k.3,
        subst (λ (time : ℕ). (time ≡ e.1.last) ⊎ (m.clock ≡ Some time)) (sym new.3) k.4,
      )
  followed_keeps c n es (inr k) =
      inr (k.0, k.1, k.2, λ later h. let old = followed_had c n es e.0 later h in k.3 old.0 old.1)

  module _ (s : Settings) (p : Packet) where
    touch_keeps : (v : ℕ) (place : Place) (x : NatValue) (n : Noted) (limit : Option ℕ) → TouchKind place x
        → Fits s v x → KnownAt s m p place n → Has (mappings_in x) e
        → Kept (followed s n (touched_by limit place x n).0)
    touch_keeps v _ _ n None (finds es) fits k h =
        followed_keeps s.closing n (found n.source n.time es (slot_of n.source es) (first_idle n.time es)).1
        (found_keeps n.time k.1 (MayMap s v) es fits.2 h n.source (slot_of n.source es) (first_idle n.time es) refl)
    touch_keeps v _ _ n (Some most) (finds es) fits k h =
        followed_keeps s.closing n (find_within most n.source n.time es).1
        (by_find most n.source n.time es (λ (r : Find × Forwards). Kept (Mapped r.1))
        (found_keeps n.time k.1 (MayMap s v) es fits.2 h n.source (slot_of n.source es) (first_idle n.time es) refl)
        (λ gone none q. gives_keeps n.time k.1 (MayMap s v) es fits.2 h n.source gone q)
        (λ none full. unchanged (Mapped es) h))
    touch_keeps v _ _ n limit (unbinds_freed bs) fits k h = absurd h
    touch_keeps v _ _ n limit (gives_freed pool) fits k h = absurd h
    touch_keeps v _ _ n limit (reserves pool) fits k h = absurd h
    touch_keeps v _ _ n limit (binds bs) fits k h = absurd h
    touch_keeps v _ _ n None (finds_or_binds es) fits k h =
        followed_keeps s.closing n (bound n.source n.port n.time es (slot_of n.source es)).1
        (bound_keeps n.time k.1 (MayMap s v) es fits.2 h n.source n.port (slot_of n.source es))
    touch_keeps v _ _ n (Some most) (finds_or_binds es) fits k h =
        followed_keeps s.closing n (bind_within most n.source n.port n.time es).1
        (by_bind most n.source n.time es n.port (λ (r : Option Bind × Forwards). Kept (Mapped r.1))
        (bound_keeps n.time k.1 (MayMap s v) es fits.2 h n.source n.port (slot_of n.source es))
        (λ none full. unchanged (Mapped es) h))
    touch_keeps v _ _ n limit (unbinds_lost bs) fits k h = absurd h
    touch_keeps v _ _ n limit (gives_lost pool) fits k h = absurd h
    touch_keeps v _ _ n limit (counts d) fits k h = absurd h

module _ (s : Settings) (is : AreSettings s) (packets : List Packet) (value : ℕ → NatValue) (t : ℕ)
    (earlier : List (Step NatValue)) (taken taken_then : ℕ)
    (fits : (v : ℕ) → v < 2 + 2 * s.shards → Fits s v (value v)) (m : Met) (v : ℕ) (e : Endpoint × Slot)
    (there : Has (mappings_in (value v)) e) where
  abbrev Keeps : Option Hand → Option Hand → Effect NatValue → Type 0
  Keeps before after d = Known s m before → Kept m e (left_by v (act_of t earlier taken_then d) (value v))

  at_touch : (h : Hand) (w : ℕ) → comes_to s h (Access w) → Known s m (Some h)
      → Kept m e (cond (nat_eq w v)
      (followed s (noted h.place) (touched_by s.limit (at h) (value w) (noted h.place)).0) (value v))
  at_touch h w move k = by (is_or w v)
    where
      left : NatValue
      left = followed s (noted h.place) (touched_by s.limit (at h) (value w) (noted h.place)).0

      by : (w ≡ v) ⊎ (w ≢ v) → Kept m e (cond (nat_eq w v) left (value v))
      by (inl q) =
          let below = touched_below s is h w move in
          let kind = touch_kind s is.some (noted h.place) w (value w) (fits w below) (at h) move in
          subst (λ (b : Bool). Kept m e (cond b left (value v))) (sym (is_eq w v q))
          (touch_keeps m e s h.packet w (at h) (value w) (noted h.place) s.limit kind (fits w below) k
          (subst (λ (u : ℕ). Has (mappings_in (value u)) e) (sym q) there))
      by (inr q) =
          subst (λ (b : Bool). Kept m e (cond b left (value v))) (sym (not_eq w v q)) (unchanged m e (value v) there)

  move_keeps : (after : Thread) (d : Effect NatValue) (hand : Option Hand) (a : Option ℕ)
      → held_move (nat_meaning s) packets value taken a hand ≡ Moves after d → Keeps hand after.hand d
  move_keeps after d hand a move =
      let same : Kept m e (value v) = unchanged m e (value v) there in
      by_move s packets value taken Keeps (λ p input k. same) (λ h w c k. at_touch h w c k) (λ h w c k. same)
      (λ h x c k. same) (λ h x c k. same) (λ h c k. same) (λ h c k. same) after d hand a move

pub mappings_stay : MappingsStay
mappings_stay s threads inputs x earlier v key slot is h there =
    let fits = values_fit (nat_meaning s) (Fits s) (nat_lawful s is) inputs threads earlier h.1 in
    let m : Met = met_of s x.thread earlier in
    let value : ℕ → NatValue = value_after (nat_meaning s) earlier in
    let kept = move_keeps s is (inputs x.thread) value x.thread earlier (thread_after earlier x.thread).taken
    x.after.taken fits m v (key, slot) there x.after h.0.2 (thread_after earlier x.thread).hand h.0.1 h.0.3
    (run_known s threads inputs earlier is h.1 x.thread) in
    rw h.0.4 kept
