-- Each drop that is counted has its cause.
use Rattle.std.proofs.Common.{◌≡◌, ℕ, ◌+◌, ◌*◌, ◌-◌, ◌<◌, Bool, List, refl, sym, ap, ◌∙◌, subst, true, ◌⊎◌, arith}
use Rattle.std.proofs.Common.{Option, Some, None}
use Rattle.std.specs.Prelude.{cond, nat_eq}
use Rattle.plain_text.specs.declared.packet.Packet.{Packet}
use Rattle.entry_order.specs.Log.{Entry, places}
use Rattle.entry_order.specs.declared.what.What.{What}
use Rattle.entry_order.specs.declared.what.What.TheVariants.{Access as Accessed, Read as WasRead, Clock as Heard}
use Rattle.entry_order.specs.declared.what.What.TheVariants.{Draw as Drew}
use Rattle.entry_order.proofs.Order.{touch_only}
use Rattle.packet_headers.specs.Fields.{AreBytes}
use Rattle.plain_machine.specs.declared.local.Move.TheVariants.{Access}
use Rattle.plain_machine.specs.Machine.{Hand, Thread, Effect, Touches, Moves, held_move}
use Rattle.plain_machine.specs.History.{Act, Did, Step, act_of, entry_of, log_of, left_by, thread_after, value_after}
use Rattle.plain_machine.proofs.Histories.{is_eq}
use Rattle.plain_machine.proofs.Bounds.{values_fit}
use Rattle.nat_box.specs.declared.place.Place.{Place}
use Rattle.nat_box.specs.declared.place.Noted.{Noted}
use Rattle.flow_boxes.specs.declared.drops.Drops.{Drops}
use Rattle.nat_box.specs.declared.value.NatValue.{NatValue}
use Rattle.nat_box.specs.declared.value.NatValue.TheVariants.{Dropped}
use Rattle.nat_box.specs.Places.{noted, drop_reason}
use Rattle.nat_box.specs.Settings.{Settings, AreSettings}
use Rattle.nat_box.specs.Nat.{touched_by, followed, nat_meaning, Fits}
use Rattle.nat_box.specs.Ranks.{var_of, touches_it}
use Rattle.nat_box.specs.Lawful.{nat_lawful}
use Rattle.flow_boxes.proofs.HeldInputs.{IsHeld, run_holds}
use Rattle.nat_box.proofs.Making.{comes_to}
use Rattle.nat_runs.specs.Met.{Met, met_of}
use Rattle.nat_runs.specs.Causes.{Cause, one_more, DropsHaveCauses}
use Rattle.nat_runs.specs.FullHosts.{HasChangedNothing, has_drawn}
use Rattle.nat_runs.proofs.DropCounts.{drop_is}
use Rattle.nat_runs.proofs.ThreadMoves.{TouchKind, finds, unbinds_freed, gives_freed, reserves, binds, finds_or_binds}
use Rattle.nat_runs.proofs.ThreadMoves.{unbinds_lost, gives_lost, counts, touch_kind, at, touched_below, by_move}
use Rattle.nat_runs.proofs.ThreadMoves.{entry_is}
use Rattle.nat_runs.proofs.FullHosts.{FullAt, Full, run_full}
use Rattle.nat_runs.proofs.Known.{KnownAt, Known}
use Rattle.nat_runs.proofs.Knowing.{run_known}

-- what a count leaves, and its cause
abbrev Counted : Settings → Met → Type 0 → Bool → Packet → NatValue → NatValue → Type 0
Counted s m U drew p x left =
    (d : Drops) × (reason : ℕ) × (x ≡ Dropped d) × (left ≡ Dropped (one_more reason d))
    × (AreBytes p.bytes → Cause s p m reason) × (reason ≡ 10 → U ⊎ (drew ≡ true))

counted : (s : Settings) (m : Met) (U : Type 0) (drew : Bool) (p : Packet) (place : Place) (x : NatValue) (n : Noted)
    (limit : Option ℕ) → TouchKind place x → var_of s place n ≡ 0 → KnownAt s m p place n → FullAt s m U drew place n
    → Counted s m U drew p x (followed s n (touched_by limit place x n).0)
counted s m U drew p _ _ n limit (finds es) e k full = absurd (omega arith)
counted s m U drew p _ _ n limit (unbinds_freed bs) e k full = absurd (omega arith)
counted s m U drew p _ _ n limit (gives_freed pool) e k full = absurd (omega arith)
counted s m U drew p _ _ n limit (reserves pool) e k full = absurd (omega arith)
counted s m U drew p _ _ n limit (binds bs) e k full = absurd (omega arith)
counted s m U drew p _ _ n limit (finds_or_binds es) e k full = absurd (omega arith)
counted s m U drew p _ _ n limit (unbinds_lost bs) e k full = absurd (omega arith)
counted s m U drew p _ _ n limit (gives_lost pool) e k full = absurd (omega arith)
counted s m U drew p _ _ n None (counts d) e k full =
    (d, drop_reason n, refl, ap Dropped (drop_is (drop_reason n) d k.0 k.1), k.2, full)
counted s m U drew p _ _ n (Some most) (counts d) e k full =
    (d, drop_reason n, refl, ap Dropped (drop_is (drop_reason n) d k.0 k.1), k.2, full)

module _ (s : Settings) (is : AreSettings s) (packets : List Packet) (value : ℕ → NatValue) (t : ℕ)
    (earlier : List (Step NatValue)) (taken taken_then : ℕ)
    (fits : (v : ℕ) → v < 2 + 2 * s.shards → Fits s v (value v)) (m : Met) (U : Type 0) (drew : Bool) (entry : Entry)
    (left : Option NatValue) (place : ℕ) (what : entry.what ≡ Accessed 0 place) where
  abbrev Counts : Option Hand → Option Hand → Effect NatValue → Type 0
  Counts before after d =
      Known s m before → Full s m U drew before → act_of t earlier taken_then d ≡ Did entry left
      → (h : Hand) × (before ≡ Some h)
      × Counted s m U drew h.packet (value 0) (left_by 0 (act_of t earlier taken_then d) (value 0))

  at_touch : (h : Hand) (w : ℕ) (after : NatValue)
      → after ≡ followed s (noted h.place) (touched_by s.limit (at h) (value w) (noted h.place)).0
      → comes_to s h (Access w) → Known s m (Some h) → Full s m U drew (Some h)
      → act_of t earlier taken_then (Touches w after) ≡ Did entry left
      → Counted s m U drew h.packet (value 0) (cond (nat_eq w 0) after (value 0))
  at_touch h w after q move k full e =
      let this : Entry = entry_of t (log_of earlier) (Accessed w (places w (log_of earlier) + 1)) in
      let both : Accessed w (places w (log_of earlier) + 1) ≡ Accessed 0 place =
      entry_is this entry (Some after) left e ∙ what in
      let none : w ≡ 0 = (touch_only _ _ _ _ both).0 in
      let below = touched_below s is h w move in
      let kind = touch_kind s is.some (noted h.place) w (value w) (fits w below) (at h) move in
      let it : var_of s (at h) (noted h.place) ≡ w = touches_it s (at h) (noted h.place) w move in
      let c : Counted s m U drew h.packet (value w) after =
      subst (Counted s m U drew h.packet (value w)) (sym q)
      (counted s m U drew h.packet (at h) (value w) (noted h.place) s.limit kind (it ∙ none) k full) in
      subst (λ (b : Bool). Counted s m U drew h.packet (value 0) (cond b after (value 0))) (sym (is_eq w 0 none))
      (subst (λ (u : ℕ). Counted s m U drew h.packet (value u) after) none c)

  not_read : (v after : ℕ) → WasRead v after ≡ Accessed 0 place → ⊥
  not_read v after e = absurd (cc)

  not_heard : (a : ℕ) → Heard a ≡ Accessed 0 place → ⊥
  not_heard a e = absurd (cc)

  not_drew : (a : ℕ) → Drew a ≡ Accessed 0 place → ⊥
  not_drew a e = absurd (cc)

  what_of : (w : What) → Did (entry_of t (log_of earlier) w) None ≡ Did entry left → w ≡ Accessed 0 place
  what_of w e = entry_is (entry_of t (log_of earlier) w) entry None left e ∙ what

  pub move_counts : (after : Thread) (d : Effect NatValue) (hand : Option Hand) (a : Option ℕ)
      → held_move (nat_meaning s) packets value taken a hand ≡ Moves after d → Counts hand after.hand d
  move_counts after d hand a move = by_move s packets value taken Counts (λ p input k u e. absurd (cc))
      (λ h w c k u e. (
        h,
        refl,
        at_touch h w (followed s (noted h.place) (touched_by s.limit (at h) (value w) (noted h.place)).0) refl c k u e,
      )) (λ h w c k u e. absurd (not_read w (places w (log_of earlier)) (what_of (WasRead w (places w (log_of earlier)))
      e)))
      (λ h x c k u e. absurd (not_heard x (what_of (Heard x) e))) (λ h x c k u e. absurd (not_drew x (what_of (Drew x)
      e)))
      (λ h c k u e. absurd (cc)) (λ h c k u e. absurd (cc)) after d hand a move

pub drops_have_causes : DropsHaveCauses
drops_have_causes s threads inputs x earlier entry left place is bytes h act what =
    let fits = values_fit (nat_meaning s) (Fits s) (nat_lawful s is) inputs threads earlier h.1 in
    let m : Met = met_of s x.thread earlier in
    let value : ℕ → NatValue = value_after (nat_meaning s) earlier in
    let before : Thread = thread_after earlier x.thread in
    let c = move_counts s is (inputs x.thread) value x.thread earlier before.taken x.after.taken fits m
    (HasChangedNothing s x.thread earlier) (has_drawn x.thread earlier) entry left place what x.after h.0.2 before.hand
    h.0.1 h.0.3 (run_known s threads inputs earlier is h.1 x.thread) (run_full s threads inputs earlier is h.1 x.thread)
    (sym h.0.4 ∙ act) in
    let held : IsHeld (inputs x.thread) before.taken (Some c.0) =
    subst (IsHeld (inputs x.thread) before.taken) c.1 (run_holds (nat_meaning s) threads inputs earlier h.1 x.thread) in
    let moved : left_by 0 x.act (value 0) ≡ Dropped (one_more c.2.1 c.2.0) =
    ap (λ (y : Act NatValue). left_by 0 y (value 0)) h.0.4 ∙ c.2.3 in (
      c.0,
      c.2.0,
      c.2.1,
      c.1,
      c.2.2,
      moved,
      c.2.4 (bytes x.thread (before.taken - 1) c.0.packet held.1),
      c.2.5,
    )
