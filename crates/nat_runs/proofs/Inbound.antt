-- An inbound packet changes no table and not the pool.
use Rattle.std.proofs.Common.{◌≡◌, ℕ, ◌+◌, ◌*◌, ◌<◌, ◌≤◌, Bool, false, List, refl, sym, ap, ◌∙◌, subst, ◌⊎◌, inl, inr}
use Rattle.std.proofs.Common.{arith, Option, Some, None}
use Rattle.std.specs.Prelude.{cond, nat_eq}
use Rattle.plain_text.specs.declared.packet.Packet.{Packet}
use Rattle.plain_machine.specs.declared.local.Move.TheVariants.{Access}
use Rattle.plain_machine.specs.Machine.{Hand, Thread, Effect, Moves, held_move}
use Rattle.plain_machine.specs.History.{Step, act_of, left_by, thread_after, value_after}
use Rattle.plain_machine.proofs.Histories.{not_eq}
use Rattle.plain_machine.proofs.Bounds.{values_fit}
use Rattle.nat_box.specs.declared.place.Place.{Place}
use Rattle.nat_box.specs.declared.place.Class.TheVariants.{Inbound}
use Rattle.nat_box.specs.declared.place.Noted.{Noted}
use Rattle.nat_box.specs.declared.value.NatValue.{NatValue}
use Rattle.nat_box.specs.Places.{noted}
use Rattle.nat_box.specs.Settings.{Settings, AreSettings}
use Rattle.nat_box.specs.Nat.{touched_by, followed, nat_meaning, Fits}
use Rattle.nat_box.specs.Ranks.{var_of, touches_it}
use Rattle.nat_box.specs.Lawful.{nat_lawful}
use Rattle.nat_box.proofs.Making.{comes_to}
use Rattle.nat_runs.specs.Met.{Met, met_of}
use Rattle.nat_runs.specs.Inbound.{IsInbound, IsError, InboundChangesNoTable}
use Rattle.nat_box.proofs.SeenAs.{no_error, class_is_seen}
use Rattle.nat_runs.proofs.ThreadMoves.{TouchKind, finds, unbinds_freed, gives_freed, reserves, binds, finds_or_binds}
use Rattle.nat_runs.proofs.ThreadMoves.{unbinds_lost, gives_lost, counts, touch_kind, at, touched_below, by_move}
use Rattle.nat_box.proofs.Translations.{IsOutward}
use Rattle.nat_runs.proofs.Known.{outward_flow, IsOnWay, KnownAt, Known}
use Rattle.nat_runs.proofs.Knowing.{run_known}

-- an inbound packet is not on its way to a mapping of its source
not_on_way : (s : Settings) (m : Met) (p : Packet) (n : Noted) → IsInbound s p ⊎ IsError p → IsOnWay s m p n → ⊥
not_on_way s m p n (inl inbound) on =
    let same : Some n.class ≡ Some Inbound =
    sym on.0.class ∙ class_is_seen s p inbound.0 inbound.1 ∙ inbound.2 in
    let class : n.class ≡ Inbound = cc in
    subst IsOutward class on.2
not_on_way s m p n (inr error) on =
    let both : None ≡ Some error.0 =
    sym (no_error p.bytes p.original on.0.flow (outward_flow s p n on.0 on.2).0) ∙ error.1 in
    absurd (cc)

touches_counts : (s : Settings) (m : Met) (p : Packet) (place : Place) (x : NatValue) (n : Noted) → TouchKind place x
    → IsInbound s p ⊎ IsError p → KnownAt s m p place n → var_of s place n ≡ 0
touches_counts s m p _ _ n (finds es) i k = absurd (not_on_way s m p n i k)
touches_counts s m p _ _ n (unbinds_freed bs) i k = absurd (not_on_way s m p n i k.0)
touches_counts s m p _ _ n (gives_freed pool) i k = absurd (not_on_way s m p n i k.0)
touches_counts s m p _ _ n (reserves pool) i k = absurd (not_on_way s m p n i k.0)
touches_counts s m p _ _ n (binds bs) i k = absurd (not_on_way s m p n i k)
touches_counts s m p _ _ n (finds_or_binds es) i k = absurd (not_on_way s m p n i k)
touches_counts s m p _ _ n (unbinds_lost bs) i k = absurd (not_on_way s m p n i k.0)
touches_counts s m p _ _ n (gives_lost pool) i k = absurd (not_on_way s m p n i k.0)
touches_counts s m p _ _ n (counts d) i k = refl

module _ (s : Settings) (is : AreSettings s) (packets : List Packet) (value : ℕ → NatValue) (t : ℕ)
    (earlier : List (Step NatValue)) (taken taken_then : ℕ)
    (fits : (v : ℕ) → v < 2 + 2 * s.shards → Fits s v (value v)) (m : Met) (v : ℕ) (some : 1 ≤ v) where
  abbrev IfInbound : Option Hand → Type 0
  IfInbound None = ⊥
  IfInbound (Some h) = IsInbound s h.packet ⊎ IsError h.packet

  abbrev Keeps : Option Hand → Option Hand → Effect NatValue → Type 0
  Keeps before after d =
      Known s m before → IfInbound before → left_by v (act_of t earlier taken_then d) (value v) ≡ value v

  at_touch : (h : Hand) (w : ℕ) → comes_to s h (Access w) → Known s m (Some h)
      → IsInbound s h.packet ⊎ IsError h.packet
      → cond (nat_eq w v) (followed s (noted h.place) (touched_by s.limit (at h) (value w) (noted h.place)).0) (value v)
      ≡ value v
  at_touch h w move k inbound =
      let below = touched_below s is h w move in
      let kind = touch_kind s is.some (noted h.place) w (value w) (fits w below) (at h) move in
      let zero_at = touches_counts s m h.packet (at h) (value w) (noted h.place) kind inbound k in
      let it : var_of s (at h) (noted h.place) ≡ w = touches_it s (at h) (noted h.place) w move in
      let none : w ≡ 0 = sym it ∙ zero_at in
      let other : nat_eq w v ≡ false = not_eq w v (λ q. absurd (omega arith)) in
      ap (λ (b : Bool).
      cond b (followed s (noted h.place) (touched_by s.limit (at h) (value w) (noted h.place)).0) (value v)) other

  pub move_keeps : (after : Thread) (d : Effect NatValue) (hand : Option Hand) (a : Option ℕ)
      → held_move (nat_meaning s) packets value taken a hand ≡ Moves after d → Keeps hand after.hand d
  move_keeps after d hand a move =
      by_move s packets value taken Keeps (λ p input k i. refl) (λ h w c k i. at_touch h w c k i) (λ h w c k i. refl)
      (λ h x c k i. refl) (λ h x c k i. refl) (λ h c k i. refl) (λ h c k i. refl) after d hand a move

pub inbound_changes_no_table : InboundChangesNoTable
inbound_changes_no_table s threads inputs x earlier hand is h there inbound v some =
    let fits = values_fit (nat_meaning s) (Fits s) (nat_lawful s is) inputs threads earlier h.1 in
    let m : Met = met_of s x.thread earlier in
    let value : ℕ → NatValue = value_after (nat_meaning s) earlier in
    let known = subst (Known s m) there (run_known s threads inputs earlier is h.1 x.thread) in
    let move = subst (λ (o : Option Hand).
    held_move (nat_meaning s) (inputs x.thread) value (thread_after earlier x.thread).taken h.0.1 o
    ≡ Moves x.after h.0.2) there h.0.3 in
    rw h.0.4 (move_keeps s is (inputs x.thread) value x.thread earlier (thread_after earlier x.thread).taken
    x.after.taken fits m v some x.after h.0.2 (Some hand) h.0.1 move known inbound)
