-- The reason of a drop stands in its register when the packet comes to its end.
use Rattle.std.proofs.Common.{◌≡◌, ℕ, ◌-◌, ◌+◌, ◌%◌, ◌^◌, ◌<◌, Bool, List, ◌∷◌, refl, sym, ap, ◌∙◌, subst, inl}
use Rattle.std.proofs.Common.{inr, Option, Some}
use Rattle.std.specs.Prelude.{cond}
use Rattle.plain_text.specs.declared.packet.Packet.{Packet}
use Rattle.plain_machine.specs.declared.local.Move.TheVariants.{End}
use Rattle.plain_machine.specs.Machine.{Hand, Thread, Effect, Touches}
use Rattle.plain_machine.specs.History.{Step, thread_after, value_after}
use Rattle.plain_machine.proofs.Bounds.{values_fit}
use Rattle.plain_machine.proofs.Histories.{is_eq}
use Rattle.balancer_box.specs.declared.place.Place.{Place}
use Rattle.balancer_box.specs.declared.place.Place.TheVariants.{CountsDrop, Ends}
use Rattle.balancer_box.specs.declared.place.Noted.{Noted}
use Rattle.balancer_box.specs.declared.place.Goes.{Goes}
use Rattle.balancer_box.specs.declared.value.BalancerValue.{BalancerValue}
use Rattle.balancer_box.specs.declared.value.BalancerValue.TheVariants.{Dropped, Loaded, Connected}
use Rattle.balancer_box.specs.Places.{place_numbered}
use Rattle.balancer_box.specs.Settings.{Settings, AreSettings}
use Rattle.balancer_box.specs.Balancer.{goes, local_at, touched, noted_by, balancer_meaning, Fits}
use Rattle.balancer_box.specs.Lawful.{balancer_lawful}
use Rattle.balancer_box.proofs.Making.{Made, goes_on, made}
use Rattle.balancer_runs.specs.Packets.{drop_counts, outcomes}
use Rattle.balancer_runs.specs.Reasons.{ReasonsStand, reason_in}
use Rattle.balancer_runs.proofs.DropCauses.{IsOneMore, counts_more, touches_it}
use Rattle.balancer_runs.proofs.Settling.{IsReason, IsPlaced, Placed, IsCounted, touch_of, run_placed}
use Rattle.balancer_runs.proofs.Vanishing.{HasTen, run_kept}

ends_there : (c : Option ℕ) (x : BalancerValue) (n : Noted) → (touched c CountsDrop x n).1 ≡ goes Ends n
ends_there c (Dropped d) n = refl
ends_there c (Loaded loads) n = refl
ends_there c (Connected es) n = refl

-- what a count leaves
abbrev Stands : Settings → BalancerValue → BalancerValue → Option Hand → Type 0
Stands s x left after =
    (h : Hand) × (after ≡ Some h) × IsOneMore (reason_in h) (drop_counts x) (drop_counts left)
    × ((balancer_meaning s).next h.place ≡ End)

module _ (s : Settings) (is : AreSettings s) (packets : List Packet) (t taken taken_then : ℕ)
    (earlier : List (Step BalancerValue)) (value : ℕ → BalancerValue)
    (fits : (v : ℕ) → v < 2 + s.shards → Fits s v (value v)) (before after : Option Hand) (had : ℕ)
    (ten : HasTen (value 0)) (placed : Placed s had before) where
  deed_stands : (left : BalancerValue) → Made s packets taken value before after (Touches 0 left)
      → Stands s (value 0) left after
  deed_stands left m = by (touch_of s is packets t taken taken_then earlier value fits before after had m.0 0 m.2)
    where
      h : Hand
      h = m.0

      n : Noted
      n = noted_by s h.place

      by : IsCounted 0 (place_numbered h.place.at) (value 0) n
          (touched s.closing (place_numbered h.place.at) (value 0) n) → Stands s (value 0) left after
      by (inl k) = absurd (k.0 refl)
      by (inr k) =
          let at : place_numbered h.place.at ≡ CountsDrop = k.1 in
          let here : IsPlaced had (place_numbered h.place.at) n.reason = subst (Placed s had) m.1 placed in
          let reason : IsReason n.reason = (subst (λ (p : Place). IsPlaced had p n.reason) at here).1 in
          let same : left ≡ (touched s.closing CountsDrop (value 0) n).0 =
          m.3 ∙ ap (λ (p : Place). (touched s.closing p (value 0) n).0) at in
          let goes_there : (touched s.closing (place_numbered h.place.at) (value 0) n).1 ≡ goes Ends n =
          ap (λ (p : Place). (touched s.closing p (value 0) n).1) at ∙ ends_there s.closing (value 0) n in
          let more : IsOneMore n.reason (drop_counts (value 0))
          (drop_counts (touched s.closing CountsDrop (value 0) n).0) =
          counts_more s.closing (value 0) n ten reason in (
            record { packet = h.packet; place = local_at (goes Ends n) },
            m.4 ∙ ap (goes_on h) goes_there,
            ap drop_counts same ∙ more,
            refl,
          )

pub reasons_stand : ReasonsStand
reasons_stand s threads inputs x earlier entry place left is h act what =
    let value : ℕ → BalancerValue = value_after (balancer_meaning s) earlier in
    let old : Thread = thread_after earlier x.thread in
    let m = made s (inputs x.thread) value old.taken x.after h.0.2 old.hand h.0.1 h.0.3 in
    let fits = values_fit (balancer_meaning s) (Fits s) (balancer_lawful s is) inputs threads earlier h.1 in
    let same : h.0.2 ≡ Touches 0 left =
    touches_it x.thread x.after.taken 0 earlier h.0.2 entry place left (sym h.0.4 ∙ act) what in
    let touch : Made s (inputs x.thread) old.taken value old.hand x.after.hand (Touches 0 left) =
    subst (λ (d : Effect BalancerValue). Made s (inputs x.thread) old.taken value old.hand x.after.hand d) same m in
    let c = deed_stands s is (inputs x.thread) x.thread old.taken x.after.taken earlier value fits old.hand x.after.hand
    (outcomes x.thread earlier) (run_kept s threads inputs earlier is h.1).0
    (run_placed s threads inputs earlier is h.1 x.thread) left touch in
    let there : (thread_after (x ∷ earlier) x.thread).hand ≡ Some c.0 =
    ap (λ (b : Bool). (cond b x.after old).hand) (is_eq x.thread x.thread refl) ∙ c.1 in
    (c.0, there, c.2, c.3)
