-- Each drop has the cause of its reason.
use Rattle.std.proofs.Common.{◌≡◌, ℕ, ◌-◌, ◌+◌, ◌%◌, ◌^◌, ◌<◌, List, refl, sym, ap, ◌∙◌, subst, inl, inr, Option, Some}
use Rattle.std.specs.Prelude.{slice_index, slice_set}
use Rattle.plain_text.specs.declared.packet.Packet.{Packet}
use Rattle.entry_order.specs.declared.what.What.TheVariants.{Access}
use Rattle.entry_order.specs.Log.{Entry, places}
use Rattle.plain_machine.specs.Machine.{Hand, Thread, Effect, Takes, Touches, Looks, HearsClock, HearsDraw, Sends}
use Rattle.plain_machine.specs.Machine.{Ends as EndsIt}
use Rattle.plain_machine.specs.History.{Did, Step, log_of, entry_of, act_of, thread_after, value_after}
use Rattle.plain_machine.proofs.Bounds.{values_fit}
use Rattle.balancer_box.specs.declared.place.Place.{Place}
use Rattle.balancer_box.specs.declared.place.Place.TheVariants.{CountsDrop}
use Rattle.balancer_box.specs.declared.place.Noted.{Noted}
use Rattle.balancer_box.specs.declared.value.BalancerValue.{BalancerValue}
use Rattle.balancer_box.specs.declared.value.BalancerValue.TheVariants.{Dropped, Loaded, Connected}
use Rattle.balancer_box.specs.Places.{place_numbered}
use Rattle.balancer_box.specs.Settings.{Settings, AreSettings}
use Rattle.balancer_box.specs.Balancer.{touched, noted_by, balancer_meaning, Fits}
use Rattle.balancer_box.specs.Lawful.{balancer_lawful}
use Rattle.balancer_box.specs.Emissions.{Trail, trail_of}
use Rattle.balancer_box.proofs.Making.{Made, made}
use Rattle.balancer_runs.specs.Packets.{drop_counts, outcomes}
use Rattle.balancer_runs.specs.Causes.{HasCause, DropsHaveCauses}
use Rattle.balancer_runs.specs.Choosing.{loads_met}
use Rattle.balancer_runs.proofs.Settling.{IsReason, IsPlaced, Placed, IsCounted, touch_of, run_placed}
use Rattle.balancer_runs.proofs.Vanishing.{HasTen, counted_once, run_kept}
use Rattle.balancer_runs.proofs.Known.{KnownAt, Known}
use Rattle.balancer_runs.proofs.Knowing.{run_known}

-- one count more, of this reason
abbrev pub IsOneMore : ℕ → List ℕ → List ℕ → Type 0
IsOneMore reason old new = new ≡ slice_set old (reason - 1) ((slice_index old (reason - 1) + 1) % 2 ^ 64)

pub counts_more : (c : Option ℕ) (x : BalancerValue) (n : Noted) → HasTen x → IsReason n.reason
    → IsOneMore n.reason (drop_counts x) (drop_counts (touched c CountsDrop x n).0)
counts_more c (Dropped d) n ten is = counted_once n.reason d is
counts_more c (Loaded loads) n ten is = absurd ten
counts_more c (Connected es) n ten is = absurd ten

-- a touch of a variable is the effect of its step
pub touches_it : {V : Type 0} (t taken v : ℕ) (earlier : List (Step V)) (d : Effect V) (entry : Entry) (place : ℕ)
    (left : V) → act_of t earlier taken d ≡ Did entry (Some left) → entry.what ≡ Access v place → d ≡ Touches v left
touches_it t taken v earlier Takes entry place left e w = absurd (cc)
touches_it t taken v earlier (Touches u x) entry place left e w =
    let k : entry_of t (log_of earlier) (Access u (places u (log_of earlier) + 1)) ≡ entry = cc in
    let q : Access u (places u (log_of earlier) + 1) ≡ Access v place = ap (λ (f : Entry). f.what) k ∙ w in
    let a : u ≡ v = cc in
    let b : x ≡ left = cc in
    λ i. Touches (a i) (b i)
touches_it t taken v earlier (Looks u) entry place left e w = absurd (cc)
touches_it t taken v earlier (HearsClock a) entry place left e w = absurd (cc)
touches_it t taken v earlier (HearsDraw a) entry place left e w = absurd (cc)
touches_it t taken v earlier (Sends q) entry place left e w = absurd (cc)
touches_it t taken v earlier EndsIt entry place left e w = absurd (cc)

module _ (s : Settings) (is : AreSettings s) (packets : List Packet) (t taken taken_then : ℕ)
    (earlier : List (Step BalancerValue)) (value : ℕ → BalancerValue)
    (fits : (v : ℕ) → v < 2 + s.shards → Fits s v (value v)) (before after : Option Hand) (had : ℕ) (r : Trail)
    (met : Option (List ℕ × List ℕ)) (ten : HasTen (value 0)) (placed : Placed s had before)
    (known : Known s r met before) where
  deed_causes : (left : BalancerValue) → Made s packets taken value before after (Touches 0 left)
      → (h : Hand) × (reason : ℕ) × (before ≡ Some h) × HasCause s r h.packet reason
      × IsOneMore reason (drop_counts (value 0)) (drop_counts left)
  deed_causes left m =
      by (touch_of s is packets t taken taken_then earlier value fits before after had m.0 0 m.2)
    where
      h : Hand
      h = m.0

      n : Noted
      n = noted_by s h.place

      by : IsCounted 0 (place_numbered h.place.at) (value 0) n
          (touched s.closing (place_numbered h.place.at) (value 0) n)
          → (h : Hand) × (reason : ℕ) × (before ≡ Some h) × HasCause s r h.packet reason
          × IsOneMore reason (drop_counts (value 0)) (drop_counts left)
      by (inl k) = absurd (k.0 refl)
      by (inr k) =
          let at : place_numbered h.place.at ≡ CountsDrop = k.1 in
          let here : IsPlaced had (place_numbered h.place.at) n.reason = subst (Placed s had) m.1 placed in
          let reason : IsReason n.reason = (subst (λ (p : Place). IsPlaced had p n.reason) at here).1 in
          let cause : HasCause s r h.packet n.reason =
          subst (λ (p : Place). KnownAt s r met h.packet p n) at (subst (Known s r met) m.1 known) in
          let same : left ≡ (touched s.closing CountsDrop (value 0) n).0 =
          m.3 ∙ ap (λ (p : Place). (touched s.closing p (value 0) n).0) at in
          let more : IsOneMore n.reason (drop_counts (value 0))
          (drop_counts (touched s.closing CountsDrop (value 0) n).0) =
          counts_more s.closing (value 0) n ten reason in
          (h, n.reason, m.1, cause, ap drop_counts same ∙ more)

pub drops_have : DropsHaveCauses
drops_have s threads inputs x earlier entry place left is bytes h act what =
    let value : ℕ → BalancerValue = value_after (balancer_meaning s) earlier in
    let old : Thread = thread_after earlier x.thread in
    let m = made s (inputs x.thread) value old.taken x.after h.0.2 old.hand h.0.1 h.0.3 in
    let fits = values_fit (balancer_meaning s) (Fits s) (balancer_lawful s is) inputs threads earlier h.1 in
    let same : h.0.2 ≡ Touches 0 left =
    touches_it x.thread x.after.taken 0 earlier h.0.2 entry place left (sym h.0.4 ∙ act) what in
    let touch : Made s (inputs x.thread) old.taken value old.hand x.after.hand (Touches 0 left) =
    subst (λ (d : Effect BalancerValue). Made s (inputs x.thread) old.taken value old.hand x.after.hand d) same m in
    deed_causes s is (inputs x.thread) x.thread old.taken x.after.taken earlier value fits old.hand x.after.hand
    (outcomes x.thread earlier) (trail_of s x.thread earlier) (loads_met s x.thread earlier)
    (run_kept s threads inputs earlier is h.1).0 (run_placed s threads inputs earlier is h.1 x.thread)
    (run_known s threads inputs earlier is bytes h.1 x.thread) left touch
