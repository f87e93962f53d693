-- A touch of a connection table, by the packet in hand.
use Rattle.std.proofs.Common.{◌≡◌, ℕ, ◌+◌, ◌<◌, Bool, List, ◌∷◌, sym, ap, ◌∙◌, subst, Option, Some, None}
use Rattle.std.specs.Prelude.{nat_eq, cond}
use Rattle.plain_text.specs.declared.packet.Packet.{Packet}
use Rattle.entry_order.specs.Log.{Entry, places}
use Rattle.entry_order.specs.declared.what.What.TheVariants.{Access as Accessed, Clock as Heard}
use Rattle.entry_order.proofs.Order.{touch_only}
use Rattle.plain_machine.specs.declared.local.Move.TheVariants.{Access}
use Rattle.plain_machine.specs.Machine.{Hand, Thread, Effect, Takes, Touches, Looks, HearsClock, HearsDraw, Sends}
use Rattle.plain_machine.specs.Machine.{Ends as EndsIt}
use Rattle.plain_machine.specs.History.{Act, Did, Step, act_of, entry_of, log_of, left_by, thread_after, value_after}
use Rattle.plain_machine.specs.History.{IsHistory}
use Rattle.plain_machine.proofs.Histories.{is_eq}
use Rattle.plain_machine.proofs.Bounds.{values_fit}
use Rattle.nat_tables.specs.Forwards.{Forwards}
use Rattle.flow_boxes.specs.Flows.{HaveBytes}
use Rattle.balancer_box.specs.declared.value.BalancerValue.{BalancerValue}
use Rattle.balancer_box.specs.declared.value.BalancerValue.TheVariants.{Connected}
use Rattle.balancer_box.specs.Places.{place_numbered}
use Rattle.balancer_box.specs.Settings.{Settings, AreSettings}
use Rattle.balancer_box.specs.Balancer.{next_move, touched, noted_by, balancer_meaning, Fits}
use Rattle.balancer_box.specs.Lawful.{balancer_lawful}
use Rattle.balancer_box.specs.Emissions.{Trail, trail_of}
use Rattle.balancer_box.proofs.Making.{Made, made}
use Rattle.balancer_runs.specs.Choosing.{loads_met}
use Rattle.balancer_runs.proofs.Known.{KnownAt, Known}
use Rattle.balancer_runs.proofs.Knowing.{run_known}
use Rattle.balancer_runs.proofs.Connections.{touch_is}

-- the packet comes to a touch of this table, where what is known of it holds, and leaves this value
pub record IsTouched (s : Settings) (r : Trail) (loads : Option (List ℕ × List ℕ)) (v : ℕ) (es : Forwards)
    (after : BalancerValue) (h : Hand) : Type 0 where
  pub move : next_move s (place_numbered h.place.at) (noted_by s h.place) ≡ Access v
  pub fits : Fits s v (Connected es)
  pub known : KnownAt s r loads h.packet (place_numbered h.place.at) (noted_by s h.place)
  pub left : after ≡ (touched s.closing (place_numbered h.place.at) (Connected es) (noted_by s h.place)).0

module _ (s : Settings) (is : AreSettings s) (packets : List Packet) (t taken taken_then : ℕ)
    (value : ℕ → BalancerValue) (before after : Option Hand) (earlier : List (Step BalancerValue)) (r : Trail)
    (loads : Option (List ℕ × List ℕ)) (known : Known s r loads before) (v : ℕ) (fits : Fits s v (value v))
    (entry : Entry) (left_then : Option BalancerValue) (place : ℕ) (what : entry.what ≡ Accessed v place)
    (es : Forwards) (table : value v ≡ Connected es) (h : Hand) (held : before ≡ Some h) where
  entry_is : (a b : Entry) (l m : Option BalancerValue) → Did a l ≡ Did b m → a.what ≡ b.what
  entry_is a b l m e = let one : a ≡ b = cc in ap (λ (x : Entry). x.what) one

  not_heard : (a : ℕ) → Heard a ≡ Accessed v place → ⊥
  not_heard a e = absurd (cc)

  deed_touches : (d : Effect BalancerValue) → act_of t earlier taken_then d ≡ Did entry left_then
      → Made s packets taken value before after d
      → IsTouched s r loads v es (left_by v (act_of t earlier taken_then d) (value v)) h
  deed_touches Takes e m = absurd (cc)
  deed_touches (Looks w) e m = absurd m
  deed_touches (HearsClock a) e m =
      absurd (not_heard a (entry_is (entry_of t (log_of earlier) (Heard a)) entry None left_then e ∙ what))
  deed_touches (HearsDraw a) e m = absurd m
  deed_touches (Sends q) e m = absurd (cc)
  deed_touches EndsIt e m = absurd (cc)
  deed_touches (Touches w left) e m =
      let this : Entry = entry_of t (log_of earlier) (Accessed w (places w (log_of earlier) + 1)) in
      let both : Accessed w (places w (log_of earlier) + 1) ≡ Accessed v place =
      entry_is this entry (Some left) left_then e ∙ what in
      let one : w ≡ v = (touch_only _ _ _ _ both).0 in
      let k = touch_is s is packets t taken taken_then value before after earlier r loads known v fits w left m one in
      let same_hand : k.0 ≡ h = (let two : Some k.0 ≡ Some h = sym k.1 ∙ held in cc) in
      let newest : cond (nat_eq w v) left (value v) ≡ left =
      ap (λ (b : Bool). cond b left (value v)) (is_eq w v one) in
      let there : left ≡ (touched s.closing (place_numbered k.0.place.at) (Connected es) (noted_by s k.0.place)).0 =
      k.3 ∙ ap (λ (y : BalancerValue).
      (touched s.closing (place_numbered k.0.place.at) y (noted_by s k.0.place)).0) table in
      subst (IsTouched s r loads v es (cond (nat_eq w v) left (value v))) same_hand
      (record { move = k.2; fits = subst (Fits s v) table fits; known = k.4; left = newest ∙ there })

pub table_touched : (s : Settings) (threads : ℕ) (inputs : ℕ → List Packet) (x : Step BalancerValue)
    (earlier : List (Step BalancerValue)) (entry : Entry) (left : Option BalancerValue) (v place : ℕ) (h : Hand)
    (es : Forwards) → AreSettings s → HaveBytes inputs
    → IsHistory (balancer_meaning s) inputs threads (x ∷ earlier) → x.act ≡ Did entry left
    → entry.what ≡ Accessed v place → v < 2 + s.shards → (thread_after earlier x.thread).hand ≡ Some h
    → value_after (balancer_meaning s) earlier v ≡ Connected es
    → IsTouched s (trail_of s x.thread earlier) (loads_met s x.thread earlier) v es
    (value_after (balancer_meaning s) (x ∷ earlier) v) h
table_touched s threads inputs x earlier entry left v place h es is bytes run act what low held table =
    let value : ℕ → BalancerValue = value_after (balancer_meaning s) earlier in
    let old : Thread = thread_after earlier x.thread in
    let r : Trail = trail_of s x.thread earlier in
    let loads : Option (List ℕ × List ℕ) = loads_met s x.thread earlier in
    let m = made s (inputs x.thread) value old.taken x.after run.0.2 old.hand run.0.1 run.0.3 in
    let fits = values_fit (balancer_meaning s) (Fits s) (balancer_lawful s is) inputs threads earlier run.1 v low in
    subst (λ (y : Act BalancerValue). IsTouched s r loads v es (left_by v y (value v)) h) (sym run.0.4)
    (deed_touches s is (inputs x.thread) x.thread old.taken x.after.taken value old.hand x.after.hand earlier r loads
    (run_known s threads inputs earlier is bytes run.1 x.thread) v fits entry left place what es table h held run.0.2
    (sym run.0.4 ∙ act) m)
