-- Each packet of the capture has one outcome, where a script ends in a settling.
use Rattle.std.proofs.Common.{◌≡◌, ◌≢◌, ℕ, ◌+◌, ◌≤◌, Bool, true, false, List, [], ◌∷◌, ◌++◌, refl, sym, ap}
use Rattle.std.proofs.Common.{◌∙◌, subst, inl, inr, ◌⊎◌, arith, Some}
use Rattle.std.specs.Prelude.{All, nat_eq, cond, ◌&&◌, slice_get, if◌then◌else◌}
use Rattle.std.proofs.lemmas.Option.{slice_get_within}
use Rattle.plain_text.specs.Octets.{IsOfBytes}
use Rattle.plain_text.specs.declared.packet.Packet.{Packet}
use Rattle.entry_order.specs.Log.{Entry, places}
use Rattle.entry_order.specs.declared.what.What.TheVariants.{Access}
use Rattle.entry_order.proofs.Order.{is_or}
use Rattle.plain_machine.specs.declared.plain_move.PlainMove.{PlainMove}
use Rattle.plain_machine.specs.Machine.{Effect, Takes, Touches, Looks, HearsClock, HearsDraw, Sends, Ends}
use Rattle.plain_machine.specs.History.{Act, Did, Step, log_of, act_of, entry_of, IsHistory}
use Rattle.plain_machine.specs.Agree.{IsEarlier}
use Rattle.plain_machine.proofs.Histories.{not_eq, is_eq, earlier_history}
use Rattle.tagged_frames.specs.Tags.{behind_tag}
use Rattle.tagged_box.specs.Tags.{steps_behind}
use Rattle.recovery_world.specs.declared.event.Event.{Event}
use Rattle.recovery_world.specs.declared.event.Event.TheVariants.{Settle}
use Rattle.recovery_world.specs.World.{Setting, Sent, World, inputs_fed, all_inputs}
use Rattle.recovery_world.specs.Events.{IsAmong}
use Rattle.recovery_world.specs.Files.{Leaves}
use Rattle.recovery_laws.proofs.Worlds.{fed_found}
use Rattle.settled_boxes.specs.EachOnce.{times_sent}
use Rattle.nat_box.specs.declared.value.NatValue.{NatValue}
use Rattle.nat_box.specs.declared.settings.NatSettings.{NatSettings}
use Rattle.balancer_box.specs.declared.value.BalancerValue.{BalancerValue}
use Rattle.balancer_box.specs.declared.settings.BalancerSettings.{BalancerSettings}
use Rattle.box_worlds.specs.Worlds.{IsLedTo, Performed}
use Rattle.box_worlds.specs.Boxes.{IsNat, IsBalancer}
use Rattle.box_worlds.specs.Outcomes.{drops_by, drops_with, LeftOrCounted}
use Rattle.box_worlds.specs.Releases.{IsMadeOfInput, Translated, SentOn}
use Rattle.box_worlds.specs.Drops.{DropsAreCaused, NatCause, BalancerCause}
use Rattle.box_worlds.specs.EachOutcome.{WasReleased, WasCounted, EachHasOneOutcome}
use Rattle.box_worlds.proofs.BoxInputs.{nat_left_or_counted, balancer_left_or_counted}
use Rattle.box_worlds.proofs.Translations.{nat_translated, balancer_sent_on}
use Rattle.box_worlds.proofs.CausedDrops.{nat_drops, balancer_drops}

-- What is counted is there

find_sent : (t j : ℕ) (xs : List Sent) → 1 ≤ times_sent t j xs
    → (o : Sent) × IsAmong o xs × (o.emission.thread ≡ t) × (o.emission.input ≡ j)
find_sent t j [] some = absurd (omega (arith, some))
find_sent t j (x ∷ xs) some =
    by (is_or x.emission.thread t) (is_or x.emission.input j) some (λ k. find_sent t j xs k)
  where
    later : (o : Sent) × IsAmong o xs × (o.emission.thread ≡ t) × (o.emission.input ≡ j)
        → (o : Sent) × IsAmong o (x ∷ xs) × (o.emission.thread ≡ t) × (o.emission.input ≡ j)
    later (o, among, thread, number) = (o, inr among, thread, number)

    less : (a b : Bool) (n : ℕ) → (a && b) ≡ false → 1 ≤ cond (a && b) (n + 1) n → 1 ≤ n
    less a b n none k = subst (λ (c : Bool). 1 ≤ cond c (n + 1) n) none k

    by : (x.emission.thread ≡ t) ⊎ (x.emission.thread ≢ t) → (x.emission.input ≡ j) ⊎ (x.emission.input ≢ j)
        → 1 ≤ times_sent t j (x ∷ xs)
        → (1 ≤ times_sent t j xs
        → (o : Sent) × IsAmong o xs × (o.emission.thread ≡ t) × (o.emission.input ≡ j))
        → (o : Sent) × IsAmong o (x ∷ xs) × (o.emission.thread ≡ t) × (o.emission.input ≡ j)
    by (inl own) (inl same) k rest = (x, inl refl, own, same)
    by (inl own) (inr other) k rest =
        later (rest (less (nat_eq x.emission.thread t) (nat_eq x.emission.input j) (times_sent t j xs)
        (rw (is_eq x.emission.thread t own, not_eq x.emission.input j other) refl) k))
    by (inr other) n k rest =
        later (rest (less (nat_eq x.emission.thread t) (nat_eq x.emission.input j) (times_sent t j xs)
        (rw (not_eq x.emission.thread t other) refl) k))

find_drop : {V : Type 0} (t j : ℕ) (steps : List (Step V)) → 1 ≤ drops_with t j steps
    → (x : Step V) × (earlier : List (Step V)) × IsEarlier (x ∷ earlier) steps × (x.thread ≡ t)
    × (x.after.taken ≡ j) × (1 ≤ drops_by x.act)
find_drop t j [] some = absurd (omega (arith, some))
find_drop {V} t j (x ∷ steps) some =
    by (is_or x.thread t) (is_or x.after.taken j) (is_or (drops_by x.act) 0) some (λ k. find_drop t j steps k)
  where
    later : ((y : Step V) × (earlier : List (Step V)) × IsEarlier (y ∷ earlier) steps × (y.thread ≡ t)
        × (y.after.taken ≡ j) × (1 ≤ drops_by y.act))
        → (y : Step V) × (earlier : List (Step V)) × IsEarlier (y ∷ earlier) (x ∷ steps) × (y.thread ≡ t)
        × (y.after.taken ≡ j) × (1 ≤ drops_by y.act)
    later (y, earlier, early, thread, taken, counts) = (y, earlier, inr early, thread, taken, counts)

    less : (c : Bool) (d n : ℕ) → c ≡ false → 1 ≤ cond c (d + n) n → 1 ≤ n
    less c d n none k = subst (λ (b : Bool). 1 ≤ cond b (d + n) n) none k

    none_here : (c : Bool) (d n : ℕ) → d ≡ 0 → 1 ≤ cond c (d + n) n → 1 ≤ n
    none_here true d n is k = omega (arith, is, k)
    none_here false d n is k = k

    by : (x.thread ≡ t) ⊎ (x.thread ≢ t) → (x.after.taken ≡ j) ⊎ (x.after.taken ≢ j)
        → (drops_by x.act ≡ 0) ⊎ (drops_by x.act ≢ 0) → 1 ≤ drops_with t j (x ∷ steps)
        → (1 ≤ drops_with t j steps
        → (y : Step V) × (earlier : List (Step V)) × IsEarlier (y ∷ earlier) steps × (y.thread ≡ t)
        × (y.after.taken ≡ j) × (1 ≤ drops_by y.act))
        → (y : Step V) × (earlier : List (Step V)) × IsEarlier (y ∷ earlier) (x ∷ steps) × (y.thread ≡ t)
        × (y.after.taken ≡ j) × (1 ≤ drops_by y.act)
    by (inl own) (inl same) (inr some) k rest = (x, steps, inl refl, own, same, omega (arith, some))
    by (inl own) (inl same) (inl none) k rest = later (rest
        (none_here (nat_eq x.thread t && nat_eq x.after.taken j) (drops_by x.act) (drops_with t j steps) none k))
    by (inl own) (inr other) n k rest = later (rest
        (less (nat_eq x.thread t && nat_eq x.after.taken j) (drops_by x.act) (drops_with t j steps)
        (rw (is_eq x.thread t own, not_eq x.after.taken j other) refl) k))
    by (inr other) m n k rest = later (rest
        (less (nat_eq x.thread t && nat_eq x.after.taken j) (drops_by x.act) (drops_with t j steps)
        (rw (not_eq x.thread t other) refl) k))

-- what counts a drop is a touch of variable 0
counts_drop : {V : Type 0} (t taken : ℕ) (A : List (Step V)) (d : Effect V) → 1 ≤ drops_by (act_of t A taken d)
    → (entry : Entry) × (left : V) × (place : ℕ) × (act_of t A taken d ≡ Did entry (Some left))
    × (entry.what ≡ Access 0 place) × (drops_by (act_of t A taken d) ≡ 1)
counts_drop t taken A Takes some = absurd (omega (arith, some))
counts_drop {V} t taken A (Touches v left) some = by (is_or v 0)
  where
    by : (v ≡ 0) ⊎ (v ≢ 0)
        → (entry : Entry) × (after : V) × (place : ℕ) × (act_of t A taken (Touches v left) ≡ Did entry (Some after))
        × (entry.what ≡ Access 0 place) × (drops_by (act_of t A taken (Touches v left)) ≡ 1)
    by (inl is) = (
      entry_of t (log_of A) (Access v (places v (log_of A) + 1)),
      left,
      places v (log_of A) + 1,
      refl,
      ap (λ (u : ℕ). Access u (places v (log_of A) + 1)) is,
      ap (λ (b : Bool). if b then 1 else 0) (is_eq v 0 is),
    )
    by (inr other) =
        let none : drops_by (act_of t A taken (Touches v left)) ≡ 0 =
        ap (λ (b : Bool). if b then 1 else 0) (not_eq v 0 other) in absurd (omega (arith, some, none))
counts_drop t taken A (Looks v) some = absurd (omega (arith, some))
counts_drop t taken A (HearsClock a) some = absurd (omega (arith, some))
counts_drop t taken A (HearsDraw a) some = absurd (omega (arith, some))
counts_drop t taken A (Sends p) some = absurd (omega (arith, some))
counts_drop t taken A Ends some = absurd (omega (arith, some))

module _ {V : Type 0} (s : Setting V) (w : World V) (steps : List (Step V))
    (SentAs : ℕ → List (Step V) → List ℕ → Packet → Type 0) (Caused : ℕ → List (Step V) → Packet → ℕ → Type 0)
    (legal : IsHistory s.meaning (all_inputs s) s.threads steps)
    (left : LeftOrCounted s.threads (all_inputs s) w.released steps)
    (made : (o : Sent) → IsAmong o w.released → IsMadeOfInput s w o SentAs steps)
    (caused : DropsAreCaused s w Caused steps) where
  was_released : (t k : ℕ) → times_sent t (k + 1) w.released ≡ 1 → drops_with t (k + 1) steps ≡ 0
      → WasReleased s w steps SentAs t k
  was_released t k once none =
      let r = find_sent t (k + 1) w.released (omega (arith, once)) in
      record {
        once = once;
        uncounted = none;
        output = r.0;
        among = r.1;
        thread = r.2;
        number = r.3;
        made = made r.0 r.1;
      }

  was_counted : (t k : ℕ) (p : Packet) → slice_get (all_inputs s t) k ≡ Some p
      → times_sent t (k + 1) w.released ≡ 0 → drops_with t (k + 1) steps ≡ 1 → WasCounted s w steps Caused t k p
  was_counted t k p given none once = at (find_drop t (k + 1) steps (omega (arith, once)))
    where
      at : (x : Step V) × (earlier : List (Step V)) × IsEarlier (x ∷ earlier) steps × (x.thread ≡ t)
          × (x.after.taken ≡ k + 1) × (1 ≤ drops_by x.act)
          → WasCounted s w steps Caused t k p
      at (x, earlier, early, thread, taken, some) =
          let h = (earlier_history s.meaning (all_inputs s) s.threads (x ∷ earlier) steps early legal).0 in
          let d = counts_drop x.thread x.after.taken earlier h.2
          (subst (λ (a : Act V). 1 ≤ drops_by a) h.4 some) in
          let r = caused x earlier d.0 d.1 d.2 early (h.4 ∙ d.3) d.4 in
          record {
            once = once;
            unreleased = none;
            earlier = earlier;
            step = x;
            moment = early;
            thread = thread;
            number = taken;
            counts = ap (λ (a : Act V). drops_by a) h.4 ∙ d.5;
            reason = r.2;
            caused = subst (λ (u : ℕ). Caused u (steps_behind s.tags earlier) (behind_tag s.tags p) r.2) thread
                (subst (λ (q : Packet). Caused x.thread (steps_behind s.tags earlier) (behind_tag s.tags q) r.2)
                (same_packet x thread r.0 r.1 (omega (arith, r.3, taken)) r.4) r.5);
          }
        where
          same_packet : (x : Step V) → x.thread ≡ t → (i : ℕ) (q : Packet) → i ≡ k
              → slice_get (inputs_fed s w.fed x.thread) i ≡ Some q → q ≡ p
          same_packet x thread i q is fed =
              let a : slice_get (all_inputs s t) k ≡ Some q =
              subst (λ (j : ℕ). slice_get (all_inputs s t) j ≡ Some q) is
              (subst (λ (u : ℕ). slice_get (all_inputs s u) i ≡ Some q) thread (fed_found s w.fed x.thread i q fed)) in
              let b : Some q ≡ Some p = sym a ∙ given in cc

  pub one_outcome : EachHasOneOutcome s w steps SentAs Caused
  one_outcome t k p low given = by (left.each t k low (slice_get_within (all_inputs s t) k p given))
    where
      by : ((times_sent t (k + 1) w.released ≡ 1) × (drops_with t (k + 1) steps ≡ 0))
          ⊎ ((times_sent t (k + 1) w.released ≡ 0) × (drops_with t (k + 1) steps ≡ 1))
          → WasReleased s w steps SentAs t k ⊎ WasCounted s w steps Caused t k p
      by (inl r) = inl (was_released t k r.0 r.1)
      by (inr r) = inr (was_counted t k p given r.0 r.1)

pub nat_outcomes : (n : NatSettings) (s : Setting NatValue) (events : List Event) (report : List ℕ)
    (released : List Packet) (schedule : List PlainMove) → IsNat n s → All IsOfBytes s.packets
    → (l : Leaves s (events ++ Settle ∷ []) report released schedule)
    → EachHasOneOutcome s l.world l.steps (Translated n) (NatCause n)
nat_outcomes n s events report released schedule is bytes l =
    let led : IsLedTo s l.world = Performed (events ++ Settle ∷ []) l.lines l.performs in
    one_outcome s l.world l.steps (Translated n) (NatCause n) l.finish.history
    (nat_left_or_counted n s events report released schedule is l)
    (λ o among. nat_translated n s l.world o l.steps is bytes led among l.finish)
    (nat_drops n s l.world l.steps is bytes led (inr (inr (inr l.finish))))

pub balancer_outcomes : (b : BalancerSettings) (s : Setting BalancerValue) (events : List Event) (report : List ℕ)
    (released : List Packet) (schedule : List PlainMove) → IsBalancer b s → All IsOfBytes s.packets
    → (l : Leaves s (events ++ Settle ∷ []) report released schedule)
    → EachHasOneOutcome s l.world l.steps (SentOn b) (BalancerCause b)
balancer_outcomes b s events report released schedule is bytes l =
    let led : IsLedTo s l.world = Performed (events ++ Settle ∷ []) l.lines l.performs in
    one_outcome s l.world l.steps (SentOn b) (BalancerCause b) l.finish.history
    (balancer_left_or_counted b s events report released schedule is l)
    (λ o among. balancer_sent_on b s l.world o l.steps is bytes led among l.finish)
    (balancer_drops b s l.world l.steps is bytes led (inr (inr (inr l.finish))))
