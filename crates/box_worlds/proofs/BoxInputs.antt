-- The NAT and the load balancer, with no packet in hand, have sent out or counted as many packets as they took; and so
-- in what a settling comes to.
use Rattle.std.proofs.Common.{◌≡◌, ◌≢◌, ℕ, ◌+◌, Bool, true, false, List, [], ◌∷◌, ◌++◌, refl, sym, ap, ◌∙◌, subst}
use Rattle.std.proofs.Common.{inl, inr, ◌⊎◌, arith, Option, Some, None}
use Rattle.std.specs.Prelude.{nat_eq, if◌then◌else◌}
use Rattle.plain_text.specs.declared.packet.Packet.{Packet}
use Rattle.entry_order.specs.declared.what.What.{What}
use Rattle.entry_order.specs.declared.what.What.TheVariants.{Access, Read, Clock, Draw}
use Rattle.entry_order.specs.Log.{touches}
use Rattle.entry_order.proofs.Order.{is_or}
use Rattle.plain_machine.specs.declared.plain_move.PlainMove.{PlainMove}
use Rattle.plain_machine.specs.Program.{Meaning}
use Rattle.plain_machine.specs.Machine.{Hand, Thread, Effect, Takes, Touches, Looks, HearsClock, HearsDraw, Sends, Ends}
use Rattle.plain_machine.specs.Machine.{Moves, held_move}
use Rattle.plain_machine.specs.History.{Act, Took, Did, Emitted, Ended, Step, act_of}
use Rattle.plain_machine.specs.History.{thread_after, value_after, IsHistory}
use Rattle.plain_machine.proofs.Histories.{not_eq, is_eq}
use Rattle.tagged_box.specs.Tagged.{tagged_meaning}
use Rattle.tagged_box.specs.Tags.{hand_behind, inputs_behind, steps_behind}
use Rattle.tagged_box.proofs.Moves.{thread_same, outputs_same}
use Rattle.recovery_world.specs.declared.event.Event.{Event}
use Rattle.recovery_world.specs.declared.event.Event.TheVariants.{Settle, Flow}
use Rattle.recovery_world.specs.declared.event.Outcome.{Outcome}
use Rattle.recovery_world.specs.World.{Setting, Sent, World, inputs_fed, all_inputs}
use Rattle.recovery_world.specs.Many.{OnAny}
use Rattle.recovery_world.specs.Files.{Leaves}
use Rattle.recovery_laws.proofs.Settlings.{script_settled}
use Rattle.nat_box.specs.declared.value.NatValue.{NatValue}
use Rattle.nat_box.specs.declared.settings.NatSettings.{NatSettings}
use Rattle.nat_box.specs.Nat as nat
use Rattle.nat_box.specs.Settings as nat_settings
use Rattle.nat_runs.specs.Passing.{counted_by_what, counted_by, counted_of, waits}
use Rattle.nat_runs.proofs.Passing.{each_passes}
use Rattle.balancer_box.specs.declared.value.BalancerValue.{BalancerValue}
use Rattle.balancer_box.specs.declared.settings.BalancerSettings.{BalancerSettings}
use Rattle.balancer_box.specs.Balancer as balancer
use Rattle.balancer_box.specs.Settings as balancer_settings
use Rattle.balancer_runs.specs.Packets.{outcomes_by, outcomes}
use Rattle.balancer_runs.proofs.Settling.{each_has_one}
use Rattle.box_worlds.specs.Worlds.{IsLedTo}
use Rattle.box_worlds.specs.Boxes.{IsNat, IsBalancer}
use Rattle.box_worlds.specs.Outcomes.{drops_by, drops_of, LeftOrCounted}
use Rattle.box_worlds.proofs.ThreadMoves.{IsBetween, by_move}
use Rattle.box_worlds.proofs.BehindTags.{history_behind, drops_same}
use Rattle.box_worlds.proofs.EachInput.{went_by, all_went, all_of_step, all_of_other}
use Rattle.box_worlds.proofs.WorldHistories.{led_sound}
use Rattle.box_worlds.proofs.FlowedInputs.{flow_left}
use Rattle.box_worlds.proofs.SettledInputs.{settled_left}

-- A box that rests so does so behind tags.
behind_rests : {V : Type 0} (s : Setting V) (m : Meaning V) → s.meaning ≡ tagged_meaning s.tags m
    → ((inputs : ℕ → List Packet) (steps : List (Step V)) → IsHistory m inputs s.threads steps → (t : ℕ)
    → (thread_after steps t).hand ≡ None → all_went t steps ≡ (thread_after steps t).taken)
    → (inputs : ℕ → List Packet) (steps : List (Step V)) → IsHistory s.meaning inputs s.threads steps → (t : ℕ)
    → (thread_after steps t).hand ≡ None → all_went t steps ≡ (thread_after steps t).taken
behind_rests s m is rests inputs steps h t none =
    let th = thread_same s.tags steps t in
    let hand : (thread_after (steps_behind s.tags steps) t).hand ≡ None =
    ap (λ (y : Thread). y.hand) th ∙ ap (hand_behind s.tags) none in
    let all = rests (inputs_behind s.tags inputs) (steps_behind s.tags steps) (history_behind s m inputs steps is h) t
    hand in
    let taken : (thread_after (steps_behind s.tags steps) t).taken ≡ (thread_after steps t).taken =
    ap (λ (y : Thread). y.taken) th in
    let sent = outputs_same t s.tags steps in
    let dropped = drops_same t s.tags steps in
    omega (arith, all, taken, sent, dropped)

-- what a settling comes to, with such a box
settled_so : {V : Type 0} (m : Meaning V) (s : Setting V) (events : List Event) (report : List ℕ)
    (released : List Packet) (schedule : List PlainMove) → s.meaning ≡ tagged_meaning s.tags m
    → ((inputs : ℕ → List Packet) (steps : List (Step V)) → IsHistory m inputs s.threads steps → (t : ℕ)
    → (thread_after steps t).hand ≡ None → all_went t steps ≡ (thread_after steps t).taken)
    → (l : Leaves s (events ++ Settle ∷ []) report released schedule)
    → LeftOrCounted s.threads (all_inputs s) l.world.released l.steps
settled_so m s events report released schedule is rests l =
    settled_left s l.world l.steps (behind_rests s m is rests (all_inputs s)) l.finish.history
    (script_settled s events report released schedule l)

-- The NAT

what_counted : (what : What) → (if touches 0 what then 1 else 0) ≡ counted_by_what what
what_counted (Access v place) = refl
what_counted (Read v after) = refl
what_counted (Clock a) = refl
what_counted (Draw a) = refl

act_counted : (a : Act NatValue) → drops_by a ≡ counted_by a
act_counted (Took k) = refl
act_counted (Did entry left) = what_counted entry.what
act_counted (Emitted o) = refl
act_counted (Ended k) = refl

all_counted : (t : ℕ) (steps : List (Step NatValue)) → drops_of t steps ≡ counted_of t steps
all_counted t [] = refl
all_counted t (x ∷ earlier) = rw (act_counted x.act, all_counted t earlier) refl

nat_rests : (n : NatSettings) → nat_settings.AreSettings n → (threads : ℕ) (inputs : ℕ → List Packet)
    (steps : List (Step NatValue)) → IsHistory (nat.nat_meaning n) inputs threads steps → (t : ℕ)
    → (thread_after steps t).hand ≡ None → all_went t steps ≡ (thread_after steps t).taken
nat_rests n is threads inputs steps h t none =
    let passed = each_passes n threads inputs steps is h t in
    let waiting : waits (thread_after steps t).hand ≡ 0 = ap waits none in
    let counted = all_counted t steps in omega (arith, passed, waiting, counted)

pub nat_flow : (n : NatSettings) (s : Setting NatValue) (w new : World NatValue) (count : ℕ) (to : Outcome)
    (freed : List Sent) → IsNat n s → IsLedTo s w → w.up ≡ true → OnAny s w (Flow count) to freed new
    → LeftOrCounted s.threads (inputs_fed s new.fed) new.released new.past
nat_flow n s w new count to freed is led up on =
    flow_left s w new count to freed (led_sound s w led) up on
    (behind_rests s (nat.nat_meaning n) is.1
    (λ inputs steps h t none. nat_rests n is.0 s.threads inputs steps h t none) (inputs_fed s new.fed))

pub nat_left_or_counted : (n : NatSettings) (s : Setting NatValue) (events : List Event) (report : List ℕ)
    (released : List Packet) (schedule : List PlainMove) → IsNat n s
    → (l : Leaves s (events ++ Settle ∷ []) report released schedule)
    → LeftOrCounted s.threads (all_inputs s) l.world.released l.steps
nat_left_or_counted n s events report released schedule is l =
    settled_so (nat.nat_meaning n) s events report released schedule is.1
    (λ inputs steps h t none. nat_rests n is.0 s.threads inputs steps h t none) l

-- The balancer: what a thread has sent out and counted, by how often it did so with the packet that it took last

abbrev Tells : Option Hand → ℕ → ℕ → ℕ → Type 0
Tells None taken all latest = all ≡ taken
Tells (Some h) taken all latest = all + 1 ≡ taken + latest

abbrev later : {V : Type 0} → Effect V → ℕ → ℕ
later Takes n = 0
later (Touches v left) n = went_by (Touches v left) + n
later (Looks v) n = 0 + n
later (HearsClock a) n = 0 + n
later (HearsDraw a) n = 0 + n
later (Sends p) n = 1 + n
later Ends n = 0 + n

later_between : {V : Type 0} (d : Effect V) (n : ℕ) → IsBetween d → later d n ≡ went_by d + n
later_between Takes n between = absurd between
later_between (Touches v left) n between = refl
later_between (Looks v) n between = refl
later_between (HearsClock a) n between = refl
later_between (HearsDraw a) n between = refl
later_between (Sends p) n between = refl
later_between Ends n between = absurd between

later_is : (t taken : ℕ) (A : List (Step BalancerValue)) (d : Effect BalancerValue) (n : ℕ)
    → outcomes_by (act_of t A taken d) n ≡ later d n
later_is t taken A Takes n = refl
later_is t taken A (Touches v left) n = by (nat_eq v 0)
  where
    by : (b : Bool) → (if b then n + 1 else n) ≡ (if b then 1 else 0) + n
    by true = omega arith
    by false = omega arith
later_is t taken A (Looks v) n = omega arith
later_is t taken A (HearsClock a) n = omega arith
later_is t taken A (HearsDraw a) n = omega arith
later_is t taken A (Sends p) n = omega arith
later_is t taken A Ends n = omega arith

module _ (m : Meaning BalancerValue) (packets : List Packet) (value : ℕ → BalancerValue)
    (taken all now latest new : ℕ) where
  abbrev TellsOn : Option Hand → Thread → Effect BalancerValue → Type 0
  TellsOn hand after d =
      Tells hand taken all latest → now ≡ went_by d + all → new ≡ later d latest → (d ≡ Ends → latest ≡ 1)
      → Tells after.hand after.taken now new

  pub move_tells : (a : Option ℕ) (hand : Option Hand) (after : Thread) (d : Effect BalancerValue)
      → held_move m packets value taken a hand ≡ Moves after d → TellsOn hand after d
  move_tells = by_move m packets value taken TellsOn
      (λ p old sum last once. omega (arith, old, sum, last))
      (λ h place d between old sum last once.
      let a = later_between d latest between in omega (arith, old, sum, last, a))
      (λ h old sum last once. let a = once refl in omega (arith, old, sum, a))

ended_act : (t taken : ℕ) (A : List (Step BalancerValue)) (d : Effect BalancerValue) (a : Act BalancerValue)
    → a ≡ act_of t A taken d → d ≡ Ends → a ≡ Ended taken
ended_act t taken A d a is ends = is ∙ ap (λ (e : Effect BalancerValue). act_of t A taken e) ends

module _ (b : BalancerSettings) (is : balancer_settings.AreSettings b) (threads : ℕ) (inputs : ℕ → List Packet) where
  abbrev RunTells : ℕ → List (Step BalancerValue) → Type 0
  RunTells t steps =
      Tells (thread_after steps t).hand (thread_after steps t).taken (all_went t steps) (outcomes t steps)

  own_tells : (x : Step BalancerValue) (earlier : List (Step BalancerValue))
      → IsHistory (balancer.balancer_meaning b) inputs threads (x ∷ earlier) → RunTells x.thread earlier
      → RunTells x.thread (x ∷ earlier)
  own_tells x earlier h old =
      subst (λ (y : Thread). Tells y.hand y.taken (all_went x.thread (x ∷ earlier)) (outcomes x.thread (x ∷ earlier)))
      (sym moved)
      (move_tells (balancer.balancer_meaning b) (inputs x.thread) (value_after (balancer.balancer_meaning b) earlier)
      (thread_after earlier x.thread).taken (all_went x.thread earlier) (all_went x.thread (x ∷ earlier))
      (outcomes x.thread earlier) (outcomes x.thread (x ∷ earlier)) h.0.1 (thread_after earlier x.thread).hand x.after
      h.0.2 h.0.3 old (all_of_step (balancer.balancer_meaning b) inputs threads x earlier h) last
      (λ ends. each_has_one b threads inputs x earlier x.after.taken is h
      (ended_act x.thread x.after.taken earlier h.0.2 x.act h.0.4 ends)))
    where
      moved : thread_after (x ∷ earlier) x.thread ≡ x.after
      moved = rw (is_eq x.thread x.thread refl) refl

      last : outcomes x.thread (x ∷ earlier) ≡ later h.0.2 (outcomes x.thread earlier)
      last =
          one
          ∙ (ap (λ (a : Act BalancerValue). outcomes_by a (outcomes x.thread earlier)) h.0.4
          ∙ later_is x.thread x.after.taken earlier h.0.2 (outcomes x.thread earlier))
        where
          one : outcomes x.thread (x ∷ earlier) ≡ outcomes_by x.act (outcomes x.thread earlier)
          one = rw (is_eq x.thread x.thread refl) refl

  other_tells : (x : Step BalancerValue) (earlier : List (Step BalancerValue))
      → IsHistory (balancer.balancer_meaning b) inputs threads (x ∷ earlier) → (t : ℕ) → x.thread ≢ t
      → RunTells t earlier → RunTells t (x ∷ earlier)
  other_tells x earlier h t other old =
      subst (λ (y : Thread). Tells y.hand y.taken (all_went t (x ∷ earlier)) (outcomes t (x ∷ earlier))) (sym stayed)
      (subst (λ (n : ℕ). Tells (thread_after earlier t).hand (thread_after earlier t).taken n
      (outcomes t (x ∷ earlier)))
      (sym (all_of_other (balancer.balancer_meaning b) inputs threads x earlier h t other))
      (subst (λ (n : ℕ). Tells (thread_after earlier t).hand (thread_after earlier t).taken (all_went t earlier) n)
      (sym last) old))
    where
      stayed : thread_after (x ∷ earlier) t ≡ thread_after earlier t
      stayed = rw (not_eq x.thread t other) refl

      last : outcomes t (x ∷ earlier) ≡ outcomes t earlier
      last = rw (not_eq x.thread t other) refl

  run_tells : (steps : List (Step BalancerValue))
      → IsHistory (balancer.balancer_meaning b) inputs threads steps → (t : ℕ) → RunTells t steps
  run_tells [] h t = refl
  run_tells (x ∷ earlier) h t =
      by (is_or x.thread t) (run_tells earlier h.1 x.thread) (run_tells earlier h.1 t)
    where
      by : (x.thread ≡ t) ⊎ (x.thread ≢ t) → RunTells x.thread earlier → RunTells t earlier
          → RunTells t (x ∷ earlier)
      by (inl same) own old = subst (λ (u : ℕ). RunTells u (x ∷ earlier)) same (own_tells x earlier h own)
      by (inr other) own old = other_tells x earlier h t other old

  pub balancer_rests : (steps : List (Step BalancerValue))
      → IsHistory (balancer.balancer_meaning b) inputs threads steps → (t : ℕ)
      → (thread_after steps t).hand ≡ None → all_went t steps ≡ (thread_after steps t).taken
  balancer_rests steps h t none =
      subst (λ (hand : Option Hand). Tells hand (thread_after steps t).taken (all_went t steps) (outcomes t steps)) none
      (run_tells steps h t)

pub balancer_left_or_counted : (b : BalancerSettings) (s : Setting BalancerValue) (events : List Event)
    (report : List ℕ) (released : List Packet) (schedule : List PlainMove) → IsBalancer b s
    → (l : Leaves s (events ++ Settle ∷ []) report released schedule)
    → LeftOrCounted s.threads (all_inputs s) l.world.released l.steps
balancer_left_or_counted b s events report released schedule is l =
    settled_so (balancer.balancer_meaning b) s events report released schedule is.1
    (λ inputs steps h t none. balancer_rests b is.0 s.threads inputs steps h t none) l

pub balancer_flow : (b : BalancerSettings) (s : Setting BalancerValue) (w new : World BalancerValue) (count : ℕ)
    (to : Outcome) (freed : List Sent) → IsBalancer b s → IsLedTo s w → w.up ≡ true
    → OnAny s w (Flow count) to freed new → LeftOrCounted s.threads (inputs_fed s new.fed) new.released new.past
balancer_flow b s w new count to freed is led up on =
    flow_left s w new count to freed (led_sound s w led) up on
    (behind_rests s (balancer.balancer_meaning b) is.1
    (λ inputs steps h t none. balancer_rests b is.0 s.threads inputs steps h t none) (inputs_fed s new.fed))
