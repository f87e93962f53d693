-- What a settling released, and what the box's own counts of drops have, are the packets of the capture.
use Rattle.std.proofs.Common.{◌≡◌, ℕ, ◌+◌, ◌%◌, ◌^◌, ◌≤◌, Bool, List, [], ◌∷◌, ◌++◌, length, refl, sym, ap, ◌∙◌}
use Rattle.std.proofs.Common.{arith}
use Rattle.std.specs.Prelude.{sum}
use Rattle.std.proofs.lemmas.List.{length-map}
use Rattle.plain_text.specs.declared.packet.Packet.{Packet}
use Rattle.plain_machine.specs.declared.plain_move.PlainMove.{PlainMove}
use Rattle.plain_machine.specs.History.{Act, Took, Did, Emitted, Ended, Step, sent_more, sent_of}
use Rattle.plain_machine.specs.History.{value_after}
use Rattle.tagged_box.specs.Tags.{hand_tag, act_behind, inputs_behind, steps_behind}
use Rattle.recovery_world.specs.declared.event.Event.{Event}
use Rattle.recovery_world.specs.declared.event.Event.TheVariants.{Settle}
use Rattle.recovery_world.specs.World.{Setting, Sent, all_inputs}
use Rattle.recovery_world.specs.Files.{Leaves}
use Rattle.recovery_laws.proofs.Settlings.{script_settled}
use Rattle.nat_box.specs.declared.value.NatValue.{NatValue}
use Rattle.nat_box.specs.declared.settings.NatSettings.{NatSettings}
use Rattle.nat_box.specs.Nat as nat
use Rattle.nat_runs.specs.Passing.{taken_by, taken_in, drops_in}
use Rattle.nat_runs.proofs.Passing.{none_vanishes_at_rest}
use Rattle.balancer_box.specs.declared.value.BalancerValue.{BalancerValue}
use Rattle.balancer_box.specs.declared.settings.BalancerSettings.{BalancerSettings}
use Rattle.balancer_box.specs.Balancer as balancer
use Rattle.balancer_runs.specs.Packets as counting
use Rattle.balancer_runs.proofs.Vanishing as vanishing
use Rattle.box_worlds.specs.Boxes.{IsNat, IsBalancer}
use Rattle.box_worlds.proofs.BehindTags.{history_behind, value_behind, rest_behind}
use Rattle.box_worlds.proofs.WholeCapture.{takes_by, takes, all_taken, released_sent}

-- Behind tags as much is taken and sent out.

takes_same : {V : Type 0} (tags : Bool) (steps : List (Step V)) → takes (steps_behind tags steps) ≡ takes steps
takes_same tags [] = refl
takes_same {V} tags (x ∷ earlier) = by x.act (takes_same tags earlier)
  where
    by : (a : Act V) → takes (steps_behind tags earlier) ≡ takes earlier
        → takes_by (act_behind (hand_tag tags x.after.hand) a) + takes (steps_behind tags earlier)
        ≡ takes_by a + takes earlier
    by (Took k) old = omega arith
    by (Did e left) old = omega arith
    by (Emitted o) old = omega arith
    by (Ended k) old = omega arith

sent_same : {V : Type 0} (tags : Bool) (steps : List (Step V))
    → length (sent_of (steps_behind tags steps)) ≡ length (sent_of steps)
sent_same tags [] = refl
sent_same {V} tags (x ∷ earlier) = by x.act (sent_same tags earlier)
  where
    by : (a : Act V) → length (sent_of (steps_behind tags earlier)) ≡ length (sent_of earlier)
        → length (sent_more (act_behind (hand_tag tags x.after.hand) a) (sent_of (steps_behind tags earlier)))
        ≡ length (sent_more a (sent_of earlier))
    by (Took k) old = old
    by (Did e left) old = old
    by (Emitted o) old = omega arith
    by (Ended k) old = old

module _ {V : Type 0} (s : Setting V) (events : List Event) (report : List ℕ) (released : List Packet)
    (schedule : List PlainMove) (l : Leaves s (events ++ Settle ∷ []) report released schedule) where
  taken_behind : 1 ≤ s.threads → takes (steps_behind s.tags l.steps) ≡ length s.packets
  taken_behind some =
      takes_same s.tags l.steps
      ∙ all_taken s l.world l.steps some l.finish.history (script_settled s events report released schedule l)

  released_behind : length released ≡ length (sent_of (steps_behind s.tags l.steps))
  released_behind =
      ap length l.released_is
      ∙ (length-map l.world.released (λ (o : Sent). o.emission.packet)
      ∙ (released_sent s l.world l.steps l.finish.history (script_settled s events report released schedule l)
      ∙ sym (sent_same s.tags l.steps)))

nat_takes : (steps : List (Step NatValue)) → takes steps ≡ taken_in steps
nat_takes [] = refl
nat_takes (x ∷ earlier) = by x.act (nat_takes earlier)
  where
    by : (a : Act NatValue) → takes earlier ≡ taken_in earlier
        → takes_by a + takes earlier ≡ taken_by a + taken_in earlier
    by (Took k) old = omega arith
    by (Did e left) old = omega arith
    by (Emitted o) old = omega arith
    by (Ended k) old = omega arith

pub nat_counts : (n : NatSettings) (s : Setting NatValue) (events : List Event) (report : List ℕ)
    (released : List Packet) (schedule : List PlainMove) → IsNat n s → 1 ≤ s.threads
    → (l : Leaves s (events ++ Settle ∷ []) report released schedule)
    → (length released + drops_in (value_after s.meaning l.steps 0)) % 2 ^ 64 ≡ length s.packets % 2 ^ 64
nat_counts n s events report released schedule is some l =
    let behind = steps_behind s.tags l.steps in
    let all = none_vanishes_at_rest n s.threads (inputs_behind s.tags (all_inputs s)) behind is.0
    (history_behind s (nat.nat_meaning n) (all_inputs s) l.steps is.1 l.finish.history)
    (rest_behind s l.world l.steps (script_settled s events report released schedule l)) in
    let value : drops_in (value_after (nat.nat_meaning n) behind 0) ≡ drops_in (value_after s.meaning l.steps 0) =
    ap (λ (f : ℕ → NatValue). drops_in (f 0)) (value_behind s (nat.nat_meaning n) l.steps is.1) in
    let sent = released_behind s events report released schedule l in
    let taken = sym (nat_takes behind) ∙ taken_behind s events report released schedule l some in
    ap (λ (k : ℕ). k % 2 ^ 64) (omega (arith, sent, value)) ∙ (all ∙ ap (λ (k : ℕ). k % 2 ^ 64) taken)

balancer_takes : (steps : List (Step BalancerValue)) → takes steps ≡ counting.packets_taken steps
balancer_takes [] = refl
balancer_takes (x ∷ earlier) = by x.act (balancer_takes earlier)
  where
    by : (a : Act BalancerValue) → takes earlier ≡ counting.packets_taken earlier
        → takes_by a + takes earlier ≡ counting.taken_by a + counting.packets_taken earlier
    by (Took k) old = omega arith
    by (Did e left) old = omega arith
    by (Emitted o) old = omega arith
    by (Ended k) old = omega arith

balancer_sent : (steps : List (Step BalancerValue)) → counting.packets_sent steps ≡ length (sent_of steps)
balancer_sent [] = refl
balancer_sent (x ∷ earlier) = by x.act (balancer_sent earlier)
  where
    by : (a : Act BalancerValue) → counting.packets_sent earlier ≡ length (sent_of earlier)
        → counting.sent_by a + counting.packets_sent earlier ≡ length (sent_more a (sent_of earlier))
    by (Took k) old = omega arith
    by (Did e left) old = omega arith
    by (Emitted o) old = omega arith
    by (Ended k) old = omega arith

pub balancer_counts : (b : BalancerSettings) (s : Setting BalancerValue) (events : List Event) (report : List ℕ)
    (released : List Packet) (schedule : List PlainMove) → IsBalancer b s → 1 ≤ s.threads
    → (l : Leaves s (events ++ Settle ∷ []) report released schedule)
    → (length released + sum (counting.drop_counts (value_after s.meaning l.steps 0))) % 2 ^ 64
    ≡ length s.packets % 2 ^ 64
balancer_counts b s events report released schedule is some l =
    let behind = steps_behind s.tags l.steps in
    let all = vanishing.none_vanishes_at_rest b s.threads (inputs_behind s.tags (all_inputs s)) behind is.0
    (history_behind s (balancer.balancer_meaning b) (all_inputs s) l.steps is.1 l.finish.history)
    (rest_behind s l.world l.steps (script_settled s events report released schedule l)) in
    let value : counting.packets_dropped b behind ≡ sum (counting.drop_counts (value_after s.meaning l.steps 0)) =
    ap (λ (f : ℕ → BalancerValue). sum (counting.drop_counts (f 0)))
    (value_behind s (balancer.balancer_meaning b) l.steps is.1) in
    let sent = released_behind s events report released schedule l in
    let same = balancer_sent behind in
    let taken = sym (balancer_takes behind)
    ∙ taken_behind s events report released schedule l some in
    ap (λ (k : ℕ). k % 2 ^ 64) (omega (arith, sent, same, value))
    ∙ (sym all ∙ ap (λ (k : ℕ). k % 2 ^ 64) taken)
