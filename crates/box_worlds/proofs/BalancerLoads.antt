-- The loads of the balancer's backends, in each history of a world.
use Rattle.std.proofs.Common.{◌≡◌, ℕ, ◌+◌, ◌%◌, ◌^◌, ◌<◌, List, [], ◌∷◌, ◌++◌, length, ap, subst, arith}
use Rattle.plain_text.specs.declared.packet.Packet.{Packet}
use Rattle.plain_machine.specs.declared.plain_move.PlainMove.{PlainMove}
use Rattle.plain_machine.specs.History.{Step, thread_after, value_after}
use Rattle.tagged_box.specs.Tags.{inputs_behind, steps_behind}
use Rattle.monitor_box.proofs.ChangedSums.{sum_of_none}
use Rattle.recovery_world.specs.declared.event.Event.{Event}
use Rattle.recovery_world.specs.declared.event.Event.TheVariants.{Settle}
use Rattle.recovery_world.specs.World.{Setting, World, all_inputs}
use Rattle.recovery_world.specs.Files.{Leaves}
use Rattle.recovery_laws.proofs.Settlings.{script_settled}
use Rattle.balancer_box.specs.declared.value.BalancerValue.{BalancerValue}
use Rattle.balancer_box.specs.Settings.{Settings}
use Rattle.balancer_box.specs.Balancer.{balancer_meaning}
use Rattle.balancer_box.specs.Charges.{load_in, connections_of, owed, in_hand, in_values, in_hands, IsCharged}
use Rattle.balancer_box.proofs.Charging.{loads_are_charges}
use Rattle.box_worlds.specs.Worlds.{IsLedTo, IsOfWorld}
use Rattle.box_worlds.specs.Boxes.{IsBalancer}
use Rattle.box_worlds.proofs.BehindTags.{history_behind, value_behind, behind_world, rest_behind}

pub are_charged : (b : Settings) (s : Setting BalancerValue) (w : World BalancerValue)
    (steps : List (Step BalancerValue)) (backend : ℕ) → IsBalancer b s → IsLedTo s w → IsOfWorld s w steps
    → backend < length b.backends
    → IsCharged b s.threads backend (value_after s.meaning steps) (thread_after (steps_behind s.tags steps))
are_charged b s w steps backend is led of low =
    subst (λ (value : ℕ → BalancerValue).
    IsCharged b s.threads backend value (thread_after (steps_behind s.tags steps)))
    (value_behind s (balancer_meaning b) steps is.1)
    (behind_world s (balancer_meaning b)
    (λ run. IsCharged b s.threads backend (value_after (balancer_meaning b) run) (thread_after run))
    (λ inputs run h. loads_are_charges b s.threads inputs run is.0 h backend low) is.1 w steps led of)

-- With no packet in hand, a load is the number of connections.
pub settled_loads : (b : Settings) (s : Setting BalancerValue) (events : List Event) (report : List ℕ)
    (released : List Packet) (schedule : List PlainMove) (backend : ℕ) → IsBalancer b s → backend < length b.backends
    → (l : Leaves s (events ++ Settle ∷ []) report released schedule)
    → load_in backend (value_after s.meaning l.steps 1)
    ≡ in_values b (connections_of backend) (value_after s.meaning l.steps) % 2 ^ 64
settled_loads b s events report released schedule backend is low l =
    subst (λ (value : ℕ → BalancerValue).
    load_in backend (value 1) ≡ in_values b (connections_of backend) value % 2 ^ 64)
    (value_behind s (balancer_meaning b) l.steps is.1) (let a = charged in let b = none in omega (arith, a, b))
  where
    charged : IsCharged b s.threads backend (value_after (balancer_meaning b) (steps_behind s.tags l.steps))
        (thread_after (steps_behind s.tags l.steps))
    charged = loads_are_charges b s.threads (inputs_behind s.tags (all_inputs s)) (steps_behind s.tags l.steps) is.0
        (history_behind s (balancer_meaning b) (all_inputs s) l.steps is.1 l.finish.history) backend low

    none : in_hands b (owed backend) s.threads (thread_after (steps_behind s.tags l.steps)) ≡ 0
    none = sum_of_none s.threads _ (λ t low. ap (in_hand b (owed backend))
        (rest_behind s l.world l.steps (script_settled s events report released schedule l) t low))
