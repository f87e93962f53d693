-- Why packets were counted as dropped.
use Rattle.std.specs.Prelude.{◌≡◌, ℕ, ◌+◌, List, ◌∷◌, Some, slice_get}
use Rattle.plain_text.specs.declared.packet.Packet.{Packet}
use Rattle.entry_order.specs.Log.{Entry}
use Rattle.entry_order.specs.declared.what.What.TheVariants.{Access}
use Rattle.plain_machine.specs.History.{Did, Step}
use Rattle.plain_machine.specs.Agree.{IsEarlier}
use Rattle.tagged_frames.specs.Tags.{behind_tag}
use Rattle.tagged_box.specs.Tags.{steps_behind}
use Rattle.recovery_world.specs.World.{Setting, World, inputs_fed}
use Rattle.nat_box.specs.declared.value.NatValue.{NatValue}
use Rattle.nat_box.specs.declared.settings.NatSettings.{NatSettings}
use Rattle.nat_runs.specs.Met.{met_of}
use Rattle.nat_runs.specs.Causes as nat_causes
use Rattle.balancer_box.specs.declared.value.BalancerValue.{BalancerValue}
use Rattle.balancer_box.specs.declared.settings.BalancerSettings.{BalancerSettings}
use Rattle.balancer_box.specs.Emissions.{trail_of}
use Rattle.balancer_runs.specs.Causes as balancer_causes

-- Each touch of variable 0 in the history counts the input that its thread took last, one of the packets that were
-- fed, and this packet has a cause for some reason. Packet and steps are seen behind tags, where these are looked
-- through.
abbrev pub DropsAreCaused : {V : Type 0} → Setting V → World V → (ℕ → List (Step V) → Packet → ℕ → Type 0)
    → List (Step V) → Type 0
DropsAreCaused {V} s w Caused steps =
    (x : Step V) (earlier : List (Step V)) (entry : Entry) (left : V) (place : ℕ) → IsEarlier (x ∷ earlier) steps
    → x.act ≡ Did entry (Some left) → entry.what ≡ Access 0 place
    → (k : ℕ) × (p : Packet) × (reason : ℕ) × (x.after.taken ≡ k + 1)
    × (slice_get (inputs_fed s w.fed x.thread) k ≡ Some p)
    × Caused x.thread (steps_behind s.tags earlier) (behind_tag s.tags p) reason

abbrev pub NatCause : NatSettings → ℕ → List (Step NatValue) → Packet → ℕ → Type 0
NatCause n t earlier p reason = nat_causes.Cause n p (met_of n t earlier) reason

abbrev pub BalancerCause : BalancerSettings → ℕ → List (Step BalancerValue) → Packet → ℕ → Type 0
BalancerCause b t earlier p reason = balancer_causes.HasCause b (trail_of b t earlier) p reason
