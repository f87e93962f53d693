-- What each packet that was released is made of.
use Rattle.std.specs.Prelude.{◌≡◌, ℕ, ◌-◌, ◌≤◌, List, ◌∷◌, Some, slice_get}
use Rattle.plain_text.specs.declared.packet.Packet.{Packet}
use Rattle.tagged_frames.specs.Tags.{behind_tag, with_behind}
use Rattle.plain_machine.specs.History.{Emitted, Step}
use Rattle.plain_machine.specs.Agree.{IsEarlier}
use Rattle.tagged_box.specs.Tags.{steps_behind}
use Rattle.recovery_world.specs.World.{Setting, Sent, World, inputs_fed}
use Rattle.nat_box.specs.declared.value.NatValue.{NatValue}
use Rattle.nat_box.specs.declared.settings.NatSettings.{NatSettings}
use Rattle.nat_box.specs.Emissions as nat_emissions
use Rattle.balancer_box.specs.declared.value.BalancerValue.{BalancerValue}
use Rattle.balancer_box.specs.declared.settings.BalancerSettings.{BalancerSettings}
use Rattle.balancer_box.specs.Emissions as balancer_emissions

-- Each run in which the world ends sends the packet o. It is made of the input that it names, one of the packets that
-- were fed: its thread sent these bytes of it as SentAs says, by the steps that the run had made before. Packet, bytes
-- and steps are seen behind tags, where these are looked through, and what was not seen goes out in front.
pub record IsMadeOfInput {V : Type 0} (s : Setting V) (w : World V) (o : Sent)
    (SentAs : ℕ → List (Step V) → List ℕ → Packet → Type 0) (run : List (Step V)) : Type 0 where
  pub earlier : List (Step V)
  pub step : Step V
  pub moment : IsEarlier (step ∷ earlier) run
  pub sends : step.act ≡ Emitted o.emission
  pub input : Packet
  pub numbered : 1 ≤ o.emission.input
  pub given : slice_get (inputs_fed s w.fed o.emission.thread) (o.emission.input - 1) ≡ Some input
  pub bytes : List ℕ
  pub made : SentAs o.emission.thread (steps_behind s.tags earlier) bytes (behind_tag s.tags input)
  pub packet : o.emission.packet ≡ with_behind s.tags input bytes

-- the NAT's translation of the packet, by what its moves met
abbrev pub Translated : NatSettings → ℕ → List (Step NatValue) → List ℕ → Packet → Type 0
Translated n t earlier bytes p = nat_emissions.IsTranslationOf n (nat_emissions.trail_of n t earlier) bytes (Some p)

-- the packet on its way to its connection's backend, or back to its client
abbrev pub SentOn : BalancerSettings → ℕ → List (Step BalancerValue) → List ℕ → Packet → Type 0
SentOn b t earlier bytes p = balancer_emissions.IsSentOnOf b (balancer_emissions.trail_of b t earlier) bytes (Some p)
