-- The settings in which the box is the NAT or the load balancer.
use Rattle.std.specs.Prelude.{◌≡◌}
use Rattle.tagged_box.specs.Tagged.{tagged_meaning}
use Rattle.recovery_world.specs.World.{Setting}
use Rattle.nat_box.specs.declared.value.NatValue.{NatValue}
use Rattle.nat_box.specs.declared.settings.NatSettings.{NatSettings}
use Rattle.nat_box.specs.Nat as nat
use Rattle.nat_box.specs.Settings as nat_settings
use Rattle.balancer_box.specs.declared.value.BalancerValue.{BalancerValue}
use Rattle.balancer_box.specs.declared.settings.BalancerSettings.{BalancerSettings}
use Rattle.balancer_box.specs.Balancer as balancer
use Rattle.balancer_box.specs.Settings as balancer_settings

-- The box is the NAT of these settings. It looks through one VLAN tag where the setting does; where it does not, its
-- meaning is the NAT's own.
abbrev pub IsNat : NatSettings → Setting NatValue → Type 0
IsNat n s = nat_settings.AreSettings n × (s.meaning ≡ tagged_meaning s.tags (nat.nat_meaning n))

abbrev pub IsBalancer : BalancerSettings → Setting BalancerValue → Type 0
IsBalancer b s = balancer_settings.AreSettings b × (s.meaning ≡ tagged_meaning s.tags (balancer.balancer_meaning b))
