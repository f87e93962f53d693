-- What is set of the box, and which settings it may have.
use Rattle.std.specs.Prelude.{◌≤◌, length}
use Rattle.balancer_box.specs.declared.settings.BalancerSettings.{BalancerSettings}

abbrev pub Settings : Type 0
Settings = BalancerSettings

-- what may be configured
pub record AreSettings (s : Settings) : Type 0 where
  pub some : 1 ≤ s.shards
  pub few : s.shards ≤ 64
  pub some_backends : 1 ≤ length s.backends
  pub few_backends : length s.backends ≤ 64
