-- What is set of the box, and which settings it may have.
use Rattle.std.specs.Prelude.{ℕ, ◌<◌, ◌≤◌, ◌^◌, false, [], None}
use Rattle.nat_box.specs.declared.settings.NatSettings.{NatSettings}

abbrev pub Settings : Type 0
Settings = NatSettings

-- what may be configured
pub record AreSettings (s : Settings) : Type 0 where
  pub some : 1 ≤ s.shards
  pub few : s.shards ≤ 64
  pub inside : s.inside < 2 ^ 32
  pub long : 1 ≤ s.length
  pub short : s.length ≤ 32
  pub low : 1 ≤ s.low
  pub order : s.low ≤ s.high
  pub high : s.high < 2 ^ 16

-- a network and a range of ports, and no more
abbrev pub basic_settings : ℕ → ℕ → ℕ → ℕ → ℕ → ℕ → Settings
basic_settings shards inside length outside low high = record {
  shards = shards;
  inside = inside;
  length = length;
  outside = outside;
  low = low;
  high = high;
  closing = None;
  statics = [];
  errors = false;
  limit = None;
}
