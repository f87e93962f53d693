-- The box as a value: its settings are in range.
use Rattle.std.specs.Prelude.{◌≤◌, min, max, List, [], ◌∷◌, length, take}
use Rattle.std.proofs.Common.{arith, length-take}
use Rattle.plain_machine.specs.Program.{Meaning, IsLawful}
use Rattle.flow_boxes.specs.Ranges.{at_least, at_most, one_of_64}
use Rattle.balancer_box.specs.declared.settings.Backend.{Backend}
use Rattle.balancer_box.specs.declared.balancer.BalancerBox.{BalancerBox}
use Rattle.balancer_box.specs.declared.value.BalancerValue.{BalancerValue}
use Rattle.balancer_box.specs.Settings.{Settings, AreSettings}
use Rattle.balancer_box.specs.Balancer.{balancer_meaning, Fits}
use Rattle.balancer_box.specs.Lawful.{balancer_lawful}

-- the first 64 of these backends, and where there is none, one at no address
abbrev pub at_least_one : List Backend → List Backend
at_least_one [] = record { address = 0; port = 0 } ∷ []
at_least_one (b ∷ bs) = b ∷ bs

abbrev pub in_number : List Backend → List Backend
in_number backends = take 64 (at_least_one backends)

pub in_number_some : (backends : List Backend) → 1 ≤ length (in_number backends)
in_number_some [] = omega arith
in_number_some (b ∷ bs) = omega arith

pub in_number_few : (backends : List Backend) → length (in_number backends) ≤ 64
in_number_few backends = omega (arith, length-take 64 (at_least_one backends))

-- for what is out of its range, the nearest
abbrev pub nearest : Settings → Settings
nearest s = record s { shards = max 1 (min s.shards 64); backends = in_number s.backends }

-- the box with these settings
abbrev pub box_with : Settings → BalancerBox
box_with s = record {
  settings = nearest s;
  some = at_least 1 s.shards 64;
  few = at_most 1 s.shards 64 one_of_64;
  some_backends = in_number_some s.backends;
  few_backends = in_number_few s.backends;
}

abbrev pub box_meaning : BalancerBox → Meaning BalancerValue
box_meaning b = balancer_meaning b.settings

pub are_settings : (b : BalancerBox) → AreSettings b.settings
are_settings b = record { some = b.some; few = b.few; some_backends = b.some_backends; few_backends = b.few_backends }

pub box_lawful : (b : BalancerBox) → IsLawful (box_meaning b) (Fits b.settings)
box_lawful b = balancer_lawful b.settings (are_settings b)
