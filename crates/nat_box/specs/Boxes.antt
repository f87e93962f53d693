-- The box as a value: its settings are in range.
use Rattle.std.specs.Prelude.{ℕ, ◌-◌, ◌≤◌, ◌<◌, ◌^◌, min, max}
use Rattle.std.proofs.Common.{arith}
use Rattle.plain_machine.specs.Program.{Meaning, IsLawful}
use Rattle.flow_boxes.specs.Ranges.{at_least, at_most, one_of_64}
use Rattle.nat_box.specs.declared.nat.NatBox.{NatBox}
use Rattle.nat_box.specs.declared.value.NatValue.{NatValue}
use Rattle.nat_box.specs.Settings.{Settings, AreSettings}
use Rattle.nat_box.specs.Nat.{nat_meaning, Fits}
use Rattle.nat_box.specs.Lawful.{nat_lawful}

-- for each number out of its range, the nearest
abbrev pub nearest : Settings → Settings
nearest s = record s {
  shards = max 1 (min s.shards 64);
  inside = min s.inside (2 ^ 32 - 1);
  length = max 1 (min s.length 32);
  low = max 1 (min s.low 65535);
  high = max (max 1 (min s.low 65535)) (min s.high 65535);
}

pub one_of_32 : 1 ≤ 32
one_of_32 = omega arith

pub in_32_bits : (address : ℕ) → min address (2 ^ 32 - 1) < 2 ^ 32
in_32_bits address = omega arith

pub in_16_bits : (low high : ℕ) → max (max 1 (min low 65535)) (min high 65535) < 2 ^ 16
in_16_bits low high = omega arith

-- the box with these settings
abbrev pub box_with : Settings → NatBox
box_with s = record {
  settings = nearest s;
  some = at_least 1 s.shards 64;
  few = at_most 1 s.shards 64 one_of_64;
  inside = in_32_bits s.inside;
  long = at_least 1 s.length 32;
  short = at_most 1 s.length 32 one_of_32;
  above = at_least 1 s.low 65535;
  order = at_least (max 1 (min s.low 65535)) s.high 65535;
  below = in_16_bits s.low s.high;
}

abbrev pub box_meaning : NatBox → Meaning NatValue
box_meaning b = nat_meaning b.settings

pub are_settings : (b : NatBox) → AreSettings b.settings
are_settings b = record {
  some = b.some;
  few = b.few;
  inside = b.inside;
  long = b.long;
  short = b.short;
  low = b.above;
  order = b.order;
  high = b.below;
}

pub box_lawful : (b : NatBox) → IsLawful (box_meaning b) (Fits b.settings)
box_lawful b = nat_lawful b.settings (are_settings b)
