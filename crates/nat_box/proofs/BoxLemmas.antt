-- A box whose settings are in range is the one with these settings.
use Rattle.std.proofs.Common.{◌≡◌, ℕ, ◌<◌, ◌≤◌, ◌-◌, ◌^◌, subst, arith}
use Rattle.std.specs.Prelude.{min, max}
use Rattle.std.specs.Coded.{le_prop}
use Rattle.nat_box.specs.declared.nat.NatBox.{NatBox}
use Rattle.nat_box.specs.Settings.{Settings}
use Rattle.nat_box.specs.Boxes.{nearest, box_with}

between : (low high n : ℕ) → low ≤ n → n ≤ high → max low (min n high) ≡ n
between low high n least greatest = omega arith

in_32_bits : (n : ℕ) → n < 2 ^ 32 → min n (2 ^ 32 - 1) ≡ n
in_32_bits n small = omega arith

last_port : (low high : ℕ) → 1 ≤ low → low ≤ high → high < 2 ^ 16
    → max (max 1 (min low 65535)) (min high 65535) ≡ high
last_port low high above order below = omega arith

first_port : (low high : ℕ) → 1 ≤ low → low ≤ high → high < 2 ^ 16 → max 1 (min low 65535) ≡ low
first_port low high above order below = omega arith

-- the box has these settings, whatever the proofs that they are in range
abbrev IsWith : NatBox → Settings → Type 0
IsWith box s =
    (some : 1 ≤ s.shards) (few : s.shards ≤ 64) (inside : s.inside < 2 ^ 32) (long : 1 ≤ s.length)
    (short : s.length ≤ 32) (above : 1 ≤ s.low) (order : s.low ≤ s.high) (below : s.high < 2 ^ 16)
    → record {
      settings = s;
      some = some;
      few = few;
      inside = inside;
      long = long;
      short = short;
      above = above;
      order = order;
      below = below;
    }
    ≡ box

its_own : (box : NatBox) → IsWith box box.settings
its_own box some few inside long short above order below =
    λ i. record {
      settings = box.settings;
      some = le_prop some box.some i;
      few = le_prop few box.few i;
      inside = le_prop inside box.inside i;
      long = le_prop long box.long i;
      short = le_prop short box.short i;
      above = le_prop above box.above i;
      order = le_prop order box.order i;
      below = le_prop below box.below i;
    }

pub box_is : (s : Settings) → IsWith (box_with s) s
box_is s some few inside long short above order below =
    let shards : max 1 (min s.shards 64) ≡ s.shards = between 1 64 s.shards some few in
    let network : min s.inside (2 ^ 32 - 1) ≡ s.inside = in_32_bits s.inside inside in
    let bits : max 1 (min s.length 32) ≡ s.length = between 1 32 s.length long short in
    let first : max 1 (min s.low 65535) ≡ s.low = first_port s.low s.high above order below in
    let last : max (max 1 (min s.low 65535)) (min s.high 65535) ≡ s.high =
    last_port s.low s.high above order below in
    let same : nearest s ≡ s = (λ i. record {
      shards = shards i;
      inside = network i;
      length = bits i;
      outside = s.outside;
      low = first i;
      high = last i;
      closing = s.closing;
      statics = s.statics;
      errors = s.errors;
      limit = s.limit;
    }) in
    subst (IsWith (box_with s)) same (its_own (box_with s)) some few inside long short above order below
