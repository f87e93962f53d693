-- A box whose settings are in range is the one with these settings.
use Rattle.std.proofs.Common.{◌≡◌, ℕ, ◌≤◌, List, [], ◌∷◌, length, refl, ap, ◌∙◌, subst, arith}
use Rattle.std.specs.Prelude.{take, min, max}
use Rattle.std.specs.Coded.{le_prop}
use Rattle.std.proofs.lemmas.List.{take_all}
use Rattle.balancer_box.specs.declared.settings.Backend.{Backend}
use Rattle.balancer_box.specs.declared.balancer.BalancerBox.{BalancerBox}
use Rattle.balancer_box.specs.Settings.{Settings}
use Rattle.balancer_box.specs.Boxes.{at_least_one, in_number, nearest, box_with}

some_there : (backends : List Backend) → 1 ≤ length backends → at_least_one backends ≡ backends
some_there [] some = absurd (omega arith)
some_there (b ∷ bs) some = refl

as_named : (backends : List Backend) → 1 ≤ length backends → length backends ≤ 64 → in_number backends ≡ backends
as_named backends some few =
    ap (λ (bs : List Backend). take 64 bs) (some_there backends some) ∙ take_all 64 backends few

in_range : (shards : ℕ) → 1 ≤ shards → shards ≤ 64 → max 1 (min shards 64) ≡ shards
in_range shards some few = omega arith

nearest_is : (s : Settings) → 1 ≤ s.shards → s.shards ≤ 64 → 1 ≤ length s.backends → length s.backends ≤ 64
    → nearest s ≡ s
nearest_is s some few some_backends few_backends =
    let shards = in_range s.shards some few in
    let backends = as_named s.backends some_backends few_backends in
    λ i. record {
      shards = shards i;
      address = s.address;
      port = s.port;
      backends = backends i;
      closing = s.closing;
    }

-- the box has these settings, whatever the proofs that they are in range
abbrev IsWith : BalancerBox → Settings → Type 0
IsWith box s =
    (some : 1 ≤ s.shards) (few : s.shards ≤ 64) (some_backends : 1 ≤ length s.backends)
    (few_backends : length s.backends ≤ 64)
    → record {
      settings = s;
      some = some;
      few = few;
      some_backends = some_backends;
      few_backends = few_backends;
    }
    ≡ box

its_own : (box : BalancerBox) → IsWith box box.settings
its_own box some few some_backends few_backends =
    λ i. record {
      settings = box.settings;
      some = le_prop some box.some i;
      few = le_prop few box.few i;
      some_backends = le_prop some_backends box.some_backends i;
      few_backends = le_prop few_backends box.few_backends i;
    }

pub box_is : (s : Settings) → IsWith (box_with s) s
box_is s some few some_backends few_backends =
    subst (IsWith (box_with s)) (nearest_is s some few some_backends few_backends) (its_own (box_with s)) some few
    some_backends few_backends
