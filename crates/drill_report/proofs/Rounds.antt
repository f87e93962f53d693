-- The rounds of a drill: as many as it takes to feed all packets, and no more.
use Rattle.std.proofs.Common.{◌≡◌, ℕ, zero, suc, ◌+◌, ◌*◌, ◌/◌, ◌%◌, ◌<◌, ◌≤◌, min, ap, arith, suc-mul}
use Rattle.std.proofs.Math.Nat.{le_of_mul-le-mul_right, lt_of_mul-lt-mul_right, mod-lt}
use Rattle.std.proofs.lemmas.Nat.{div-add-mod'}
use Rattle.drill_report.specs.Events.{rounds}

enough_for : (q r every packets : ℕ) → r < every → q * every + r ≡ packets → packets ≤ (q + min 1 r) * every
enough_for q zero every packets below whole = omega (arith, whole)
enough_for q (suc r) every packets below whole =
    let one_more : (q + min 1 (suc r)) * every ≡ suc q * every = ap (λ (k : ℕ). k * every) (omega (arith)) in
    let more = suc-mul q every in omega (arith, whole, below, more, one_more)

fewest_for : (q r every packets n : ℕ) → 0 < every → q * every + r ≡ packets → packets ≤ n * every → q + min 1 r ≤ n
fewest_for q zero every packets n some whole all =
    let few : q ≤ n = le_of_mul-le-mul_right (omega (arith, whole, all)) some in omega (arith, few)
fewest_for q (suc r) every packets n some whole all =
    let few : q < n = lt_of_mul-lt-mul_right every (omega (arith, whole, all)) in omega (arith, few)

pub rounds_are_enough : (every packets : ℕ) → 1 ≤ every → packets ≤ rounds every packets * every
rounds_are_enough every packets some =
    enough_for (packets / every) (packets % every) every packets (mod-lt packets some) (div-add-mod' packets every)

pub rounds_are_fewest : (every packets n : ℕ) → 1 ≤ every → packets ≤ n * every → rounds every packets ≤ n
rounds_are_fewest every packets n some all =
    fewest_for (packets / every) (packets % every) every packets n some (div-add-mod' packets every) all
