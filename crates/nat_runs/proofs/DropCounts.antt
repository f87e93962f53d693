-- The counts of drops: what one drop more comes to.
use Rattle.std.proofs.Common.{◌≡◌, ℕ, zero, suc, ◌+◌, ◌-◌, ◌%◌, ◌^◌, ◌<◌, ◌≤◌, Bool, true, List, [], ◌∷◌, length}
use Rattle.std.proofs.Common.{◌∙◌, sym, refl, ap, arith}
use Rattle.std.specs.Prelude.{◌&&◌, nat_lt, slice_index, slice_set, if◌then◌else◌}
use Rattle.std.proofs.lemmas.Bool.Decides.{nat_tests}
use Rattle.std.specs.List.{sum}
use Rattle.std.proofs.lemmas.List.{length-set}
use Rattle.std.proofs.lemmas.List.Sums.{sum_by-cons}
use Rattle.flow_boxes.specs.declared.drops.Drops.{Drops}
use Rattle.flow_boxes.specs.Drops.{with_drop}
use Rattle.nat_runs.specs.Causes.{one_more}

pub drop_is : (reason : ℕ) (d : Drops) → 1 ≤ reason → reason ≤ 10 → with_drop reason d ≡ one_more reason d
drop_is reason d low high =
    let a : nat_lt 0 reason ≡ true = grind (arith, nat_tests) in
    let b : nat_lt reason 11 ≡ true = grind (arith, nat_tests) in
    let both : (nat_lt 0 reason && nat_lt reason 11) ≡ true = rw (a, b) refl in
    ap (λ (t : Bool). if t then one_more reason d else d) both

pub one_more_long : (reason : ℕ) (d : Drops) → length (one_more reason d).counts ≡ length d.counts
one_more_long reason d = length-set d.counts (reason - 1) ((slice_index d.counts (reason - 1) + 1) % 2 ^ 64)

sum_wraps : (n sum : ℕ) → ((n + 1) % 2 ^ 64 + sum) % 2 ^ 64 ≡ (n + sum + 1) % 2 ^ 64
sum_wraps n sum = omega arith

sum_front : (n a b : ℕ) → a % 2 ^ 64 ≡ (b + 1) % 2 ^ 64 → (n + a) % 2 ^ 64 ≡ (n + b + 1) % 2 ^ 64
sum_front n a b e = omega arith

sum_set : (ns : List ℕ) (i : ℕ) → i < length ns
    → sum (slice_set ns i ((slice_index ns i + 1) % 2 ^ 64)) % 2 ^ 64 ≡ (sum ns + 1) % 2 ^ 64
sum_set [] i low = absurd (omega arith)
sum_set (n ∷ ns) zero low =
    ap (λ m. m % 2 ^ 64) (sum_by-cons (λ m. m) ((n + 1) % 2 ^ 64) ns) ∙ sum_wraps n (sum ns)
    ∙ ap (λ m. (m + 1) % 2 ^ 64) (sym (sum_by-cons (λ m. m) n ns))
sum_set (n ∷ ns) (suc i) low =
    let left : List ℕ = slice_set ns i ((slice_index ns i + 1) % 2 ^ 64) in
    ap (λ m. m % 2 ^ 64) (sum_by-cons (λ m. m) n left)
    ∙ sum_front n (sum left) (sum ns) (sum_set ns i (omega arith))
    ∙ ap (λ m. (m + 1) % 2 ^ 64) (sym (sum_by-cons (λ m. m) n ns))

pub one_more_sum : (reason : ℕ) (d : Drops) → 1 ≤ reason → reason ≤ 10 → length d.counts ≡ 10
    → sum (one_more reason d).counts % 2 ^ 64 ≡ (sum d.counts + 1) % 2 ^ 64
one_more_sum reason d low high ten = sum_set d.counts (reason - 1) (omega arith)
