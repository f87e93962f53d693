-- Totals that have one value in one's complement.
use Rattle.std.proofs.Common.{◌≡◌, ℕ, ◌+◌, ◌*◌, ◌/◌, ◌%◌, ◌<◌, ◌≤◌, ◌^◌, sym, arith}
use Rattle.std.proofs.lemmas.Bool.Decides.{nat_tests}
use Rattle.inet_checksum.specs.OnesComplement.{ones_value}

-- totals that are 0 together and leave one remainder have one value
pub same_value : (a b : ℕ) → (a ≡ 0 → b ≡ 0) → (b ≡ 0 → a ≡ 0) → a % 65535 ≡ b % 65535 → ones_value a ≡ ones_value b
same_value a b there back same = grind (arith, nat_tests)

-- and the other way round
pub same_remainder : (a b : ℕ) → ones_value a ≡ ones_value b → a % 65535 ≡ b % 65535
same_remainder a b same = grind (arith, nat_tests)

pub same_zero : (a b : ℕ) → ones_value a ≡ ones_value b → a ≡ 0 → b ≡ 0
same_zero a b same zero = grind (arith, nat_tests)

-- adding keeps one value
pub same_more : (a b more : ℕ) → ones_value a ≡ ones_value b → ones_value (a + more) ≡ ones_value (b + more)
same_more a b more same =
    let remainder = same_remainder a b same in
    let there = same_zero a b same in
    let back = same_zero b a (sym same) in
    same_value (a + more) (b + more) (λ z. omega (arith, there)) (λ z. omega (arith, back)) (omega arith)

-- carries out of the low 16 bits may be added to them
pub ones_value-fold : (total : ℕ) → ones_value (total / 65536 + total % 65536) ≡ ones_value total
ones_value-fold total = same_value _ _ (λ z. omega arith) (λ z. omega arith) (omega arith)

-- a value is its own
pub ones_value_small : (total : ℕ) → total ≤ 65535 → ones_value total ≡ total
ones_value_small total small = grind (arith, nat_tests)

-- a word of 64 bits counts as its four words of 16
pub ones_value-wide : (a b c d rest : ℕ)
    → ones_value (a * 2 ^ 48 + b * 2 ^ 32 + c * 2 ^ 16 + d + rest) ≡ ones_value (a + b + c + d + rest)
ones_value-wide a b c d rest = same_value _ _ (λ z. omega arith) (λ z. omega arith) (omega arith)

-- a value is at most 65,535, is 0 for 0 alone, and has the total's remainder
pub ones_value-le : (total : ℕ) → ones_value total ≤ 65535
ones_value-le total = grind (arith, nat_tests)

pub ones_value_positive : (total : ℕ) → 0 < total → 0 < ones_value total
ones_value_positive total positive = grind (arith, nat_tests)

pub ones_value-mod : (total : ℕ) → ones_value total % 65535 ≡ total % 65535
ones_value-mod total = grind (arith, nat_tests)
