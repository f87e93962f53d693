-- What an adjusted checksum keeps, for the laws of crates above.
use Rattle.std.proofs.Common.{◌≡◌, ℕ, ◌+◌, ◌*◌, ◌/◌, ◌%◌, ◌^◌, ◌<◌, ◌≤◌, List, [], ◌∷◌, get_or, sum, ◌∙◌, sym, arith}
use Rattle.std.proofs.lemmas.List.Sums.{sum_by-cons}
use Rattle.inet_checksum.specs.OnesComplement.{words, residue, AreAsRight, complement, adjusted_16, adjusted_32}
use Rattle.inet_checksum.proofs.Values.{same_value, ones_value-le, ones_value-mod}

pub adjusted_16-le : (checksum old new : ℕ) → adjusted_16 checksum old new ≤ 65535
adjusted_16-le checksum old new = omega arith

pub adjusted_16-residue : (checksum old new : ℕ) → checksum ≤ 65535 → old ≤ 65535
    → (adjusted_16 checksum old new + new) % 65535 ≡ (checksum + old) % 65535
adjusted_16-residue checksum old new checksum_fits old_fits =
    let total = sum (complement checksum ∷ complement old ∷ new ∷ []) in
    let small = ones_value-le total in
    let remainder = ones_value-mod total in
    omega arith

pub adjusted_32-le : (checksum old new : ℕ) → adjusted_32 checksum old new ≤ 65535
adjusted_32-le checksum old new = adjusted_16-le _ _ _

pub adjusted_32-residue : (checksum old new : ℕ) → checksum ≤ 65535 → old < 2 ^ 32
    → (adjusted_32 checksum old new + new) % 65535 ≡ (checksum + old) % 65535
adjusted_32-residue checksum old new checksum_fits old_fits =
    let high = adjusted_16-residue checksum (old / 65536) (new / 65536) checksum_fits (omega arith) in
    let fits = adjusted_16-le checksum (old / 65536) (new / 65536) in
    let low = adjusted_16-residue (adjusted_16 checksum (old / 65536) (new / 65536)) (old % 65536) (new % 65536) fits
    (omega arith) in
    omega arith

-- where neither are all zero, the residue tells whether words verify
pub are_as_right : (old new : List ℕ) → 0 < sum old → 0 < sum new → residue new ≡ residue old → AreAsRight old new
are_as_right old new old_positive new_positive same =
    let sums = same_value (sum new) (sum old) (λ z. absurd (omega arith)) (λ z. absurd (omega arith)) same in
    record { same_residue = same; same_verdict = (λ verified. sym sums ∙ verified, λ verified. sums ∙ verified) }

-- words do not add up to less than their first byte
pub first_byte-le : (bytes : List ℕ) → get_or bytes 0 0 ≤ sum (words bytes)
first_byte-le [] = omega arith
first_byte-le (a ∷ []) = omega arith
first_byte-le (a ∷ b ∷ rest) = omega (arith, sum_by-cons (λ x. x) (256 * a + b) (words rest))
