-- RFC 1624's equation 3 against computing anew.
use Rattle.std.proofs.Common.{◌≡◌, ℕ, ◌+◌, ◌%◌, ◌/◌, ◌^◌, ◌<◌, ◌≤◌, List, [], ◌∷◌, length, get_or, set, sum, ◌∙◌, ap}
use Rattle.std.proofs.Common.{arith}
use Rattle.std.proofs.lemmas.List.Sums.{sum_by-set}
use Rattle.std.proofs.lemmas.List.{get_or-set_other, length-set}
use Rattle.inet_checksum.specs.OnesComplement.{ones_value, complement, adjusted_16, checksum_at, CanRecompute}
use Rattle.inet_checksum.specs.OnesComplement.{EqualsRecomputing_16, with_32, EqualsRecomputing_32}
use Rattle.inet_checksum.proofs.Values.{same_value, same_remainder, ones_value-le, ones_value_positive, ones_value-mod}

-- equation 3 gives the checksum computed anew, where what was removed and what came balance the words' total
pub anew : (before after : List ℕ) (place checksum old new total : ℕ)
    → CanRecompute before after place checksum
    → checksum ≤ 65535 → get_or after place 0 ≡ checksum → place < length after
    → sum after + old ≡ sum before + new
    → 0 < total → (total + checksum + old) % 65535 ≡ new % 65535
    → complement (ones_value total) ≡ checksum_at after place
anew before after place checksum old new total can fits there place_in changing positive balance =
    let zeroing = sum_by-set (λ x. x) after place 0 0 place_in in
    let verified = same_remainder (sum before) 65535 can.verified in
    let not_all_zero = can.not_all_zero in
    ap complement (same_value _ _ (λ z. absurd (omega arith)) (λ z. absurd (omega arith)) (omega arith))

pub equation_3_recomputes : (checksum old new total : ℕ)
    → checksum ≤ 65535 → old ≤ 65535 → total ≡ complement checksum + complement old + new
    → EqualsRecomputing_16 checksum old new (complement (ones_value total))
equation_3_recomputes checksum old new total checksum_fits old_fits is before place changed changed_in apart
    old_there can =
    let changing = sum_by-set (λ x. x) before changed new 0 changed_in in
    let there = get_or-set_other before changed place new 0 apart ∙ can.checksum_there in
    let not_all_ones = can.not_all_ones in
    anew before (set before changed new) place checksum old new total can checksum_fits there
    (simp length-set can.place_in) (omega arith) (omega arith) (omega arith)

pub equation_3_twice_recomputes : (checksum old new high total : ℕ)
    → checksum ≤ 65535 → old < 2 ^ 32
    → high ≡ adjusted_16 checksum (old / 65536) (new / 65536)
    → total ≡ complement high + complement (old % 65536) + new % 65536
    → EqualsRecomputing_32 checksum old new (complement (ones_value total))
equation_3_twice_recomputes checksum old new high total checksum_fits old_fits high_is total_is before place changed
    changed_in apart apart_low old_high old_low can =
    let first = sum_by-set (λ x. x) before changed (new / 65536) 0 (omega arith) in
    let second =
    sum_by-set (λ x. x) (set before changed (new / 65536)) (changed + 1) (new % 65536) 0 (simp length-set changed_in) in
    let low_there = get_or-set_other before changed (changed + 1) (new / 65536) 0 (λ e. omega arith) ∙ old_low in
    let there =
    get_or-set_other (set before changed (new / 65536)) (changed + 1) place (new % 65536) 0 apart_low
    ∙ get_or-set_other before changed place (new / 65536) 0 apart
    ∙ can.checksum_there in
    let not_all_ones = can.not_all_ones in
    let high_total = sum (complement checksum ∷ complement (old / 65536) ∷ new / 65536 ∷ []) in
    let high_small = ones_value-le high_total in
    let high_positive = ones_value_positive high_total (omega arith) in
    let high_remainder = ones_value-mod high_total in
    anew before (with_32 before changed new) place checksum (old / 65536 + old % 65536) (new / 65536 + new % 65536)
    total can checksum_fits there (simp length-set can.place_in) (omega arith) (omega arith) (omega arith)
