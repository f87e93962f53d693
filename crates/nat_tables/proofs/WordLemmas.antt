-- The bits of a word: one that is read, set or cleared, and how many are set.
use Rattle.std.proofs.Common.{◌≡◌, ℕ, zero, suc, ◌+◌, ◌*◌, ◌%◌, ◌/◌, ◌^◌, ◌<◌, ◌≤◌, Bool, true, false, List, [], ◌∷◌}
use Rattle.std.proofs.Common.{length, get_or, set, refl, sym, ap, subst, ◌∙◌, arith}
use Rattle.std.specs.Prelude.{◌==◌, ◌≢◌, count_ones, slice_index, not, nat_lt}
use Rattle.std.specs.List.{sum_by, remove}
use Rattle.std.specs.Int.{bit_at}
use Rattle.std.proofs.lemmas.Bool.{eqb-true}
use Rattle.std.proofs.lemmas.Bool.Decides.{nat_tests}
use Rattle.std.proofs.lemmas.List.{length-set, get_or-set_same, get_or-set_other, ext_get_or}
use Rattle.std.proofs.lemmas.List.Sums.{sum_by-cons, sum_by-le, sum_by-set}
use Rattle.std.proofs.lemmas.Nat.{ones_cat, ones_le_self, zero_from_ones}
use Rattle.std.proofs.lemmas.Nat.Bits.{bit_at_lowest, bit_at-suc}
use Rattle.nat_tables.specs.Ports.{one_if, with_port}
use Rattle.nat_tables.specs.Placing.{in_row, bit_ports, bits_of, word_bits, word_ports, word_count, FallsIn}
use Rattle.nat_tables.proofs.PlaceLemmas.{AreBelow, AreFrom, row_length, row_from, row_below, row_index, row_removed}
use Rattle.nat_tables.proofs.PlaceLemmas.{row_with}

bits_long : (n w : ℕ) → length (bits_of n w) ≡ n
bits_long zero w = refl
bits_long (suc n) w = ap suc (bits_long n (w / 2))

bit_is : (n w i : ℕ) → i < n → get_or (bits_of n w) i false ≡ (bit_at w i == 1)
bit_is zero w i inside = absurd (omega arith)
bit_is (suc n) w zero inside = ap (λ (b : ℕ). b == 1) (sym (bit_at_lowest w))
bit_is (suc n) w (suc i) inside = bit_is n (w / 2) i (omega arith) ∙ ap (λ (b : ℕ). b == 1) (sym (bit_at-suc w i))

bits_set : (n w v i : ℕ) (b : Bool) → i < n → bit_at v i ≡ one_if b
    → ((k : ℕ) → k < n → k ≢ i → bit_at v k ≡ bit_at w k) → bits_of n v ≡ set (bits_of n w) i b
bits_set n w v i b inside here others =
    ext_get_or false (bits_of n v) (set (bits_of n w) i b)
    (bits_long n v ∙ sym (length-set (bits_of n w) i b ∙ bits_long n w)) each
  where
    one : (b : Bool) → (one_if b == 1) ≡ b
    one true = refl
    one false = refl

    each : (k : ℕ) → k < length (bits_of n v) → get_or (bits_of n v) k false ≡ get_or (set (bits_of n w) i b) k false
    each k less = by (k == i) refl
      where
        by : (t : Bool) → (k == i) ≡ t → get_or (bits_of n v) k false ≡ get_or (set (bits_of n w) i b) k false
        by true e =
            let same : i ≡ k = sym (eqb-true _ _ e) in
            subst (λ (x : ℕ). get_or (bits_of n v) x false ≡ get_or (set (bits_of n w) i b) x false) same
            (bit_is n v i inside ∙ ap (λ (x : ℕ). x == 1) here ∙ one b
            ∙ sym (get_or-set_same (bits_of n w) i b false (rw (bits_long n w) inside)))
        by false e =
            let apart : k ≢ i = (λ same. grind (arith, nat_tests)) in
            let inside : k < n = rw (bits_long n v) at less in
            bit_is n v k inside ∙ ap (λ (x : ℕ). x == 1) (others k inside apart) ∙ sym (bit_is n w k inside)
            ∙ sym (get_or-set_other (bits_of n w) i k b false apart)

not_none : (m : ℕ) → m ≤ 1 → (m ≡ 0 → ⊥) → m ≡ 1
not_none zero few some = absurd (some refl)
not_none (suc m) few some = omega arith

bit_sum : (b : ℕ) → b < 2 → count_ones b ≡ one_if (b == 1)
bit_sum zero small = let h = ones_le_self 0 in omega arith
bit_sum (suc zero) small =
    not_none (count_ones 1) (ones_le_self 1) (λ none. let h = zero_from_ones 1 none in omega arith)
bit_sum (suc (suc b)) small = absurd (omega arith)

bits_sum : (n w : ℕ) → w < 2 ^ n → count_ones w ≡ sum_by one_if (bits_of n w)
bits_sum zero w small = let h = ones_le_self w in omega arith
bits_sum (suc n) w small =
    let whole : w / 2 * 2 ^ 1 + w % 2 ≡ w = omega arith in
    let parts = ones_cat 1 (w / 2) (w % 2) (omega arith) in
    let lowest = bit_sum (w % 2) (omega arith) in
    let others = bits_sum n (w / 2) (omega arith) in
    let sums = sum_by-cons one_if (w % 2 == 1) (bits_of n (w / 2)) in
    ap count_ones (sym whole) ∙ omega arith

pub word_long : (w : ℕ) → length (word_bits w) ≡ 64
unfolding word_bits
word_long w = bits_long 64 w

pub word_bit : (w i : ℕ) → i < 64 → get_or (word_bits w) i false ≡ (bit_at w i == 1)
unfolding word_bits
word_bit w i inside = bit_is 64 w i inside

pub word_set : (w v i : ℕ) (b : Bool) → i < 64 → bit_at v i ≡ one_if b
    → ((k : ℕ) → k < 64 → k ≢ i → bit_at v k ≡ bit_at w k) → word_bits v ≡ set (word_bits w) i b
unfolding word_bits
word_set w v i b inside here others = bits_set 64 w v i b inside here others

pub word_sum : (w : ℕ) → w < 2 ^ 64 → count_ones w ≡ word_count w
unfolding word_bits
word_sum w small = bits_sum 64 w small

pub word_few : (w : ℕ) → word_count w ≤ 64
word_few w =
    let many : word_count w ≤ length (word_bits w) * 1 =
    sum_by-le one_if 1 (word_bits w) (λ k d less. one_few (get_or (word_bits w) k d)) in
    let long = word_long w in omega arith
  where
    one_few : (b : Bool) → one_if b ≤ 1
    one_few true = omega arith
    one_few false = omega arith

-- Ports of a word

bit_counted : (first : ℕ) (b : Bool) → Unit {0} → length (bit_ports first b) ≡ one_if b
bit_counted first true holds = refl
bit_counted first false holds = refl

bit_low : (first : ℕ) (b : Bool) → AreFrom first (bit_ports first b)
bit_low first true = (omega arith, tt)
bit_low first false = tt

bit_high : (first : ℕ) (b : Bool) → Unit {0} → AreBelow (first + 2) (bit_ports first b)
bit_high first true holds = (omega arith, tt)
bit_high first false holds = tt

-- each bit is right
abbrev Any : Bool → Type 0
Any b = Unit {0}

pub word_inside : (w at bit : ℕ) → FallsIn one_if (word_bits w) at bit 0 → bit < 64
word_inside w at bit is = let long = word_long w in let inside = is.inside in omega arith

pub word_index : (w first at bit : ℕ) → FallsIn one_if (word_bits w) at bit 0
    → slice_index (word_ports first w) at ≡ first + 2 * bit
word_index w first at bit is =
    row_index bit_ports one_if 2 Any bit_counted bit_low bit_high false first at bit 0 (first + 2 * bit) (word_bits w)
    (λ k d less. tt) is.inside is.before (is.within false) (omega arith)
    ∙ set_bit (get_or (word_bits w) bit false) (is.within false)
  where
    set_bit : (b : Bool) → 0 < one_if b → get_or (bit_ports (first + 2 * bit) b) 0 0 ≡ first + 2 * bit
    set_bit true some = refl
    set_bit false some = absurd (omega arith)

pub word_removed : (w v first at bit : ℕ) → FallsIn one_if (word_bits w) at bit 0
    → word_bits v ≡ set (word_bits w) bit false → word_ports first v ≡ remove (word_ports first w) at
word_removed w v first at bit is new =
    ap (λ (bits : List Bool). in_row bit_ports 2 first bits) new
    ∙ row_removed bit_ports one_if 2 Any bit_counted bit_low bit_high false first at bit 0 (first + 2 * bit) false
    (word_bits w) (λ k d less. tt) is.inside is.before (is.within false) (omega arith)
    (set_bit (get_or (word_bits w) bit false) (is.within false))
  where
    set_bit : (b : Bool) → 0 < one_if b → [] ≡ remove (bit_ports (first + 2 * bit) b) 0
    set_bit true some = refl
    set_bit false some = absurd (omega arith)

pub word_less : (w v at bit : ℕ) → FallsIn one_if (word_bits w) at bit 0 → word_bits v ≡ set (word_bits w) bit false
    → word_count v + 1 ≡ word_count w
word_less w v at bit is new =
    let sums = sum_by-set one_if (word_bits w) bit false false is.inside in
    let same : word_count v ≡ sum_by one_if (set (word_bits w) bit false) = ap (sum_by one_if) new in
    let one = set_bit (get_or (word_bits w) bit false) (is.within false) in omega arith
  where
    set_bit : (b : Bool) → 0 < one_if b → one_if b ≡ 1
    set_bit true some = refl
    set_bit false some = absurd (omega arith)

pub word_with : (w v first bit p : ℕ) → bit < 64 → p ≡ first + 2 * bit → word_bits v ≡ set (word_bits w) bit true
    → word_ports first v ≡ with_port p (word_ports first w)
word_with w v first bit p inside is new =
    ap (λ (bits : List Bool). in_row bit_ports 2 first bits) new
    ∙ row_with bit_ports one_if 2 Any bit_counted bit_low bit_high false p first bit p true (word_bits w)
    (λ k d less. tt) (rw (word_long w) inside) (omega arith) (omega arith) (omega arith)
    (one (get_or (word_bits w) bit false))
  where
    one : (b : Bool) → p ∷ [] ≡ with_port p (bit_ports p b)
    one true =
        let t : nat_lt p p ≡ false = grind (arith, nat_tests) in
        let u : (p == p) ≡ true = grind (arith, nat_tests) in rw (t, u) refl
    one false = refl

pub word_more : (w v bit : ℕ) → bit < 64 → word_bits v ≡ set (word_bits w) bit true
    → word_count v ≡ word_count w + one_if (not (get_or (word_bits w) bit false))
word_more w v bit inside new =
    let sums = sum_by-set one_if (word_bits w) bit true false (rw (word_long w) inside) in
    let same : word_count v ≡ sum_by one_if (set (word_bits w) bit true) = ap (sum_by one_if) new in
    let one = other (get_or (word_bits w) bit false) in omega arith
  where
    other : (b : Bool) → one_if b + one_if (not b) ≡ 1
    other true = refl
    other false = refl

pub word_counted : (first w : ℕ) → Unit {0} → length (word_ports first w) ≡ word_count w
word_counted first w holds =
    row_length bit_ports one_if 2 Any bit_counted bit_low bit_high first (word_bits w) (λ k d less. tt)

pub word_low : (first w : ℕ) → AreFrom first (word_ports first w)
word_low first w = row_from bit_ports one_if 2 Any bit_counted bit_low bit_high first (word_bits w)

pub word_high : (first w : ℕ) → Unit {0} → AreBelow (first + 128) (word_ports first w)
word_high first w holds = row_below bit_ports one_if 2 Any bit_counted bit_low bit_high first (first + 128)
    (word_bits w) (λ k d less. tt) (let long = word_long w in omega arith)

pub word_none : word_count 0 ≡ 0
word_none = let few = ones_le_self 0 in let sum = word_sum 0 (omega arith) in omega arith
