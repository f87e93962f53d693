-- Numbers of text files.
use Rattle.std.proofs.Common.{◌≡◌, ℕ, ◌+◌, ◌*◌, ◌^◌, ◌<◌, ◌≤◌, ◌&&◌, Bool, true, false, List, length, take, get_or}
use Rattle.std.proofs.Common.{refl, sym, ap, ◌∙◌, arith, Some, None}
use Rattle.std.specs.Prelude.{nat_lt, nat_le}
use Rattle.std.specs.List.{list_all}
use Rattle.std.specs.Char.{is_ascii_digit}
use Rattle.std.proofs.Common.{◌-◌, inl, inr, ◌⊎◌}
use Rattle.std.proofs.Math.Seq.{take-length}
use Rattle.std.proofs.lemmas.List.{take_more}
use Rattle.std.proofs.lemmas.List.Folds.{list_all-append}
use Rattle.std.proofs.lemmas.Grind.{common_steps}
use Rattle.std.proofs.lemmas.Bool.{cases_lt}
use Rattle.std.proofs.lemmas.Int.Digits.{digits_value_more}
use Rattle.std.specs.Char.{digit_value}
use Rattle.std.specs.Str.Parse.{digits_value}
use Rattle.std.proofs.lemmas.Str.Parse.{digits_value-take-le}
use Rattle.std.proofs.lemmas.Bool.Decides.{nat_tests}
use Rattle.plain_text.specs.Lines.{number_of}

pub and_false : (b : Bool) → (b && false) ≡ false
and_false true = refl
and_false false = refl

-- a word whose first digits are past the limit is no number
pub too_large : (word : List ℕ) (i : ℕ) → 2 ^ 64 ≤ digits_value 10 (take i word) → number_of word ≡ None
too_large word i h =
    let part = digits_value-take-le 10 word i (omega arith) in
    let no : nat_lt (digits_value 10 word) (2 ^ 64) ≡ false = grind (arith, nat_tests) in
    rw (no, and_false (nat_lt 0 (length word) && nat_le (length word) 20 && list_all is_ascii_digit word)) refl

-- a word with another byte than a digit is no number
pub no_digit : (word : List ℕ) → list_all is_ascii_digit word ≡ false → number_of word ≡ None
no_digit word h = rw (h, and_false (nat_lt 0 (length word) && nat_le (length word) 20)) refl

digit_is : (b : ℕ) → is_ascii_digit b ≡ true → digit_value b ≡ b - 48
digit_is b h = grind (arith, nat_tests)

-- one more digit
pub value_more : (word : List ℕ) (i b : ℕ) → i < length word → b ≡ get_or word i 0 → is_ascii_digit b ≡ true
    → digits_value 10 (take (i + 1) word) ≡ digits_value 10 (take i word) * 10 + (b - 48)
value_more word i b in_word b_is digit =
    digits_value_more 10 word i in_word
    ∙ ap (λ d. digits_value 10 (take i word) * 10 + digit_value d) (sym b_is)
    ∙ ap (λ d. digits_value 10 (take i word) * 10 + d) (digit_is b digit)

pub not_below : (a b : ℕ) → (a < b → ⊥) → b ≤ a
not_below a b h = go (cases_lt a b)
  where
    go : (a < b) ⊎ (b ≤ a) → b ≤ a
    go (inl k) = absurd (h k)
    go (inr k) = k

pub digits_more : (word : List ℕ) (i : ℕ) → i < length word → list_all is_ascii_digit (take i word) ≡ true
    → is_ascii_digit (get_or word i 0) ≡ true → list_all is_ascii_digit (take (i + 1) word) ≡ true
digits_more word i in_word before here = grind (arith, common_steps, take_more, list_all-append)

-- a word of digits that were all read
pub is_whole : (word : List ℕ) (number i : ℕ) → 0 < length word → length word ≤ 20 → i ≡ length word
    → list_all is_ascii_digit (take i word) ≡ true → number ≡ digits_value 10 (take i word) → number < 2 ^ 64
    → Some number ≡ number_of word
is_whole word number i some short all digits value fits =
    let whole : take i word ≡ word = ap (λ n. take n word) all ∙ take-length word in
    let digits2 : list_all is_ascii_digit word ≡ true = ap (list_all is_ascii_digit) (sym whole) ∙ digits in
    let value2 : number ≡ digits_value 10 word = value ∙ ap (digits_value 10) whole in
    let a : nat_lt 0 (length word) ≡ true = grind (arith, nat_tests) in
    let b : nat_le (length word) 20 ≡ true = grind (arith, nat_tests) in
    let d : nat_lt (digits_value 10 word) (2 ^ 64) ≡ true = grind (arith, nat_tests) in
    rw (a, b, digits2, d) (ap Some value2)
