-- Words that are written with a space between are the words of their line.
use Rattle.std.proofs.Common.{◌≡◌, ℕ, ◌+◌, ◌^◌, ◌<◌, ◌≤◌, ◌==◌, arith, List, [], ◌∷◌, ◌++◌, length, refl, ap, ◌∙◌, Some}
use Rattle.std.proofs.Common.{true, false, Bool, cond}
use Rattle.std.specs.Prelude.{◌&&◌, decimal, filter, nat_lt, nat_le}
use Rattle.std.specs.Char.{is_ascii_digit}
use Rattle.std.specs.List.{list_all, slice_split, onto_first}
use Rattle.std.specs.Str.Parse.{AllDigits, digits_value}
use Rattle.std.proofs.lemmas.Bool.Decides.{nat_tests}
use Rattle.std.proofs.lemmas.Fmt.{decimal_is_IsNumeral, length-decimal-le}
use Rattle.std.proofs.lemmas.List.Splits.{slice_split-cons_yes, slice_split-cons_no}
use Rattle.std.proofs.lemmas.Str.Parse.{digit_from_value}
use Rattle.plain_text.specs.Lines.{is_blank, words_of, number_of}

-- Lists of bytes that are all above one

abbrev pub Above : ℕ → List ℕ → Type 0
Above low [] = Unit {0}
Above low (c ∷ bytes) = (low < c) × Above low bytes

pub above_test : (low : ℕ) (bytes : List ℕ) → list_all (λ c. nat_lt low c) bytes ≡ true → Above low bytes
above_test low [] e = tt
above_test low (c ∷ bytes) e = go (nat_lt low c) refl e (above_test low bytes)
  where
    go : (b : Bool) → nat_lt low c ≡ b → (b && list_all (λ c. nat_lt low c) bytes) ≡ true
        → (list_all (λ c. nat_lt low c) bytes ≡ true → Above low bytes) → Above low (c ∷ bytes)
    go true is e more = (grind (arith, nat_tests), more e)
    go false is e more = absurd (cc)

above_append : (low : ℕ) (a b : List ℕ) → Above low a → Above low b → Above low (a ++ b)
above_append low [] b x y = y
above_append low (c ∷ a) b x y = (x.0, above_append low a b x.1 y)

pub above_less : (low : ℕ) (bytes : List ℕ) → Above (low + 1) bytes → Above low bytes
above_less low [] x = tt
above_less low (c ∷ bytes) x = let first = x.0 in (omega arith, above_less low bytes x.1)

-- Cutting at the first byte that passes a test, where those above some byte do not

module _ (low : ℕ) (p : ℕ → Bool) (stays : (c : ℕ) → low < c → p c ≡ false) where
  pub cut_at : (xs : List ℕ) (y : ℕ) (ys : List ℕ) → Above low xs → p y ≡ true
      → slice_split p (xs ++ y ∷ ys) ≡ xs ∷ slice_split p ys
  cut_at [] y ys above e = slice_split-cons_yes p y ys e
  cut_at (x ∷ xs) y ys above e =
      slice_split-cons_no p x (xs ++ y ∷ ys) (stays x above.0) ∙ ap (onto_first x) (cut_at xs y ys above.1 e)

  cut_none : (xs : List ℕ) → Above low xs → slice_split p xs ≡ xs ∷ []
  cut_none [] above = refl
  cut_none (x ∷ xs) above = slice_split-cons_no p x xs (stays x above.0) ∙ ap (onto_first x) (cut_none xs above.1)

not_blank : (c : ℕ) → 32 < c → is_blank c ≡ false
not_blank c high =
    let space : (c == 32) ≡ false = grind (arith, nat_tests) in
    let tab : (c == 9) ≡ false = grind (arith, nat_tests) in
    rw (space, tab) refl

pub not_feed : (c : ℕ) → 31 < c → (c == 10) ≡ false
not_feed c high = grind (arith, nat_tests)

-- Words with a space between

abbrev pub spaced : List (List ℕ) → List ℕ
spaced [] = []
spaced (word ∷ []) = word
spaced (word ∷ next ∷ words) = word ++ 32 ∷ spaced (next ∷ words)

abbrev pub IsWord : List ℕ → Type 0
IsWord word = (nat_lt 0 (length word) ≡ true) × Above 32 word

abbrev pub AreWords : List (List ℕ) → Type 0
AreWords [] = Unit {0}
AreWords (word ∷ words) = IsWord word × AreWords words

pub words_of_spaced : (word : List ℕ) (words : List (List ℕ)) → AreWords (word ∷ words)
    → words_of (spaced (word ∷ words)) ≡ word ∷ words
words_of_spaced word [] are =
    ap (filter (λ w. nat_lt 0 (length w))) (cut_none 32 is_blank not_blank word are.0.1)
    ∙ ap (λ (b : Bool). cond b (word ∷ []) []) are.0.0
words_of_spaced word (next ∷ words) are =
    let more = words_of_spaced next words are.1 in
    ap (filter (λ w. nat_lt 0 (length w))) (cut_at 32 is_blank not_blank word 32 (spaced (next ∷ words)) are.0.1 refl)
    ∙ ap (λ (b : Bool). cond b (word ∷ words_of (spaced (next ∷ words))) (words_of (spaced (next ∷ words)))) are.0.0
    ∙ ap (λ (ws : List (List ℕ)). word ∷ ws) more

pub spaced_above : (word : List ℕ) (words : List (List ℕ)) → AreWords (word ∷ words) → Above 31 (spaced (word ∷ words))
spaced_above word [] are = above_less 31 word are.0.1
spaced_above word (next ∷ words) are =
    above_append 31 word (32 ∷ spaced (next ∷ words)) (above_less 31 word are.0.1)
    (omega arith, spaced_above next words are.1)

-- Decimal numbers

digits_above : (ds : List ℕ) → AllDigits 10 ds → Above 32 ds
digits_above [] all = tt
digits_above (c ∷ ds) all = let r = digit_from_value c all.0 in (omega arith, digits_above ds all.1)

digits_pass : (ds : List ℕ) → AllDigits 10 ds → list_all is_ascii_digit ds ≡ true
digits_pass [] all = refl
digits_pass (c ∷ ds) all =
    let r = digit_from_value c all.0 in
    let one : is_ascii_digit c ≡ true = grind (arith, nat_tests) in
    rw one (digits_pass ds all.1)

pub decimal_word : (n : ℕ) → n < 2 ^ 64 → IsWord (decimal n)
decimal_word n small =
    let numeral = (decimal_is_IsNumeral n small).0 in
    let some = numeral.0 in
    let there : nat_lt 0 (length (decimal n)) ≡ true = grind (arith, nat_tests) in
    (there, digits_above (decimal n) numeral.1)

pub decimal_number : (n : ℕ) → n < 2 ^ 64 → number_of (decimal n) ≡ Some n
decimal_number n small =
    let is = decimal_is_IsNumeral n small in
    let some = is.0.0 in
    let value : digits_value 10 (decimal n) ≡ n = is.1 in
    let short : length (decimal n) ≤ 20 = length-decimal-le 20 n (omega arith) (omega arith) small in
    let a : nat_lt 0 (length (decimal n)) ≡ true = grind (arith, nat_tests) in
    let b : nat_le (length (decimal n)) 20 ≡ true = grind (arith, nat_tests) in
    let d : nat_lt (digits_value 10 (decimal n)) (2 ^ 64) ≡ true = grind (arith, nat_tests) in
    rw (a, b, digits_pass (decimal n) is.0.1, d) (ap Some value)
