-- Addresses, octet by octet.
use Rattle.std.proofs.Common.{◌≡◌, ℕ, suc, ◌+◌, ◌*◌, ◌^◌, ◌<◌, ◌&&◌, Bool, true, false, List, [], ◌∷◌, length, take}
use Rattle.std.proofs.Common.{drop, get_or, refl, sym, ap, arith, Option, Some, None, cond}
use Rattle.std.specs.Prelude.{position, nat_lt, nat_le}
use Rattle.std.specs.List.{slice_split, list_all}
use Rattle.std.specs.Char.{is_ascii_digit}
use Rattle.std.specs.Str.Parse.{digits_value}
use Rattle.std.proofs.lemmas.Bool.Decides.{nat_tests}
use Rattle.std.proofs.lemmas.List.Folds.{list_all_at}
use Rattle.std.proofs.lemmas.List.Quantifiers.{position-Some}
use Rattle.plain_text.specs.Lines.{address_of, is_dot, is_number, is_octet, with_octets}
use Rattle.plain_text.proofs.CutLists.{some_parts, split_at_none, split_at_some}
use Rattle.plain_text.proofs.Numbers.{and_false}

abbrev octets : ℕ → ℕ → List ℕ → Option ℕ
octets count value word = with_octets count value (slice_split is_dot word)

-- what stands before the first dot is the next octet
pub octet_more : (word : List ℕ) (i count value : ℕ) → position is_dot word ≡ Some i → is_octet (take i word) ≡ true
    → octets (suc count) value word ≡ octets count (value * 256 + digits_value 10 (take i word)) (drop (i + 1) word)
octet_more word i count value dot is = rw (split_at_some is_dot word i dot, is) refl

pub no_octet : (word : List ℕ) (i count value : ℕ) → position is_dot word ≡ Some i → is_octet (take i word) ≡ false
    → octets (suc count) value word ≡ None
no_octet word i count value dot is = rw (split_at_some is_dot word i dot, is) refl

pub no_dot : (word : List ℕ) (count value : ℕ) → position is_dot word ≡ None
    → octets (suc (suc count)) value word ≡ None
no_dot word count value none = rw (split_at_none is_dot word none) (by (is_octet word))
  where
    by : (b : Bool) → cond b (with_octets (suc count) (value * 256 + digits_value 10 word) []) None ≡ None
    by true = refl
    by false = refl

-- a word with a dot is no octet
with_dot : (word : List ℕ) (i : ℕ) → position is_dot word ≡ Some i → is_octet word ≡ false
with_dot word i dot =
    let at = position-Some is_dot word i 0 dot in
    let place : i < length word = at.0 in
    let is : is_dot (get_or word i 0) ≡ true = at.1 in
    let none : list_all is_ascii_digit word ≡ false =
    list_all_at is_ascii_digit word i 0 place (grind (arith, nat_tests)) in
    rw (none, and_false (nat_lt 0 (length word) && nat_le (length word) 20)) refl

-- and what stands behind the last dot is the last octet
pub last_octet : (word : List ℕ) (value : ℕ)
    → octets 1 value word ≡ cond (is_octet word) (Some (value * 256 + digits_value 10 word)) None
last_octet word value = by (position is_dot word) refl
  where
    by : (o : Option ℕ) → position is_dot word ≡ o
        → octets 1 value word ≡ cond (is_octet word) (Some (value * 256 + digits_value 10 word)) None
    by None none = rw (split_at_none is_dot word none) refl
    by (Some i) dot =
        let parts = some_parts is_dot (drop (i + 1) word) in
        rw (split_at_some is_dot word i dot, parts.2, with_dot word i dot) (too_many (is_octet (take i word)))
      where
        too_many : (b : Bool) → cond {A = Option ℕ} b None None ≡ None
        too_many true = refl
        too_many false = refl

-- What the reading of an octet says

pub is_none : (b : Bool) (n : ℕ) → None ≡ cond b (Some n) None → b ≡ false
is_none true n e = absurd (cc)
is_none false n e = refl

pub is_one : (b : Bool) (n octet : ℕ) → Some octet ≡ cond b (Some n) None → (b ≡ true) × (octet ≡ n)
is_one true n octet e = (refl, cc)
is_one false n octet e = absurd (cc)

pub none_last : (b : Bool) (n value : ℕ) → None ≡ cond b (Some n) None → cond b (Some value) None ≡ None
none_last b n value e = ap (λ (b : Bool). cond b (Some value) None) (is_none b n e)

pub one_last : (b : Bool) (n octet value : ℕ) → Some octet ≡ cond b (Some n) None
    → cond b (Some (value + n)) None ≡ Some (value + octet)
one_last true n octet value e = let same : octet ≡ n = cc in ap (λ (m : ℕ). Some (value + m)) (sym same)
one_last false n octet value e = absurd (cc)

-- An address has 32 bits

and_right : (a b : Bool) → (a && b) ≡ true → b ≡ true
and_right true b e = e
and_right false b e = absurd (cc)

next_octet : (count value n : ℕ) (parts : List (List ℕ)) → with_octets (suc count) value parts ≡ Some n
    → (octet : ℕ) × (rest : List (List ℕ)) × (octet < 256) × (with_octets count (value * 256 + octet) rest ≡ Some n)
next_octet count value n [] e = absurd (cc)
next_octet count value n (part ∷ parts) e = by (is_octet part) refl e
  where
    small : is_octet part ≡ true → digits_value 10 part < 256
    small is =
        let low : nat_lt (digits_value 10 part) 256 ≡ true =
        and_right (is_number part) (nat_lt (digits_value 10 part) 256) is in
        grind (arith, nat_tests)

    by : (b : Bool) → is_octet part ≡ b
        → cond b (with_octets count (value * 256 + digits_value 10 part) parts) None ≡ Some n
        → (octet : ℕ) × (rest : List (List ℕ)) × (octet < 256) × (with_octets count (value * 256 + octet) rest ≡ Some n)
    by true is e = (digits_value 10 part, parts, small is, e)
    by false is e = absurd (cc)

no_octet_left : (value n : ℕ) (parts : List (List ℕ)) → with_octets 0 value parts ≡ Some n → value ≡ n
no_octet_left value n [] e = cc
no_octet_left value n (part ∷ parts) e = absurd (cc)

pub address_small : (word : List ℕ) (n : ℕ) → address_of word ≡ Some n → n < 2 ^ 32
address_small word n e =
    let a = next_octet 3 0 n (slice_split is_dot word) e in
    let b = next_octet 2 (0 * 256 + a.0) n a.1 a.3 in
    let c = next_octet 1 ((0 * 256 + a.0) * 256 + b.0) n b.1 b.3 in
    let d = next_octet 0 (((0 * 256 + a.0) * 256 + b.0) * 256 + c.0) n c.1 c.3 in
    let whole = no_octet_left ((((0 * 256 + a.0) * 256 + b.0) * 256 + c.0) * 256 + d.0) n d.1 d.3 in
    let high : a.0 < 256 = a.2 in
    let second : b.0 < 256 = b.2 in
    let third : c.0 < 256 = c.2 in
    let last : d.0 < 256 = d.2 in
    omega arith
