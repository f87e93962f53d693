-- The values of words at places, as the reader finds them, are those that a table says of them; and their ranges.
use Rattle.std.proofs.Common.{◌≡◌, ℕ, ◌+◌, ◌-◌, ◌^◌, ◌<◌, arith, List, [], ◌∷◌, length, take, refl, ap, ◌∙◌, subst}
use Rattle.std.proofs.Common.{Option, Some, None, true, false, Bool, cond, Ok, Err}
use Rattle.std.specs.Prelude.{Result, codes, option_map, map, nat_lt, nat_le, ◌&&◌}
use Rattle.std.specs.Str.{bytes_eq}
use Rattle.std.specs.Str.Parse.{digits_value}
use Rattle.std.specs.Char.{is_ascii_digit}
use Rattle.std.specs.List.{list_all}
use Rattle.std.proofs.lemmas.Bool.Decides.{nat_tests}
use Rattle.plain_text.specs.declared.fault.LineCause.{LineCause}
use Rattle.plain_text.specs.declared.fault.LineCause.TheVariants.{OutOfRange}
use Rattle.plain_text.specs.Grammar.{value_at, index_in, is_within, PlacesSay, range_at, range_fault, form_at}
use Rattle.plain_text.specs.Grammar.{form_fault}
use Rattle.plain_text.specs.Lines.{is_number, number_of}
use Rattle.line_tables.specs.Parts.{value_or_misfit, and_values, values_at}
use Rattle.handover.specs.declared.values.Part.{Part}
use Rattle.handover.specs.declared.values.Part.TheVariants.{One, Equals, Narrow, Wide}
use Rattle.handover.specs.Table.{place_of}
use Rattle.handover.specs.Values.{is_narrow}

-- A value that has the form of its place is in its range, but for one that is to have 32 bits

and_last : (a b c d : Bool) → (a && b && c && d) ≡ true → d ≡ true
and_last a b c true e = refl
and_last true true true false e = e
and_last true true false false e = e
and_last true false c false e = e
and_last false b c false e = e

number_small : (word : List ℕ) (n : ℕ) → number_of word ≡ Some n → n < 2 ^ 64
number_small word n = go (is_number word) refl
  where
    go : (b : Bool) → is_number word ≡ b → cond b (Some (digits_value 10 word)) None ≡ Some n → n < 2 ^ 64
    go false is e = absurd (cc)
    go true is e =
        let same : digits_value 10 word ≡ n = cc in
        let low : nat_lt (digits_value 10 word) (2 ^ 64) ≡ true = and_last (nat_lt 0 (length word))
        (nat_le (length word) 20) (list_all is_ascii_digit word) (nat_lt (digits_value 10 word) (2 ^ 64)) is in
        let less : digits_value 10 word < 2 ^ 64 = grind (arith, nat_tests) in
        omega arith

pub wide_within : (n : ℕ) → n < 2 ^ 64 → is_within (place_of Wide) n ≡ true
wide_within n less =
    let low : nat_le 0 n ≡ true = grind (arith, nat_tests) in
    let high : nat_le n (2 ^ 64 - 1) ≡ true = grind (arith, nat_tests) in
    rw (low, high) refl

narrow_within : (n : ℕ) → is_within (place_of Narrow) n ≡ is_narrow n
narrow_within n = by (nat_lt n (2 ^ 32)) refl
  where
    low : nat_le 0 n ≡ true
    low = grind (arith, nat_tests)

    by : (b : Bool) → nat_lt n (2 ^ 32) ≡ b → is_within (place_of Narrow) n ≡ is_narrow n
    by true e =
        let high : nat_le n (2 ^ 32 - 1) ≡ true = grind (arith, nat_tests) in
        rw (low, high, e) refl
    by false e =
        let high : nat_le n (2 ^ 32 - 1) ≡ false = grind (arith, nat_tests) in
        rw (low, high, e) refl

pub within_32 : (n : ℕ) → n < 2 ^ 32 → is_within (place_of Narrow) n ≡ true
within_32 n less =
    let small : nat_lt n (2 ^ 32) ≡ true = grind (arith, nat_tests) in
    narrow_within n ∙ small

-- whether a value at a place has no more bits than it may
abbrev pub part_narrow : Part → ℕ → Bool
part_narrow One n = true
part_narrow Equals n = true
part_narrow Narrow n = is_narrow n
part_narrow Wide n = true

value_within : (part : Part) (word : List ℕ) (n : ℕ) → value_at (place_of part) word ≡ Some n
    → is_within (place_of part) n ≡ part_narrow part n
value_within One word n e = refl
value_within Equals word n e = refl
value_within Narrow word n e = narrow_within n
value_within Wide word n e = wide_within n (number_small word n e)

-- so of values at places, as far as there are both
abbrev pub parts_narrow : List Part → List ℕ → Bool
parts_narrow [] values = true
parts_narrow (part ∷ parts) [] = true
parts_narrow (part ∷ parts) (n ∷ values) = part_narrow part n && parts_narrow parts values

pub narrow_front : (parts : List Part) (values : List ℕ)
    → parts_narrow parts (take (length parts) values) ≡ parts_narrow parts values
narrow_front [] values = refl
narrow_front (part ∷ parts) [] = refl
narrow_front (part ∷ parts) (n ∷ values) = ap (λ (b : Bool). part_narrow part n && b) (narrow_front parts values)

-- The values of the words after the first

-- they have a form, and are in their ranges where none has more bits than it may
pub record AreRead (parts : List Part) (words : List (List ℕ)) (values : List ℕ) : Type 0 where
  pub form : form_fault (map place_of parts) words ≡ None
  pub range : range_fault (map place_of parts) words ≡ cond (parts_narrow parts values) None (Some OutOfRange)
  pub say : parts_narrow parts values ≡ true → PlacesSay (map place_of parts) words values

and_both : (a b : Bool) → (a && b) ≡ true → (a ≡ true) × (b ≡ true)
and_both true true e = (refl, refl)
and_both true false e = absurd (cc)
and_both false b e = absurd (cc)

both_fit : (a b : Bool) (bad : Option LineCause) → cond a (cond b None bad) bad ≡ cond (a && b) None bad
both_fit true b bad = refl
both_fit false b bad = refl

pub are_read : (parts : List Part) (words : List (List ℕ)) (values : List ℕ)
    → values_at (map place_of parts) words ≡ Ok values → AreRead parts words values
are_read [] [] [] e = record { form = refl; range = refl; say = λ t. tt }
are_read [] [] (n ∷ values) e = absurd (cc)
are_read [] (word ∷ words) values e = absurd (cc)
are_read (part ∷ parts) [] values e = absurd (cc)
are_read (part ∷ parts) (word ∷ words) values e = go (value_at (place_of part) word)
    (values_at (map place_of parts) words) refl refl e (are_read parts words)
  where
    first : (v : ℕ) (more : List ℕ) → value_at (place_of part) word ≡ Some v → AreRead parts words more
        → AreRead (part ∷ parts) (word ∷ words) (v ∷ more)
    first v more is behind = record {
      form = ap (λ (o : Option ℕ). form_at (place_of part) o (form_fault (map place_of parts) words)) is ∙ behind.form;
      range =
          ap (λ (o : Option ℕ). range_at (place_of part) o (range_fault (map place_of parts) words)) is
          ∙ ap (λ (b : Bool). cond b (range_fault (map place_of parts) words) (Some OutOfRange))
          (value_within part word v is)
          ∙ ap (λ (o : Option LineCause). cond (part_narrow part v) o (Some OutOfRange)) behind.range
          ∙ both_fit (part_narrow part v) (parts_narrow parts more) (Some OutOfRange);
      say = λ t.
          let both = and_both (part_narrow part v) (parts_narrow parts more) t in
          (is, value_within part word v is ∙ both.0, behind.say both.1);
    }

    go : (o : Option ℕ) (r : Result (List ℕ) LineCause) → value_at (place_of part) word ≡ o
        → values_at (map place_of parts) words ≡ r → and_values (value_or_misfit (place_of part) o) r ≡ Ok values
        → ((more : List ℕ) → values_at (map place_of parts) words ≡ Ok more → AreRead parts words more)
        → AreRead (part ∷ parts) (word ∷ words) values
    go None r is are e behind = absurd (cc)
    go (Some v) (Err cause) is are e behind = absurd (cc)
    go (Some v) (Ok more) is are e behind =
        let same : v ∷ more ≡ values = cc in
        subst (AreRead (part ∷ parts) (word ∷ words)) same (first v more is (behind more are))

-- What they say are values of the places

abbrev pub IsValue : Part → ℕ → Type 0
IsValue One n = n ≡ 0
IsValue Equals n = n ≡ 0
IsValue Narrow n = Unit {0}
IsValue Wide n = Unit {0}

abbrev pub AreValues : List Part → List ℕ → Type 0
AreValues [] [] = Unit {0}
AreValues [] (n ∷ values) = ⊥
AreValues (part ∷ parts) [] = ⊥
AreValues (part ∷ parts) (n ∷ values) = IsValue part n × AreValues parts values

fixed_back : (fixed word : List ℕ) (n : ℕ) → index_in word (fixed ∷ []) ≡ Some n → n ≡ 0
fixed_back fixed word n = go (bytes_eq word fixed)
  where
    go : (a : Bool) → cond a (Some 0) (option_map (λ n. n + 1) None) ≡ Some n → n ≡ 0
    go true e = cc
    go false e = absurd (cc)

part_value : (part : Part) (word : List ℕ) (n : ℕ) → value_at (place_of part) word ≡ Some n → IsValue part n
part_value One word n e = fixed_back (codes "1") word n e
part_value Equals word n e = fixed_back (codes "=") word n e
part_value Narrow word n e = tt
part_value Wide word n e = tt

pub are_values : (parts : List Part) (words : List (List ℕ)) (values : List ℕ)
    → PlacesSay (map place_of parts) words values → AreValues parts values
are_values [] [] [] s = tt
are_values [] [] (n ∷ values) s = absurd s
are_values [] (word ∷ words) values s = absurd s
are_values (part ∷ parts) [] values s = absurd s
are_values (part ∷ parts) (word ∷ words) [] s = absurd s
are_values (part ∷ parts) (word ∷ words) (n ∷ values) s =
    (part_value part word n s.0, are_values parts words values s.2)
