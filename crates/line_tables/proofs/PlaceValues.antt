-- The values of words at places, as the reader finds them, are those that a table says of them.
use Rattle.std.proofs.Common.{◌≡◌, ℕ, ◌+◌, ◌-◌, ◌^◌, ◌<◌, arith, List, [], ◌∷◌, length, refl, ap, ◌∙◌, subst}
use Rattle.std.proofs.Common.{Option, Some, None, true, false, Bool, cond, Ok, Err}
use Rattle.std.specs.Prelude.{Result, codes, option_map, map, nat_lt, nat_le, ◌&&◌}
use Rattle.std.specs.Str.{bytes_eq}
use Rattle.std.specs.Str.Parse.{digits_value}
use Rattle.std.specs.Char.{is_ascii_digit}
use Rattle.std.specs.List.{list_all}
use Rattle.std.proofs.lemmas.Bool.Decides.{nat_tests}
use Rattle.plain_text.specs.declared.fault.LineCause.{LineCause}
use Rattle.plain_text.specs.Grammar.{Place, value_at, index_in, misfit, is_within, PlacesSay, form_at, form_fault}
use Rattle.plain_text.specs.Lines.{is_number, number_of}
use Rattle.line_tables.specs.declared.part.Part.{Part}
use Rattle.line_tables.specs.declared.part.Part.TheVariants.{Number, Equals, Kind}
use Rattle.line_tables.specs.Parts.{kind_words, kind_value, kind_from, grammar_place, value_or_misfit, and_values}
use Rattle.line_tables.specs.Parts.{values_at, IsValue, AreValues}

-- A value that has the form of its place is in its range

and_last : (a b c d : Bool) → (a && b && c && d) ≡ true → d ≡ true
and_last a b c true e = refl
and_last true true true false e = e
and_last true true false false e = e
and_last true false c false e = e
and_last false b c false e = e

number_small : (word : List ℕ) (n : ℕ) → number_of word ≡ Some n → n < 2 ^ 64
number_small word n = go (is_number word) refl
  where
    go : (b : Bool) → is_number word ≡ b → cond b (Some (digits_value 10 word)) None ≡ Some n → n < 2 ^ 64
    go false is e = absurd (cc)
    go true is e =
        let same : digits_value 10 word ≡ n = cc in
        let low : nat_lt (digits_value 10 word) (2 ^ 64) ≡ true = and_last (nat_lt 0 (length word))
        (nat_le (length word) 20) (list_all is_ascii_digit word) (nat_lt (digits_value 10 word) (2 ^ 64)) is in
        let less : digits_value 10 word < 2 ^ 64 = grind (arith, nat_tests) in
        omega arith

pub number_within : (n : ℕ) → n < 2 ^ 64 → is_within (grammar_place Number) n ≡ true
number_within n less =
    let low : nat_le 0 n ≡ true = grind (arith, nat_tests) in
    let high : nat_le n (2 ^ 64 - 1) ≡ true = grind (arith, nat_tests) in
    rw (low, high) refl

value_within : (part : Part) (word : List ℕ) (n : ℕ) → value_at (grammar_place part) word ≡ Some n
    → is_within (grammar_place part) n ≡ true
value_within Number word n e = number_within n (number_small word n e)
value_within Equals word n e = refl
value_within Kind word n e = refl

-- The values of the words after the first

pub values_say : (parts : List Part) (words : List (List ℕ)) (values : List ℕ)
    → values_at (map grammar_place parts) words ≡ Ok values → PlacesSay (map grammar_place parts) words values
values_say [] [] [] e = tt
values_say [] [] (n ∷ values) e = absurd (cc)
values_say [] (word ∷ words) values e = absurd (cc)
values_say (part ∷ parts) [] values e = absurd (cc)
values_say (part ∷ parts) (word ∷ words) values e = go (value_at (grammar_place part) word)
    (values_at (map grammar_place parts) words) refl refl e (values_say parts words)
  where
    go : (o : Option ℕ) (r : Result (List ℕ) LineCause) → value_at (grammar_place part) word ≡ o
        → values_at (map grammar_place parts) words ≡ r
        → and_values (value_or_misfit (grammar_place part) o) r ≡ Ok values
        → ((more : List ℕ) → values_at (map grammar_place parts) words ≡ Ok more
        → PlacesSay (map grammar_place parts) words more)
        → PlacesSay (map grammar_place (part ∷ parts)) (word ∷ words) values
    go None r is are e behind = absurd (cc)
    go (Some v) (Err cause) is are e behind = absurd (cc)
    go (Some v) (Ok more) is are e behind =
        let same : v ∷ more ≡ values = cc in
        subst (PlacesSay (map grammar_place (part ∷ parts)) (word ∷ words)) same
        (is, value_within part word v is, behind more are)

pub values_fault : (places : List Place) (words : List (List ℕ)) (cause : LineCause)
    → values_at places words ≡ Err cause → form_fault places words ≡ Some cause
values_fault [] [] cause e = absurd (cc)
values_fault [] (word ∷ words) cause e = cc
values_fault (place ∷ places) [] cause e = cc
values_fault (place ∷ places) (word ∷ words) cause e =
    go (value_at place word) (values_at places words) refl refl e (values_fault places words cause)
  where
    go : (o : Option ℕ) (r : Result (List ℕ) LineCause) → value_at place word ≡ o → values_at places words ≡ r
        → and_values (value_or_misfit place o) r ≡ Err cause
        → (values_at places words ≡ Err cause → form_fault places words ≡ Some cause)
        → form_fault (place ∷ places) (word ∷ words) ≡ Some cause
    go None r is are e behind =
        let same : misfit place ≡ cause = cc in
        ap (λ (o : Option ℕ). form_at place o (form_fault places words)) is ∙ ap Some same
    go (Some v) (Ok more) is are e behind = absurd (cc)
    go (Some v) (Err why) is are e behind =
        let same : why ≡ cause = cc in
        ap (λ (o : Option ℕ). form_at place o (form_fault places words)) is ∙ behind (are ∙ ap Err same)

-- What they say are values of the places

kind_back : (word : List ℕ) (n : ℕ) → index_in word kind_words ≡ Some n → kind_value (kind_from n) ≡ n
kind_back word n = go (bytes_eq word (codes "log")) (bytes_eq word (codes "out"))
  where
    go : (a b : Bool)
        → cond a (Some 0) (option_map (λ n. n + 1) (cond b (Some 0) (option_map (λ n. n + 1) None))) ≡ Some n
        → kind_value (kind_from n) ≡ n
    go true b e = let same : 0 ≡ n = cc in subst (λ (k : ℕ). kind_value (kind_from k) ≡ k) same refl
    go false true e = let same : 1 ≡ n = cc in subst (λ (k : ℕ). kind_value (kind_from k) ≡ k) same refl
    go false false e = absurd (cc)

sign_back : (word : List ℕ) (n : ℕ) → index_in word (codes "=" ∷ []) ≡ Some n → n ≡ 0
sign_back word n = go (bytes_eq word (codes "="))
  where
    go : (a : Bool) → cond a (Some 0) (option_map (λ n. n + 1) None) ≡ Some n → n ≡ 0
    go true e = cc
    go false e = absurd (cc)

part_value : (part : Part) (word : List ℕ) (n : ℕ) → value_at (grammar_place part) word ≡ Some n → IsValue part n
part_value Number word n e = tt
part_value Equals word n e = sign_back word n e
part_value Kind word n e = kind_back word n e

pub are_values : (parts : List Part) (words : List (List ℕ)) (values : List ℕ)
    → PlacesSay (map grammar_place parts) words values → AreValues parts values
are_values [] [] [] s = tt
are_values [] [] (n ∷ values) s = absurd s
are_values [] (word ∷ words) values s = absurd s
are_values (part ∷ parts) [] values s = absurd s
are_values (part ∷ parts) (word ∷ words) [] s = absurd s
are_values (part ∷ parts) (word ∷ words) (n ∷ values) s =
    (part_value part word n s.0, are_values parts words values s.2)
