-- What the reader finds at the places of a line, one after the other, is what they say of its words.
use Rattle.std.proofs.Common.{◌≡◌, ℕ, List, [], ◌∷◌, refl, sym, ap, ◌∙◌, Option, Some, None, true, false, Bool, cond}
use Rattle.std.proofs.Common.{Ok, Err}
use Rattle.std.specs.Prelude.{Result, map, unwrap_or, ◌&&◌}
use Rattle.plain_text.specs.declared.fault.LineCause.{LineCause}
use Rattle.plain_text.specs.declared.fault.LineCause.TheVariants.{OutOfRange}
use Rattle.plain_text.specs.Fields.{fields_of}
use Rattle.plain_text.specs.Grammar.{value_at, values_in, is_within, misfit, form_at, form_fault, range_at, range_fault}
use Rattle.box_conf.specs.declared.settings.ReadValues.{ReadValues}
use Rattle.box_conf.specs.declared.table.LinePlace.{LinePlace}
use Rattle.box_conf.specs.Settings.{AreRead, put_before, take_value, value_or}
use Rattle.box_conf.specs.Table.{grammar_place, values_from}

abbrev Words : Type 0
Words = List (List ℕ)

abbrev Taken : Type 0
Taken = Result (ℕ × Words) LineCause

-- The end of a line

pub none_left : (words : Words) → fields_of [] words ≡ Ok []
    → AreRead [] words (record { values = values_from []; within = true })
none_left [] e = record { form = refl; are = refl; range = refl }
none_left (word ∷ words) e = absurd (cc)

pub word_left : (words : Words) (cause : LineCause) → fields_of [] words ≡ Err cause → form_fault [] words ≡ Some cause
word_left [] cause e = absurd (cc)
word_left (word ∷ words) cause e = cc

-- One place

abbrev pair_of : Taken → ℕ × Words
pair_of (Ok pair) = pair
pair_of (Err cause) = (0, [])

record TakesOne (place : LinePlace) (words rest : Words) (n : ℕ) : Type 0 where
  pub word : List ℕ
  pub front : words ≡ word ∷ rest
  pub value : value_at (grammar_place place) word ≡ Some n

takes_one : (place : LinePlace) (words rest : Words) (n : ℕ) → take_value place words ≡ Ok (n, rest)
    → TakesOne place words rest n
takes_one place [] rest n e = absurd (cc)
takes_one place (word ∷ words) rest n e = by (value_at (grammar_place place) word) refl e
  where
    by : (o : Option ℕ) → value_at (grammar_place place) word ≡ o
        → value_or (misfit (grammar_place place)) o words ≡ Ok (n, rest) → TakesOne place (word ∷ words) rest n
    by None is e = absurd (cc)
    by (Some m) is e =
        let pair : (m, words) ≡ (n, rest) = ap pair_of e in
        let number : m ≡ n = ap (λ (p : ℕ × Words). p.0) pair in
        let left : words ≡ rest = ap (λ (p : ℕ × Words). p.1) pair in
        record { word = word; front = ap (λ (ws : Words). word ∷ ws) left; value = is ∙ ap Some number }

pub takes_none : (place : LinePlace) (places : List LinePlace) (words : Words) (cause : LineCause)
    → take_value place words ≡ Err cause → form_fault (map grammar_place (place ∷ places)) words ≡ Some cause
takes_none place places [] cause e = cc
takes_none place places (word ∷ words) cause e = by (value_at (grammar_place place) word) refl e
  where
    by : (o : Option ℕ) → value_at (grammar_place place) word ≡ o
        → value_or (misfit (grammar_place place)) o words ≡ Err cause
        → form_at (grammar_place place) (value_at (grammar_place place) word)
        (form_fault (map grammar_place places) words) ≡ Some cause
    by None is e =
        let same : misfit (grammar_place place) ≡ cause = cc in
        ap (λ (o : Option ℕ). form_at (grammar_place place) o (form_fault (map grammar_place places) words)) is
        ∙ ap Some same
    by (Some m) is e = absurd (cc)

-- and the places after it
form_behind : (place : LinePlace) (places : List LinePlace) (words rest : Words) (n : ℕ) → TakesOne place words rest n
    → form_fault (map grammar_place (place ∷ places)) words ≡ form_fault (map grammar_place places) rest
form_behind place places words rest n takes =
    ap (form_fault (map grammar_place (place ∷ places))) takes.front
    ∙ ap (λ (o : Option ℕ). form_at (grammar_place place) o (form_fault (map grammar_place places) rest)) takes.value

pub later_fault : (place : LinePlace) (places : List LinePlace) (words rest : Words) (n : ℕ) (cause : LineCause)
    → take_value place words ≡ Ok (n, rest) → form_fault (map grammar_place places) rest ≡ Some cause
    → form_fault (map grammar_place (place ∷ places)) words ≡ Some cause
later_fault place places words rest n cause taken fault =
    form_behind place places words rest n (takes_one place words rest n taken) ∙ fault

both_within : (a b : Bool) (bad : Option LineCause) → cond a (cond b None bad) bad ≡ cond (a && b) None bad
both_within true b bad = refl
both_within false b bad = refl

pub one_more : (place : LinePlace) (places : List LinePlace) (words rest : Words) (n : ℕ) (more : ReadValues)
    → take_value place words ≡ Ok (n, rest) → AreRead places rest more
    → AreRead (place ∷ places) words
    (record { values = put_before n more.values; within = is_within (grammar_place place) n && more.within })
one_more place places words rest n more taken read =
    let takes = takes_one place words rest n taken in
    record {
      form = form_behind place places words rest n takes ∙ read.form;
      are = ap (put_before n) read.are ∙ sym (ap values_from (values takes));
      range =
          ap (range_fault (map grammar_place (place ∷ places))) takes.front
          ∙ ap (λ (o : Option ℕ). range_at (grammar_place place) o (range_fault (map grammar_place places) rest))
          takes.value
          ∙ ap (λ (o : Option LineCause). cond (is_within (grammar_place place) n) o (Some OutOfRange)) read.range
          ∙ both_within (is_within (grammar_place place) n) more.within (Some OutOfRange);
    }
  where
    values : TakesOne place words rest n
        → values_in (map grammar_place (place ∷ places)) words ≡ n ∷ values_in (map grammar_place places) rest
    values takes =
        ap (values_in (map grammar_place (place ∷ places))) takes.front
        ∙ ap (λ (o : Option ℕ). unwrap_or o 0 ∷ values_in (map grammar_place places) rest) takes.value

pub ruleset at_each_place = (none_left, word_left, takes_none, later_fault, one_more)
