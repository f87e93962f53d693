-- What was written is read back: the words of a thing's line say it.
use Rattle.std.proofs.Common.{◌≡◌, ℕ, zero, suc, ◌^◌, ◌<◌, arith, List, [], ◌∷◌, length, refl, sym, ap, ◌∙◌, subst}
use Rattle.std.proofs.Common.{Some, true}
use Rattle.std.specs.Prelude.{codes, decimal, map, nat_lt}
use Rattle.plain_text.specs.Grammar.{PlacesSay}
use Rattle.plain_text.specs.Lines.{words_count}
use Rattle.plain_text.proofs.WrittenFiles as files
use Rattle.plain_text.proofs.WrittenWords.{spaced, IsWord, AreWords, above_test, decimal_word, decimal_number}
use Rattle.plain_text.specs.declared.kind.Kind.{Kind as LinkKind}
use Rattle.plain_text.specs.declared.kind.Kind.TheVariants as kind
use Rattle.line_tables.specs.declared.part.Part.{Part}
use Rattle.line_tables.specs.declared.part.Part.TheVariants.{Number, Equals, Kind}
use Rattle.line_tables.specs.Parts.{grammar_place, kind_value, kind_from, AreNumbers}
use Rattle.line_tables.specs.Tables.{Table, IsTable, form_named, has_third, Says, line_form}
use Rattle.line_tables.proofs.OneLine.{says_from}
use Rattle.line_tables.proofs.PlaceValues.{number_within}

-- The words of values

abbrev spelling : Part → ℕ → List ℕ
spelling Number n = decimal n
spelling Equals n = codes "="
spelling Kind zero = codes "log"
spelling Kind (suc n) = codes "out"

abbrev pub spellings : List Part → List ℕ → List (List ℕ)
spellings [] values = []
spellings (part ∷ parts) [] = []
spellings (part ∷ parts) (n ∷ values) = spelling part n ∷ spellings parts values

abbrev pub IsSpelled : Part → ℕ → Type 0
IsSpelled Number n = n < 2 ^ 64
IsSpelled Equals n = n ≡ 0
IsSpelled Kind n = n < 2

abbrev pub AreSpelled : List Part → List ℕ → Type 0
AreSpelled [] [] = Unit {0}
AreSpelled [] (n ∷ values) = ⊥
AreSpelled (part ∷ parts) [] = ⊥
AreSpelled (part ∷ parts) (n ∷ values) = IsSpelled part n × AreSpelled parts values

pub kind_small : (k : LinkKind) → kind_value k < 2
kind_small kind.Log = omega arith
kind_small kind.Out = omega arith

pub kind_made : (k : LinkKind) → kind_from (kind_value k) ≡ k
kind_made kind.Log = refl
kind_made kind.Out = refl

part_word : (part : Part) (n : ℕ) → IsSpelled part n → IsWord (spelling part n)
part_word Number n is = decimal_word n is
part_word Equals n is = (refl, above_test 32 (codes "=") refl)
part_word Kind zero is = (refl, above_test 32 (codes "log") refl)
part_word Kind (suc n) is = (refl, above_test 32 (codes "out") refl)

part_words : (parts : List Part) (values : List ℕ) → AreSpelled parts values → AreWords (spellings parts values)
part_words [] [] are = tt
part_words [] (n ∷ values) are = absurd are
part_words (part ∷ parts) [] are = absurd are
part_words (part ∷ parts) (n ∷ values) are = (part_word part n are.0, part_words parts values are.1)

-- They say the values

part_says : (part : Part) (n : ℕ) → IsSpelled part n
    → PlacesSay (grammar_place part ∷ []) (spelling part n ∷ []) (n ∷ [])
part_says Number n is = (decimal_number n is, number_within n is, tt)
part_says Equals n is =
    subst (λ (k : ℕ). PlacesSay (grammar_place Equals ∷ []) (spelling Equals k ∷ []) (k ∷ [])) (sym is) (refl, refl, tt)
part_says Kind zero is = (refl, refl, tt)
part_says Kind (suc zero) is = (refl, refl, tt)
part_says Kind (suc (suc n)) is = absurd (omega arith)

parts_say : (parts : List Part) (values : List ℕ) → AreSpelled parts values
    → PlacesSay (map grammar_place parts) (spellings parts values) values
parts_say [] [] are = tt
parts_say [] (n ∷ values) are = absurd are
parts_say (part ∷ parts) [] are = absurd are
parts_say (part ∷ parts) (n ∷ values) are =
    let first = part_says part n are.0 in
    (first.0, first.1, parts_say parts values are.1)

length_spellings : (parts : List Part) (values : List ℕ) → AreSpelled parts values
    → length (spellings parts values) ≡ length parts
length_spellings [] [] are = refl
length_spellings [] (n ∷ values) are = absurd are
length_spellings (part ∷ parts) [] are = absurd are
length_spellings (part ∷ parts) (n ∷ values) are = let more = length_spellings parts values are.1 in omega arith

-- Of a table

abbrev pub line_words : {F A : Type 0} → Table F A → A → List (List ℕ)
line_words t thing = t.word_of (t.form_of thing) ∷ spellings (t.parts_of (t.form_of thing)) (t.values_of thing)

-- how the things of a table are written: first words are words that count, each names its form, and the values of a
-- thing, whose numbers fit, have words
pub record IsWritten {F A : Type 0} (t : Table F A) (line : A → List ℕ) : Type 0 where
  pub form_word : (form : F) → IsWord (t.word_of form)
  pub counts : (form : F) (words : List (List ℕ)) → words_count (t.word_of form ∷ words) ≡ true
  pub named : (form : F) → form_named t (nat_lt 2 (suc (length (t.parts_of form)))) (t.word_of form) ≡ Some form
  pub spelled : (thing : A) → AreNumbers (t.values_of thing)
      → AreSpelled (t.parts_of (t.form_of thing)) (t.values_of thing)
  pub written : (thing : A) → line thing ≡ spaced (line_words t thing)

module _ {F A : Type 0} (t : Table F A) (laws : IsTable t) (line : A → List ℕ) (writes : IsWritten t line) where
  are_words : (thing : A) → AreNumbers (t.values_of thing) → AreWords (line_words t thing)
  are_words thing fit = (
    writes.form_word (t.form_of thing),
    part_words (t.parts_of (t.form_of thing)) (t.values_of thing) (writes.spelled thing fit),
  )

  line_says : (thing : A) → AreNumbers (t.values_of thing) → Says t (line_words t thing) thing
  line_says thing fit =
      let form = t.form_of thing in
      let are = writes.spelled thing fit in
      let count = length_spellings (t.parts_of form) (t.values_of thing) are in
      let named : form_named t (has_third (line_words t thing)) (t.word_of form) ≡ Some form =
      ap (λ (n : ℕ). form_named t (nat_lt 2 (suc n)) (t.word_of form)) count ∙ writes.named form in
      subst (Says t (line_words t thing)) (laws.thing_back thing)
      (says_from t laws (t.word_of form) (spellings (t.parts_of form) (t.values_of thing)) form (t.values_of thing)
      named (parts_say (t.parts_of form) (t.values_of thing) are))

  pub spells : (weight : A → ℕ) (thing : A) → AreNumbers (t.values_of thing)
      → files.IsSpelled (line_form t weight) (line thing) thing
  spells weight thing fit = record {
    word = t.word_of (t.form_of thing);
    words = spellings (t.parts_of (t.form_of thing)) (t.values_of thing);
    spelled = writes.written thing;
    are_words = are_words thing fit;
    counts = writes.counts (t.form_of thing) (spellings (t.parts_of (t.form_of thing)) (t.values_of thing));
    says = line_says thing fit;
  }
