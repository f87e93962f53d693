-- What the reader does with the words of a line is what the table says of them: one thing, or the first fault.
use Rattle.std.proofs.Common.{◌≡◌, ℕ, arith, List, [], ◌∷◌, length, take, refl, sym, ap, ◌∙◌, subst}
use Rattle.std.proofs.Common.{Option, Some, None, Bool, true, false, cond, Ok, Err}
use Rattle.std.specs.Prelude.{Result, option_map, find, map}
use Rattle.std.specs.Str.{bytes_eq}
use Rattle.plain_text.specs.declared.fault.LineCause.{LineCause}
use Rattle.plain_text.specs.declared.fault.LineCause.TheVariants.{UnknownWord}
use Rattle.plain_text.specs.Grammar.{Row, row_named, PlacesSay, form_fault, numbers_fault, row_fault, or_else}
use Rattle.plain_text.specs.LineFiles.{IsDecisive}
use Rattle.plain_text.proofs.Rows.{says_no_fault, one_reading, or_none}
use Rattle.line_tables.specs.Parts.{grammar_place, values_at}
use Rattle.line_tables.specs.Tables.{Table, IsTable, row_of, rows_for, form_named, has_third, Says, fault_of, line_form}
use Rattle.line_tables.proofs.PlaceValues.{values_say, values_fault, are_values}

module _ {F A : Type 0} (t : Table F A) where
  -- The row of a line

  row_of_form : (word : List ℕ) (all : List F)
      → row_named word (map (row_of t) all)
      ≡ option_map (row_of t) (find (λ form. bytes_eq word (t.word_of form)) all)
  row_of_form word [] = refl
  row_of_form word (form ∷ all) = go (bytes_eq word (t.word_of form)) (row_named word (map (row_of t) all))
      (find (λ form. bytes_eq word (t.word_of form)) all) (row_of_form word all)
    where
      go : (b : Bool) (row : Option Row) (found : Option F) → row ≡ option_map (row_of t) found
          → cond b (Some (row_of t form)) row ≡ option_map (row_of t) (cond b (Some form) found)
      go true row found e = refl
      go false row found e = e

  fault_is : (word : List ℕ) (left : List (List ℕ)) (o : Option F) → form_named t (has_third (word ∷ left)) word ≡ o
      → fault_of t (word ∷ left) ≡ row_fault (option_map (row_of t) o) left
  fault_is word left o e =
      ap (λ (r : Option Row). row_fault r left)
      (row_of_form word (t.forms (has_third (word ∷ left))) ∙ ap (option_map (row_of t)) e)

  -- As the reader finds it

  pub no_words : (words : List (List ℕ)) → words ≡ [] → fault_of t words ≡ Some UnknownWord
  no_words words e = ap (fault_of t) e

  pub no_form : (words : List (List ℕ)) (third : Bool) (word : List ℕ) (left : List (List ℕ))
      → third ≡ has_third words → words ≡ word ∷ left → form_named t third word ≡ None
      → fault_of t words ≡ Some UnknownWord
  no_form words third word left is front none =
      let third2 : has_third (word ∷ left) ≡ third = ap has_third (sym front) ∙ sym is in
      let named : form_named t (has_third (word ∷ left)) word ≡ None =
      ap (λ (b : Bool). form_named t b word) third2 ∙ none in
      ap (fault_of t) front ∙ fault_is word left None named

  pub no_values : (words : List (List ℕ)) (third : Bool) (word : List ℕ) (left : List (List ℕ)) (form : F)
      (cause : LineCause) → third ≡ has_third words → words ≡ word ∷ left → form_named t third word ≡ Some form
      → values_at (map grammar_place (t.parts_of form)) left ≡ Err cause → fault_of t words ≡ Some cause
  no_values words third word left form cause is front some bad =
      let third2 : has_third (word ∷ left) ≡ third = ap has_third (sym front) ∙ sym is in
      let named : form_named t (has_third (word ∷ left)) word ≡ Some form =
      ap (λ (b : Bool). form_named t b word) third2 ∙ some in
      ap (fault_of t) front
      ∙ fault_is word left (Some form) named
      ∙ ap (λ (o : Option LineCause). or_else o (numbers_fault (row_of t form) left))
      (values_fault (map grammar_place (t.parts_of form)) left cause bad)

  module _ (laws : IsTable t) where
    -- A line of some words

    pub says_from : (word : List ℕ) (left : List (List ℕ)) (form : F) (values : List ℕ)
        → form_named t (has_third (word ∷ left)) word ≡ Some form
        → PlacesSay (map grammar_place (t.parts_of form)) left values → Says t (word ∷ left) (t.thing_from form values)
    says_from word left form values e says =
        let fit = are_values (t.parts_of form) left values says in
        let same : t.form_of (t.thing_from form values) ≡ form = laws.form_back form values fit in
        let row : row_named word (rows_for t (word ∷ left)) ≡ Some (row_of t form) =
        row_of_form word (t.forms (has_third (word ∷ left))) ∙ ap (option_map (row_of t)) e in
        let first : row_named word (rows_for t (word ∷ left)) ≡ Some (row_of t (t.form_of (t.thing_from form values))) =
        row ∙ sym (ap (λ (f : F). Some (row_of t f)) same) in
        let places : PlacesSay (map grammar_place (t.parts_of (t.form_of (t.thing_from form values)))) left values =
        subst (λ (f : F). PlacesSay (map grammar_place (t.parts_of f)) left values) (sym same) says in (
          first,
          subst (PlacesSay (map grammar_place (t.parts_of (t.form_of (t.thing_from form values)))) left)
              (sym (laws.values_back form values fit)) places,
          refl,
        )

    front_of_four : (form : F) (values : List ℕ) → length values ≡ 4
        → t.thing_from form (take (length (t.parts_of form)) values) ≡ t.thing_from form values
    front_of_four form [] e = absurd (omega arith)
    front_of_four form (a ∷ []) e = absurd (omega arith)
    front_of_four form (a ∷ b ∷ []) e = absurd (omega arith)
    front_of_four form (a ∷ b ∷ c ∷ []) e = absurd (omega arith)
    front_of_four form (a ∷ b ∷ c ∷ d ∷ []) e = laws.front_alone form a b c d
    front_of_four form (a ∷ b ∷ c ∷ d ∷ f ∷ values) e = absurd (omega arith)

    pub says_read : (words : List (List ℕ)) (third : Bool) (word : List ℕ) (left : List (List ℕ)) (form : F)
        (values : List ℕ) → third ≡ has_third words → words ≡ word ∷ left → form_named t third word ≡ Some form
        → length values ≡ 4
        → values_at (map grammar_place (t.parts_of form)) left ≡ Ok (take (length (t.parts_of form)) values)
        → Says t words (t.thing_from form values)
    says_read words third word left form values is front some four good =
        let third2 : has_third (word ∷ left) ≡ third = ap has_third (sym front) ∙ sym is in
        let named : form_named t (has_third (word ∷ left)) word ≡ Some form =
        ap (λ (b : Bool). form_named t b word) third2 ∙ some in
        let places = values_say (t.parts_of form) left (take (length (t.parts_of form)) values) good in
        let says = says_from word left form (take (length (t.parts_of form)) values) named places in
        let whole : Says t (word ∷ left) (t.thing_from form values) =
        subst (Says t (word ∷ left)) (front_of_four form values four) says in
        subst (λ (ws : List (List ℕ)). Says t ws (t.thing_from form values)) (sym front) whole

    -- A line says a thing, or has a fault; and one thing

    says_no_line_fault : (words : List (List ℕ)) (thing : A) → Says t words thing → fault_of t words ≡ None
    says_no_line_fault words thing says =
        says_no_fault (rows_for t words) words (row_of t (t.form_of thing)) (t.values_of thing) says

    no_fault_says : (words : List (List ℕ)) → fault_of t words ≡ None → (thing : A) × Says t words thing
    no_fault_says [] e = absurd (cc)
    no_fault_says (word ∷ left) e = by_form (form_named t (has_third (word ∷ left)) word) refl
      where
        by_values : (form : F) (r : Result (List ℕ) LineCause)
            → form_named t (has_third (word ∷ left)) word ≡ Some form
            → values_at (map grammar_place (t.parts_of form)) left ≡ r → (thing : A) × Says t (word ∷ left) thing
        by_values form (Ok values) named good = (
          t.thing_from form values,
          says_from word left form values named (values_say (t.parts_of form) left values good),
        )
        by_values form (Err cause) named bad =
            let both = or_none (form_fault (map grammar_place (t.parts_of form)) left)
            (numbers_fault (row_of t form) left) (sym (fault_is word left (Some form) named) ∙ e) in
            let none : form_fault (map grammar_place (t.parts_of form)) left ≡ None = both.0 in
            let some = values_fault (map grammar_place (t.parts_of form)) left cause bad in
            let clash : None ≡ Some cause = sym none ∙ some in
            absurd (cc)

        by_form : (o : Option F) → form_named t (has_third (word ∷ left)) word ≡ o
            → (thing : A) × Says t (word ∷ left) thing
        by_form None named =
            let clash : Some UnknownWord ≡ None = sym (fault_is word left None named) ∙ e in
            absurd (cc)
        by_form (Some form) named =
            by_values form (values_at (map grammar_place (t.parts_of form)) left) named refl

    one_thing : (words : List (List ℕ)) (a b : A) → Says t words a → Says t words b → a ≡ b
    one_thing words a b x y =
        let same = one_reading (rows_for t words) words (row_of t (t.form_of a)) (row_of t (t.form_of b))
        (t.values_of a) (t.values_of b) x y in
        let form : t.form_of a ≡ t.form_of b = laws.rows_apart (t.form_of a) (t.form_of b) same.0 in
        sym (laws.thing_back a) ∙ ap (λ (f : F). t.thing_from f (t.values_of a)) form
        ∙ ap (λ (vs : List ℕ). t.thing_from (t.form_of b) vs) same.1 ∙ laws.thing_back b

    -- each line says one thing or has a fault
    pub is_decisive : (weight : A → ℕ) → IsDecisive (line_form t weight)
    is_decisive weight =
        record { thing_or_fault = no_fault_says; not_both = says_no_line_fault; one_thing = one_thing }
