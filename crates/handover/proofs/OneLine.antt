-- What the reader does with the words of a line is what the table says of them at a stage: one thing, or the first
-- fault. And what stands at a stage may follow there.
use Rattle.std.proofs.Common.{◌≡◌, ℕ, arith, List, [], ◌∷◌, length, take, refl, sym, ap, ◌∙◌, subst}
use Rattle.std.proofs.Common.{Option, Some, None, Bool, true, false, cond, Ok, Err}
use Rattle.std.specs.Prelude.{Result, option_map, find, map, nat_eq, unwrap_or, ◌&&◌}
use Rattle.std.specs.List.{list_all}
use Rattle.std.specs.Str.{bytes_eq}
use Rattle.plain_text.specs.declared.fault.LineCause.{LineCause}
use Rattle.plain_text.specs.declared.fault.LineCause.TheVariants.{UnknownWord, OutOfRange}
use Rattle.plain_text.specs.Grammar.{Row, row_named, PlacesSay, form_fault, fit_fault, numbers_fault}
use Rattle.plain_text.specs.Grammar.{row_fault, or_else}
use Rattle.plain_text.proofs.Rows.{says_no_fault, one_reading, or_none}
use Rattle.line_tables.specs.Parts.{values_at}
use Rattle.line_tables.specs.Tables.{has_third}
use Rattle.line_tables.proofs.PlaceValues.{values_fault}
use Rattle.handover.specs.declared.form.Form.{Form}
use Rattle.handover.specs.declared.form.Form.TheVariants as form
use Rattle.handover.specs.declared.line.ImageLine.{ImageLine}
use Rattle.handover.specs.declared.line.ImageLine.TheVariants as line
use Rattle.handover.specs.declared.stage.Stage.{Stage}
use Rattle.handover.specs.declared.stage.Stage.TheVariants.{Heading, State, Ended, Released, Moves}
use Rattle.handover.specs.Images.{SaysAt, fault_at, image_form}
use Rattle.handover.specs.Table.{word_of, parts_of, place_of, row_of, forms_at, rows_at}
use Rattle.handover.specs.Values.{is_narrow, are_narrow, line_from, form_of, values_of, move_form_of, move_values}
use Rattle.handover.proofs.PlaceValues.{parts_narrow, narrow_front, AreRead, are_read, AreValues, are_values}
use Rattle.handover.proofs.StagedTexts.{IsDecisive}

abbrev Words : Type 0
Words = List (List ℕ)

-- Forms by their rows, and lines by their forms and values

-- what of a row tells its form: no two forms have one word, but for those of moves, which have other places
abbrev form_of_row : Row → Form
form_of_row row =
    unwrap_or (find (λ form. bytes_eq row.word (word_of form) && nat_eq (length row.places) (length (parts_of form)))
    (form.Heading ∷ form.State ∷ form.Ended ∷ form.Released ∷ form.Move ∷ form.Told ∷ [])) form.Heading

row_back : (form : Form) → form_of_row (row_of form) ≡ form
row_back form.Heading = refl
row_back form.State = refl
row_back form.Ended = refl
row_back form.Released = refl
row_back form.Move = refl
row_back form.Told = refl

rows_apart : (a b : Form) → row_of a ≡ row_of b → a ≡ b
rows_apart a b e = sym (row_back a) ∙ ap form_of_row e ∙ row_back b

move_back : (thread : ℕ) (answer : Option ℕ)
    → line_from (move_form_of answer) (move_values thread answer)
    ≡ line.Move (record { thread = thread; answer = answer })
move_back thread None = refl
move_back thread (Some answer) = refl

line_back : (ln : ImageLine) → line_from (form_of ln) (values_of ln) ≡ ln
line_back line.Heading = refl
line_back (line.State fed clock draws epoch moves bytes) = refl
line_back (line.Ended ended) = refl
line_back (line.Released thread number) = refl
line_back (line.Move plain) = move_back plain.thread plain.answer

abbrev Makes : Form → List ℕ → Type 0
Makes form values = (form_of (line_from form values) ≡ form) × (values_of (line_from form values) ≡ values)

makes : (form : Form) (values : List ℕ) → AreValues (parts_of form) values → Makes form values
makes form.Heading [] f = absurd f
makes form.Heading (a ∷ []) f = (refl, ap (λ (n : ℕ). n ∷ []) (sym f.0))
makes form.Heading (a ∷ b ∷ values) f = absurd f.1
makes form.State [] f = absurd f
makes form.State (a ∷ []) f = absurd f.1
makes form.State (a ∷ b ∷ []) f = absurd f.1.1
makes form.State (a ∷ b ∷ c ∷ []) f = absurd f.1.1.1
makes form.State (a ∷ b ∷ c ∷ d ∷ []) f = absurd f.1.1.1.1
makes form.State (a ∷ b ∷ c ∷ d ∷ e ∷ []) f = absurd f.1.1.1.1.1
makes form.State (a ∷ b ∷ c ∷ d ∷ e ∷ g ∷ []) f = (refl, refl)
makes form.State (a ∷ b ∷ c ∷ d ∷ e ∷ g ∷ h ∷ values) f = absurd f.1.1.1.1.1.1
makes form.Ended [] f = absurd f
makes form.Ended (a ∷ []) f = absurd f.1
makes form.Ended (a ∷ b ∷ []) f = absurd f.1.1
makes form.Ended (a ∷ b ∷ c ∷ []) f = absurd f.1.1.1
makes form.Ended (a ∷ b ∷ c ∷ d ∷ []) f = (refl, refl)
makes form.Ended (a ∷ b ∷ c ∷ d ∷ e ∷ values) f = absurd f.1.1.1.1
makes form.Released [] f = absurd f
makes form.Released (a ∷ []) f = absurd f.1
makes form.Released (a ∷ b ∷ []) f = (refl, refl)
makes form.Released (a ∷ b ∷ c ∷ values) f = absurd f.1.1
makes form.Move [] f = absurd f
makes form.Move (a ∷ []) f = (refl, refl)
makes form.Move (a ∷ b ∷ values) f = absurd f.1
makes form.Told [] f = absurd f
makes form.Told (a ∷ []) f = absurd f.1
makes form.Told (a ∷ b ∷ []) f = absurd f.1.1
makes form.Told (a ∷ b ∷ c ∷ []) f = (refl, ap (λ (n : ℕ). a ∷ n ∷ c ∷ []) (sym f.1.0))
makes form.Told (a ∷ b ∷ c ∷ d ∷ values) f = absurd f.1.1.1

-- what stands behind the values of the form is not looked at
front_alone : (form : Form) (a b c d e f : ℕ)
    → line_from form (take (length (parts_of form)) (a ∷ b ∷ c ∷ d ∷ e ∷ f ∷ []))
    ≡ line_from form (a ∷ b ∷ c ∷ d ∷ e ∷ f ∷ [])
front_alone form.Heading a b c d e f = refl
front_alone form.State a b c d e f = refl
front_alone form.Ended a b c d e f = refl
front_alone form.Released a b c d e f = refl
front_alone form.Move a b c d e f = refl
front_alone form.Told a b c d e f = refl

and_true : (b : Bool) → (b && true) ≡ b
and_true true = refl
and_true false = refl

narrow_alone : (form : Form) (a b c d e f : ℕ)
    → parts_narrow (parts_of form) (a ∷ b ∷ c ∷ d ∷ e ∷ f ∷ []) ≡ are_narrow form (a ∷ b ∷ c ∷ d ∷ e ∷ f ∷ [])
narrow_alone form.Heading a b c d e f = refl
narrow_alone form.State a b c d e f = and_true (is_narrow d)
narrow_alone form.Ended a b c d e f = ap (λ (t : Bool). is_narrow a && t) (and_true (is_narrow b))
narrow_alone form.Released a b c d e f = and_true (is_narrow a)
narrow_alone form.Move a b c d e f = and_true (is_narrow a)
narrow_alone form.Told a b c d e f = and_true (is_narrow a)

record FrontOfSix (form : Form) (values : List ℕ) : Type 0 where
  pub same_line : line_from form (take (length (parts_of form)) values) ≡ line_from form values
  pub same_range : parts_narrow (parts_of form) (take (length (parts_of form)) values) ≡ are_narrow form values

front_of_six : (form : Form) (values : List ℕ) → length values ≡ 6 → FrontOfSix form values
front_of_six form [] e = absurd (omega arith)
front_of_six form (a ∷ []) e = absurd (omega arith)
front_of_six form (a ∷ b ∷ []) e = absurd (omega arith)
front_of_six form (a ∷ b ∷ c ∷ []) e = absurd (omega arith)
front_of_six form (a ∷ b ∷ c ∷ d ∷ []) e = absurd (omega arith)
front_of_six form (a ∷ b ∷ c ∷ d ∷ g ∷ []) e = absurd (omega arith)
front_of_six form (a ∷ b ∷ c ∷ d ∷ g ∷ h ∷ []) e = record {
  same_line = front_alone form a b c d g h;
  same_range = narrow_front (parts_of form) (a ∷ b ∷ c ∷ d ∷ g ∷ h ∷ []) ∙ narrow_alone form a b c d g h;
}
front_of_six form (a ∷ b ∷ c ∷ d ∷ g ∷ h ∷ i ∷ values) e = absurd (omega arith)

-- The row of a line

abbrev form_named : Stage → Bool → List ℕ → Option Form
form_named at third word = find (λ form. bytes_eq word (word_of form)) (forms_at at third)

row_of_form : (word : List ℕ) (all : List Form)
    → row_named word (map row_of all) ≡ option_map row_of (find (λ form. bytes_eq word (word_of form)) all)
row_of_form word [] = refl
row_of_form word (form ∷ all) = go (bytes_eq word (word_of form)) (row_named word (map row_of all))
    (find (λ form. bytes_eq word (word_of form)) all) (row_of_form word all)
  where
    go : (b : Bool) (row : Option Row) (found : Option Form) → row ≡ option_map row_of found
        → cond b (Some (row_of form)) row ≡ option_map row_of (cond b (Some form) found)
    go true row found e = refl
    go false row found e = e

fault_is : (at : Stage) (word : List ℕ) (left : Words) (o : Option Form)
    → form_named at (has_third (word ∷ left)) word ≡ o
    → fault_at at (word ∷ left) ≡ row_fault (option_map row_of o) left
fault_is at word left o e =
    ap (λ (r : Option Row). row_fault r left)
    (row_of_form word (forms_at at (has_third (word ∷ left))) ∙ ap (option_map row_of) e)

named_there : (at : Stage) (third : Bool) (word : List ℕ) (left words : Words) (o : Option Form)
    → third ≡ has_third words → words ≡ word ∷ left → form_named at third word ≡ o
    → form_named at (has_third (word ∷ left)) word ≡ o
named_there at third word left words o is front some =
    let same : has_third (word ∷ left) ≡ third = ap has_third (sym front) ∙ sym is in
    ap (λ (b : Bool). form_named at b word) same ∙ some

-- As the reader finds it

pub no_words : (at : Stage) (words : Words) → words ≡ [] → fault_at at words ≡ Some UnknownWord
no_words at words e = ap (fault_at at) e

pub no_form : (at : Stage) (words : Words) (third : Bool) (word : List ℕ) (left : Words) → third ≡ has_third words
    → words ≡ word ∷ left → form_named at third word ≡ None → fault_at at words ≡ Some UnknownWord
no_form at words third word left is front none =
    ap (fault_at at) front ∙ fault_is at word left None (named_there at third word left words None is front none)

pub no_values : (at : Stage) (words : Words) (third : Bool) (word : List ℕ) (left : Words) (form : Form)
    (cause : LineCause) → third ≡ has_third words → words ≡ word ∷ left → form_named at third word ≡ Some form
    → values_at (map place_of (parts_of form)) left ≡ Err cause → fault_at at words ≡ Some cause
no_values at words third word left form cause is front some bad =
    ap (fault_at at) front
    ∙ fault_is at word left (Some form) (named_there at third word left words (Some form) is front some)
    ∙ ap (λ (o : Option LineCause). or_else o (numbers_fault (row_of form) left))
    (values_fault (map place_of (parts_of form)) left cause bad)

-- where the values have a form, and one is out of its range
out_of_range : (form : Form) (left : Words) (values : List ℕ) → AreRead (parts_of form) left values
    → parts_narrow (parts_of form) values ≡ false → row_fault (Some (row_of form)) left ≡ Some OutOfRange
out_of_range form left values read out =
    ap (λ (o : Option LineCause). or_else o (numbers_fault (row_of form) left)) read.form
    ∙ ap (λ (o : Option LineCause). or_else o (fit_fault (row_of form) left)) read.range
    ∙ ap (λ (b : Bool). or_else (cond b None (Some OutOfRange)) (fit_fault (row_of form) left)) out

no_range : (at : Stage) (words : Words) (third : Bool) (word : List ℕ) (left : Words) (form : Form)
    (values : List ℕ) → third ≡ has_third words → words ≡ word ∷ left → form_named at third word ≡ Some form
    → length values ≡ 6
    → values_at (map place_of (parts_of form)) left ≡ Ok (take (length (parts_of form)) values)
    → are_narrow form values ≡ false → fault_at at words ≡ Some OutOfRange
no_range at words third word left form values is front some six good out =
    let named = named_there at third word left words (Some form) is front some in
    let read = are_read (parts_of form) left (take (length (parts_of form)) values) good in
    ap (fault_at at) front
    ∙ fault_is at word left (Some form) named
    ∙ out_of_range form left (take (length (parts_of form)) values) read
    ((front_of_six form values six).same_range ∙ out)

says_from : (at : Stage) (word : List ℕ) (left : Words) (form : Form) (values : List ℕ)
    → form_named at (has_third (word ∷ left)) word ≡ Some form
    → PlacesSay (map place_of (parts_of form)) left values → SaysAt at (word ∷ left) (line_from form values)
says_from at word left form values e says =
    let made = makes form values (are_values (parts_of form) left values says) in
    let row : row_named word (rows_at at (word ∷ left)) ≡ Some (row_of form) =
    row_of_form word (forms_at at (has_third (word ∷ left))) ∙ ap (option_map row_of) e in
    let first : row_named word (rows_at at (word ∷ left)) ≡ Some (row_of (form_of (line_from form values))) =
    row ∙ sym (ap (λ (f : Form). Some (row_of f)) made.0) in
    let places : PlacesSay (map place_of (parts_of (form_of (line_from form values)))) left values =
    subst (λ (f : Form). PlacesSay (map place_of (parts_of f)) left values) (sym made.0) says in (
      first,
      subst (PlacesSay (map place_of (parts_of (form_of (line_from form values)))) left) (sym made.1) places,
      refl,
    )

says_read : (at : Stage) (words : Words) (third : Bool) (word : List ℕ) (left : Words) (form : Form)
    (values : List ℕ) → third ≡ has_third words → words ≡ word ∷ left → form_named at third word ≡ Some form
    → length values ≡ 6
    → values_at (map place_of (parts_of form)) left ≡ Ok (take (length (parts_of form)) values)
    → are_narrow form values ≡ true → SaysAt at words (line_from form values)
says_read at words third word left form values is front some six good narrow =
    let named = named_there at third word left words (Some form) is front some in
    let read = are_read (parts_of form) left (take (length (parts_of form)) values) good in
    let same = front_of_six form values six in
    let says = says_from at word left form (take (length (parts_of form)) values) named
    (read.say (same.same_range ∙ narrow)) in
    let whole : SaysAt at (word ∷ left) (line_from form values) = subst (SaysAt at (word ∷ left)) same.same_line says in
    subst (λ (ws : Words). SaysAt at ws (line_from form values)) (sym front) whole

-- as the values make a line, or none where one is out of its range
abbrev made_by : Form → List ℕ → Option ImageLine
made_by form values = cond (are_narrow form values) (Some (line_from form values)) None

made_some : (b : Bool) (ln other : ImageLine) → Some ln ≡ cond b (Some other) None → (b ≡ true) × (other ≡ ln)
made_some true ln other e = (refl, cc)
made_some false ln other e = absurd (cc)

made_none : (b : Bool) (other : ImageLine) → None ≡ cond b (Some other) None → b ≡ false
made_none true other e = absurd (cc)
made_none false other e = refl

pub says_made : (at : Stage) (words : Words) (third : Bool) (word : List ℕ) (left : Words) (form : Form)
    (values : List ℕ) (ln : ImageLine) → third ≡ has_third words → words ≡ word ∷ left
    → form_named at third word ≡ Some form → length values ≡ 6
    → values_at (map place_of (parts_of form)) left ≡ Ok (take (length (parts_of form)) values)
    → Some ln ≡ made_by form values → SaysAt at words ln
says_made at words third word left form values ln is front some six good made =
    let said = made_some (are_narrow form values) ln (line_from form values) made in
    subst (SaysAt at words) said.1 (says_read at words third word left form values is front some six good said.0)

pub none_made : (at : Stage) (words : Words) (third : Bool) (word : List ℕ) (left : Words) (form : Form)
    (values : List ℕ) → third ≡ has_third words → words ≡ word ∷ left → form_named at third word ≡ Some form
    → length values ≡ 6
    → values_at (map place_of (parts_of form)) left ≡ Ok (take (length (parts_of form)) values)
    → None ≡ made_by form values → fault_at at words ≡ Some OutOfRange
none_made at words third word left form values is front some six good made =
    no_range at words third word left form values is front some six good
    (made_none (are_narrow form values) (line_from form values) made)

-- A line says a thing, or has a fault; and one thing

says_no_line_fault : (at : Stage) (words : Words) (ln : ImageLine) → SaysAt at words ln → fault_at at words ≡ None
says_no_line_fault at words ln says =
    says_no_fault (rows_at at words) words (row_of (form_of ln)) (values_of ln) says

no_fault_says : (at : Stage) (words : Words) → fault_at at words ≡ None → (ln : ImageLine) × SaysAt at words ln
no_fault_says at [] e = absurd (cc)
no_fault_says at (word ∷ left) e = by_form (form_named at (has_third (word ∷ left)) word) refl
  where
    by_range : (form : Form) (values : List ℕ) (b : Bool)
        → form_named at (has_third (word ∷ left)) word ≡ Some form → AreRead (parts_of form) left values
        → parts_narrow (parts_of form) values ≡ b → (ln : ImageLine) × SaysAt at (word ∷ left) ln
    by_range form values true named read narrow =
        (line_from form values, says_from at word left form values named (read.say narrow))
    by_range form values false named read narrow =
        let clash : Some OutOfRange ≡ None =
        sym (out_of_range form left values read narrow) ∙ sym (fault_is at word left (Some form) named) ∙ e in
        absurd (cc)

    by_values : (form : Form) (r : Result (List ℕ) LineCause)
        → form_named at (has_third (word ∷ left)) word ≡ Some form
        → values_at (map place_of (parts_of form)) left ≡ r → (ln : ImageLine) × SaysAt at (word ∷ left) ln
    by_values form (Ok values) named good =
        by_range form values (parts_narrow (parts_of form) values) named
        (are_read (parts_of form) left values good) refl
    by_values form (Err cause) named bad =
        let both = or_none (form_fault (map place_of (parts_of form)) left)
        (numbers_fault (row_of form) left) (sym (fault_is at word left (Some form) named) ∙ e) in
        let none : form_fault (map place_of (parts_of form)) left ≡ None = both.0 in
        let some = values_fault (map place_of (parts_of form)) left cause bad in
        let clash : None ≡ Some cause = sym none ∙ some in
        absurd (cc)

    by_form : (o : Option Form) → form_named at (has_third (word ∷ left)) word ≡ o
        → (ln : ImageLine) × SaysAt at (word ∷ left) ln
    by_form None named =
        let clash : Some UnknownWord ≡ None = sym (fault_is at word left None named) ∙ e in
        absurd (cc)
    by_form (Some form) named =
        by_values form (values_at (map place_of (parts_of form)) left) named refl

one_thing : (at : Stage) (words : Words) (a b : ImageLine) → SaysAt at words a → SaysAt at words b → a ≡ b
one_thing at words a b x y =
    let same = one_reading (rows_at at words) words (row_of (form_of a)) (row_of (form_of b))
    (values_of a) (values_of b) x y in
    let form : form_of a ≡ form_of b = rows_apart (form_of a) (form_of b) same.0 in
    sym (line_back a) ∙ ap (λ (f : Form). line_from f (values_of a)) form
    ∙ ap (λ (vs : List ℕ). line_from (form_of b) vs) same.1 ∙ line_back b

pub lines_are_decisive : IsDecisive image_form
lines_are_decisive =
    record { thing_or_fault = no_fault_says; not_both = says_no_line_fault; one_thing = one_thing }

-- What stands at a stage may stand there

-- forms, where a move is one whether it is told something or not
abbrev kind : Form → Form
kind form.Heading = form.Heading
kind form.State = form.State
kind form.Ended = form.Ended
kind form.Released = form.Released
kind form.Move = form.Move
kind form.Told = form.Move

abbrev pub kind_of : ImageLine → Form
kind_of line.Heading = form.Heading
kind_of (line.State fed clock draws epoch moves bytes) = form.State
kind_of (line.Ended ended) = form.Ended
kind_of (line.Released thread number) = form.Released
kind_of (line.Move plain) = form.Move

kind_is : (ln : ImageLine) → kind (form_of ln) ≡ kind_of ln
kind_is line.Heading = refl
kind_is (line.State fed clock draws epoch moves bytes) = refl
kind_is (line.Ended ended) = refl
kind_is (line.Released thread number) = refl
kind_is (line.Move plain) = by plain.answer
  where
    by : (answer : Option ℕ) → kind (move_form_of answer) ≡ form.Move
    by None = refl
    by (Some answer) = refl

abbrev pub may_stand : Stage → Form → Bool
may_stand Heading form.Heading = true
may_stand Heading form.State = false
may_stand Heading form.Ended = false
may_stand Heading form.Released = false
may_stand Heading form.Move = false
may_stand Heading form.Told = false
may_stand State form.Heading = false
may_stand State form.State = true
may_stand State form.Ended = false
may_stand State form.Released = false
may_stand State form.Move = false
may_stand State form.Told = false
may_stand Ended form.Heading = false
may_stand Ended form.State = false
may_stand Ended form.Ended = true
may_stand Ended form.Released = true
may_stand Ended form.Move = true
may_stand Ended form.Told = true
may_stand Released form.Heading = false
may_stand Released form.State = false
may_stand Released form.Ended = false
may_stand Released form.Released = true
may_stand Released form.Move = true
may_stand Released form.Told = true
may_stand Moves form.Heading = false
may_stand Moves form.State = false
may_stand Moves form.Ended = false
may_stand Moves form.Released = false
may_stand Moves form.Move = true
may_stand Moves form.Told = true

all_found : {A : Type 0} (p q : A → Bool) (xs : List A) (x : A) → find p xs ≡ Some x → list_all q xs ≡ true
    → q x ≡ true
all_found p q [] x e all = absurd (cc)
all_found p q (y ∷ xs) x e all = go (p y) (q y) refl refl e all (all_found p q xs x)
  where
    go : (a b : Bool) → p y ≡ a → q y ≡ b → cond a (Some y) (find p xs) ≡ Some x → (b && list_all q xs) ≡ true
        → (find p xs ≡ Some x → list_all q xs ≡ true → q x ≡ true) → q x ≡ true
    go a false s t e all more = absurd (cc)
    go true true s t e all more = let same : y ≡ x = cc in sym (ap q same) ∙ t
    go false true s t e all more = more e all

all_stand : (at : Stage) (third : Bool) → list_all (λ form. may_stand at (kind form)) (forms_at at third) ≡ true
all_stand Heading third = refl
all_stand State third = refl
all_stand Ended true = refl
all_stand Ended false = refl
all_stand Released true = refl
all_stand Released false = refl
all_stand Moves true = refl
all_stand Moves false = refl

pub says_stands : (at : Stage) (words : Words) (ln : ImageLine) → SaysAt at words ln → may_stand at (kind_of ln) ≡ true
says_stands at [] ln says = absurd says
says_stands at (word ∷ left) ln says = by (form_named at (has_third (word ∷ left)) word) refl
  where
    one_row : (a b : Row) → Some a ≡ Some b → a ≡ b
    one_row a b e = cc

    by : (o : Option Form) → form_named at (has_third (word ∷ left)) word ≡ o → may_stand at (kind_of ln) ≡ true
    by None named =
        let clash : None ≡ Some (row_of (form_of ln)) =
        sym (row_of_form word (forms_at at (has_third (word ∷ left))) ∙ ap (option_map row_of) named) ∙ says.0 in
        absurd (cc)
    by (Some form) named =
        let rows : Some (row_of form) ≡ Some (row_of (form_of ln)) =
        sym (row_of_form word (forms_at at (has_third (word ∷ left))) ∙ ap (option_map row_of) named) ∙ says.0 in
        let row : row_of form ≡ row_of (form_of ln) = one_row (row_of form) (row_of (form_of ln)) rows in
        let same : form ≡ form_of ln = rows_apart form (form_of ln) row in
        let stands : may_stand at (kind form) ≡ true =
        all_found (λ form. bytes_eq word (word_of form)) (λ form. may_stand at (kind form))
        (forms_at at (has_third (word ∷ left))) form named (all_stand at (has_third (word ∷ left))) in
        sym (ap (may_stand at) (ap kind same ∙ kind_is ln)) ∙ stands
