-- Tables of lines: which lines say which things.
use Rattle.std.specs.Prelude.{◌≡◌, ℕ, ◌≤◌, Bool, List, [], ◌∷◌, length, map, take, nat_lt, find, Option}
use Rattle.std.specs.Str.{bytes_eq}
use Rattle.plain_text.specs.declared.fault.LineCause.{LineCause}
use Rattle.plain_text.specs.Grammar.{Row, LineSays, line_fault, free_row}
use Rattle.plain_text.specs.LineFiles.{LineForm}
use Rattle.line_tables.specs.declared.part.Part.{Part}
use Rattle.line_tables.specs.Parts.{grammar_place, AreValues}

pub record Table (F A : Type 0) : Type 0 where
  -- the first word of a line of this form, and what stands after it
  pub word_of : F → List ℕ
  pub parts_of : F → List Part
  -- the forms of lines without a third word, and of those with one
  pub forms : Bool → List F
  -- the thing that a line of this form says with these values
  pub thing_from : F → List ℕ → A
  -- the form and the values of the line that says a thing
  pub form_of : A → F
  pub values_of : A → List ℕ

-- each may stand again
abbrev pub row_of : {F A : Type 0} → Table F A → F → Row
row_of t form = free_row (t.word_of form) (map grammar_place (t.parts_of form))

abbrev pub form_named : {F A : Type 0} → Table F A → Bool → List ℕ → Option F
form_named t third word = find (λ form. bytes_eq word (t.word_of form)) (t.forms third)

abbrev pub has_third : List (List ℕ) → Bool
has_third words = nat_lt 2 (length words)

-- the rows that judge a line with these words
abbrev pub rows_for : {F A : Type 0} → Table F A → List (List ℕ) → List Row
rows_for t words = map (row_of t) (t.forms (has_third words))

-- a line with these words says this thing
abbrev pub Says : {F A : Type 0} → Table F A → List (List ℕ) → A → Type 0
Says t words thing = LineSays (rows_for t words) words (row_of t (t.form_of thing)) (t.values_of thing)

-- the first fault of a line with these words
abbrev pub fault_of : {F A : Type 0} → Table F A → List (List ℕ) → Option LineCause
fault_of t words = line_fault (rows_for t words) words

-- the lines of a table as those of a kind of files, where a thing counts as so many
abbrev pub line_form : {F A : Type 0} → Table F A → (A → ℕ) → LineForm A
line_form t weight = record { says = Says t; fault = fault_of t; weight = weight }

-- Forms with their values and things are the same: each makes the other. No two forms have one row.
pub record IsTable {F A : Type 0} (t : Table F A) : Type 0 where
  pub few : (form : F) → length (t.parts_of form) ≤ 4
  pub form_back : (form : F) (values : List ℕ) → AreValues (t.parts_of form) values
      → t.form_of (t.thing_from form values) ≡ form
  pub values_back : (form : F) (values : List ℕ) → AreValues (t.parts_of form) values
      → t.values_of (t.thing_from form values) ≡ values
  pub thing_back : (thing : A) → t.thing_from (t.form_of thing) (t.values_of thing) ≡ thing
  -- what stands behind the values of the form is not looked at
  pub front_alone : (form : F) (a b c d : ℕ)
      → t.thing_from form (take (length (t.parts_of form)) (a ∷ b ∷ c ∷ d ∷ []))
      ≡ t.thing_from form (a ∷ b ∷ c ∷ d ∷ [])
  pub rows_apart : (a b : F) → row_of t a ≡ row_of t b → a ≡ b
