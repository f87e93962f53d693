-- What the reader does with one line is what the table of the kind says of it.
use Rattle.std.proofs.Common.{◌≡◌, ℕ, ◌+◌, ◌⊎◌, arith, inl, inr, List, [], ◌∷◌, refl, sym, ap, ◌∙◌, subst, Option, Some}
use Rattle.std.proofs.Common.{None, true, false, Bool, cond, Ok, Err}
use Rattle.std.specs.Prelude.{Result, codes, is_some, not, ◌&&◌, option_map, find, map, slice_get, suc}
use Rattle.std.specs.Str.{bytes_eq}
use Rattle.plain_text.specs.declared.fault.LineCause.{LineCause}
use Rattle.plain_text.specs.declared.fault.LineCause.TheVariants.{UnknownWord, ExtraWord, Twice}
use Rattle.plain_text.specs.Fields.{fields_of}
use Rattle.plain_text.specs.Grammar.{Place, OneOf, Row, index_in, row_named, PlacesSay, LineSays, form_at, form_fault}
use Rattle.plain_text.specs.Grammar.{range_at, range_fault, row_fault, or_else, line_fault, values_in}
use Rattle.plain_text.proofs.Rows.{row_says, says_values}
use Rattle.box_conf.specs.declared.settings.Settings.{Settings}
use Rattle.box_conf.specs.declared.kind.KindWord.{KindWord}
use Rattle.box_conf.specs.declared.table.BoxLine.{BoxLine}
use Rattle.box_conf.specs.declared.table.Values.{Values}
use Rattle.box_conf.specs.Reading.{and_end, box_line, first_line, second_box, set_by, set_line}
use Rattle.box_conf.specs.Settings.{setting, with_setting, has_stood, once, line_read, set_values}
use Rattle.box_conf.specs.Kinds.{box_row, kind_named, kind_word, kinds, line_named, lines_of, rows_of}
use Rattle.box_conf.specs.Table.{again_of, row_of, values_from, word_of}

-- The row that a word begins

row_of_line : (word : List ℕ) (lines : List BoxLine)
    → row_named word (map row_of lines) ≡ option_map row_of (find (λ line. bytes_eq word (word_of line)) lines)
row_of_line word [] = refl
row_of_line word (line ∷ lines) = go (bytes_eq word (word_of line)) (row_named word (map row_of lines))
    (find (λ line. bytes_eq word (word_of line)) lines) (row_of_line word lines)
  where
    go : (b : Bool) (row : Option Row) (found : Option BoxLine) → row ≡ option_map row_of found
        → cond b (Some (row_of line)) row ≡ option_map row_of (cond b (Some line) found)
    go true row found e = refl
    go false row found e = e

row_of_word : (kind : KindWord) (word : List ℕ)
    → row_named word (rows_of kind)
    ≡ cond (bytes_eq word (codes "box")) (Some box_row) (option_map row_of (line_named kind word))
row_of_word kind word = ap (cond (bytes_eq word (codes "box")) (Some box_row)) (row_of_line word (lines_of kind))

-- the row `box` is one of each kind
pub box_is_a_row : (kind : KindWord) (words : List (List ℕ)) (values : List ℕ)
    → LineSays (box_row ∷ []) words box_row values → LineSays (rows_of kind) words box_row values
box_is_a_row kind [] values says = absurd says
box_is_a_row kind (word ∷ words) values says = (go (bytes_eq word (codes "box")) _ says.0, says.1, says.2)
  where
    go : (b : Bool) (more : Option Row) → cond b (Some box_row) None ≡ Some box_row
        → cond b (Some box_row) more ≡ Some box_row
    go true more e = refl
    go false more e = absurd (cc)

-- A line that sets values

abbrev pub ValuesSay : BoxLine → Bool → List (List ℕ) → Result Values LineCause → Type 0
ValuesSay line had words (Ok set) =
    (values : List ℕ) × PlacesSay (row_of line).places words values × ((row_of line).fits values ≡ true)
    × (set ≡ values_from values) × (had ≡ false)
ValuesSay line had words (Err cause) =
    (row_fault (Some (row_of line)) words ≡ Some cause)
    ⊎ ((values : List ℕ) × PlacesSay (row_of line).places words values × ((row_of line).fits values ≡ true)
    × (had ≡ true) × (cause ≡ Twice))

pub values_say : (line : BoxLine) (had : Bool) (words : List (List ℕ))
    → ValuesSay line had words (line_read line had words)
values_say line had words = by_fault (row_fault (Some (row_of line)) words) refl had
  where
    by_fault : (f : Option LineCause) → row_fault (Some (row_of line)) words ≡ f → (h : Bool)
        → ValuesSay line h words (once f h (values_from (values_in (row_of line).places words)))
    by_fault (Some cause) e h = inl e
    by_fault None e true = let says = row_says (row_of line) words e in inr (says.0, says.1, says.2, refl, refl)
    by_fault None e false =
        let says = row_says (row_of line) words e in
        (says.0, says.1, says.2, ap values_from (says_values (row_of line).places words says.0 says.1), refl)

-- The line that names the kind

-- where a kind stands among kinds, there its word stands among their words
abbrev Found : List KindWord → List ℕ → Option KindWord → Type 0
Found all word None = index_in word (map kind_word all) ≡ None
Found all word (Some kind) = (n : ℕ) × (index_in word (map kind_word all) ≡ Some n) × (slice_get all n ≡ Some kind)

found : (all : List KindWord) (word : List ℕ) → Found all word (find (λ kind. bytes_eq word (kind_word kind)) all)
found [] word = refl
found (first ∷ all) word =
    go (bytes_eq word (kind_word first)) refl (find (λ kind. bytes_eq word (kind_word kind)) all) (found all word)
  where
    go : (b : Bool) → bytes_eq word (kind_word first) ≡ b → (o : Option KindWord) → Found all word o
        → Found (first ∷ all) word (cond b (Some first) o)
    go true e o more =
        (0, ap (λ (b : Bool). cond b (Some 0) (option_map (λ n. n + 1) (index_in word (map kind_word all)))) e, refl)
    go false e None more =
        ap (λ (b : Bool). cond b (Some 0) (option_map (λ n. n + 1) (index_in word (map kind_word all)))) e
        ∙ ap (option_map (λ n. n + 1)) more
    go false e (Some kind) more =
        let behind : option_map (λ n. n + 1) (index_in word (map kind_word all)) ≡ Some (suc more.0) =
        ap (option_map (λ n. n + 1)) more.1 ∙ ap Some (omega arith) in (
          suc more.0,
          ap (λ (b : Bool). cond b (Some 0) (option_map (λ n. n + 1) (index_in word (map kind_word all)))) e ∙ behind,
          more.2,
        )

abbrev kind_place : Place
kind_place = OneOf (map kind_word kinds)

abbrev box_fault : Option ℕ → List (List ℕ) → Option LineCause
box_fault value words = or_else (form_at kind_place value (form_fault [] words))
    (or_else (range_at kind_place value (range_fault [] words)) None)

abbrev BoxSays : List (List ℕ) → Result KindWord LineCause → Type 0
BoxSays words (Ok kind) = (n : ℕ) × PlacesSay (kind_place ∷ []) words (n ∷ []) × (slice_get kinds n ≡ Some kind)
BoxSays words (Err cause) = row_fault (Some box_row) words ≡ Some cause

box_says : (words : List (List ℕ)) → BoxSays words (box_line words)
box_says [] = refl
box_says (word ∷ words) = by_kind (kind_named word) words (found kinds word)
  where
    by_kind : (o : Option KindWord) (rest : List (List ℕ)) → Found kinds word o
        → BoxSays (word ∷ rest) (and_end o (fields_of [] rest))
    by_kind None rest e = subst (λ (o : Option ℕ). box_fault o rest ≡ Some UnknownWord) (sym e) refl
    by_kind (Some kind) [] e = (e.0, (e.1, refl, tt), e.2)
    by_kind (Some kind) (extra ∷ rest) e =
        subst (λ (o : Option ℕ). box_fault o (extra ∷ rest) ≡ Some ExtraWord) (sym e.1) refl

abbrev pub FirstSays : List (List ℕ) → Result KindWord LineCause → Type 0
FirstSays words (Ok kind) = (n : ℕ) × LineSays (box_row ∷ []) words box_row (n ∷ []) × (slice_get kinds n ≡ Some kind)
FirstSays words (Err cause) = line_fault (box_row ∷ []) words ≡ Some cause

pub first_says : (words : List (List ℕ)) → FirstSays words (first_line words)
first_says [] = refl
first_says (word ∷ words) = by_box (bytes_eq word (codes "box")) refl
  where
    by_line : (r : Result KindWord LineCause) → row_named word (box_row ∷ []) ≡ Some box_row → BoxSays words r
        → FirstSays (word ∷ words) r
    by_line (Ok kind) row says = (says.0, (row, says.1, refl), says.2)
    by_line (Err cause) row fault = subst (λ (o : Option Row). row_fault o words ≡ Some cause) (sym row) fault

    by_box : (b : Bool) → bytes_eq word (codes "box") ≡ b
        → FirstSays (word ∷ words) (cond b (box_line words) (Err UnknownWord))
    by_box true e = by_line (box_line words) (ap (λ (b : Bool). cond b (Some box_row) None) e) (box_says words)
    by_box false e =
        let row : row_named word (box_row ∷ []) ≡ None = ap (λ (b : Bool). cond b (Some box_row) None) e in
        subst (λ (o : Option Row). row_fault o words ≡ Some UnknownWord) (sym row) refl

-- A later line

-- the row stood before, by the settings
abbrev pub Stood : Settings → Row → Type 0
Stood s row = (row ≡ box_row) ⊎ ((line : BoxLine) × (set : Values) × (row ≡ row_of line) × (setting s line ≡ Some set))

-- a line sets values that were not set, or may stand again; or it has a fault; or its row stood before
abbrev pub StepSays : KindWord → Settings → List (List ℕ) → Result Settings LineCause → Type 0
StepSays kind s words (Ok next) =
    (line : BoxLine) × (values : List ℕ) × LineSays (rows_of kind) words (row_of line) values
    × ((setting s line ≡ None) ⊎ (again_of line ≡ true)) × (next ≡ with_setting s line (values_from values))
StepSays kind s words (Err cause) =
    (line_fault (rows_of kind) words ≡ Some cause)
    ⊎ ((row : Row) × (values : List ℕ) × LineSays (rows_of kind) words row values × (row.again ≡ false) × Stood s row
    × (cause ≡ Twice))

unset : (o : Option Values) (again : Bool) → (is_some o && not again) ≡ false → (o ≡ None) ⊎ (again ≡ true)
unset None again e = inl refl
unset (Some set) true e = inr refl
unset (Some set) false e = absurd (cc)

was_set : (o : Option Values) (again : Bool) → (is_some o && not again) ≡ true
    → (set : Values) × (o ≡ Some set) × (again ≡ false)
was_set None again e = absurd (cc)
was_set (Some set) false e = (set, refl, refl)
was_set (Some set) true e = absurd (cc)

pub step_says : (kind : KindWord) (s : Settings) (words : List (List ℕ)) → StepSays kind s words (set_line kind s words)
step_says kind s [] = inl refl
step_says kind s (word ∷ words) = by_box (bytes_eq word (codes "box")) refl
  where
    Row_is : Option Row → Type 0
    Row_is o = row_named word (rows_of kind) ≡ o

    faulty : (o : Option Row) (cause : LineCause) → Row_is o → row_fault o words ≡ Some cause
        → StepSays kind s (word ∷ words) (Err cause)
    faulty o cause row fault = inl (subst (λ (o : Option Row). row_fault o words ≡ Some cause) (sym row) fault)

    by_kind : (r : Result KindWord LineCause) → Row_is (Some box_row) → BoxSays words r
        → StepSays kind s (word ∷ words) (second_box r)
    by_kind (Ok named) row says = inr (box_row, says.0 ∷ [], (row, says.1, refl), refl, inl refl, refl)
    by_kind (Err cause) row fault = faulty (Some box_row) cause row fault

    by_values : (line : BoxLine) (r : Result Values LineCause) → Row_is (Some (row_of line))
        → ValuesSay line (has_stood s line) words r → StepSays kind s (word ∷ words) (set_values s line r)
    by_values line (Ok set) row says = (
      line,
      says.0,
      (row, says.1, says.2),
      unset (setting s line) (again_of line) says.4,
      ap (with_setting s line) says.3,
    )
    by_values line (Err cause) row (inl fault) = faulty (Some (row_of line)) cause row fault
    by_values line (Err cause) row (inr twice) =
        let before = was_set (setting s line) (again_of line) twice.3 in
        inr (row_of line, twice.0, (row, twice.1, twice.2), before.2, inr (line, before.0, refl, before.1), twice.4)

    by_line : (o : Option BoxLine) → Row_is (option_map row_of o)
        → StepSays kind s (word ∷ words) (set_by kind s o words)
    by_line None row = faulty None UnknownWord row refl
    by_line (Some line) row = by_values line _ row (values_say line (has_stood s line) words)

    by_box : (b : Bool) → bytes_eq word (codes "box") ≡ b
        → StepSays kind s (word ∷ words)
        (cond b (second_box (box_line words)) (set_by kind s (line_named kind word) words))
    by_box true e =
        let row =
        row_of_word kind word ∙ ap (λ (b : Bool). cond b (Some box_row) (option_map row_of (line_named kind word))) e in
        by_kind (box_line words) row (box_says words)
    by_box false e =
        let row =
        row_of_word kind word ∙ ap (λ (b : Bool). cond b (Some box_row) (option_map row_of (line_named kind word))) e in
        by_line (line_named kind word) row
