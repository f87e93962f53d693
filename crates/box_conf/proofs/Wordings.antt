-- What a line of a table says, in its words; and where no line says a row, none begins with its word.
use Rattle.std.proofs.Common.{◌≡◌, ℕ, ◌≤◌, ◌⊎◌, inl, inr, List, [], ◌∷◌, refl, sym, ap, ◌∙◌}
use Rattle.std.proofs.Common.{subst, arith, Option, Some, None, true, false, Bool, cond, Ok}
use Rattle.std.specs.Prelude.{◌==◌}
use Rattle.std.specs.Str.{bytes_eq}
use Rattle.std.proofs.lemmas.Bool.Decides.{nat_tests}
use Rattle.std.proofs.lemmas.Slice.Eq.{bytes_eq-Decides}
use Rattle.plain_text.specs.declared.fault.LineCause.{LineCause}
use Rattle.plain_text.specs.Grammar.{Number, OneOf, Address, Place, Row, Has as HasLine, Says, LineSays, PlacesSay}
use Rattle.plain_text.specs.Grammar.{AreLines, AllStand, IsRow, row_named, row_fault, values_in}
use Rattle.plain_text.specs.Lines.{number_of, words_of}
use Rattle.plain_text.proofs.Rows.{says_no_fault, says_values}
use Rattle.box_conf.specs.declared.kind.KindWord.{KindWord}
use Rattle.box_conf.specs.declared.table.BoxLine.{BoxLine}
use Rattle.box_conf.specs.BoxFile.{Has as HasValues}
use Rattle.box_conf.specs.Kinds.{rows_of, number_of as number_or_none}
use Rattle.box_conf.specs.Settings.{line_read, once, usual_or_none}
use Rattle.box_conf.specs.Stated.{Line, Stands, IsAbsent, SaysNumber, SaysOr, SaysSome, SaysFlag, SaysEnd, SaysAddress}
use Rattle.box_conf.specs.Table.{row_of, values_from, word_of}
use Rattle.box_conf.proofs.NamedBackends.{begins_so}
use Rattle.box_conf.proofs.Ranges.{within}

-- a line of a row is its word, and what stands at its places
pub record Wording (row : Row) (words : List (List ℕ)) (values : List ℕ) : Type 0 where
  pub rest : List (List ℕ)
  pub are : words ≡ row.word ∷ rest
  pub say : PlacesSay row.places rest values
  pub fit : row.fits values ≡ true

pub wording : (rows : List Row) (words : List (List ℕ)) (row : Row) (values : List ℕ) → LineSays rows words row values
    → Wording row words values
wording rows [] row values s = absurd s
wording rows (word ∷ words) row values s = record {
  rest = words;
  are = ap (λ (w : List ℕ). w ∷ words) ((bytes_eq-Decides word row.word).0 (begins_so word rows row s.0));
  say = s.1;
  fit = s.2;
}

-- so the reader reads it
pub read_so : (rows : List Row) (line : BoxLine) (word : List ℕ) (words : List (List ℕ)) (values : List ℕ)
    → LineSays rows (word ∷ words) (row_of line) values → line_read line false words ≡ Ok (values_from values)
read_so rows line word words values says =
    let fault : row_fault (row_named word rows) words ≡ None =
    says_no_fault rows (word ∷ words) (row_of line) values says in
    let none : row_fault (Some (row_of line)) words ≡ None =
    subst (λ (o : Option Row). row_fault o words ≡ None) says.0 fault in
    ap (λ (o : Option LineCause). once o false (values_from (values_in (row_of line).places words))) none
    ∙ ap (λ (vs : List ℕ). Ok (values_from vs)) (says_values (row_of line).places words values says.1)

-- At the places

pub number : (lines : List Line) (word : List ℕ) (low high : ℕ) (rest : List (List ℕ)) (values : List ℕ)
    → Stands lines (word ∷ rest) → PlacesSay (Number low high ∷ []) rest values
    → SaysNumber lines word (values_from values).first
    × (low ≤ (values_from values).first)
    × ((values_from values).first ≤ high)
number lines word low high [] values stands s = absurd s
number lines word low high (d ∷ rest) [] stands s = absurd s
number lines word low high (d ∷ e ∷ rest) (n ∷ values) stands s = absurd s.2
number lines word low high (d ∷ []) (n ∷ m ∷ values) stands s = absurd s.2
number lines word low high (d ∷ []) (n ∷ []) stands s =
    let in_range = within low high n s.1 in ((d, stands, s.0), in_range.0, in_range.1)

pub address : (lines : List Line) (word : List ℕ) (rest : List (List ℕ)) (values : List ℕ)
    → Stands lines (word ∷ rest) → PlacesSay (Address ∷ []) rest values
    → SaysAddress lines word (values_from values).first
address lines word [] values stands s = absurd s
address lines word (d ∷ rest) [] stands s = absurd s
address lines word (d ∷ e ∷ rest) (n ∷ values) stands s = absurd s.2
address lines word (d ∷ []) (n ∷ m ∷ values) stands s = absurd s.2
address lines word (d ∷ []) (n ∷ []) stands s = (d, stands, s.0)

pub end_of : (lines : List Line) (word : List ℕ) (low high : ℕ) (rest : List (List ℕ)) (values : List ℕ)
    → Stands lines (word ∷ rest) → PlacesSay (Address ∷ Number low high ∷ []) rest values
    → SaysEnd lines word (values_from values).first (values_from values).second
    × (low ≤ (values_from values).second)
    × ((values_from values).second ≤ high)
end_of lines word low high [] values stands s = absurd s
end_of lines word low high (a ∷ rest) [] stands s = absurd s
end_of lines word low high (a ∷ []) (n ∷ values) stands s = absurd s.2
end_of lines word low high (a ∷ d ∷ rest) (n ∷ []) stands s = absurd s.2
end_of lines word low high (a ∷ d ∷ e ∷ rest) (n ∷ m ∷ values) stands s = absurd s.2.2
end_of lines word low high (a ∷ d ∷ []) (n ∷ m ∷ l ∷ values) stands s = absurd s.2.2
end_of lines word low high (a ∷ d ∷ []) (n ∷ m ∷ []) stands s =
    let in_range = within low high m s.2.1 in ((a, d, stands, s.0, s.2.0), in_range.0, in_range.1)

-- two numbers, both in one range
abbrev Two : List Line → List ℕ → ℕ → ℕ → Type 0
Two lines word a b =
    (from to : List ℕ) × Stands lines (word ∷ from ∷ to ∷ []) × (number_of from ≡ Some a) × (number_of to ≡ Some b)

pub two : (lines : List Line) (word : List ℕ) (low high : ℕ) (rest : List (List ℕ)) (values : List ℕ)
    → Stands lines (word ∷ rest) → PlacesSay (Number low high ∷ Number low high ∷ []) rest values
    → Two lines word (values_from values).first (values_from values).second
    × (low ≤ (values_from values).first)
    × ((values_from values).second ≤ high)
two lines word low high [] values stands s = absurd s
two lines word low high (a ∷ rest) [] stands s = absurd s
two lines word low high (a ∷ []) (n ∷ values) stands s = absurd s.2
two lines word low high (a ∷ d ∷ rest) (n ∷ []) stands s = absurd s.2
two lines word low high (a ∷ d ∷ e ∷ rest) (n ∷ m ∷ values) stands s = absurd s.2.2
two lines word low high (a ∷ d ∷ []) (n ∷ m ∷ l ∷ values) stands s = absurd s.2.2
two lines word low high (a ∷ d ∷ []) (n ∷ m ∷ []) stands s =
    let one = within low high n s.1 in let other = within low high m s.2.1 in
    ((a, d, stands, s.0, s.2.0), one.0, other.1)

-- no words, or the one word that may stand there
abbrev IsZero : List ℕ → Type 0
IsZero values = ((values_from values).first == 0) ≡ true

pub no_words : (lines : List Line) (word : List ℕ) (rest : List (List ℕ)) (values : List ℕ) → Stands lines (word ∷ rest)
    → PlacesSay [] rest values → Stands lines (word ∷ []) × IsZero values
no_words lines word [] [] stands s = (stands, refl)
no_words lines word [] (n ∷ values) stands s = absurd s
no_words lines word (w ∷ rest) values stands s = absurd s

pub one_word : (lines : List Line) (word known : List ℕ) (rest : List (List ℕ)) (values : List ℕ)
    → Stands lines (word ∷ rest) → PlacesSay (OneOf (known ∷ []) ∷ []) rest values
    → Stands lines (word ∷ known ∷ []) × IsZero values
one_word lines word known [] values stands s = absurd s
one_word lines word known (w ∷ rest) [] stands s = absurd s
one_word lines word known (w ∷ v ∷ rest) (n ∷ values) stands s = absurd s.2
one_word lines word known (w ∷ []) (n ∷ m ∷ values) stands s = absurd s.2
one_word lines word known (w ∷ []) (n ∷ []) stands s = by (bytes_eq w known) refl s.0
  where
    by : (b : Bool) → bytes_eq w known ≡ b → cond b (Some 0) None ≡ Some n
        → Stands lines (word ∷ known ∷ []) × IsZero (n ∷ [])
    by true e is =
        let zero_is : 0 ≡ n = cc in (
          subst (λ (v : List ℕ). Stands lines (word ∷ v ∷ [])) ((bytes_eq-Decides w known).0 e) stands,
          subst (λ (n : ℕ). IsZero (n ∷ [])) zero_is refl,
        )
    by false e is = absurd (cc)

-- Of the lines of a file of a kind

module _ (kind : KindWord) (lines : List Line) (rows : AreLines (rows_of kind) lines) where
  abbrev IsListed : BoxLine → Type 0
  IsListed line = row_named (word_of line) (rows_of kind) ≡ Some (row_of line)

  -- where no line says a row, none begins with its word
  pub absent : (line : BoxLine) → IsListed line
      → ((x : Line) (ns : List ℕ) → HasLine lines x → Says (rows_of kind) x (row_of line) ns → ⊥)
      → IsAbsent lines (word_of line)
  absent line listed none words stands =
      let described = rows.described stands.0 stands.1 in
      let says : LineSays (rows_of kind) (word_of line ∷ words) described.0 described.1 =
      subst (λ (ws : List (List ℕ)). LineSays (rows_of kind) ws described.0 described.1) stands.2 described.2 in
      let both : Some (row_of line) ≡ Some described.0 = sym listed ∙ says.0 in
      let row : described.0 ≡ row_of line = cc in
      none stands.0 described.1 stands.1
      (subst (λ (r : Row). Says (rows_of kind) stands.0 r described.1) row described.2)

  -- a line that stands, in its words
  abbrev Worded : BoxLine → List ℕ → Type 0
  Worded line values =
      (rest : List (List ℕ)) × Stands lines (word_of line ∷ rest) × PlacesSay (row_of line).places rest values
      × ((row_of line).fits values ≡ true)

  worded : (line : BoxLine) (values : List ℕ) (x : Line) → HasLine lines x → Says (rows_of kind) x (row_of line) values
      → Worded line values
  worded line values x there says =
      let s = wording (rows_of kind) (words_of x.1) (row_of line) values says in
      (s.rest, (x, there, s.are), s.say, s.fit)

  -- a line stands, or it has its usual values and is absent
  pub stands_or : (line : BoxLine) (values : List ℕ) → IsListed line → HasValues kind lines line values
      → Worded line values ⊎ ((values ≡ usual_or_none line) × IsAbsent lines (word_of line))
  stands_or line values listed (inl x) = inl (worded line values x.0 x.1 x.2)
  stands_or line values listed (inr none) = inr (none.0, absent line listed none.1)

  -- a line that has to stand does
  pub stands : (line : BoxLine) (values : List ℕ) → AllStand (rows_of kind) lines → IsRow (rows_of kind) (row_of line)
      → (row_of line).required ≡ true → HasValues kind lines line values → Worded line values
  stands line values whole is required (inl x) = worded line values x.0 x.1 x.2
  stands line values whole is required (inr none) =
      let x = whole (row_of line) is required in absurd (none.1 x.0 x.1 x.2 x.3)

  -- Lines of one number

  pub says_or : (line : BoxLine) (low high usual : ℕ) (values : List ℕ) → IsListed line
      → (row_of line).places ≡ Number low high ∷ [] → usual_or_none line ≡ usual ∷ [] → low ≤ usual → usual ≤ high
      → HasValues kind lines line values
      → SaysOr lines (word_of line) usual (values_from values).first
      × (low ≤ (values_from values).first)
      × ((values_from values).first ≤ high)
  says_or line low high usual values listed places is least greatest has = by (stands_or line values listed has)
    where
      by : Worded line values ⊎ ((values ≡ usual_or_none line) × IsAbsent lines (word_of line))
          → SaysOr lines (word_of line) usual (values_from values).first
          × (low ≤ (values_from values).first)
          × ((values_from values).first ≤ high)
      by (inl w) =
          let says = number lines (word_of line) low high w.0 values w.1
          (subst (λ (ps : List Place). PlacesSay ps w.0 values) places w.2) in
          (inl says.0, says.1, says.2)
      by (inr none) =
          let first : (values_from values).first ≡ usual =
          ap (λ (vs : List ℕ). (values_from vs).first) (none.0 ∙ is) in
          (inr (none.1, first), omega (arith, first, least), omega (arith, first, greatest))

  pub says_some : (line : BoxLine) (high : ℕ) (values : List ℕ) → IsListed line
      → (row_of line).places ≡ Number 1 high ∷ [] → usual_or_none line ≡ 0 ∷ []
      → HasValues kind lines line values
      → SaysSome lines (word_of line) (number_or_none (values_from values).first)
  says_some line high values listed places is has = by (stands_or line values listed has)
    where
      Wanted : ℕ → Type 0
      Wanted n = SaysSome lines (word_of line) (number_or_none n)

      some : (n : ℕ) → SaysNumber lines (word_of line) n → 1 ≤ n → Wanted n
      some n says low =
          let t : (n == 0) ≡ false = grind (arith, nat_tests) in
          subst (λ (b : Bool). SaysSome lines (word_of line) (cond b None (Some n))) (sym t) says

      by : Worded line values ⊎ ((values ≡ usual_or_none line) × IsAbsent lines (word_of line))
          → Wanted (values_from values).first
      by (inl w) =
          let says = number lines (word_of line) 1 high w.0 values w.1
          (subst (λ (ps : List Place). PlacesSay ps w.0 values) places w.2) in
          some (values_from values).first says.0 says.1
      by (inr none) =
          subst (λ (vs : List ℕ). Wanted (values_from vs).first) (sym (none.0 ∙ is)) none.1

  -- Other lines

  pub says_flag : (line : BoxLine) (words : List (List ℕ)) (values : List ℕ) → IsListed line
      → ((rest : List (List ℕ)) → Stands lines (word_of line ∷ rest) → PlacesSay (row_of line).places rest values
      → Stands lines (word_of line ∷ words) × IsZero values)
      → usual_or_none line ≡ 1 ∷ [] → HasValues kind lines line values
      → SaysFlag lines (word_of line) words ((values_from values).first == 0)
  says_flag line words values listed so is has = by (stands_or line values listed has)
    where
      Wanted : Bool → Type 0
      Wanted b = SaysFlag lines (word_of line) words b

      by : Worded line values ⊎ ((values ≡ usual_or_none line) × IsAbsent lines (word_of line))
          → Wanted ((values_from values).first == 0)
      by (inl w) = let both = so w.0 w.1 w.2 in subst Wanted (sym both.1) both.0
      by (inr none) =
          subst (λ (vs : List ℕ). Wanted ((values_from vs).first == 0)) (sym (none.0 ∙ is)) none.1

  pub says_end : (line : BoxLine) (low high : ℕ) (values : List ℕ) → AllStand (rows_of kind) lines
      → IsRow (rows_of kind) (row_of line) → (row_of line).required ≡ true
      → (row_of line).places ≡ Address ∷ Number low high ∷ [] → HasValues kind lines line values
      → SaysEnd lines (word_of line) (values_from values).first (values_from values).second
      × (low ≤ (values_from values).second)
      × ((values_from values).second ≤ high)
  says_end line low high values whole is required places has =
      let w = stands line values whole is required has in
      end_of lines (word_of line) low high w.0 values w.1
      (subst (λ (ps : List Place). PlacesSay ps w.0 values) places w.2)

  pub says_address : (line : BoxLine) (values : List ℕ) → AllStand (rows_of kind) lines
      → IsRow (rows_of kind) (row_of line) → (row_of line).required ≡ true → (row_of line).places ≡ Address ∷ []
      → HasValues kind lines line values → SaysAddress lines (word_of line) (values_from values).first
  says_address line values whole is required places has =
      let w = stands line values whole is required has in
      address lines (word_of line) w.0 values w.1 (subst (λ (ps : List Place). PlacesSay ps w.0 values) places w.2)
