-- Files of lines. Each line that counts says one thing, in order; where a line says none, the first such line is the
-- fault.
use Rattle.std.specs.Prelude.{◌≡◌, ℕ, ◌+◌, ◌<◌, List, [], ◌∷◌, ◌++◌, codes, Option, Some, None}
use Rattle.std.specs.List.{flat_map}
use Rattle.plain_text.specs.declared.fault.LineCause.{LineCause}
use Rattle.plain_text.specs.declared.fault.ReadError.{ReadError}
use Rattle.plain_text.specs.declared.fault.ReadError.TheVariants.{Fault, TooMany, NoMemory}
use Rattle.plain_text.specs.Lines.{counted_lines, words_of}

-- Of one line

-- what the lines of a kind of files say
pub record LineForm (A : Type 0) : Type 1 where
  -- a line with these words says this thing
  pub says : List (List ℕ) → A → Type 0
  -- the first fault of a line with these words
  pub fault : List (List ℕ) → Option LineCause
  -- as how many a thing counts
  pub weight : A → ℕ

-- each line says one thing and no other, or has a fault: one of the two
pub record IsDecisive {A : Type 0} (form : LineForm A) : Type 0 where
  pub thing_or_fault : (words : List (List ℕ)) → form.fault words ≡ None → (thing : A) × form.says words thing
  pub not_both : (words : List (List ℕ)) (thing : A) → form.says words thing → form.fault words ≡ None
  pub one_thing : (words : List (List ℕ)) (a b : A) → form.says words a → form.says words b → a ≡ b

-- Of a text

-- the lines, each with its number, say these things, one each, in order, and then the rest follows
abbrev pub Begins : {A : Type 0} → LineForm A → List (ℕ × List ℕ) → List A → List (ℕ × List ℕ) → Type 0
Begins form lines [] rest = lines ≡ rest
Begins form [] (thing ∷ things) rest = ⊥
Begins form (line ∷ lines) (thing ∷ things) rest = form.says (words_of line.1) thing × Begins form lines things rest

-- a text is the file of these things
abbrev pub IsFile : {A : Type 0} → LineForm A → List ℕ → List A → Type 0
IsFile form text things = Begins form (counted_lines text) things []

-- the line with this number has this fault, and each line before it says a thing
pub record FirstFault {A : Type 0} (form : LineForm A) (text : List ℕ) (number : ℕ) (cause : LineCause) : Type 0 where
  pub things : List A
  pub line : List ℕ
  pub rest : List (ℕ × List ℕ)
  pub begins : Begins form (counted_lines text) things ((number, line) ∷ rest)
  pub fault : form.fault (words_of line) ≡ Some cause

-- How many

abbrev pub count_of : {A : Type 0} → LineForm A → List A → ℕ
count_of form [] = 0
count_of form (thing ∷ things) = form.weight thing + count_of form things

-- the things of the first lines pass the limit, before any line with a fault
pub record HasTooMany {A : Type 0} (form : LineForm A) (most : ℕ) (text : List ℕ) : Type 0 where
  pub things : List A
  pub rest : List (ℕ × List ℕ)
  pub begins : Begins form (counted_lines text) things rest
  pub many : most < count_of form things

-- what an error says of a text
abbrev pub IsRefused : {A : Type 0} → LineForm A → ℕ → List ℕ → ReadError → Type 0
IsRefused form most text (Fault fault) = FirstFault form text fault.line fault.cause × (HasTooMany form most text → ⊥)
IsRefused form most text TooMany = HasTooMany form most text
IsRefused form most text NoMemory = Unit {0}

-- Written

-- the text of these things, each on a line of its own
abbrev pub text_of : {A : Type 0} → (A → List ℕ) → List A → List ℕ
text_of line things = flat_map (λ thing. line thing ++ codes "\n") things
