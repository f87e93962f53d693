-- Files of lines in which what may stand on a line depends on the line before it: there are stages. Each line that
-- counts says one thing at its stage, in order; where a line says none, the first such line is the fault. A text that
-- ends too early lacks a line.
use Rattle.std.specs.Prelude.{◌≡◌, ℕ, ◌+◌, ◌<◌, Bool, true, false, List, [], ◌∷◌, length, Option, Some}
use Rattle.std.specs.Str.Lines.{lines}
use Rattle.plain_text.specs.declared.fault.LineCause.{LineCause}
use Rattle.plain_text.specs.declared.fault.LineCause.TheVariants.{MissingLine}
use Rattle.plain_text.specs.Lines.{counted_lines, words_of}

-- what the lines of a kind of files say
pub record StagedForm (S A : Type 0) : Type 1 where
  -- the stage of the first line
  pub first : S
  -- a line with these words says this thing at a stage
  pub says : S → List (List ℕ) → A → Type 0
  -- the first fault of a line with these words at a stage
  pub fault : S → List (List ℕ) → Option LineCause
  -- the stage behind a thing
  pub behind : A → S
  -- whether a text may end at a stage
  pub whole : S → Bool

-- the stage behind things that begin at a stage
abbrev pub stage_behind : {S A : Type 0} → StagedForm S A → S → List A → S
stage_behind form stage [] = stage
stage_behind form stage (thing ∷ things) = stage_behind form (form.behind thing) things

-- the lines, each with its number, say these things from a stage on, one each, in order, and then the rest follows
abbrev pub Begins : {S A : Type 0} → StagedForm S A → S → List (ℕ × List ℕ) → List A → List (ℕ × List ℕ) → Type 0
Begins form stage lines [] rest = lines ≡ rest
Begins form stage [] (thing ∷ things) rest = ⊥
Begins form stage (line ∷ lines) (thing ∷ things) rest =
    form.says stage (words_of line.1) thing × Begins form (form.behind thing) lines things rest

-- a text is the file of these things
pub record IsFile {S A : Type 0} (form : StagedForm S A) (text : List ℕ) (things : List A) : Type 0 where
  pub begins : Begins form form.first (counted_lines text) things []
  pub whole : form.whole (stage_behind form form.first things) ≡ true

-- Behind the lines that say things, the next one has a fault at its stage; or none is left, and one is missing behind
-- all lines, of which there are this many.
abbrev pub Fails : {S A : Type 0} → StagedForm S A → S → List (ℕ × List ℕ) → ℕ → ℕ → LineCause → Type 0
Fails form stage [] count number cause =
    (form.whole stage ≡ false) × (number ≡ count + 1) × (cause ≡ MissingLine)
Fails form stage (line ∷ rest) count number cause =
    (number ≡ line.0) × (form.fault stage (words_of line.1) ≡ Some cause)

-- the first fault of a text is at the line with this number
pub record FirstFault {S A : Type 0} (form : StagedForm S A) (text : List ℕ) (number : ℕ) (cause : LineCause)
    : Type 0 where
  -- what the lines before it say
  pub things : List A
  pub rest : List (ℕ × List ℕ)
  pub begins : Begins form form.first (counted_lines text) things rest
  pub fails : Fails form (stage_behind form form.first things) rest (length (lines text)) number cause

-- more lines than this say things, before any fault
pub record HasTooMany {S A : Type 0} (form : StagedForm S A) (most : ℕ) (text : List ℕ) : Type 0 where
  pub things : List A
  pub rest : List (ℕ × List ℕ)
  pub begins : Begins form form.first (counted_lines text) things rest
  pub many : most < length things
