-- Box files. The first line that counts names the kind of the box, and the others, in any order, are lines of that
-- kind's table.
use Rattle.std.specs.Prelude.{◌≡◌, ◌⊎◌, ℕ, ◌+◌, ◌<◌, ◌≤◌, List, [], ◌∷◌, length, slice_get, Some, None}
use Rattle.std.specs.Str.Lines.{lines}
use Rattle.plain_text.specs.declared.fault.LineCause.{LineCause}
use Rattle.plain_text.specs.declared.fault.LineCause.TheVariants.{MissingLine}
use Rattle.plain_text.specs.Grammar.{AllStand, AreLines, FirstOfFile, LineSays, Sets, line_fault}
use Rattle.plain_text.specs.Lines.{counted_lines, words_of}
use Rattle.sha2.specs.Sha256.{sha256}
use Rattle.box_conf.specs.Names.{named_in, fault_of_names}
use Rattle.box_conf.specs.declared.kind.BoxConf.{BoxConf}
use Rattle.box_conf.specs.declared.kind.KindWord.{KindWord}
use Rattle.box_conf.specs.declared.table.BoxLine.{BoxLine}
use Rattle.box_conf.specs.Kinds.{box_row, conf_from, kinds, rows_of}
use Rattle.box_conf.specs.Settings.{usual_or_none}
use Rattle.box_conf.specs.Table.{row_of, values_from}

-- the first line is `box KIND` with this kind
abbrev pub Names : List (ℕ × List ℕ) → KindWord → Type 0
Names [] kind = ⊥
Names (first ∷ lines) kind =
    (n : ℕ) × LineSays (box_row ∷ []) (words_of first.1) box_row (n ∷ []) × (slice_get kinds n ≡ Some kind)

-- the values of a line of a kind's file, or the usual ones where the line is not there
abbrev pub Has : KindWord → List (ℕ × List ℕ) → BoxLine → List ℕ → Type 0
Has kind lines line values = Sets (rows_of kind) lines (row_of line) (usual_or_none line) values

-- the lines that count are those of a file of this kind and digest, and this is the box that they make
pub record AreOfKind (kind : KindWord) (digest : List ℕ) (lines : List (ℕ × List ℕ)) (conf : BoxConf) : Type 0 where
  pub names : Names lines kind
  pub rows : AreLines (rows_of kind) lines
  pub whole : AllStand (rows_of kind) lines
  pub values : BoxLine → List ℕ
  pub set : (line : BoxLine) → Has kind lines line (values line)
  pub says : conf ≡ conf_from digest kind (λ line. values_from (values line)) (named_in lines)

-- by the table of its kind, a text is the file of this box
abbrev pub IsDescribed : List ℕ → BoxConf → Type 0
IsDescribed text conf = (kind : KindWord) × AreOfKind kind (sha256 text) (counted_lines text) conf

-- a text is the file of this box
abbrev pub IsBoxFile : List ℕ → BoxConf → Type 0
IsBoxFile text conf = IsDescribed text conf × (fault_of_names (counted_lines text) ≡ None)

-- the first line has this number and does not name a kind, for this cause
abbrev pub NamesNone : List (ℕ × List ℕ) → ℕ → LineCause → Type 0
NamesNone [] number cause = ⊥
NamesNone (first ∷ lines) number cause =
    (number ≡ first.0) × (line_fault (box_row ∷ []) (words_of first.1) ≡ Some cause)

-- there is no line that counts, and it is missed after the last line; or the first names no kind; or a later one is
-- the first that leaves the table of the kind, or one that has to stand is missed after the last
abbrev pub LeavesTable : List ℕ → ℕ → LineCause → Type 0
LeavesTable text number cause =
    ((counted_lines text ≡ []) × (number ≡ length (lines text) + 1) × (cause ≡ MissingLine))
    ⊎ NamesNone (counted_lines text) number cause
    ⊎ (kind : KindWord)
    × Names (counted_lines text) kind
    × FirstOfFile (rows_of kind) (counted_lines text) (length (lines text)) number cause

-- a line is the first that names one too many, or one again, or a static port outside the inside network
abbrev pub NamesInVain : List ℕ → ℕ → LineCause → Type 0
NamesInVain text number cause =
    fault_of_names (counted_lines text) ≡ Some (record { line = number; cause = cause })

-- the first fault of a text is that of its table or of its names, whichever line comes first
abbrev pub FirstFault : List ℕ → ℕ → LineCause → Type 0
FirstFault text number cause = OfTable ⊎ OfNames
  where
    OfTable : Type 0
    OfTable =
        LeavesTable text number cause × ((other : ℕ) (why : LineCause) → NamesInVain text other why → number ≤ other)

    OfNames : Type 0
    OfNames =
        NamesInVain text number cause × ((other : ℕ) (why : LineCause) → LeavesTable text other why → number < other)
