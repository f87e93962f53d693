-- Names of one file, of which one is to be written.
use Rattle.std.specs.Prelude.{◌≡◌, ℕ, ◌<◌, ◌==◌, Bool, true, false, IsTrue, not, ◌&&◌, ◌||◌, List, codes, length}
use Rattle.std.specs.Prelude.{Option, Some, None, ⊤}
use Rattle.std.specs.Str.{bytes_eq}
use Rattle.command_words.specs.WordPlaces.{ArePlaces, is_file, is_written}
use Rattle.command_words.specs.declared.word_places.WordPlaces.{WordPlaces}
use Rattle.command_words.specs.declared.named_file.Node.{Node}
use Rattle.command_words.specs.declared.named_file.NamedFile.{NamedFile}
use Rattle.command_words.specs.declared.clashes.Clash.{Clash}
use Rattle.command_words.specs.declared.clashes.OtherName.{OtherName}
use Rattle.command_words.specs.declared.clashes.OtherName.TheVariants.{Word, Output, Errors}
use Rattle.command_words.specs.Pipes.{word_at}
use Rattle.command_words.specs.declared.pipes.ReportOn.{ReportOn}
use Rattle.command_words.specs.declared.pipes.ReportOn.TheVariants as report_on

-- both are there, on one device and with one number
abbrev pub same_node : Option Node → Option Node → Bool
same_node (Some a) (Some b) = (a.device == b.device) && (a.number == b.number)
same_node (Some a) None = false
same_node None b = false

-- both have a real path, and it is one
abbrev pub same_path : Option (List ℕ) → Option (List ℕ) → Bool
same_path (Some a) (Some b) = bytes_eq a b
same_path (Some a) None = false
same_path None b = false

-- they are one file, which keeps what is written to it
abbrev pub same_file : NamedFile → NamedFile → Bool
same_file a b = not (a.keeps_nothing || b.keeps_nothing) && (same_node a.node b.node || same_path a.path b.path)

-- the name that is meant: a word, or that of a standard stream
abbrev pub name_of : List (List ℕ) → OtherName → List ℕ
name_of words (Word place) = word_at words place
name_of words Output = codes "/dev/stdout"
name_of words Errors = codes "/dev/stderr"

-- the word at the second place is another name of a file than the one at the first
abbrev pub IsOtherWord : List (List ℕ) → WordPlaces → ℕ → ℕ → Type 0
IsOtherWord words places written place =
    (place < length words) × (¬ (place ≡ written)) × IsTrue (is_file places place)

-- another name of a file than the word at this place; standard output is one where the report stands on it
abbrev pub IsOther : List (List ℕ) → WordPlaces → ReportOn → ℕ → OtherName → Type 0
IsOther words places report written (Word place) = IsOtherWord words places written place
IsOther words places report written Output = report ≡ report_on.Output
IsOther words places report written Errors = ⊤

-- it may be told of a file and a name that they are of one file, or that they are not
abbrev pub MayBeOne : (List ℕ → NamedFile → Type 0) → NamedFile → List ℕ → Bool → Type 0
MayBeOne may file name answer = (other : NamedFile) × may name other × (same_file file other ≡ answer)

-- the same of two names
abbrev pub MayTell : (List ℕ → NamedFile → Type 0) → List ℕ → List ℕ → Bool → Type 0
MayTell may one other answer = (file : NamedFile) × may one file × MayBeOne may file other answer

-- The word is the name of an output or of a tap, the other is another name, and they were told to be of one file.
abbrev pub Clashes : (List ℕ → NamedFile → Type 0) → List (List ℕ) → ReportOn → Clash → Type 0
Clashes may words report clash =
    (places : WordPlaces) × ArePlaces words places
    × (clash.written < length words) × IsTrue (is_written places clash.written)
    × IsOther words places report clash.written clash.other
    × MayTell may (word_at words clash.written) (name_of words clash.other) true

-- each name of an output or of a tap was told to be of another file than each other name
abbrev pub NoneClash : (List ℕ → NamedFile → Type 0) → List (List ℕ) → ReportOn → Type 0
NoneClash may words report =
    (places : WordPlaces) × ArePlaces words places
    × ((written : ℕ) (other : OtherName) → written < length words → IsTrue (is_written places written)
    → IsOther words places report written other → MayTell may (word_at words written) (name_of words other) false)
