-- Words in which `-` stands for a stream: for standard input at the place of an input, and for standard output at that
-- of a file that is written.
use Rattle.std.specs.Prelude.{◌≡◌, ◌↔◌, ℕ, zero, suc, ◌+◌, ◌*◌, ◌<◌, ◌≤◌, Bool, IsTrue, List, [], codes, if◌then◌else◌}
use Rattle.std.specs.Prelude.{Some, length, slice_get, slice_index_or}
use Rattle.std.specs.Str.{bytes_eq}
use Rattle.job_commands.specs.Words.{asked}
use Rattle.packet_taps.specs.Words.{watch_names}
use Rattle.command_words.specs.WordPlaces.{is_input, is_written, plain_places, tapped_places}
use Rattle.command_words.specs.declared.pipes.ReportOn.{ReportOn}
use Rattle.command_words.specs.declared.pipes.ReportOn.TheVariants.{Errors}
use Rattle.command_words.specs.declared.pipes.Side.{Side}
use Rattle.command_words.specs.declared.pipes.Side.TheVariants.{Input, Written}
use Rattle.command_words.specs.declared.word_places.WordPlaces.{WordPlaces}

-- so many pairs of `tap` and a name stand in front, and no more
pub record BeginsWithPairs (words : List (List ℕ)) (pairs : ℕ) : Type 0 where
  pub within : 2 * pairs ≤ length words
  pub taps : (k : ℕ) → k < pairs → slice_get words (2 * k) ≡ Some (codes "tap")
  pub last : 2 * pairs + 1 < length words → ¬ (slice_get words (2 * pairs) ≡ Some (codes "tap"))

-- where the names of files stand after so many pairs
abbrev pub places_after : ℕ → List (List ℕ) → WordPlaces
places_after zero words = plain_places (length words) (asked words) (watch_names words)
places_after (suc more) words = tapped_places (suc more)

-- Where the names of files stand among these words. They are those of `ArePlaces`, and the same where the name of a tap
-- is another word of the line, too.
abbrev pub ArePipePlaces : List (List ℕ) → WordPlaces → Type 0
ArePipePlaces words places = (pairs : ℕ) × BeginsWithPairs words pairs × (places ≡ places_after pairs words)

-- the word at this place
abbrev pub word_at : List (List ℕ) → ℕ → List ℕ
word_at words place = slice_index_or words place []

-- it is a name of this kind
abbrev pub is_named : WordPlaces → Side → ℕ → Bool
is_named places Input place = is_input places place
is_named places Written place = is_written places place

-- it stands for a stream
abbrev pub IsPiped : List (List ℕ) → WordPlaces → Side → ℕ → Type 0
IsPiped words places side place =
    (place < length words) × IsTrue (is_named places side place) × (word_at words place ≡ codes "-")

-- the name that a word at this place is or stands for
abbrev pub stream_at : WordPlaces → ℕ → List ℕ → List ℕ
stream_at places place word =
    if bytes_eq word (codes "-") then
    (if is_input places place then codes "/dev/stdin" else
    if is_written places place then codes "/dev/stdout" else word)
    else word

-- the name that the word at this place is or stands for
abbrev pub name_at : List (List ℕ) → WordPlaces → ℕ → List ℕ
name_at words places place = stream_at places place (word_at words place)

-- a file that is written is standard output
abbrev pub WritesOutput : List (List ℕ) → WordPlaces → Type 0
WritesOutput words places = (place : ℕ) × IsPiped words places Written place

-- The same words, with the names of the streams. Standard input, which can be read once, is one input at most. The
-- report stands on standard error where a file that is written is standard output, and nowhere else.
pub record ArePiped (words piped : List (List ℕ)) (report : ReportOn) : Type 0 where
  pub places : WordPlaces
  pub are : ArePipePlaces words places
  pub count : length piped ≡ length words
  pub named : (place : ℕ) → place < length words → word_at piped place ≡ name_at words places place
  pub once : (one other : ℕ) → IsPiped words places Input one → IsPiped words places Input other → one ≡ other
  pub beside : (report ≡ Errors) ↔ WritesOutput words places

-- two inputs are standard input
pub record ReadsTwice (words : List (List ℕ)) : Type 0 where
  pub places : WordPlaces
  pub are : ArePipePlaces words places
  pub one : ℕ
  pub other : ℕ
  pub first : IsPiped words places Input one
  pub second : IsPiped words places Input other
  pub differ : one < other
