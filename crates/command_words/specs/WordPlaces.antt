-- Which words are names of files: of inputs, which a command reads, and of outputs, which it writes.
use Rattle.std.specs.Prelude.{◌≡◌, ◌⊎◌, ℕ, ◌+◌, ◌-◌, ◌*◌, ◌%◌, ◌==◌, Bool, ◌&&◌, ◌||◌, nat_lt, nat_le, List, []}
use Rattle.std.specs.Prelude.{◌∷◌, length, Option, Some, None}
use Rattle.job_commands.specs.Words.{Asked, Runs, Lives, Makes, Plays, Checks, Drills, Traces, Draws, Chains, Hands}
use Rattle.job_commands.specs.Words.{Resumes, asked, inputs_of}
use Rattle.packet_taps.specs.Words.{WatchNames, watch_names}
use Rattle.release_taps.specs.Split.{AsksForTaps, behind_pairs, released_place}
use Rattle.command_words.specs.declared.word_places.WordPlaces.{WordPlaces}

-- the names of the outputs of a command, in the order of its words, of which they are the last
abbrev pub outputs_of : Asked → List (List ℕ)
outputs_of (Runs names) = names.released ∷ names.schedule ∷ []
outputs_of (Lives names) = names.released ∷ names.schedule ∷ names.script ∷ []
outputs_of (Makes names) = names.capture ∷ []
outputs_of (Plays names) = names.out ∷ []
outputs_of (Checks names) = []
outputs_of (Drills names) = names.released ∷ names.schedule ∷ []
outputs_of (Traces names) = names.table ∷ []
outputs_of (Draws names) = names.picture ∷ []
outputs_of (Chains names) = names.middle ∷ names.released ∷ names.first_schedule ∷ names.second_schedule ∷ []
outputs_of (Hands names) = names.released ∷ names.handover ∷ []
outputs_of (Resumes names) = names.released ∷ names.schedule ∷ []

-- among so many words: where the command stands, how many names of inputs it has, and from where on the words are names
-- of outputs
abbrev pub plain_places : ℕ → Option Asked → Option WatchNames → WordPlaces
plain_places count (Some command) watched =
    record { start = 0; inputs = length (inputs_of command); outputs_from = count - length (outputs_of command) }
plain_places count None (Some names) = record { start = 0; inputs = 1; outputs_from = count }
plain_places count None None = record { start = 0; inputs = 0; outputs_from = count }

-- the same after this many taps: a run has three inputs, and all its further words are names of outputs
abbrev pub tapped_places : ℕ → WordPlaces
tapped_places pairs = record { start = 2 * pairs; inputs = 3; outputs_from = 2 * pairs + released_place }

-- the words ask for no taps
abbrev pub IsUntapped : List (List ℕ) → Type 0
IsUntapped words = (pairs : ℕ) → ¬ AsksForTaps words pairs

-- where the names stand among these words
abbrev pub ArePlaces : List (List ℕ) → WordPlaces → Type 0
ArePlaces words places =
    ((pairs : ℕ) × AsksForTaps words pairs × (places ≡ tapped_places pairs))
    ⊎ (IsUntapped words × (places ≡ plain_places (length words) (asked words) (watch_names words)))

-- the words of the command, which stand after those of the taps
abbrev pub IsLine : List (List ℕ) → List (List ℕ) → Type 0
IsLine words line =
    ((pairs : ℕ) × AsksForTaps words pairs × (line ≡ behind_pairs pairs words))
    ⊎ (IsUntapped words × (line ≡ words))

-- the word at this place is the name of a file that is written: of a tap, which stands after a word `tap`, or of an
-- output
abbrev pub is_written : WordPlaces → ℕ → Bool
is_written places place =
    (nat_lt place places.start && (place % 2 == 1)) || nat_le places.outputs_from place

-- it is the name of an input
abbrev pub is_input : WordPlaces → ℕ → Bool
is_input places place = nat_lt places.start place && nat_le (place - places.start) places.inputs

-- it is the name of a file
abbrev pub is_file : WordPlaces → ℕ → Bool
is_file places place = is_written places place || is_input places place
