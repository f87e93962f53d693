-- What the program comes to, from the world that it was given to the one that it leaves.
use Rattle.std.specs.Prelude.{◌≡◌, ◌≢◌, ◌⊎◌, ℕ, ◌+◌, ◌*◌, ◌<◌, true, false, List, [], length, Option, None, Some}
use Rattle.std.specs.Prelude.{IfSome, slice_get}
use Rattle.world_io.specs.World.{Start, Shown, Ledger}
use Rattle.world_told.specs.Events.{Event, shown_after}
use Rattle.world_told.specs.Honest.{IsHonest}
use Rattle.job_commands.specs.declared.status.Status.{Status}
use Rattle.job_commands.specs.declared.status.Status.TheVariants.{Done, BadWords, WriteFault, NoMemory}
use Rattle.job_commands.specs.Status.{exit_code_of}
use Rattle.job_commands.specs.Words.{asked, live_names}
use Rattle.job_top.specs.Answers.{Answers, AnswersBytesOf}
use Rattle.release_taps.specs.Split.{AsksForTaps, BeginsWithTap, behind_pairs, released_name}
use Rattle.release_taps.specs.declared.seat.Seat.{Seat}
use Rattle.release_taps.specs.Mirrored.{IsMirroring}
use Rattle.packet_taps.specs.declared.printing.Printed.{Printed}
use Rattle.packet_taps.specs.Printing.{PrintsWindow}
use Rattle.packet_taps.specs.Watching.{JudgesWatched}
use Rattle.packet_taps.specs.Words.{watch_names}
use Rattle.command_line.specs.Performing.{Performs, PerformsIn, WatchesIn}
use Rattle.command_words.specs.Clashes.{Clashes}
use Rattle.command_words.specs.Pipes.{ArePiped, ReadsTwice}
use Rattle.command_words.specs.Printing.{asked_text}
use Rattle.command_words.specs.Watching.{Watches, begins_watch, watch_status}
use Rattle.command_words.specs.declared.clashes.Clash.{Clash}
use Rattle.command_words.specs.declared.named_file.NamedFile.{NamedFile}
use Rattle.command_words.specs.declared.pipes.ReportOn.{ReportOn}

-- The words ask for no rounds of racing threads, that is not for `live`: neither they, where they ask for no tap, nor
-- those after the taps.
pub record AsksNoRounds (words : List (List ℕ)) : Type 0 where
  pub plain : ¬ BeginsWithTap words → live_names words ≡ None
  pub tapped : (pairs : ℕ) → AsksForTaps words pairs → live_names (behind_pairs pairs words) ≡ None

-- the words ask for no tap, and not for a capture to be watched
pub record AsksPlainly (words : List (List ℕ)) : Type 0 where
  pub no_tap : ¬ BeginsWithTap words
  pub no_watch : begins_watch words ≡ false

-- the words ask for a text, or for no tap and not for a capture to be watched
abbrev pub AsksToPerform : List (List ℕ) → Type 0
AsksToPerform words = (asked_text words ≢ None) ⊎ AsksPlainly words

-- the words ask for a capture to be watched
pub record AsksToWatch (words : List (List ℕ)) : Type 0 where
  pub no_text : asked_text words ≡ None
  pub no_tap : ¬ BeginsWithTap words
  pub watch : begins_watch words ≡ true

-- the first word is `tap`, and the words ask for no taps, and for no text
abbrev pub AskForNoTaps : List (List ℕ) → Type 0
AskForNoTaps words = BeginsWithTap words × ((pairs : ℕ) → ¬ AsksForTaps words pairs) × (asked_text words ≡ None)

-- the words ask for taps, and those after the pairs for no command
abbrev pub AskForNoRun : List (List ℕ) → Type 0
AskForNoRun words = (pairs : ℕ) × AsksForTaps words pairs × (asked (behind_pairs pairs words) ≡ None)

-- the first word is `watch`, and the words name no window of a capture
abbrev pub AskForNoWindow : List (List ℕ) → Type 0
AskForNoWindow words = AsksToWatch words × (watch_names words ≡ None)

-- the words ask for no command, and for no text
abbrev pub AskForNothing : List (List ℕ) → Type 0
AskForNothing words = AsksPlainly words × (asked words ≡ None) × (asked_text words ≡ None)

-- the words ask for nothing that the program does
abbrev pub AreBad : List (List ℕ) → Type 0
AreBad words = AskForNoTaps words ⊎ (AskForNoRun words ⊎ (AskForNoWindow words ⊎ AskForNothing words))

-- a world refused the file of a tap, and has counted a fault
abbrev pub HasRefused : {X : Type 0} → (X → ℕ) → Option X → Type 0
HasRefused faults None = ⊥
HasRefused faults (Some world) = 0 < faults world

-- Nothing was asked of the world: memory ran out, or the file of a tap could not be created.
pub record IsNotBegun {W X : Type 0} (faults : X → ℕ) (refused : Option X) (status : Status)
    (old new : W) : Type 0 where
  pub cause : (status ≡ NoMemory) ⊎ ((status ≡ WriteFault) × HasRefused faults refused)
  pub same : new ≡ old

-- What a run of the words promises, for a world of which these are the four views. Lines are printed in a world that
-- has this ledger in the end.
pub record Runs {W X : Type 0} (honest : Start → W → Type 0) (shows : Start → W → Shown) (ledger : W → Ledger)
    (healthy : W → Type 0) (may : ℕ → Type 0) (faults : X → ℕ) (refused : Option X) (words : List (List ℕ))
    (status : Status) (old new : W) (printed : Ledger) : Type 0 where
  -- bad words alone are told so, and ask nothing of the world
  pub bad_words : status ≡ BadWords → AreBad words
  pub nothing_asked : status ≡ BadWords → new ≡ old
  -- all that the top call promises, and that a text is printed; or what watching promises; or, with taps in front, all
  -- that the top call promises of the words after them
  pub performs : AsksToPerform words → PerformsIn honest shows ledger healthy may words status old new
  pub watches : AsksToWatch words → WatchesIn honest shows ledger healthy words status old new printed
  pub taps : (pairs : ℕ) → AsksForTaps words pairs → IsNotBegun faults refused status old new
      ⊎ Answers honest shows ledger healthy may (behind_pairs pairs words) status old new
  pub before : (p : Start) → honest p new → honest p old

-- the k-th of these taps has the name of the k-th pair
abbrev pub AreNamed : {T : Type 0} → (T → List ℕ) → List (List ℕ) → List T → Type 0
AreNamed {T} label words taps =
    (k : ℕ) (tap : T) → slice_get taps k ≡ Some tap → slice_get words (2 * k + 1) ≡ Some (label tap)

-- Each tap sits in the seat of its pair, has the name that stands there, and mirrors what the released capture took:
-- all of it where it did not fail.
pub record TapsMirror {W T : Type 0} (honest : Start → W → Type 0) (shows : Start → W → Shown) (ledger : W → Ledger)
    (tells : T → Type 0) (seen : T → List ℕ) (faults lacks : T → ℕ) (label : T → List ℕ)
    (words : List (List ℕ)) (pairs : ℕ) (world : W) (seats : List (Seat T)) : Type 0 where
  pub count : length seats ≡ pairs
  pub named : AreNamed (λ seat. label seat.tap) words seats
  pub mirrored : Option ℕ
  pub mirrors : IsMirroring honest shows ledger tells seen faults lacks (released_name pairs words) mirrored world seats

-- Of the installed program

-- two names were told to be of one file, of which one is to be written, where the streams have their names
abbrev pub HasClash : (List ℕ → NamedFile → Type 0) → List (List ℕ) → Option Clash → Type 0
HasClash tells words None = ⊥
HasClash tells words (Some clash) =
    (piped : List (List ℕ)) × (report : ReportOn) × ArePiped words piped report × Clashes tells piped report clash

-- Nothing was asked of the files: memory ran out; or two names were told to be of one file, of which one is to be
-- written, by what may be told of names; or two inputs are standard input.
pub record AskedNothing (tells : List ℕ → NamedFile → Type 0) (same : Option Clash) (words : List (List ℕ))
    (status : Status) (calls : List Event) : Type 0 where
  pub cause : (status ≡ NoMemory) ⊎ ((status ≡ BadWords) × (HasClash tells words same ⊎ ReadsTwice words))
  pub none : calls ≡ []

-- What a run of the words promises where its files had these calls: by each beginning of which their answers are
-- honest.
pub record RunsFiles {X : Type 0} (may : ℕ → Type 0) (faults : X → ℕ) (refused : Option X) (words : List (List ℕ))
    (status : Status) (calls : List Event) : Type 0 where
  pub bad_words : status ≡ BadWords → AreBad words
  pub nothing_asked : status ≡ BadWords → calls ≡ []
  pub performs : AsksToPerform words → (p : Start) → IsHonest p calls
      → Performs ⊥ may words status (shown_after p []) (shown_after p calls)
  pub watches : AsksToWatch words → (p : Start) → IsHonest p calls
      → Watches ⊥ words status (shown_after p [])
  pub taps : (pairs : ℕ) → AsksForTaps words pairs → IsNotBegun faults refused status [] calls
      ⊎ ((p : Start) → IsHonest p calls
      → AnswersBytesOf ⊥ may (behind_pairs pairs words) status (shown_after p []) (shown_after p calls))

-- What is printed of a watched capture: its lines, where the answers of the file are honest; and nothing on the report
-- that is there for them where none is to be watched.
pub record PrintsFiles (words : List (List ℕ)) (status : Status) (calls printed : List Event) : Type 0 where
  pub lines : AsksToWatch words → (answer : Printed) × (status ≡ watch_status answer)
      × IfSome (watch_names words) (λ names. PrintsWindow {V = List Event} IsHonest shown_after names answer
      (λ packets watched. (p : Start) → IsHonest p calls
      → JudgesWatched ⊥ names.capture packets watched (shown_after p [])) printed)
  pub nothing : ¬ AsksToWatch words → printed ≡ []

-- The number is that of the status, and 0 for Done alone. Where the text of the status could not be written, it is that
-- of a write fault.
pub record EndsWith (status : Status) (number : ℕ) : Type 0 where
  pub done : status ≡ Done → number ≡ 0
  pub only_done : number ≡ 0 → status ≡ Done
  pub told : (number ≡ exit_code_of status) ⊎ (number ≡ exit_code_of WriteFault)
