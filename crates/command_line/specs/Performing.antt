-- What the program does with its words, in a world that shows its bytes by a beginning and may be healthy, where the
-- clock may answer these times.
use Rattle.std.specs.Prelude.{◌≡◌, ◌<◌, ◌≤◌, ◌+◌, ℕ, List, IfSome, None}
use Rattle.world_io.specs.Stream.{Rose}
use Rattle.world_io.specs.World.{Start, Shown, Ledger}
use Rattle.packet_taps.specs.Watching.{KeepsFiles, ReadsOneName}
use Rattle.packet_taps.specs.Words.{watch_names}
use Rattle.job_commands.specs.declared.status.Status.{Status}
use Rattle.job_commands.specs.declared.status.Status.TheVariants.{BadWords, ReadFault, WriteFault}
use Rattle.job_commands.specs.Answers.{AnswersAs}
use Rattle.job_commands.specs.Status.{IsRefusal}
use Rattle.job_commands.specs.Words.{IfAsks, asked}
use Rattle.job_top.specs.Answers.{AnswersBytesOf}
use Rattle.job_top.specs.Commands.{meaning_of}
use Rattle.command_words.specs.Printing.{asked_text, Prints}
use Rattle.command_words.specs.Watching.{Watches}

-- the help or the version was printed, or the command answered as it means it
pub record Performs (healthy : Type 0) (may : ℕ → Type 0) (words : List (List ℕ)) (status : Status)
    (old new : Shown) : Type 0 where
  pub prints : IfSome (asked_text words) (λ text. Prints text status old new)
  pub answers : AnswersBytesOf healthy may words status old new

-- Each clause of `perform`, for a world of which these are the four views.
pub record PerformsIn {W : Type 0} (honest : Start → W → Type 0) (shows : Start → W → Shown) (ledger : W → Ledger)
    (healthy : W → Type 0) (may : ℕ → Type 0) (words : List (List ℕ)) (status : Status) (old new : W) : Type 0 where
  pub prints : (p : Start) → honest p new
      → IfSome (asked_text words) (λ text. Prints text status (shows p old) (shows p new))
  pub answers : IfAsks words (λ command.
      AnswersAs honest shows ledger healthy (meaning_of may command) status old new)
  pub bad_words : status ≡ BadWords → (asked words ≡ None) × (asked_text words ≡ None)
  pub nothing_asked : status ≡ BadWords → new ≡ old
  -- what is so of a text that is printed, too
  pub creates_nothing : IsRefusal status → (ledger new).created ≡ (ledger old).created
  pub never_fails : healthy old → ¬ (status ≡ WriteFault)
  pub read_fault : status ≡ ReadFault → Rose (ledger old).read_faults (ledger new).read_faults
  pub write_fault : status ≡ WriteFault → Rose (ledger old).write_faults (ledger new).write_faults
  pub opens_nothing : asked words ≡ None → (ledger new).opened_names ≡ (ledger old).opened_names
  pub given : (ledger new).given ≤ (ledger old).given + 8
  pub before : (p : Start) → honest p new → honest p old

-- Each clause of `watch_words` but what it prints, for a world of which these are the four views. The lines are printed
-- in a world that has this ledger in the end.
pub record WatchesIn {W : Type 0} (honest : Start → W → Type 0) (shows : Start → W → Shown) (ledger : W → Ledger)
    (healthy : W → Type 0) (words : List (List ℕ)) (status : Status) (old new : W) (printed : Ledger) : Type 0 where
  pub bytes : (p : Start) → honest p new → Watches (healthy old) words status (shows p old)
  pub bad_words : status ≡ BadWords → watch_names words ≡ None
  pub nothing_asked : status ≡ BadWords → new ≡ old
  pub read_fault : status ≡ ReadFault → Rose (ledger old).read_faults (ledger new).read_faults
  pub write_fault : status ≡ WriteFault → 0 < printed.write_faults
  pub only_reads : ReadsOneName ledger healthy old new
  pub keeps : (p : Start) → honest p new → KeepsFiles (shows p old) (shows p new)
  pub before : (p : Start) → honest p new → honest p old
