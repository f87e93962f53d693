-- What the top call promises of words, from the world before to the world after.
use Rattle.std.specs.Prelude.{◌≡◌, ◌+◌, ◌≤◌, ◌↔◌, ℕ, List, None}
use Rattle.world_io.specs.World.{Start, Shown, Ledger}
use Rattle.job_commands.specs.declared.status.Status.{Status}
use Rattle.job_commands.specs.declared.status.Status.TheVariants.{BadWords}
use Rattle.job_commands.specs.Answers.{AnswersAs, AnswersBytes}
use Rattle.job_commands.specs.Words.{IfAsks, asked}
use Rattle.job_top.specs.Commands.{meaning_of}

-- what is said of the bytes of the command that the words ask for, by one beginning of which the answers were honest
abbrev pub AnswersBytesOf : Type 0 → (ℕ → Type 0) → List (List ℕ) → Status → Shown → Shown → Type 0
AnswersBytesOf healthy may words status old new =
    IfAsks words (λ command. AnswersBytes (meaning_of may command) healthy status old new)

-- Each clause of the top call, for a world of which these are the four views.
pub record Answers {W : Type 0} (honest : Start → W → Type 0) (shows : Start → W → Shown) (ledger : W → Ledger)
    (healthy : W → Type 0) (may : ℕ → Type 0) (words : List (List ℕ)) (status : Status) (old new : W) : Type 0 where
  -- words that ask for no command change nothing
  pub bad_words : status ≡ BadWords ↔ asked words ≡ None
  pub nothing_asked : status ≡ BadWords → new ≡ old
  -- others are answered as the command means it
  pub answers : IfAsks words (λ command.
      AnswersAs honest shows ledger healthy (meaning_of may command) status old new)
  -- and at most eight numbers are given
  pub given : (ledger new).given ≤ (ledger old).given + 8
