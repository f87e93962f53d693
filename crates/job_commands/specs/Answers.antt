-- What the answer of a command says, from the world before to the world after.
use Rattle.std.specs.Prelude.{◌≡◌, ◌+◌, ◌≤◌}
use Rattle.world_io.specs.Stream.{Rose}
use Rattle.world_io.specs.World.{Start, Shown, Ledger, KeepsOrder, WritingFailed}
use Rattle.input_files.specs.Files.{OpensAll, OpensFirst}
use Rattle.run_writes.specs.Run.{KeepsShown}
use Rattle.job_commands.specs.declared.status.Status.{Status}
use Rattle.job_commands.specs.declared.status.Status.TheVariants.{Done, Refuted, BadWords, ReadFault, WriteFault}
use Rattle.job_commands.specs.declared.status.Status.TheVariants.{NoMemory, BadInput, TooLarge, Unready}
use Rattle.job_commands.specs.Meanings.{CommandMeaning}

-- What each answer says of the outputs: they are whole; or as they were, where an input is refused; or there up to a
-- limit; or those of a system that is not ready. A command whose words are right never answers that they are bad.
abbrev pub SaysOf : CommandMeaning → Status → Shown → Shown → Type 0
SaysOf command Done old new = command.Leaves old new × command.Promises old new
SaysOf command (Refuted refutation) old new = KeepsShown old new
SaysOf command BadWords old new = ⊥
SaysOf command ReadFault old new = KeepsShown old new
SaysOf command WriteFault old new = Unit {0}
SaysOf command NoMemory old new = Unit {0}
SaysOf command (BadInput fault) old new = KeepsShown old new
SaysOf command (TooLarge limit) old new = command.StopsAt limit old new
SaysOf command (Unready unready) old new = command.LeavesUnready unready old new

-- What is said of the bytes, by one beginning of which the world's answers were honest.
pub record AnswersBytes (command : CommandMeaning) (healthy : Type 0) (status : Status) (old new : Shown) : Type 0 where
  pub says : SaysOf command status old new
  -- whatever the answer is: the outputs are a first part of what the command gives, and no other file changes
  pub in_order : command.LeavesInOrder old new
  pub others : command.KeepsNames old new
  -- the cause of the answer, and when the command is done
  pub judged : command.Judges healthy status old
  pub completes : healthy → command.Accepts old → command.CompletesAs status

-- What each answer says of the world's ledger, whatever the world answered: for Done all inputs were opened; where one is
-- refused nothing is created; and a fault is told only where its count rose, one of writing in no healthy world.
abbrev pub Counts : {W : Type 0} → (W → Ledger) → (W → Type 0) → CommandMeaning → Status → W → W → Type 0
Counts ledger healthy command Done old new = OpensAll command.inputs (ledger old) (ledger new)
Counts ledger healthy command (Refuted refutation) old new = (ledger new).created ≡ (ledger old).created
Counts ledger healthy command BadWords old new = ⊥
Counts ledger healthy command ReadFault old new =
    Rose (ledger old).read_faults (ledger new).read_faults × ((ledger new).created ≡ (ledger old).created)
Counts ledger healthy command WriteFault old new = WritingFailed ledger healthy old new
Counts ledger healthy command NoMemory old new = Unit {0}
Counts ledger healthy command (BadInput fault) old new = (ledger new).created ≡ (ledger old).created
Counts ledger healthy command (TooLarge limit) old new = Unit {0}
Counts ledger healthy command (Unready unready) old new = Unit {0}

-- What a command answers, in a world of which these are the four views.
pub record AnswersAs {W : Type 0} (honest : Start → W → Type 0) (shows : Start → W → Shown) (ledger : W → Ledger)
    (healthy : W → Type 0) (command : CommandMeaning) (status : Status) (old new : W) : Type 0 where
  -- what is said of the bytes, by each beginning of which the world's answers were honest
  pub bytes : (p : Start) → honest p new → AnswersBytes command (healthy old) status (shows p old) (shows p new)
  pub before : (p : Start) → honest p new → honest p old
  -- what is said of the ledger: the inputs were opened in the order of the words, a first part of them, and the calls
  -- stay orderly
  pub counts : Counts ledger healthy command status old new
  pub opens_in_order : OpensFirst command.inputs (ledger old) (ledger new)
  pub orderly : KeepsOrder (ledger old) (ledger new)
  pub given : (ledger new).given ≤ (ledger old).given + command.files
