-- What `play` and `check` do, and what each status says of their inputs.
--
-- The input files are judged one after another: the first that is not accepted decides the status. Where all are
-- accepted, the schedule decides it, and then the released packets.
use Rattle.std.specs.Prelude.{◌≡◌, ◌⊎◌, ℕ, false, List, length, Result, Ok, Err, ⊤, IsErrOf}
use Rattle.plain_text.specs.declared.fault.LineFault.{LineFault}
use Rattle.plain_machine.specs.declared.plain_move.PlainMove.{PlainMove}
use Rattle.plain_machine.specs.declared.plain_move.PlayFault.{PlayFault}
use Rattle.plain_machine.specs.History.{Step}
use Rattle.box_conf.specs.Kinds.{meaning_of}
use Rattle.world_io.specs.World.{Shown}
use Rattle.output_files.specs.Writes.{HasWritten, HasBegun}
use Rattle.schedule_check.specs.declared.checking.Refutation.{Refutation}
use Rattle.schedule_commands.specs.declared.error.ScheduleError.{ScheduleError}
use Rattle.schedule_commands.specs.declared.error.ScheduleError.TheVariants as error
use Rattle.schedule_commands.specs.declared.run.ScheduleRun.{ScheduleRun}
use Rattle.schedule_commands.specs.Runs.{outcome_of}
use Rattle.schedule_commands.specs.Playing.{SaysPlay, HasPlayed, HasBegunPlay}
use Rattle.schedule_commands.specs.Checking.{IsFound, SaysCheck, found_writes}
use Rattle.run_writes.specs.Run.{KeepsShown}
use Rattle.input_files.specs.Judging.{JudgesCapture, JudgesSchedule, AcceptsBox, AcceptsCapture, AcceptsSchedule}
use Rattle.job_commands.specs.declared.schedule_inputs.ScheduleInputs.{ScheduleInputs}
use Rattle.job_commands.specs.declared.schedule_inputs.CheckInputs.{CheckInputs}
use Rattle.job_commands.specs.declared.status.Status.{Status}
use Rattle.job_commands.specs.declared.status.Status.TheVariants.{BadInput, Refuted}
use Rattle.job_commands.specs.declared.status.InputFault.TheVariants.{Moves}
use Rattle.job_commands.specs.Meanings.{CommandMeaning, NeverUnready, PromisesNothing, StopsAtInputs}
use Rattle.job_commands.specs.Status.{Completes, of_schedule_error, of_released_error}
use Rattle.job_commands.specs.Status.{play_outcome, check_outcome}
use Rattle.job_commands.specs.Turns.{InTurn, JudgesFiles, Third}
use Rattle.job_commands.specs.Words.{ScheduleNames, PlayNames, CheckNames, check_inputs, schedule_inputs}

-- Accepted inputs

pub record AcceptsScheduleInputs (names : ScheduleNames) (inputs : ScheduleInputs) (shown : Shown) : Type 0 where
  pub box_accepted : AcceptsBox names.box_file inputs.conf shown
  pub capture_accepted : AcceptsCapture names.capture inputs.capture shown
  pub schedule_accepted : AcceptsSchedule names.schedule inputs.schedule shown

-- Each input of `check` was accepted: those of `play`, and the capture of released packets.
pub record AcceptsCheckInputs (names : CheckNames) (inputs : CheckInputs) (shown : Shown) : Type 0 where
  pub played_accepted : AcceptsScheduleInputs names.files inputs.played shown
  pub released_accepted : AcceptsCapture names.released inputs.released shown

-- what is played
abbrev pub schedule_of : ScheduleInputs → ScheduleRun
schedule_of inputs = record {
  threads = inputs.conf.threads;
  tags = inputs.conf.tags;
  unit = inputs.capture.unit;
  packets = inputs.capture.packets;
  schedule = inputs.schedule;
}

-- what it comes to, with the meaning of the box
abbrev pub outcome_for : (inputs : ScheduleInputs) → Result (List (Step (meaning_of inputs.conf.kind).value)) PlayFault
outcome_for inputs = outcome_of (meaning_of inputs.conf.kind).meaning (schedule_of inputs)

-- What each status says

-- the schedule, as the third file
abbrev pub schedule_third : Type 0 → ScheduleNames → Shown → Third (List PlainMove) LineFault
schedule_third healthy names shown =
    record { judged = λ r. JudgesSchedule healthy names.schedule r shown; status_of = of_schedule_error }

-- box, capture and schedule, in their turn, and this behind them
abbrev pub JudgesThree : Type 0 → ScheduleNames → (ScheduleInputs → Status → Type 0) → Status → Shown → Type 0
JudgesThree healthy names behind status shown =
    JudgesFiles healthy names.box_file names.capture (schedule_third healthy names shown)
    (λ conf capture schedule. behind (record { conf = conf; capture = capture; schedule = schedule })) status shown

-- and the released capture in its turn
abbrev pub JudgesFour : Type 0 → CheckNames → (CheckInputs → Status → Type 0) → Status → Shown → Type 0
JudgesFour healthy names behind status shown =
    JudgesThree healthy names.files (λ played.
    InTurn (λ r. JudgesCapture healthy names.released r shown) of_released_error (λ released.
    behind (record { played = played; released = released }))) status shown

-- The status of `play` on accepted inputs. In a healthy world writing never fails.
abbrev pub EndsPlay : Type 0 → ScheduleInputs → Status → Type 0
EndsPlay healthy inputs status =
    (answer : Result ⊤ (ScheduleError PlayFault)) × SaysPlay (outcome_for inputs) answer
    × (healthy → ¬ IsErrOf answer error.WriteFault) × (status ≡ play_outcome answer)

-- and of `check`
abbrev pub EndsCheck : Type 0 → CheckInputs → Status → Type 0
EndsCheck healthy inputs status =
    (answer : Result ⊤ (ScheduleError Refutation))
    × SaysCheck (outcome_for inputs.played) inputs.played.capture.unit inputs.released.packets
    inputs.released.unit answer × (healthy → ¬ IsErrOf answer error.WriteFault) × (status ≡ check_outcome answer)

abbrev pub JudgesPlay : Type 0 → PlayNames → Status → Shown → Type 0
JudgesPlay healthy names status shown = JudgesThree healthy names.files (EndsPlay healthy) status shown

abbrev pub JudgesCheck : Type 0 → CheckNames → Status → Shown → Type 0
JudgesCheck healthy names status shown = JudgesFour healthy names (EndsCheck healthy) status shown

-- what reading the files of a schedule answers: they are accepted, or the status that ends the command
abbrev pub JudgesScheduleFiles : Type 0 → ScheduleNames → Result ScheduleInputs Status → Shown → Type 0
JudgesScheduleFiles healthy names (Ok inputs) shown = AcceptsScheduleInputs names inputs shown
JudgesScheduleFiles healthy names (Err status) shown = JudgesThree healthy names (λ inputs other. ⊥) status shown

abbrev pub JudgesCheckFiles : Type 0 → CheckNames → Result CheckInputs Status → Shown → Type 0
JudgesCheckFiles healthy names (Ok inputs) shown = AcceptsCheckInputs names inputs shown
JudgesCheckFiles healthy names (Err status) shown = JudgesFour healthy names (λ inputs other. ⊥) status shown

-- What the commands leave

-- OUT is the capture of what the schedule sends out
abbrev pub PlaysWhole : PlayNames → Shown → Shown → Type 0
PlaysWhole names old new =
    (inputs : ScheduleInputs)
    × AcceptsScheduleInputs names.files inputs old
    × HasPlayed (outcome_for inputs) names.out inputs.capture.unit old new

-- nothing was written, or some first part of that, in its order, and nothing else
abbrev pub PlaysInOrder : PlayNames → Shown → Shown → Type 0
PlaysInOrder names old new =
    KeepsShown old new
    ⊎ ((inputs : ScheduleInputs)
    × AcceptsScheduleInputs names.files inputs old
    × HasBegunPlay (outcome_for inputs) names.out inputs.capture.unit old new)

-- the released packets are among what the schedule sends out, each with an emission of its own
abbrev pub AreFound : CheckInputs → Type 0
AreFound inputs =
    IsFound (outcome_for inputs.played) inputs.played.capture.unit inputs.released.packets inputs.released.unit

-- the report says how many they are
abbrev pub FindsAll : CheckNames → Shown → Shown → Type 0
FindsAll names old new =
    (inputs : CheckInputs) × AcceptsCheckInputs names inputs old × AreFound inputs
    × HasWritten (found_writes (length inputs.released.packets)) old new

-- nothing was reported, or some first part of that
abbrev pub FindsInOrder : CheckNames → Shown → Shown → Type 0
FindsInOrder names old new =
    KeepsShown old new
    ⊎ ((inputs : CheckInputs) × AcceptsCheckInputs names inputs old × AreFound inputs
    × HasBegun (found_writes (length inputs.released.packets)) old new)

-- What the commands mean

-- Where its inputs are accepted, `play` is done, or names the first illegal move of the schedule.
abbrev pub play_meaning : PlayNames → CommandMeaning
play_meaning names = record {
  inputs = schedule_inputs names.files;
  files = 4;
  Leaves = PlaysWhole names;
  Promises = PromisesNothing;
  StopsAt = StopsAtInputs;
  LeavesUnready = NeverUnready;
  LeavesInOrder = PlaysInOrder names;
  KeepsNames = λ old new. (name : List ℕ) → ¬ (name ≡ names.out) → new.names name ≡ old.names name;
  Judges = λ healthy. JudgesPlay healthy names;
  Accepts = λ shown. (inputs : ScheduleInputs) × AcceptsScheduleInputs names.files inputs shown;
  CompletesAs = λ status. Completes status ⊎ ((fault : PlayFault) × (status ≡ BadInput (Moves fault)));
}

-- `check` is done, or says what it refutes. It writes no file.
abbrev pub check_meaning : CheckNames → CommandMeaning
check_meaning names = record {
  inputs = check_inputs names;
  files = 4;
  Leaves = FindsAll names;
  Promises = PromisesNothing;
  StopsAt = StopsAtInputs;
  LeavesUnready = NeverUnready;
  LeavesInOrder = FindsInOrder names;
  KeepsNames = λ old new. (name : List ℕ) → new.names name ≡ old.names name;
  Judges = λ healthy. JudgesCheck healthy names;
  Accepts = λ shown. (inputs : CheckInputs) × AcceptsCheckInputs names inputs shown;
  CompletesAs = λ status. Completes status ⊎ ((refutation : Refutation) × (status ≡ Refuted refutation));
}
