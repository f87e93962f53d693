-- The statuses of the commands: their exit numbers, at which stage they come, and which error of a stage gives which.
use Rattle.std.specs.Prelude.{◌≡◌, ◌⊎◌, ℕ, Result, Ok, Err}
use Rattle.plain_text.specs.declared.fault.LineFault.{LineFault}
use Rattle.plain_text.specs.declared.limit.Limit.{Limit}
use Rattle.plain_text.specs.declared.limit.Limit.TheVariants as limit_of
use Rattle.pcapng_io.specs.declared.fault.AnyFault.{AnyFault}
use Rattle.pcapng_io.specs.declared.fault.AnyFault.TheVariants as any
use Rattle.input_files.specs.declared.errors.InputError.{InputError}
use Rattle.input_files.specs.declared.errors.InputError.TheVariants as of_input
use Rattle.output_files.specs.declared.error.OutputError.{OutputError}
use Rattle.output_files.specs.declared.error.OutputError.TheVariants as of_output
use Rattle.run_writes.specs.declared.error.RunError.{RunError}
use Rattle.run_writes.specs.declared.error.RunError.TheVariants as of_run
use Rattle.plain_machine.specs.declared.plain_move.PlayFault.{PlayFault}
use Rattle.schedule_check.specs.declared.checking.Refutation.{Refutation}
use Rattle.hand_faults.specs.declared.fault.HandCause.TheVariants as hand_cause
use Rattle.schedule_commands.specs.declared.error.ScheduleError.{ScheduleError}
use Rattle.schedule_commands.specs.declared.error.ScheduleError.TheVariants as of_schedule
use Rattle.job_commands.specs.declared.status.InputFault.{InputFault}
use Rattle.job_commands.specs.declared.status.InputFault.TheVariants.{BoxFile, SecondBox, Capture, NgCapture, Script}
use Rattle.job_commands.specs.declared.status.InputFault.TheVariants.{Plan, Schedule, Moves, Released, NgReleased}
use Rattle.job_commands.specs.declared.status.InputFault.TheVariants.{Handover}
use Rattle.job_commands.specs.declared.status.Status.{Status}
use Rattle.job_commands.specs.declared.status.Status.TheVariants.{Done, Refuted, BadWords, ReadFault, WriteFault}
use Rattle.job_commands.specs.declared.status.Status.TheVariants.{NoMemory, BadInput, TooLarge, Unready}

-- the exit number of the program
abbrev pub exit_code_of : Status → ℕ
exit_code_of Done = 0
exit_code_of (Refuted refutation) = 1
exit_code_of BadWords = 2
exit_code_of ReadFault = 3
exit_code_of WriteFault = 4
exit_code_of NoMemory = 5
exit_code_of (BadInput fault) = 6
exit_code_of (TooLarge limit) = 7
exit_code_of (Unready unready) = 9

-- the stages of a command: its words are read; its inputs are read and judged; its outputs are written
pub data Stage : Type 0 where
  AtWords : Stage
  AtInputs : Stage
  AtOutputs : Stage
  AtAnyTime : Stage

-- the stage at which a limit is passed: those of files when they are read, those of a run when it is performed
abbrev pub stage_of_limit : Limit → Stage
stage_of_limit limit_of.File = AtInputs
stage_of_limit limit_of.Packets = AtInputs
stage_of_limit limit_of.Events = AtInputs
stage_of_limit limit_of.Moves = AtOutputs
stage_of_limit limit_of.OutputBytes = AtOutputs

-- the stage at which a status comes; memory may run out at any time
abbrev pub stage_of : Status → Stage
stage_of Done = AtOutputs
stage_of (Refuted refutation) = AtInputs
stage_of BadWords = AtWords
stage_of ReadFault = AtInputs
stage_of WriteFault = AtOutputs
stage_of NoMemory = AtAnyTime
stage_of (BadInput fault) = AtInputs
stage_of (TooLarge limit) = stage_of_limit limit
stage_of (Unready unready) = AtOutputs

-- An input file could not be read, or what the inputs say is refused. A limit that is passed is none of these: it may
-- be one of the run.
abbrev pub IsRefusal : Status → Type 0
IsRefusal Done = ⊥
IsRefusal (Refuted refutation) = Unit {0}
IsRefusal BadWords = ⊥
IsRefusal ReadFault = Unit {0}
IsRefusal WriteFault = ⊥
IsRefusal NoMemory = ⊥
IsRefusal (BadInput fault) = Unit {0}
IsRefusal (TooLarge limit) = ⊥
IsRefusal (Unready unready) = ⊥

-- the status comes at this stage, or says that memory ran out
abbrev pub ComesAt : Stage → Status → Type 0
ComesAt stage status = (stage_of status ≡ stage) ⊎ (stage_of status ≡ AtAnyTime)

-- a status that may come before an output is created, once the words are right
abbrev pub EndsReading : Status → Type 0
EndsReading Done = ⊥
EndsReading (Refuted refutation) = ⊥
EndsReading BadWords = ⊥
EndsReading ReadFault = Unit {0}
EndsReading WriteFault = ⊥
EndsReading NoMemory = Unit {0}
EndsReading (BadInput fault) = Unit {0}
EndsReading (TooLarge limit) = Unit {0}
EndsReading (Unready unready) = ⊥

abbrev pub of_box_error : InputError LineFault → Status
of_box_error of_input.ReadFault = ReadFault
of_box_error of_input.NoMemory = NoMemory
of_box_error (of_input.TooLarge limit) = TooLarge limit
of_box_error (of_input.Fault fault) = BadInput (BoxFile fault)

abbrev pub of_second_box_error : InputError LineFault → Status
of_second_box_error of_input.ReadFault = ReadFault
of_second_box_error of_input.NoMemory = NoMemory
of_second_box_error (of_input.TooLarge limit) = TooLarge limit
of_second_box_error (of_input.Fault fault) = BadInput (SecondBox fault)

abbrev pub of_script_error : InputError LineFault → Status
of_script_error of_input.ReadFault = ReadFault
of_script_error of_input.NoMemory = NoMemory
of_script_error (of_input.TooLarge limit) = TooLarge limit
of_script_error (of_input.Fault fault) = BadInput (Script fault)

abbrev pub of_plan_error : InputError LineFault → Status
of_plan_error of_input.ReadFault = ReadFault
of_plan_error of_input.NoMemory = NoMemory
of_plan_error (of_input.TooLarge limit) = TooLarge limit
of_plan_error (of_input.Fault fault) = BadInput (Plan fault)

-- a line of a handover has a fault
abbrev pub of_image_fault : LineFault → InputFault
of_image_fault fault = Handover (record { line = fault.line; cause = hand_cause.Line fault.cause })

abbrev pub of_image_error : InputError LineFault → Status
of_image_error of_input.ReadFault = ReadFault
of_image_error of_input.NoMemory = NoMemory
of_image_error (of_input.TooLarge limit) = TooLarge limit
of_image_error (of_input.Fault fault) = BadInput (of_image_fault fault)

abbrev pub of_capture_fault : AnyFault → InputFault
of_capture_fault (any.Capture fault) = Capture fault
of_capture_fault (any.Ng fault) = NgCapture fault

abbrev pub of_capture_error : InputError AnyFault → Status
of_capture_error of_input.ReadFault = ReadFault
of_capture_error of_input.NoMemory = NoMemory
of_capture_error (of_input.TooLarge limit) = TooLarge limit
of_capture_error (of_input.Fault fault) = BadInput (of_capture_fault fault)

abbrev pub of_schedule_error : InputError LineFault → Status
of_schedule_error of_input.ReadFault = ReadFault
of_schedule_error of_input.NoMemory = NoMemory
of_schedule_error (of_input.TooLarge limit) = TooLarge limit
of_schedule_error (of_input.Fault fault) = BadInput (Schedule fault)

abbrev pub of_released_fault : AnyFault → InputFault
of_released_fault (any.Capture fault) = Released fault
of_released_fault (any.Ng fault) = NgReleased fault

abbrev pub of_released_error : InputError AnyFault → Status
of_released_error of_input.ReadFault = ReadFault
of_released_error of_input.NoMemory = NoMemory
of_released_error (of_input.TooLarge limit) = TooLarge limit
of_released_error (of_input.Fault fault) = BadInput (of_released_fault fault)

abbrev pub of_output_error : OutputError → Status
of_output_error of_output.WriteFault = WriteFault
of_output_error of_output.NoMemory = NoMemory

-- what a command comes to whose outputs were written so
abbrev pub outcome_of : {A : Type 0} → Result A OutputError → Status
outcome_of (Ok done) = Done
outcome_of (Err error) = of_output_error error

-- what `run` comes to
abbrev pub of_run_error : RunError → Status
of_run_error (of_run.Limit limit) = TooLarge limit
of_run_error of_run.WriteFault = WriteFault
of_run_error of_run.NoMemory = NoMemory

abbrev pub run_outcome : {A : Type 0} → Result A RunError → Status
run_outcome (Ok done) = Done
run_outcome (Err error) = of_run_error error

-- what `play` comes to
abbrev pub play_outcome : {A : Type 0} → Result A (ScheduleError PlayFault) → Status
play_outcome (Ok done) = Done
play_outcome (Err (of_schedule.Refused fault)) = BadInput (Moves fault)
play_outcome (Err of_schedule.WriteFault) = WriteFault
play_outcome (Err of_schedule.NoMemory) = NoMemory

-- what `check` comes to
abbrev pub check_outcome : {A : Type 0} → Result A (ScheduleError Refutation) → Status
check_outcome (Ok done) = Done
check_outcome (Err (of_schedule.Refused refutation)) = Refuted refutation
check_outcome (Err of_schedule.WriteFault) = WriteFault
check_outcome (Err of_schedule.NoMemory) = NoMemory

-- the command is done, or memory ran out
abbrev pub Completes : Status → Type 0
Completes status = (status ≡ Done) ⊎ (status ≡ NoMemory)
