-- What each status of `run` says of its input files and of the run. The files are judged in the order box, capture,
-- script; the first that is not accepted decides.
--
-- In a healthy world reading fails only where a name is not there, and writing never does.
use Rattle.std.specs.Prelude.{◌≡◌, ◌⊎◌, Result, Ok, Err}
use Rattle.plain_text.specs.declared.limit.Limit.{Limit}
use Rattle.pcapng_io.specs.declared.fault.AnyFault.TheVariants as any
use Rattle.world_io.specs.World.{Shown}
use Rattle.input_files.specs.Judging.{FaultsBox, FaultsCapture, FaultsScript, ScriptTooLarge}
use Rattle.job_commands.specs.declared.inputs.Inputs.{Inputs}
use Rattle.job_commands.specs.declared.status.Status.{Status}
use Rattle.job_commands.specs.declared.status.Status.TheVariants as status
use Rattle.job_commands.specs.declared.status.InputFault.TheVariants as input
use Rattle.job_commands.specs.Run.{AcceptsInputs, EndsRun, StopsRun}
use Rattle.job_commands.specs.Turns.{BehindBox, BehindCapture, FirstIsMissing, FirstIsTooLarge}
use Rattle.job_commands.specs.Words.{RunNames}

-- What a status says. Running out of memory says nothing, nor does a fault of reading in a world that is not healthy.
abbrev pub Judges : Type 0 → RunNames → Status → Shown → Type 0
Judges healthy names status.Done shown = (inputs : Inputs) × AcceptsInputs names inputs shown × EndsRun inputs
Judges healthy names (status.Refuted refutation) shown = ⊥
Judges healthy names status.BadWords shown = ⊥
Judges healthy names status.ReadFault shown = healthy → FirstIsMissing names.box_file names.capture names.script shown
Judges healthy names status.WriteFault shown = (healthy → ⊥) × (inputs : Inputs) × AcceptsInputs names inputs shown
Judges healthy names status.NoMemory shown = Unit {0}
Judges healthy names (status.BadInput (input.BoxFile fault)) shown = FaultsBox names.box_file fault shown
Judges healthy names (status.BadInput (input.SecondBox fault)) shown = ⊥
Judges healthy names (status.BadInput (input.Capture fault)) shown =
    BehindBox names.box_file shown (FaultsCapture names.capture (any.Capture fault) shown)
Judges healthy names (status.BadInput (input.NgCapture fault)) shown =
    BehindBox names.box_file shown (FaultsCapture names.capture (any.Ng fault) shown)
Judges healthy names (status.BadInput (input.Script fault)) shown =
    BehindCapture names.box_file names.capture shown (FaultsScript names.script fault shown)
Judges healthy names (status.BadInput (input.Plan fault)) shown = ⊥
Judges healthy names (status.BadInput (input.Schedule fault)) shown = ⊥
Judges healthy names (status.BadInput (input.Moves fault)) shown = ⊥
Judges healthy names (status.BadInput (input.Released fault)) shown = ⊥
Judges healthy names (status.BadInput (input.NgReleased fault)) shown = ⊥
Judges healthy names (status.BadInput (input.Handover fault)) shown = ⊥
Judges healthy names (status.TooLarge limit) shown =
    FirstIsTooLarge names.box_file names.capture (ScriptTooLarge names.script limit shown) limit shown
    ⊎ ((inputs : Inputs) × AcceptsInputs names inputs shown × StopsRun inputs limit)
Judges healthy names (status.Unready unready) shown = ⊥

-- what reading all inputs answers: they are accepted, or the status that ends the command
abbrev pub JudgesInputs : Type 0 → RunNames → Result Inputs Status → Shown → Type 0
JudgesInputs healthy names (Ok inputs) shown = AcceptsInputs names inputs shown
JudgesInputs healthy names (Err status) shown = Judges healthy names status shown

-- The statuses that the input files decide. A fault of the outside is decided by them in a healthy world alone.
abbrev pub IsDecided : Type 0 → Status → Type 0
IsDecided healthy s = ¬ (s ≡ status.NoMemory) × ((s ≡ status.ReadFault → healthy) × (s ≡ status.WriteFault → healthy))

-- The inputs are accepted, and the run passes no limit.
abbrev pub AreAccepted : RunNames → Shown → Type 0
AreAccepted names shown =
    (inputs : Inputs) × AcceptsInputs names inputs shown × ((limit : Limit) → StopsRun inputs limit → ⊥)
