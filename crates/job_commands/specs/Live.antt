-- What reading the inputs of `live` says of them.
--
-- The files are judged in the order box, capture, plan: the first that is not accepted decides the status, by its first
-- fault, the limit that it passes, or, in a healthy world, that it is not there.
use Rattle.std.specs.Prelude.{List, Result, Ok, Err}
use Rattle.plain_text.specs.declared.fault.LineFault.{LineFault}
use Rattle.pcapng_io.specs.declared.fault.AnyFault.TheVariants as any
use Rattle.plan_script.specs.declared.plan.PlanLine.{PlanLine}
use Rattle.world_io.specs.World.{Shown}
use Rattle.input_files.specs.Judging.{AcceptsBox, AcceptsCapture, AcceptsPlan, JudgesPlan, FaultsBox, FaultsCapture}
use Rattle.input_files.specs.Judging.{FaultsPlan, PlanTooLarge}
use Rattle.job_commands.specs.declared.live_inputs.LiveInputs.{LiveInputs}
use Rattle.job_commands.specs.declared.status.Status.{Status}
use Rattle.job_commands.specs.declared.status.Status.TheVariants as status
use Rattle.job_commands.specs.declared.status.InputFault.TheVariants as input
use Rattle.job_commands.specs.Status.{of_plan_error}
use Rattle.job_commands.specs.Turns.{JudgesFiles, Third, BehindBox, BehindCapture, FirstIsMissing, FirstIsTooLarge}
use Rattle.job_commands.specs.Words.{LiveNames}

-- all input files are accepted
pub record AcceptsLiveInputs (names : LiveNames) (inputs : LiveInputs) (shown : Shown) : Type 0 where
  pub box_accepted : AcceptsBox names.box_file inputs.conf shown
  pub capture_accepted : AcceptsCapture names.capture inputs.capture shown
  pub plan_accepted : AcceptsPlan names.plan inputs.plan shown

-- the plan, as the third file
abbrev pub plan_third : Type 0 → LiveNames → Shown → Third (List PlanLine) LineFault
plan_third healthy names shown =
    record { judged = λ r. JudgesPlan healthy names.plan r shown; status_of = of_plan_error }

-- box, capture and plan, in their turn, and this behind them
abbrev pub JudgesLiveFiles : Type 0 → LiveNames → (LiveInputs → Status → Type 0) → Status → Shown → Type 0
JudgesLiveFiles healthy names behind status shown =
    JudgesFiles healthy names.box_file names.capture (plan_third healthy names shown)
    (λ conf capture plan. behind (record { conf = conf; capture = capture; plan = plan })) status shown

-- what reading all inputs answers: they are accepted, or the status that ends the command
abbrev pub JudgesLiveInputs : Type 0 → LiveNames → Result LiveInputs Status → Shown → Type 0
JudgesLiveInputs healthy names (Ok inputs) shown = AcceptsLiveInputs names inputs shown
JudgesLiveInputs healthy names (Err status) shown = JudgesLiveFiles healthy names (λ inputs other. ⊥) status shown

-- What a status of reading them says. Running out of memory says nothing, nor does a fault of reading in a world that
-- is not healthy.
abbrev pub SaysOfFiles : Type 0 → LiveNames → Status → Shown → Type 0
SaysOfFiles healthy names status.Done shown = ⊥
SaysOfFiles healthy names (status.Refuted refutation) shown = ⊥
SaysOfFiles healthy names status.BadWords shown = ⊥
SaysOfFiles healthy names status.ReadFault shown =
    healthy → FirstIsMissing names.box_file names.capture names.plan shown
SaysOfFiles healthy names status.WriteFault shown = ⊥
SaysOfFiles healthy names status.NoMemory shown = Unit {0}
SaysOfFiles healthy names (status.BadInput (input.BoxFile fault)) shown = FaultsBox names.box_file fault shown
SaysOfFiles healthy names (status.BadInput (input.SecondBox fault)) shown = ⊥
SaysOfFiles healthy names (status.BadInput (input.Capture fault)) shown =
    BehindBox names.box_file shown (FaultsCapture names.capture (any.Capture fault) shown)
SaysOfFiles healthy names (status.BadInput (input.NgCapture fault)) shown =
    BehindBox names.box_file shown (FaultsCapture names.capture (any.Ng fault) shown)
SaysOfFiles healthy names (status.BadInput (input.Script fault)) shown = ⊥
SaysOfFiles healthy names (status.BadInput (input.Plan fault)) shown =
    BehindCapture names.box_file names.capture shown (FaultsPlan names.plan fault shown)
SaysOfFiles healthy names (status.BadInput (input.Schedule fault)) shown = ⊥
SaysOfFiles healthy names (status.BadInput (input.Moves fault)) shown = ⊥
SaysOfFiles healthy names (status.BadInput (input.Released fault)) shown = ⊥
SaysOfFiles healthy names (status.BadInput (input.NgReleased fault)) shown = ⊥
SaysOfFiles healthy names (status.BadInput (input.Handover fault)) shown = ⊥
SaysOfFiles healthy names (status.TooLarge limit) shown =
    FirstIsTooLarge names.box_file names.capture (PlanTooLarge names.plan limit shown) limit shown
SaysOfFiles healthy names (status.Unready unready) shown = ⊥
