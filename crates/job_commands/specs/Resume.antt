-- What reading the inputs of `resume` says of them.
--
-- The files are judged in the order box, capture, handover, script: the first that is not accepted decides the status,
-- by its first fault, the limit that it passes, or, in a healthy world, that it is not there. Of a handover its lines
-- are judged; then, before the script, whether it is one of this box file, whether it is one of the packets of this
-- capture, and whether a system of the box can go on from its image.
use Rattle.std.specs.Prelude.{◌≡◌, ◌⊎◌, ℕ, false, List, [], Option, Some, Result, Ok, Err}
use Rattle.plain_text.specs.declared.fault.LineCause.{LineCause}
use Rattle.plain_text.specs.declared.fault.LineFault.{LineFault}
use Rattle.plain_text.specs.declared.limit.Limit.{Limit}
use Rattle.pcapng_io.specs.declared.fault.AnyFault.TheVariants as any
use Rattle.box_conf.specs.Kinds.{meaning_of}
use Rattle.world_io.specs.World.{Shown}
use Rattle.recovery_world.specs.declared.event.Event.{Event}
use Rattle.recovery_world.specs.World.{Setting}
use Rattle.handover_world.specs.declared.fault.ResumeError.{ResumeError}
use Rattle.handover_world.specs.Faults.{HasNoFault, IsFault}
use Rattle.handover_seal.specs.declared.seal.Seal.{Seal}
use Rattle.handover_seal.specs.declared.seal.SealFault.{SealFault}
use Rattle.handover_seal.specs.declared.seal.SealFault.TheVariants.{OtherBox, OtherCapture}
use Rattle.handover_seal.specs.Seals.{IsOfSeal, seal_after, seal_fault, unsealed}
use Rattle.hand_faults.specs.declared.fault.HandCause.{HandCause}
use Rattle.hand_faults.specs.declared.fault.HandCause.TheVariants as cause
use Rattle.hand_faults.specs.declared.fault.HandFault.{HandFault}
use Rattle.hand_faults.specs.HandFaults.{IsRefusedAt}
use Rattle.run_writes.specs.declared.opening.ScriptRun.{ScriptRun}
use Rattle.run_writes.specs.Run.{setting_of}
use Rattle.input_files.specs.declared.image_file.ImageFile.{ImageFile}
use Rattle.input_files.specs.Files.{IsMissing}
use Rattle.input_files.specs.Judging.{AcceptsBox, AcceptsCapture, AcceptsImage, AcceptsScript, FaultsBox, FaultsCapture}
use Rattle.input_files.specs.Judging.{FaultsImage, FaultsScript, ImageTooLarge, JudgesImage, JudgesScript}
use Rattle.input_files.specs.Judging.{ScriptTooLarge}
use Rattle.job_commands.specs.declared.resume_inputs.ResumeSource.{ResumeSource}
use Rattle.job_commands.specs.declared.status.Status.{Status}
use Rattle.job_commands.specs.declared.status.Status.TheVariants as status
use Rattle.job_commands.specs.declared.status.InputFault.TheVariants as input
use Rattle.job_commands.specs.HandWords.{ResumeNames}
use Rattle.job_commands.specs.Status.{of_image_error, of_script_error}
use Rattle.job_commands.specs.Turns.{BehindBox, BehindCapture, FirstIsMissing, FirstIsTooLarge, InTurn, JudgesFiles}
use Rattle.job_commands.specs.Turns.{Third}

-- Accepted inputs

-- the files before the script are accepted
pub record AcceptsResumeSource (names : ResumeNames) (source : ResumeSource) (shown : Shown) : Type 0 where
  pub box_accepted : AcceptsBox names.box_file source.conf shown
  pub capture_accepted : AcceptsCapture names.capture source.capture shown
  pub handover_accepted : AcceptsImage names.handover source.image shown

-- The seal that the text has to have: that of this box file and the first packets of this capture, as many as the image
-- says that were fed; none where the box is not sealed.
abbrev pub seal_of : ResumeSource → Option Seal
seal_of source =
    seal_after source.conf.seal source.capture.unit source.capture.packets source.image.image.fed

-- the text is one of this box file and these packets, or neither it nor the box is sealed
abbrev pub IsSealed : ResumeSource → Type 0
IsSealed source = IsOfSeal (seal_of source) source.image.text

abbrev pub seal_cause : SealFault → HandCause
seal_cause OtherBox = cause.Box
seal_cause OtherCapture = cause.Capture

-- it is not: the fault is at its first line
abbrev pub HasSealFault : ResumeSource → HandFault → Type 0
HasSealFault source fault =
    (why : SealFault) × (seal_fault (seal_of source) source.image.text ≡ Some why)
    × (fault ≡ record { line = 1; cause = seal_cause why })

-- the files before the script are accepted, and the text is one of them
pub record AcceptsSealed (names : ResumeNames) (source : ResumeSource) (shown : Shown) : Type 0 where
  pub source_accepted : AcceptsResumeSource names source shown
  pub sealed : IsSealed source

-- the run that goes on, of these events
abbrev pub resumed_run : ResumeSource → List Event → ScriptRun
resumed_run source events = record {
  threads = source.conf.threads;
  tags = source.conf.tags;
  seed = source.conf.seed;
  unit = source.capture.unit;
  packets = source.capture.packets;
  events = events;
}

-- its setting, in which the events play no part
abbrev pub resumed_setting : (source : ResumeSource) → Setting (meaning_of source.conf.kind).value
resumed_setting source = setting_of (meaning_of source.conf.kind).meaning (resumed_run source [])

-- the text is one of this box and this capture, and a system of the box can go on from the image
abbrev pub GoesOn : ResumeSource → Type 0
GoesOn source = IsSealed source × HasNoFault (resumed_setting source) source.image.image

-- it can't: the text is not one of them, or else the first fault of the image is at this line
abbrev pub CannotGoOn : ResumeSource → HandFault → Type 0
CannotGoOn source fault =
    HasSealFault source fault
    ⊎ (IsSealed source × (error : ResumeError) × IsFault (resumed_setting source) source.image.image error
    × IsRefusedAt (unsealed source.image.text) source.image.image error fault)

-- the files before the script are accepted, and a system can go on
pub record AcceptsImageOf (names : ResumeNames) (source : ResumeSource) (shown : Shown) : Type 0 where
  pub source_accepted : AcceptsResumeSource names source shown
  pub goes_on : GoesOn source

-- all input files are accepted
pub record AcceptsResumeInputs (names : ResumeNames) (source : ResumeSource) (events : List Event) (shown : Shown)
    : Type 0 where
  pub image_accepted : AcceptsImageOf names source shown
  pub script_accepted : AcceptsScript names.script events shown

-- In their turn

-- the text of the handover, as the third file
abbrev pub image_third : Type 0 → ResumeNames → Shown → Third ImageFile LineFault
image_third healthy names shown =
    record { judged = λ r. JudgesImage healthy names.handover r shown; status_of = of_image_error }

-- box, capture and handover, in their turn, and this behind them
abbrev pub JudgesResumeFiles : Type 0 → ResumeNames → (ResumeSource → Status → Type 0) → Status → Shown → Type 0
JudgesResumeFiles healthy names behind status shown =
    JudgesFiles healthy names.box_file names.capture (image_third healthy names shown)
    (λ conf capture image. behind (record { conf = conf; capture = capture; image = image })) status shown

-- the text is refused, since it is not one of this box or this capture; or memory ran out
abbrev pub SealRefuses : ResumeSource → Status → Type 0
SealRefuses source other =
    (other ≡ status.NoMemory)
    ⊎ ((fault : HandFault) × HasSealFault source fault × (other ≡ status.BadInput (input.Handover fault)))

-- The image in its turn: its first fault decides, and where a system can go on, what stands behind it. Memory may run
-- out.
abbrev pub ImageInTurn : (ResumeSource → Status → Type 0) → ResumeSource → Status → Type 0
ImageInTurn behind source other =
    (other ≡ status.NoMemory)
    ⊎ (((fault : HandFault) × CannotGoOn source fault × (other ≡ status.BadInput (input.Handover fault)))
    ⊎ (GoesOn source × behind source other))

-- and the script
abbrev pub JudgesResumeInputs : Type 0 → ResumeNames → (ResumeSource → List Event → Status → Type 0) → Status → Shown
    → Type 0
JudgesResumeInputs healthy names behind status shown =
    JudgesResumeFiles healthy names (ImageInTurn (λ source.
    InTurn (λ r. JudgesScript healthy names.script r shown) of_script_error (behind source))) status shown

-- What reading answers: the files are accepted, or the status that ends the command

abbrev pub JudgesSourceFiles : Type 0 → ResumeNames → Result ResumeSource Status → Shown → Type 0
JudgesSourceFiles healthy names (Ok source) shown = AcceptsResumeSource names source shown
JudgesSourceFiles healthy names (Err status) shown = JudgesResumeFiles healthy names (λ source other. ⊥) status shown

-- the same with the seal of the text
abbrev pub JudgesResumeSource : Type 0 → ResumeNames → Result ResumeSource Status → Shown → Type 0
JudgesResumeSource healthy names (Ok source) shown = AcceptsSealed names source shown
JudgesResumeSource healthy names (Err status) shown = JudgesResumeFiles healthy names SealRefuses status shown

abbrev pub JudgesOneScript : Type 0 → List ℕ → Result (List Event) Status → Shown → Type 0
JudgesOneScript healthy name (Ok events) shown = AcceptsScript name events shown
JudgesOneScript healthy name (Err status) shown =
    InTurn (λ r. JudgesScript healthy name r shown) of_script_error (λ events other. ⊥) status

-- The first file that is not accepted

-- the files before the script are accepted, a system can go on, and this stands behind them
abbrev pub BehindImage : ResumeNames → Shown → Type 0 → Type 0
BehindImage names shown P = (source : ResumeSource) × AcceptsImageOf names source shown × P

-- it is not there
abbrev pub ResumeIsMissing : ResumeNames → Shown → Type 0
ResumeIsMissing names shown =
    FirstIsMissing names.box_file names.capture names.handover shown
    ⊎ BehindImage names shown (IsMissing names.script shown)

-- it passes a limit
abbrev pub ResumeIsTooLarge : ResumeNames → Limit → Shown → Type 0
ResumeIsTooLarge names limit shown =
    FirstIsTooLarge names.box_file names.capture (ImageTooLarge names.handover limit shown) limit shown
    ⊎ BehindImage names shown (ScriptTooLarge names.script limit shown)

-- the handover has this first fault: one of its lines, or its seal's, or of its image
abbrev pub FaultsHandover : ResumeNames → HandFault → Shown → Type 0
FaultsHandover names fault shown =
    ((why : LineCause) × (fault.cause ≡ cause.Line why)
    × BehindCapture names.box_file names.capture shown
    (FaultsImage names.handover (record { line = fault.line; cause = why }) shown))
    ⊎ ((source : ResumeSource) × AcceptsResumeSource names source shown × CannotGoOn source fault)

-- What a status of reading them says. Running out of memory says nothing, nor does a fault of reading in a world that
-- is not healthy.
abbrev pub SaysOfResumeFiles : Type 0 → ResumeNames → Status → Shown → Type 0
SaysOfResumeFiles healthy names status.Done shown = ⊥
SaysOfResumeFiles healthy names (status.Refuted refutation) shown = ⊥
SaysOfResumeFiles healthy names status.BadWords shown = ⊥
SaysOfResumeFiles healthy names status.ReadFault shown = healthy → ResumeIsMissing names shown
SaysOfResumeFiles healthy names status.WriteFault shown = ⊥
SaysOfResumeFiles healthy names status.NoMemory shown = Unit {0}
SaysOfResumeFiles healthy names (status.BadInput (input.BoxFile fault)) shown = FaultsBox names.box_file fault shown
SaysOfResumeFiles healthy names (status.BadInput (input.SecondBox fault)) shown = ⊥
SaysOfResumeFiles healthy names (status.BadInput (input.Capture fault)) shown =
    BehindBox names.box_file shown (FaultsCapture names.capture (any.Capture fault) shown)
SaysOfResumeFiles healthy names (status.BadInput (input.NgCapture fault)) shown =
    BehindBox names.box_file shown (FaultsCapture names.capture (any.Ng fault) shown)
SaysOfResumeFiles healthy names (status.BadInput (input.Script fault)) shown =
    BehindImage names shown (FaultsScript names.script fault shown)
SaysOfResumeFiles healthy names (status.BadInput (input.Plan fault)) shown = ⊥
SaysOfResumeFiles healthy names (status.BadInput (input.Schedule fault)) shown = ⊥
SaysOfResumeFiles healthy names (status.BadInput (input.Moves fault)) shown = ⊥
SaysOfResumeFiles healthy names (status.BadInput (input.Released fault)) shown = ⊥
SaysOfResumeFiles healthy names (status.BadInput (input.NgReleased fault)) shown = ⊥
SaysOfResumeFiles healthy names (status.BadInput (input.Handover fault)) shown = FaultsHandover names fault shown
SaysOfResumeFiles healthy names (status.TooLarge limit) shown = ResumeIsTooLarge names limit shown
SaysOfResumeFiles healthy names (status.Unready unready) shown = ⊥
