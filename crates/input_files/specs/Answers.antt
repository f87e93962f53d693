-- What each answer says of the bytes of a file.
--
-- Of a text file that is larger than the limit the lines that end within it are judged. Their faults come first, but
-- not that a line is missing, which may stand behind; otherwise the file is too large.
use Rattle.std.specs.Prelude.{◌≡◌, ℕ, ◌<◌, ◌≤◌, List, length, All, Result, Ok, Err}
use Rattle.plain_text.specs.LineFiles.{LineForm, IsFile, FirstFault, HasTooMany, count_of}
use Rattle.plain_text.specs.Octets.{IsOfBytes}
use Rattle.plain_text.specs.declared.fault.LineCause.{LineCause}
use Rattle.plain_text.specs.declared.fault.LineCause.TheVariants.{MissingLine}
use Rattle.plain_text.specs.declared.fault.LineFault.{LineFault}
use Rattle.plain_text.specs.declared.limit.Limit.{Limit}
use Rattle.plain_text.specs.declared.limit.Limit.TheVariants as limit
use Rattle.plain_text.specs.declared.limit.TheConstants.{MOST_FILE_BYTES, MOST_EVENTS}
use Rattle.pcapng_io.specs.declared.capture.AnyCaptured.TheVariants as captured
use Rattle.pcapng_io.specs.declared.fault.AnyFault.{AnyFault}
use Rattle.pcapng_io.specs.Captured.{SaysAny}
use Rattle.box_conf.specs.declared.kind.BoxConf.{BoxConf}
use Rattle.box_conf.specs.BoxFile.{IsBoxFile}
use Rattle.box_conf.specs.BoxFile as box
use Rattle.recovery_world.specs.declared.event.Event.{Event}
use Rattle.script_text.specs.Scripts.{script_form}
use Rattle.chain_text.specs.ChainScripts.{chain_form}
use Rattle.chain_world.specs.declared.chain_event.ChainEvent.{ChainEvent}
use Rattle.plain_machine.specs.declared.plain_move.PlainMove.{PlainMove}
use Rattle.plain_player.specs.Schedules.{schedule_form}
use Rattle.plan_script.specs.declared.plan.PlanLine.{PlanLine}
use Rattle.plan_text.specs.Plans.{plan_form}
use Rattle.handover.specs.Images as image
use Rattle.handover_seal.specs.Seals.{unsealed}
use Rattle.input_files.specs.declared.capture_file.Capture.{Capture}
use Rattle.input_files.specs.declared.image_file.ImageFile.{ImageFile}
use Rattle.input_files.specs.declared.errors.InputError.{InputError}
use Rattle.input_files.specs.declared.errors.InputError.TheVariants as error
use Rattle.input_files.specs.Texts.{judged_text}

-- the lines of a box file that are judged have no fault but that a line is missing
abbrev pub MayGoOn : List ℕ → Type 0
MayGoOn text = (number : ℕ) (cause : LineCause) → box.FirstFault text number cause → cause ≡ MissingLine

abbrev pub BoxPasses : List ℕ → Limit → Type 0
BoxPasses bytes limit.File = (MOST_FILE_BYTES < length bytes) × MayGoOn (judged_text bytes)
BoxPasses bytes limit.Packets = ⊥
BoxPasses bytes limit.Events = ⊥
BoxPasses bytes limit.Moves = ⊥
BoxPasses bytes limit.OutputBytes = ⊥

abbrev pub SaysBox : List ℕ → Result BoxConf (InputError LineFault) → Type 0
SaysBox bytes (Ok conf) = (length bytes ≤ MOST_FILE_BYTES) × IsBoxFile bytes conf
SaysBox bytes (Err (error.Fault fault)) =
    box.FirstFault (judged_text bytes) fault.line fault.cause
    × (MOST_FILE_BYTES < length bytes → ¬ (fault.cause ≡ MissingLine))
SaysBox bytes (Err (error.TooLarge passed)) = BoxPasses bytes passed
SaysBox bytes (Err error.ReadFault) = ⊥
SaysBox bytes (Err error.NoMemory) = Unit {0}

-- Files of lines, of any kind

-- the lines that are judged have no fault, and not too many things
abbrev pub SaysNoFault : {A : Type 0} → LineForm A → List ℕ → Type 0
SaysNoFault form text =
    ((number : ℕ) (cause : LineCause) → FirstFault form text number cause → ⊥) × (HasTooMany form MOST_EVENTS text → ⊥)

abbrev pub LinesPass : {A : Type 0} → LineForm A → List ℕ → Limit → Type 0
LinesPass form bytes limit.File = (MOST_FILE_BYTES < length bytes) × SaysNoFault form (judged_text bytes)
LinesPass form bytes limit.Packets = ⊥
LinesPass form bytes limit.Events = HasTooMany form MOST_EVENTS (judged_text bytes)
LinesPass form bytes limit.Moves = ⊥
LinesPass form bytes limit.OutputBytes = ⊥

-- what an answer says of lines by themselves
abbrev pub SaysLines : {A : Type 0} → LineForm A → List ℕ → Result (List A) (InputError LineFault) → Type 0
SaysLines form text (Ok things) = IsFile form text things × (count_of form things ≤ MOST_EVENTS)
SaysLines form text (Err (error.Fault fault)) =
    FirstFault form text fault.line fault.cause × (HasTooMany form MOST_EVENTS text → ⊥)
SaysLines form text (Err (error.TooLarge passed)) = (passed ≡ limit.Events) × HasTooMany form MOST_EVENTS text
SaysLines form text (Err error.ReadFault) = ⊥
SaysLines form text (Err error.NoMemory) = Unit {0}

abbrev pub SaysFile : {A : Type 0} → LineForm A → List ℕ → Result (List A) (InputError LineFault) → Type 0
SaysFile form bytes (Ok things) =
    (length bytes ≤ MOST_FILE_BYTES) × IsFile form bytes things × (count_of form things ≤ MOST_EVENTS)
SaysFile form bytes (Err (error.Fault fault)) =
    FirstFault form (judged_text bytes) fault.line fault.cause × (HasTooMany form MOST_EVENTS (judged_text bytes) → ⊥)
SaysFile form bytes (Err (error.TooLarge passed)) = LinesPass form bytes passed
SaysFile form bytes (Err error.ReadFault) = ⊥
SaysFile form bytes (Err error.NoMemory) = Unit {0}

abbrev pub SaysScript : List ℕ → Result (List Event) (InputError LineFault) → Type 0
SaysScript bytes answer = SaysFile script_form bytes answer

abbrev pub SaysChain : List ℕ → Result (List ChainEvent) (InputError LineFault) → Type 0
SaysChain bytes answer = SaysFile chain_form bytes answer

abbrev pub SaysSchedule : List ℕ → Result (List PlainMove) (InputError LineFault) → Type 0
SaysSchedule bytes answer = SaysFile schedule_form bytes answer

abbrev pub SaysPlan : List ℕ → Result (List PlanLine) (InputError LineFault) → Type 0
SaysPlan bytes answer = SaysFile plan_form bytes answer

-- Texts of a handover: where they are sealed, what stands after the line of the seal

-- the lines that are judged have no fault but that a line is missing, and are not too many
abbrev pub ImageMayGoOn : List ℕ → Type 0
ImageMayGoOn text =
    ((number : ℕ) (cause : LineCause) → image.FirstFault text number cause → cause ≡ MissingLine)
    × (image.HasTooMany text → ⊥)

abbrev pub ImagePasses : List ℕ → Limit → Type 0
ImagePasses bytes limit.File = (MOST_FILE_BYTES < length bytes) × ImageMayGoOn (unsealed (judged_text bytes))
ImagePasses bytes limit.Packets = ⊥
ImagePasses bytes limit.Events = image.HasTooMany (unsealed (judged_text bytes))
ImagePasses bytes limit.Moves = ⊥
ImagePasses bytes limit.OutputBytes = ⊥

abbrev pub SaysImage : List ℕ → Result ImageFile (InputError LineFault) → Type 0
SaysImage bytes (Ok file) =
    (length bytes ≤ MOST_FILE_BYTES)
    × (file.text ≡ bytes) × image.IsImage (unsealed bytes) file.image × (image.HasTooMany (unsealed bytes) → ⊥)
SaysImage bytes (Err (error.Fault fault)) =
    image.FirstFault (unsealed (judged_text bytes)) fault.line fault.cause
    × (image.HasTooMany (unsealed (judged_text bytes)) → ⊥)
    × (MOST_FILE_BYTES < length bytes → ¬ (fault.cause ≡ MissingLine))
SaysImage bytes (Err (error.TooLarge passed)) = ImagePasses bytes passed
SaysImage bytes (Err error.ReadFault) = ⊥
SaysImage bytes (Err error.NoMemory) = Unit {0}

-- Captures

-- no limit of the whole file goes before: the records or blocks are judged one by one
abbrev pub SaysCapture : List ℕ → Result Capture (InputError AnyFault) → Type 0
SaysCapture bytes (Ok capture) =
    SaysAny bytes (captured.Capture capture.unit capture.packets) × All IsOfBytes capture.packets
SaysCapture bytes (Err (error.Fault fault)) = SaysAny bytes (captured.Refused fault)
SaysCapture bytes (Err (error.TooLarge passed)) = SaysAny bytes (captured.TooLarge passed)
SaysCapture bytes (Err error.ReadFault) = ⊥
SaysCapture bytes (Err error.NoMemory) = Unit {0}
