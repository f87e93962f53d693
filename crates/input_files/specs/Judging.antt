-- What each answer says of the file of a name. In a healthy world reading fails only where the name is not there.
use Rattle.std.specs.Prelude.{◌≡◌, ℕ, List, Some, Result, Ok, Err}
use Rattle.plain_text.specs.declared.fault.LineFault.{LineFault}
use Rattle.plain_text.specs.declared.limit.Limit.{Limit}
use Rattle.pcapng_io.specs.declared.fault.AnyFault.{AnyFault}
use Rattle.box_conf.specs.declared.kind.BoxConf.{BoxConf}
use Rattle.recovery_world.specs.declared.event.Event.{Event}
use Rattle.chain_world.specs.declared.chain_event.ChainEvent.{ChainEvent}
use Rattle.plain_machine.specs.declared.plain_move.PlainMove.{PlainMove}
use Rattle.plan_script.specs.declared.plan.PlanLine.{PlanLine}
use Rattle.world_io.specs.World.{Shown}
use Rattle.input_files.specs.declared.capture_file.Capture.{Capture}
use Rattle.input_files.specs.declared.image_file.ImageFile.{ImageFile}
use Rattle.input_files.specs.declared.errors.InputError.{InputError}
use Rattle.input_files.specs.declared.errors.InputError.TheVariants as error
use Rattle.input_files.specs.Answers.{SaysBox, SaysScript, SaysChain, SaysSchedule, SaysPlan, SaysImage}
use Rattle.input_files.specs.Answers.{SaysCapture}
use Rattle.input_files.specs.Files.{IsMissing}

-- the name is there, and this is said of its bytes
abbrev pub IsToldOf : List ℕ → (List ℕ → Type 0) → Shown → Type 0
IsToldOf name said shown = (bytes : List ℕ) × (shown.names name ≡ Some bytes) × said bytes

abbrev pub AcceptsBox : List ℕ → BoxConf → Shown → Type 0
AcceptsBox name conf shown = IsToldOf name (λ bytes. SaysBox bytes (Ok conf)) shown

abbrev pub FaultsBox : List ℕ → LineFault → Shown → Type 0
FaultsBox name fault shown = IsToldOf name (λ bytes. SaysBox bytes (Err (error.Fault fault))) shown

abbrev pub BoxTooLarge : List ℕ → Limit → Shown → Type 0
BoxTooLarge name limit shown = IsToldOf name (λ bytes. SaysBox bytes (Err (error.TooLarge limit))) shown

abbrev pub AcceptsScript : List ℕ → List Event → Shown → Type 0
AcceptsScript name events shown = IsToldOf name (λ bytes. SaysScript bytes (Ok events)) shown

abbrev pub FaultsScript : List ℕ → LineFault → Shown → Type 0
FaultsScript name fault shown = IsToldOf name (λ bytes. SaysScript bytes (Err (error.Fault fault))) shown

abbrev pub ScriptTooLarge : List ℕ → Limit → Shown → Type 0
ScriptTooLarge name limit shown = IsToldOf name (λ bytes. SaysScript bytes (Err (error.TooLarge limit))) shown

abbrev pub AcceptsChain : List ℕ → List ChainEvent → Shown → Type 0
AcceptsChain name events shown = IsToldOf name (λ bytes. SaysChain bytes (Ok events)) shown

abbrev pub FaultsChain : List ℕ → LineFault → Shown → Type 0
FaultsChain name fault shown = IsToldOf name (λ bytes. SaysChain bytes (Err (error.Fault fault))) shown

abbrev pub ChainTooLarge : List ℕ → Limit → Shown → Type 0
ChainTooLarge name limit shown = IsToldOf name (λ bytes. SaysChain bytes (Err (error.TooLarge limit))) shown

abbrev pub AcceptsPlan : List ℕ → List PlanLine → Shown → Type 0
AcceptsPlan name lines shown = IsToldOf name (λ bytes. SaysPlan bytes (Ok lines)) shown

abbrev pub FaultsPlan : List ℕ → LineFault → Shown → Type 0
FaultsPlan name fault shown = IsToldOf name (λ bytes. SaysPlan bytes (Err (error.Fault fault))) shown

abbrev pub PlanTooLarge : List ℕ → Limit → Shown → Type 0
PlanTooLarge name limit shown = IsToldOf name (λ bytes. SaysPlan bytes (Err (error.TooLarge limit))) shown

abbrev pub AcceptsSchedule : List ℕ → List PlainMove → Shown → Type 0
AcceptsSchedule name moves shown = IsToldOf name (λ bytes. SaysSchedule bytes (Ok moves)) shown

abbrev pub AcceptsImage : List ℕ → ImageFile → Shown → Type 0
AcceptsImage name file shown = IsToldOf name (λ bytes. SaysImage bytes (Ok file)) shown

abbrev pub FaultsImage : List ℕ → LineFault → Shown → Type 0
FaultsImage name fault shown = IsToldOf name (λ bytes. SaysImage bytes (Err (error.Fault fault))) shown

abbrev pub ImageTooLarge : List ℕ → Limit → Shown → Type 0
ImageTooLarge name limit shown = IsToldOf name (λ bytes. SaysImage bytes (Err (error.TooLarge limit))) shown

abbrev pub AcceptsCapture : List ℕ → Capture → Shown → Type 0
AcceptsCapture name capture shown = IsToldOf name (λ bytes. SaysCapture bytes (Ok capture)) shown

abbrev pub FaultsCapture : List ℕ → AnyFault → Shown → Type 0
FaultsCapture name fault shown = IsToldOf name (λ bytes. SaysCapture bytes (Err (error.Fault fault))) shown

abbrev pub CaptureTooLarge : List ℕ → Limit → Shown → Type 0
CaptureTooLarge name limit shown = IsToldOf name (λ bytes. SaysCapture bytes (Err (error.TooLarge limit))) shown

-- what reading a file answers, where this is what an answer says of bytes
abbrev pub Judges : {A F : Type 0} → (List ℕ → Result A (InputError F) → Type 0) → Type 0 → List ℕ
    → Result A (InputError F) → Shown → Type 0
Judges says healthy name (Ok value) shown = IsToldOf name (λ bytes. says bytes (Ok value)) shown
Judges says healthy name (Err (error.Fault fault)) shown =
    IsToldOf name (λ bytes. says bytes (Err (error.Fault fault))) shown
Judges says healthy name (Err (error.TooLarge limit)) shown =
    IsToldOf name (λ bytes. says bytes (Err (error.TooLarge limit))) shown
Judges says healthy name (Err error.ReadFault) shown = healthy → IsMissing name shown
Judges says healthy name (Err error.NoMemory) shown = Unit {0}

abbrev pub JudgesBox : Type 0 → List ℕ → Result BoxConf (InputError LineFault) → Shown → Type 0
JudgesBox healthy name answer shown = Judges SaysBox healthy name answer shown

abbrev pub JudgesScript : Type 0 → List ℕ → Result (List Event) (InputError LineFault) → Shown → Type 0
JudgesScript healthy name answer shown = Judges SaysScript healthy name answer shown

abbrev pub JudgesChain : Type 0 → List ℕ → Result (List ChainEvent) (InputError LineFault) → Shown → Type 0
JudgesChain healthy name answer shown = Judges SaysChain healthy name answer shown

abbrev pub JudgesSchedule : Type 0 → List ℕ → Result (List PlainMove) (InputError LineFault) → Shown → Type 0
JudgesSchedule healthy name answer shown = Judges SaysSchedule healthy name answer shown

abbrev pub JudgesPlan : Type 0 → List ℕ → Result (List PlanLine) (InputError LineFault) → Shown → Type 0
JudgesPlan healthy name answer shown = Judges SaysPlan healthy name answer shown

abbrev pub JudgesImage : Type 0 → List ℕ → Result ImageFile (InputError LineFault) → Shown → Type 0
JudgesImage healthy name answer shown = Judges SaysImage healthy name answer shown

abbrev pub JudgesCapture : Type 0 → List ℕ → Result Capture (InputError AnyFault) → Shown → Type 0
JudgesCapture healthy name answer shown = Judges SaysCapture healthy name answer shown

-- The answers that the file decides. A fault of reading is decided by it in a healthy world alone.
abbrev pub IsDecided : {A F : Type 0} → Type 0 → Result A (InputError F) → Type 0
IsDecided healthy (Ok value) = Unit {0}
IsDecided healthy (Err (error.Fault fault)) = Unit {0}
IsDecided healthy (Err (error.TooLarge limit)) = Unit {0}
IsDecided healthy (Err error.ReadFault) = healthy
IsDecided healthy (Err error.NoMemory) = ⊥
