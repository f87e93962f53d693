-- Files that are judged one after another: the first that is not accepted decides the status.
use Rattle.std.specs.Prelude.{◌≡◌, ◌⊎◌, ℕ, List, Result, Ok, Err}
use Rattle.plain_text.specs.declared.limit.Limit.{Limit}
use Rattle.box_conf.specs.declared.kind.BoxConf.{BoxConf}
use Rattle.world_io.specs.World.{Shown}
use Rattle.input_files.specs.declared.capture_file.Capture.{Capture}
use Rattle.input_files.specs.declared.errors.InputError.{InputError}
use Rattle.input_files.specs.Files.{IsMissing}
use Rattle.input_files.specs.Judging.{JudgesBox, JudgesCapture, AcceptsBox, AcceptsCapture, BoxTooLarge}
use Rattle.input_files.specs.Judging.{CaptureTooLarge}
use Rattle.job_commands.specs.declared.first_inputs.FirstInputs.{FirstInputs}
use Rattle.job_commands.specs.declared.status.Status.{Status}
use Rattle.job_commands.specs.Status.{of_box_error, of_capture_error}

-- A file in its turn: its answer decides the status where it is not accepted, and what stands behind it where it is.
abbrev pub InTurn : {A F : Type 0} → (Result A (InputError F) → Type 0) → (InputError F → Status)
    → (A → Status → Type 0) → Status → Type 0
InTurn {A} {F} judged status_of behind status =
    ((refused : InputError F) × judged (Err refused) × (status ≡ status_of refused))
    ⊎ ((value : A) × judged (Ok value) × behind value status)

-- what is judged of a third file, by its answer, and which status its error gives
pub record Third (A F : Type 0) : Type 1 where
  pub judged : Result A (InputError F) → Type 0
  pub status_of : InputError F → Status

-- box and capture, in their turn, and this behind them
abbrev pub JudgesTwo : Type 0 → List ℕ → List ℕ → (BoxConf → Capture → Status → Type 0) → Status → Shown → Type 0
JudgesTwo healthy box_file capture_file behind status shown =
    InTurn (λ r. JudgesBox healthy box_file r shown) of_box_error (λ conf.
    InTurn (λ r. JudgesCapture healthy capture_file r shown) of_capture_error (behind conf)) status

-- and a third file in its turn
abbrev pub JudgesFiles : {A F : Type 0} → Type 0 → List ℕ → List ℕ → Third A F
    → (BoxConf → Capture → A → Status → Type 0) → Status → Shown → Type 0
JudgesFiles healthy box_file capture_file third behind status shown =
    JudgesTwo healthy box_file capture_file
    (λ conf capture. InTurn third.judged third.status_of (behind conf capture)) status shown

-- what reading box and capture answers: they are accepted, or the status that ends the command
abbrev pub JudgesFirst : Type 0 → List ℕ → List ℕ → Result FirstInputs Status → Shown → Type 0
JudgesFirst healthy box_file capture_file (Ok first) shown =
    AcceptsBox box_file first.conf shown × AcceptsCapture capture_file first.capture shown
JudgesFirst healthy box_file capture_file (Err status) shown =
    JudgesTwo healthy box_file capture_file (λ conf capture other. ⊥) status shown

-- The first file that is not accepted, of a box file, a capture and a third one

-- the box file is accepted, and this stands behind it
abbrev pub BehindBox : List ℕ → Shown → Type 0 → Type 0
BehindBox box_file shown P = (conf : BoxConf) × AcceptsBox box_file conf shown × P

-- the box file and the capture are accepted, and this stands behind them
abbrev pub BehindCapture : List ℕ → List ℕ → Shown → Type 0 → Type 0
BehindCapture box_file capture_file shown P =
    BehindBox box_file shown ((capture : Capture) × AcceptsCapture capture_file capture shown × P)

-- it is not there
abbrev pub FirstIsMissing : List ℕ → List ℕ → List ℕ → Shown → Type 0
FirstIsMissing box_file capture_file third shown =
    IsMissing box_file shown ⊎ (BehindBox box_file shown (IsMissing capture_file shown)
    ⊎ BehindCapture box_file capture_file shown (IsMissing third shown))

-- it passes a limit, where this says it of the third
abbrev pub FirstIsTooLarge : List ℕ → List ℕ → Type 0 → Limit → Shown → Type 0
FirstIsTooLarge box_file capture_file third_passes limit shown =
    BoxTooLarge box_file limit shown ⊎ (BehindBox box_file shown (CaptureTooLarge capture_file limit shown)
    ⊎ BehindCapture box_file capture_file shown third_passes)
