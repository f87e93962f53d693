-- What reading the inputs of `chain` says of them.
--
-- The files are judged in the order first box, second box, capture, script: the first that is not accepted decides the
-- status, by its first fault, the limit that it passes, or, in a healthy world, that it is not there.
use Rattle.std.specs.Prelude.{◌⊎◌, List, Result, Ok, Err}
use Rattle.plain_text.specs.declared.limit.Limit.{Limit}
use Rattle.pcapng_io.specs.declared.fault.AnyFault.TheVariants as any
use Rattle.box_conf.specs.declared.kind.BoxConf.{BoxConf}
use Rattle.chain_world.specs.declared.chain_event.ChainEvent.{ChainEvent}
use Rattle.world_io.specs.World.{Shown}
use Rattle.input_files.specs.declared.capture_file.Capture.{Capture}
use Rattle.input_files.specs.Files.{IsMissing}
use Rattle.input_files.specs.Judging.{AcceptsBox, AcceptsCapture, AcceptsChain, JudgesBox, JudgesCapture, JudgesChain}
use Rattle.input_files.specs.Judging.{BoxTooLarge, CaptureTooLarge, ChainTooLarge, FaultsBox, FaultsCapture}
use Rattle.input_files.specs.Judging.{FaultsChain}
use Rattle.job_commands.specs.declared.chain_inputs.Boxes.{Boxes}
use Rattle.job_commands.specs.declared.chain_inputs.ChainInputs.{ChainInputs}
use Rattle.job_commands.specs.declared.chain_inputs.ChainSource.{ChainSource}
use Rattle.job_commands.specs.declared.status.Status.{Status}
use Rattle.job_commands.specs.declared.status.Status.TheVariants as status
use Rattle.job_commands.specs.declared.status.InputFault.TheVariants as input
use Rattle.job_commands.specs.ChainWords.{ChainNames}
use Rattle.job_commands.specs.Status.{of_box_error, of_capture_error, of_script_error, of_second_box_error}
use Rattle.job_commands.specs.Turns.{BehindBox, InTurn}

-- both box files are accepted
pub record AcceptsBoxes (names : ChainNames) (boxes : Boxes) (shown : Shown) : Type 0 where
  pub first_accepted : AcceptsBox names.first_box boxes.first shown
  pub second_accepted : AcceptsBox names.second_box boxes.second shown

-- and the capture
pub record AcceptsSource (names : ChainNames) (source : ChainSource) (shown : Shown) : Type 0 where
  pub boxes_accepted : AcceptsBoxes names source.boxes shown
  pub capture_accepted : AcceptsCapture names.capture source.capture shown

-- all input files are accepted
pub record AcceptsChainInputs (names : ChainNames) (inputs : ChainInputs) (shown : Shown) : Type 0 where
  pub source_accepted : AcceptsSource names inputs.source shown
  pub script_accepted : AcceptsChain names.script inputs.events shown

-- both box files in their turn, and this behind them
abbrev pub JudgesBoxes : Type 0 → ChainNames → (Boxes → Status → Type 0) → Status → Shown → Type 0
JudgesBoxes healthy names behind status shown =
    InTurn (λ r. JudgesBox healthy names.first_box r shown) of_box_error (λ first.
    InTurn (λ r. JudgesBox healthy names.second_box r shown) of_second_box_error (λ second.
    behind (record { first = first; second = second }))) status

-- then the capture
abbrev pub JudgesSource : Type 0 → ChainNames → (ChainSource → Status → Type 0) → Status → Shown → Type 0
JudgesSource healthy names behind status shown =
    JudgesBoxes healthy names (λ boxes.
    InTurn (λ r. JudgesCapture healthy names.capture r shown) of_capture_error (λ capture.
    behind (record { boxes = boxes; capture = capture }))) status shown

-- and the script
abbrev pub JudgesChainFiles : Type 0 → ChainNames → (ChainInputs → Status → Type 0) → Status → Shown → Type 0
JudgesChainFiles healthy names behind status shown =
    JudgesSource healthy names (λ source.
    InTurn (λ r. JudgesChain healthy names.script r shown) of_script_error (λ events.
    behind (record { source = source; events = events }))) status shown

-- What reading answers: the files are accepted, or the status that ends the command

abbrev pub SaysBoxes : Type 0 → ChainNames → Result Boxes Status → Shown → Type 0
SaysBoxes healthy names (Ok boxes) shown = AcceptsBoxes names boxes shown
SaysBoxes healthy names (Err status) shown = JudgesBoxes healthy names (λ boxes other. ⊥) status shown

abbrev pub SaysSource : Type 0 → ChainNames → Result ChainSource Status → Shown → Type 0
SaysSource healthy names (Ok source) shown = AcceptsSource names source shown
SaysSource healthy names (Err status) shown = JudgesSource healthy names (λ source other. ⊥) status shown

abbrev pub JudgesChainInputs : Type 0 → ChainNames → Result ChainInputs Status → Shown → Type 0
JudgesChainInputs healthy names (Ok inputs) shown = AcceptsChainInputs names inputs shown
JudgesChainInputs healthy names (Err status) shown = JudgesChainFiles healthy names (λ inputs other. ⊥) status shown

-- The first file that is not accepted

-- both box files are accepted, and this stands behind them
abbrev pub BehindBoxes : ChainNames → Shown → Type 0 → Type 0
BehindBoxes names shown P = (boxes : Boxes) × AcceptsBoxes names boxes shown × P

-- and the capture is
abbrev pub BehindSource : ChainNames → Shown → Type 0 → Type 0
BehindSource names shown P = (source : ChainSource) × AcceptsSource names source shown × P

-- it is not there
abbrev pub OneIsMissing : ChainNames → Shown → Type 0
OneIsMissing names shown =
    IsMissing names.first_box shown
    ⊎ (BehindBox names.first_box shown (IsMissing names.second_box shown)
    ⊎ (BehindBoxes names shown (IsMissing names.capture shown)
    ⊎ BehindSource names shown (IsMissing names.script shown)))

-- it passes a limit
abbrev pub OneIsTooLarge : ChainNames → Limit → Shown → Type 0
OneIsTooLarge names limit shown =
    BoxTooLarge names.first_box limit shown
    ⊎ (BehindBox names.first_box shown (BoxTooLarge names.second_box limit shown)
    ⊎ (BehindBoxes names shown (CaptureTooLarge names.capture limit shown)
    ⊎ BehindSource names shown (ChainTooLarge names.script limit shown)))

-- What a status of reading them says. Running out of memory says nothing, nor does a fault of reading in a world that
-- is not healthy.
abbrev pub SaysOfChainFiles : Type 0 → ChainNames → Status → Shown → Type 0
SaysOfChainFiles healthy names status.Done shown = ⊥
SaysOfChainFiles healthy names (status.Refuted refutation) shown = ⊥
SaysOfChainFiles healthy names status.BadWords shown = ⊥
SaysOfChainFiles healthy names status.ReadFault shown = healthy → OneIsMissing names shown
SaysOfChainFiles healthy names status.WriteFault shown = ⊥
SaysOfChainFiles healthy names status.NoMemory shown = Unit {0}
SaysOfChainFiles healthy names (status.BadInput (input.BoxFile fault)) shown = FaultsBox names.first_box fault shown
SaysOfChainFiles healthy names (status.BadInput (input.SecondBox fault)) shown =
    BehindBox names.first_box shown (FaultsBox names.second_box fault shown)
SaysOfChainFiles healthy names (status.BadInput (input.Capture fault)) shown =
    BehindBoxes names shown (FaultsCapture names.capture (any.Capture fault) shown)
SaysOfChainFiles healthy names (status.BadInput (input.NgCapture fault)) shown =
    BehindBoxes names shown (FaultsCapture names.capture (any.Ng fault) shown)
SaysOfChainFiles healthy names (status.BadInput (input.Script fault)) shown =
    BehindSource names shown (FaultsChain names.script fault shown)
SaysOfChainFiles healthy names (status.BadInput (input.Plan fault)) shown = ⊥
SaysOfChainFiles healthy names (status.BadInput (input.Schedule fault)) shown = ⊥
SaysOfChainFiles healthy names (status.BadInput (input.Moves fault)) shown = ⊥
SaysOfChainFiles healthy names (status.BadInput (input.Released fault)) shown = ⊥
SaysOfChainFiles healthy names (status.BadInput (input.NgReleased fault)) shown = ⊥
SaysOfChainFiles healthy names (status.BadInput (input.Handover fault)) shown = ⊥
SaysOfChainFiles healthy names (status.TooLarge limit) shown = OneIsTooLarge names limit shown
SaysOfChainFiles healthy names (status.Unready unready) shown = ⊥
