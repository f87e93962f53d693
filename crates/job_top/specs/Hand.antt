-- What the command `hand` does: a run of the script that the inputs ask for, behind which the system is handed over,
-- where it is ready.
use Rattle.std.specs.Prelude.{◌≡◌, ◌⊎◌, ℕ, List, ◌++◌, Result, Ok, Err}
use Rattle.plain_text.specs.declared.limit.Limit.{Limit}
use Rattle.box_conf.specs.Kinds.{meaning_of}
use Rattle.world_io.specs.World.{Shown}
use Rattle.recovery_world.specs.World.{World as SystemWorld, opening}
use Rattle.recovery_world.specs.Files.{Performs}
use Rattle.handover_world.specs.declared.unready.Unready.{Unready}
use Rattle.handover_world.specs.Ready.{IsReadiness}
use Rattle.run_writes.specs.Run.{HasStopped, KeepsOthers, KeepsShown, OutputNames}
use Rattle.hand_command.specs.declared.error.HandError.{HandError}
use Rattle.hand_command.specs.declared.error.HandError.TheVariants as of_hand
use Rattle.hand_command.specs.Hand.{HandsOver, HasBegunHand, HasHanded, IsNotReady, IsTooLong, PassesText, resting}
use Rattle.input_files.specs.Judging.{ScriptTooLarge}
use Rattle.job_commands.specs.declared.inputs.Inputs.{Inputs}
use Rattle.job_commands.specs.declared.status.Status.{Status}
use Rattle.job_commands.specs.declared.status.Status.TheVariants as status
use Rattle.job_commands.specs.Judging.{Judges}
use Rattle.job_commands.specs.Meanings.{CommandMeaning}
use Rattle.job_commands.specs.Run.{AcceptsInputs, StopsRun, outputs_of, setting_for}
use Rattle.job_commands.specs.Status.{Completes}
use Rattle.job_commands.specs.Turns.{FirstIsTooLarge}
use Rattle.job_commands.specs.HandWords.{HandNames}
use Rattle.job_commands.specs.Words.{hand_inputs, run_of_hand}
use Rattle.job_top.specs.Headline.{KeepsHanded}

-- all input files are accepted
abbrev pub AcceptsHandInputs : HandNames → Inputs → Shown → Type 0
AcceptsHandInputs names inputs shown = AcceptsInputs (run_of_hand names) inputs shown

-- the text of the handover stands where a run has its schedule
abbrev pub hand_outputs : HandNames → OutputNames
hand_outputs names = outputs_of (run_of_hand names)

-- What a hand-over comes to

abbrev pub hand_outcome : {A : Type 0} → Result A HandError → Status
hand_outcome (Ok done) = status.Done
hand_outcome (Err (of_hand.Limit limit)) = status.TooLarge limit
hand_outcome (Err of_hand.WriteFault) = status.WriteFault
hand_outcome (Err of_hand.NoMemory) = status.NoMemory
hand_outcome (Err (of_hand.Unready unready)) = status.Unready unready

-- the same inputs, with the four events behind them that bring a system to rest
abbrev pub with_rest : Inputs → Inputs
with_rest inputs = record { conf = inputs.conf; capture = inputs.capture; events = inputs.events ++ resting }

-- the events lead to a world that is ready, and the system is handed over
abbrev pub EndsHand : Inputs → Type 0
EndsHand inputs = HandsOver (setting_for inputs) inputs.events

-- they lead to a world that is not ready, for this cause
abbrev pub EndsUnready : Inputs → Unready → Type 0
EndsUnready inputs unready =
    (lines : List ℕ) × (world : SystemWorld (meaning_of inputs.conf.kind).value)
    × Performs (setting_for inputs) (opening (meaning_of inputs.conf.kind).value) inputs.events lines world
    × IsReadiness world (Err unready)

-- one of them, or of the four behind them, stops at this limit; or the text of the state would pass it
abbrev pub StopsHand : Inputs → Limit → Type 0
StopsHand inputs limit =
    StopsRun (with_rest inputs) limit ⊎ PassesText inputs.conf.seal (setting_for inputs) inputs.events limit

-- What a status says: of the input files as of those of `run`, or of the hand-over.
abbrev pub JudgesHand : Type 0 → HandNames → Status → Shown → Type 0
JudgesHand healthy names status.Done shown = (inputs : Inputs) × AcceptsHandInputs names inputs shown × EndsHand inputs
JudgesHand healthy names (status.Refuted refutation) shown = ⊥
JudgesHand healthy names (status.Unready unready) shown =
    (inputs : Inputs) × AcceptsHandInputs names inputs shown × EndsUnready inputs unready
JudgesHand healthy names status.BadWords shown = ⊥
JudgesHand healthy names status.ReadFault shown = Judges healthy (run_of_hand names) status.ReadFault shown
JudgesHand healthy names status.WriteFault shown = Judges healthy (run_of_hand names) status.WriteFault shown
JudgesHand healthy names status.NoMemory shown = Unit {0}
JudgesHand healthy names (status.BadInput fault) shown =
    Judges healthy (run_of_hand names) (status.BadInput fault) shown
JudgesHand healthy names (status.TooLarge limit) shown =
    FirstIsTooLarge names.box_file names.capture (ScriptTooLarge names.script limit shown) limit shown
    ⊎ ((inputs : Inputs) × AcceptsHandInputs names inputs shown × StopsHand inputs limit)

-- The inputs are accepted, and the hand-over passes no limit.
abbrev pub AreAcceptedForHand : HandNames → Shown → Type 0
AreAcceptedForHand names shown =
    (inputs : Inputs) × AcceptsHandInputs names inputs shown × ((limit : Limit) → StopsHand inputs limit → ⊥)

-- What the command leaves

-- the system was handed over
abbrev pub HandsWhole : HandNames → Shown → Shown → Type 0
HandsWhole names old new =
    (inputs : Inputs)
    × AcceptsHandInputs names inputs old
    × HasHanded inputs.conf.seal (setting_for inputs) (hand_outputs names) inputs.events old new

-- the events were performed, and the system is not ready for this cause: there is no text of a handover
abbrev pub HandsUnready : HandNames → Unready → Shown → Shown → Type 0
HandsUnready names unready old new =
    (inputs : Inputs)
    × AcceptsHandInputs names inputs old
    × IsNotReady (setting_for inputs) (hand_outputs names) inputs.events unready old new

-- An event stopped at this limit; or the system came to rest, and the text of its state would pass it: there is no
-- text of a handover.
abbrev pub PassesLimit : Inputs → OutputNames → Limit → Shown → Shown → Type 0
PassesLimit inputs names limit old new =
    HasStopped (setting_for inputs) names (inputs.events ++ resting) limit old new
    ⊎ IsTooLong inputs.conf.seal (setting_for inputs) names inputs.events limit old new

-- nothing was written, and the first input that is not accepted passes the limit; or the hand-over passed it
abbrev pub HandsToLimit : HandNames → Limit → Shown → Shown → Type 0
HandsToLimit names limit old new =
    (KeepsShown old new
    × FirstIsTooLarge names.box_file names.capture (ScriptTooLarge names.script limit old) limit old)
    ⊎ ((inputs : Inputs)
    × AcceptsHandInputs names inputs old
    × PassesLimit inputs (hand_outputs names) limit old new)

-- nothing was written, or some first part of what the hand-over writes, in its order, and nothing else
abbrev pub HandsInOrder : HandNames → Shown → Shown → Type 0
HandsInOrder names old new =
    KeepsShown old new
    ⊎ ((inputs : Inputs)
    × AcceptsHandInputs names inputs old
    × HasBegunHand inputs.conf.seal (setting_for inputs) (hand_outputs names) inputs.events old new)

-- names that are no output of the command are as they were
abbrev pub KeepsHandNames : HandNames → Shown → Shown → Type 0
KeepsHandNames names old new = KeepsOthers (hand_outputs names) old new

-- the promise of `hand`, for the events of its script
pub record KeepsHandPromise (names : HandNames) (old new : Shown) : Type 0 where
  pub inputs : Inputs
  pub accepted : AcceptsHandInputs names inputs old
  pub keeps : KeepsHanded inputs.conf.seal (setting_for inputs) (hand_outputs names) inputs.events new

-- Where its inputs are accepted, `hand` is done, or says why its system can't be handed over yet.
abbrev pub hand_meaning : HandNames → CommandMeaning
hand_meaning names = record {
  inputs = hand_inputs names;
  files = 5;
  Leaves = HandsWhole names;
  Promises = KeepsHandPromise names;
  StopsAt = HandsToLimit names;
  LeavesUnready = HandsUnready names;
  LeavesInOrder = HandsInOrder names;
  KeepsNames = KeepsHandNames names;
  Judges = λ healthy. JudgesHand healthy names;
  Accepts = AreAcceptedForHand names;
  CompletesAs = λ answer. Completes answer ⊎ ((unready : Unready) × (answer ≡ status.Unready unready));
}
