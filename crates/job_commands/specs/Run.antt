-- What the command `run` does: a run of the script that the inputs ask for.
use Rattle.std.specs.Prelude.{◌⊎◌, ℕ, false, List}
use Rattle.plain_text.specs.declared.limit.Limit.{Limit}
use Rattle.plain_text.specs.declared.packet.Packet.{Packet}
use Rattle.plain_machine.specs.declared.plain_move.PlainMove.{PlainMove}
use Rattle.box_conf.specs.Kinds.{meaning_of}
use Rattle.world_io.specs.World.{Shown}
use Rattle.recovery_world.specs.World.{Setting}
use Rattle.recovery_world.specs.Files.{Leaves, LeavesAt}
use Rattle.run_writes.specs.declared.opening.ScriptRun.{ScriptRun}
use Rattle.run_writes.specs.Run.{OutputNames, setting_of, KeepsShown, HasRun, HasStopped, HasBegunRun}
use Rattle.input_files.specs.Judging.{AcceptsBox, AcceptsCapture, AcceptsScript}
use Rattle.job_commands.specs.declared.inputs.Inputs.{Inputs}
use Rattle.job_commands.specs.Words.{RunNames}

-- all input files are accepted
pub record AcceptsInputs (names : RunNames) (inputs : Inputs) (shown : Shown) : Type 0 where
  pub box_accepted : AcceptsBox names.box_file inputs.conf shown
  pub capture_accepted : AcceptsCapture names.capture inputs.capture shown
  pub script_accepted : AcceptsScript names.script inputs.events shown

-- the run that inputs ask for
abbrev pub script_of : Inputs → ScriptRun
script_of inputs = record {
  threads = inputs.conf.threads;
  tags = inputs.conf.tags;
  seed = inputs.conf.seed;
  unit = inputs.capture.unit;
  packets = inputs.capture.packets;
  events = inputs.events;
}

-- its setting, which has the meaning of the box
abbrev pub setting_for : (inputs : Inputs) → Setting (meaning_of inputs.conf.kind).value
setting_for inputs = setting_of (meaning_of inputs.conf.kind).meaning (script_of inputs)

abbrev pub outputs_of : RunNames → OutputNames
outputs_of names = record { released = names.released; schedule = names.schedule }

-- What a run comes to

-- its events come to their end within the limits, and leave files
abbrev pub EndsRun : Inputs → Type 0
EndsRun inputs =
    (report : List ℕ) × (released : List Packet) × (schedule : List PlainMove)
    × Leaves (setting_for inputs) inputs.events report released schedule

-- one of them stops at this limit
abbrev pub StopsRun : Inputs → Limit → Type 0
StopsRun inputs limit =
    (report : List ℕ) × (released : List Packet) × LeavesAt (setting_for inputs) inputs.events limit report released

-- What the command leaves

-- the outputs are the files that the run leaves
abbrev pub RunsWhole : RunNames → Shown → Shown → Type 0
RunsWhole names old new =
    (inputs : Inputs)
    × AcceptsInputs names inputs old
    × HasRun (setting_for inputs) (outputs_of names) inputs.events old new

-- the run stopped at this limit
abbrev pub RunsToLimit : RunNames → Limit → Shown → Shown → Type 0
RunsToLimit names limit old new =
    (inputs : Inputs)
    × AcceptsInputs names inputs old
    × HasStopped (setting_for inputs) (outputs_of names) inputs.events limit old new

-- nothing was written, or some first part of what the run writes, in its order, and nothing else
abbrev pub RunsInOrder : RunNames → Shown → Shown → Type 0
RunsInOrder names old new =
    KeepsShown old new
    ⊎ ((inputs : Inputs)
    × AcceptsInputs names inputs old
    × HasBegunRun (setting_for inputs) (outputs_of names) inputs.events old new)
