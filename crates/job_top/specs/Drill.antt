-- What the command `drill` does: a drill of the box on the packets of the capture that the inputs ask for.
--
-- The files are judged in the order box, capture: the first that is not accepted decides the status, by its first
-- fault, the limit that it passes, or, in a healthy world, that it is not there.
use Rattle.std.specs.Prelude.{◌⊎◌, ℕ, Bool, true, false, List, length}
use Rattle.plain_text.specs.declared.limit.Limit.{Limit}
use Rattle.plain_text.specs.declared.packet.Packet.{Packet}
use Rattle.plain_machine.specs.declared.plain_move.PlainMove.{PlainMove}
use Rattle.box_conf.specs.declared.kind.BoxKind.{BoxKind}
use Rattle.box_conf.specs.declared.kind.BoxKind.TheVariants.{Count, Monitor, Nat, Balancer}
use Rattle.box_conf.specs.Kinds.{meaning_of}
use Rattle.world_io.specs.World.{Shown}
use Rattle.recovery_world.specs.World.{Setting}
use Rattle.run_writes.specs.Run.{KeepsOthers, OutputNames, KeepsShown}
use Rattle.drill_report.specs.Events.{drill_events}
use Rattle.noted_runs.specs.declared.drill.DrillRun.{DrillRun}
use Rattle.noted_runs.specs.Drill.{Drills, StopsAt, HasDrilled, HasStopped, HasBegunDrill, setting_of}
use Rattle.input_files.specs.Judging.{AcceptsBox, AcceptsCapture}
use Rattle.job_commands.specs.declared.first_inputs.FirstInputs.{FirstInputs}
use Rattle.job_commands.specs.declared.status.Status.{Status}
use Rattle.job_commands.specs.declared.status.Status.TheVariants as status
use Rattle.job_commands.specs.Meanings.{CommandMeaning, NeverUnready, StopsBy}
use Rattle.job_commands.specs.Status.{Completes}
use Rattle.job_commands.specs.Turns.{JudgesTwo}
use Rattle.job_commands.specs.Words.{DrillNames, drill_inputs}
use Rattle.job_top.specs.Headline.{KeepsPromise}

-- both input files are accepted
pub record AcceptsDrillInputs (names : DrillNames) (inputs : FirstInputs) (shown : Shown) : Type 0 where
  pub box_accepted : AcceptsBox names.box_file inputs.conf shown
  pub capture_accepted : AcceptsCapture names.capture inputs.capture shown

-- variable 0 of the box is a table of its drops
abbrev pub has_drop_table : BoxKind → Bool
has_drop_table (Count box) = false
has_drop_table (Monitor box) = false
has_drop_table (Nat box) = true
has_drop_table (Balancer box) = true

-- the drill that inputs ask for
abbrev pub drill_of : DrillNames → FirstInputs → DrillRun
drill_of names inputs = record {
  threads = inputs.conf.threads;
  tags = inputs.conf.tags;
  seed = inputs.conf.seed;
  unit = inputs.capture.unit;
  packets = inputs.capture.packets;
  every = names.every;
  table = has_drop_table inputs.conf.kind;
}

-- its setting, which has the meaning of the box
abbrev pub drill_setting : DrillNames → (inputs : FirstInputs) → Setting (meaning_of inputs.conf.kind).value
drill_setting names inputs = setting_of (meaning_of inputs.conf.kind).meaning (drill_of names inputs)

abbrev pub drill_outputs : DrillNames → OutputNames
drill_outputs names = record { released = names.released; schedule = names.schedule }

-- What a drill comes to

-- it comes to its end within the limits, and leaves files
abbrev pub EndsDrill : DrillNames → FirstInputs → Type 0
EndsDrill names inputs =
    (report : List ℕ) × (released : List Packet) × (schedule : List PlainMove)
    × Drills (drill_setting names inputs) names.every (has_drop_table inputs.conf.kind) report released schedule

-- an event of it, or of the run beside it, stops at this limit
abbrev pub StopsDrill : DrillNames → FirstInputs → Limit → Type 0
StopsDrill names inputs limit =
    (released : List Packet) × StopsAt (drill_setting names inputs) names.every limit released

-- what a status says of the drill, once both inputs are accepted
abbrev pub SaysOfDrill : Type 0 → DrillNames → FirstInputs → Status → Type 0
SaysOfDrill healthy names inputs status.Done = EndsDrill names inputs
SaysOfDrill healthy names inputs (status.Refuted refutation) = ⊥
SaysOfDrill healthy names inputs status.BadWords = ⊥
SaysOfDrill healthy names inputs status.ReadFault = ⊥
SaysOfDrill healthy names inputs status.WriteFault = healthy → ⊥
SaysOfDrill healthy names inputs status.NoMemory = Unit {0}
SaysOfDrill healthy names inputs (status.BadInput fault) = ⊥
SaysOfDrill healthy names inputs (status.TooLarge limit) = StopsDrill names inputs limit
SaysOfDrill healthy names inputs (status.Unready unready) = ⊥

-- What a status of `drill` says: of the first file that is not accepted, or of the drill.
abbrev pub JudgesDrill : Type 0 → DrillNames → Status → Shown → Type 0
JudgesDrill healthy names status shown =
    JudgesTwo healthy names.box_file names.capture
    (λ conf capture. SaysOfDrill healthy names (record { conf = conf; capture = capture })) status shown

-- The inputs are accepted, and the drill passes no limit.
abbrev pub AreAcceptedForDrill : DrillNames → Shown → Type 0
AreAcceptedForDrill names shown =
    (inputs : FirstInputs) × AcceptsDrillInputs names inputs shown
    × ((limit : Limit) → StopsDrill names inputs limit → ⊥)

-- What the command leaves

-- the outputs are the files that the drill leaves
abbrev pub DrillsWhole : DrillNames → Shown → Shown → Type 0
DrillsWhole names old new =
    (inputs : FirstInputs) × AcceptsDrillInputs names inputs old × HasDrilled (drill_setting names inputs) names.every
    (has_drop_table inputs.conf.kind) (drill_outputs names) old new

-- the drill stopped at this limit
abbrev pub DrillsToLimit : DrillNames → Limit → Shown → Shown → Type 0
DrillsToLimit names limit old new =
    (inputs : FirstInputs)
    × AcceptsDrillInputs names inputs old
    × HasStopped (drill_setting names inputs) names.every (drill_outputs names) limit old new

-- nothing was written, or some first part of what the drill writes, in its order, and nothing else
abbrev pub DrillsInOrder : DrillNames → Shown → Shown → Type 0
DrillsInOrder names old new =
    KeepsShown old new
    ⊎ ((inputs : FirstInputs)
    × AcceptsDrillInputs names inputs old
    × HasBegunDrill (drill_setting names inputs) names.every (has_drop_table inputs.conf.kind) (drill_outputs names)
    old new)

-- The promise of `drill`, for its events: snapshots, crashes and recoveries, and then all is settled.
pub record KeepsDrillPromise (names : DrillNames) (old new : Shown) : Type 0 where
  pub inputs : FirstInputs
  pub accepted : AcceptsDrillInputs names inputs old
  pub keeps :
      KeepsPromise (drill_setting names inputs) (drill_outputs names)
      (drill_events names.every (length inputs.capture.packets)) new

abbrev pub drill_meaning : DrillNames → CommandMeaning
drill_meaning names = record {
  inputs = drill_inputs names;
  files = 4;
  Leaves = DrillsWhole names;
  Promises = KeepsDrillPromise names;
  StopsAt = λ limit old new. StopsBy limit old new (DrillsToLimit names limit old new);
  LeavesUnready = NeverUnready;
  LeavesInOrder = DrillsInOrder names;
  KeepsNames = KeepsOthers (drill_outputs names);
  Judges = λ healthy. JudgesDrill healthy names;
  Accepts = AreAcceptedForDrill names;
  CompletesAs = Completes;
}
