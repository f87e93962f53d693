-- What the command `live` does: a run by the plan that the inputs ask for.
use Rattle.std.specs.Prelude.{◌≡◌, ◌⊎◌, ℕ, List, [], ◌∷◌, ◌++◌, Some, length}
use Rattle.plain_text.specs.declared.limit.Limit.{Limit}
use Rattle.plain_text.specs.declared.packet.Packet.{Packet}
use Rattle.plain_machine.specs.declared.plain_move.PlainMove.{PlainMove}
use Rattle.box_conf.specs.Kinds.{meaning_of}
use Rattle.world_io.specs.World.{Shown}
use Rattle.recovery_world.specs.declared.event.Event.{Event}
use Rattle.recovery_world.specs.World.{Setting, World as SystemWorld, opening}
use Rattle.recovery_world.specs.Files.{Leaves, LeavesAt}
use Rattle.run_writes.specs.Run.{KeepsShown}
use Rattle.script_text.specs.Scripts.{script_text}
use Rattle.plan_script.specs.Orders.{no_orders}
use Rattle.plan_script.specs.Begun.{BeginsScript}
use Rattle.plan_script.specs.Scripts.{IsScript}
use Rattle.live_writes.specs.declared.opening.PlanRun.{PlanRun}
use Rattle.live_writes.specs.Outputs.{LiveOutputs, setting_of}
use Rattle.live_writes.specs.Script.{PassesScript}
use Rattle.live_command.specs.Plans.{LivesWhole, LivesToLimit, LivesInOrder}
use Rattle.job_commands.specs.declared.live_inputs.LiveInputs.{LiveInputs}
use Rattle.job_commands.specs.declared.status.Status.{Status}
use Rattle.job_commands.specs.declared.status.Status.TheVariants as status
use Rattle.input_files.specs.Judging.{PlanTooLarge}
use Rattle.job_commands.specs.Live.{AcceptsLiveInputs, JudgesLiveFiles}
use Rattle.job_commands.specs.Turns.{FirstIsTooLarge}
use Rattle.job_commands.specs.Status.{Completes}
use Rattle.job_commands.specs.Words.{LiveNames, live_inputs}
use Rattle.job_commands.specs.Meanings.{CommandMeaning, NeverUnready}
use Rattle.job_top.specs.Headline.{KeepsPromise}

-- the run that inputs ask for
abbrev pub plan_of : LiveInputs → PlanRun
plan_of inputs = record {
  threads = inputs.conf.threads;
  tags = inputs.conf.tags;
  seed = inputs.conf.seed;
  unit = inputs.capture.unit;
  packets = inputs.capture.packets;
  plan = inputs.plan;
}

-- its setting, which has the meaning of the box
abbrev pub live_setting : (inputs : LiveInputs) → Setting (meaning_of inputs.conf.kind).value
live_setting inputs = setting_of (meaning_of inputs.conf.kind).meaning (plan_of inputs)

abbrev pub live_outputs : LiveNames → LiveOutputs
live_outputs names = record {
  outputs = record { released = names.released; schedule = names.schedule };
  script = names.script;
}

-- What a run by the plan comes to

-- some script of the plan comes to its end within the limits, and leaves files
abbrev pub EndsLive : LiveInputs → Type 0
EndsLive inputs =
    (events : List Event) × (world : SystemWorld (meaning_of inputs.conf.kind).value)
    × IsScript (live_setting inputs) (opening (meaning_of inputs.conf.kind).value) no_orders inputs.plan events world
    × (report : List ℕ) × (released : List Packet) × (schedule : List PlainMove)
    × Leaves (live_setting inputs) events report released schedule

-- These events stop at this limit of runs, or a script has one event more with them than it may have by this limit.
abbrev pub EventsStop : LiveInputs → List Event → Limit → Type 0
EventsStop inputs events limit =
    ((report : List ℕ) × (released : List Packet) × LeavesAt (live_setting inputs) events limit report released)
    ⊎ ((before : List Event) × (next : Event) × (events ≡ before ++ next ∷ [])
    × PassesScript limit (length before) (length (script_text events)))

-- some first part of a script of the plan does
abbrev pub StopsLive : LiveInputs → Limit → Type 0
StopsLive inputs limit =
    (events : List Event)
    × BeginsScript (live_setting inputs) (opening (meaning_of inputs.conf.kind).value) no_orders inputs.plan events
    × EventsStop inputs events limit

-- what a status says of the run, once all inputs are accepted
abbrev pub SaysOfRun : Type 0 → LiveInputs → Status → Type 0
SaysOfRun healthy inputs status.Done = EndsLive inputs
SaysOfRun healthy inputs (status.Refuted refutation) = ⊥
SaysOfRun healthy inputs status.BadWords = ⊥
SaysOfRun healthy inputs status.ReadFault = ⊥
SaysOfRun healthy inputs status.WriteFault = healthy → ⊥
SaysOfRun healthy inputs status.NoMemory = Unit {0}
SaysOfRun healthy inputs (status.BadInput fault) = ⊥
SaysOfRun healthy inputs (status.TooLarge limit) = StopsLive inputs limit
SaysOfRun healthy inputs (status.Unready unready) = ⊥

-- What a status of `live` says: of the first file that is not accepted, or of the run.
abbrev pub JudgesLive : Type 0 → LiveNames → Status → Shown → Type 0
JudgesLive healthy names status shown = JudgesLiveFiles healthy names (SaysOfRun healthy) status shown

-- What the command leaves

-- the outputs are the files that a script of the plan leaves, and the script is there
abbrev pub LivesFiles : (ℕ → Type 0) → LiveNames → Shown → Shown → Type 0
LivesFiles may names old new =
    (inputs : LiveInputs)
    × AcceptsLiveInputs names inputs old
    × LivesWhole (live_setting inputs) may inputs.plan (live_outputs names) old new

-- Nothing was written, and the first input that is not accepted passes the limit; or the run stopped at it.
abbrev pub LivesLimit : LiveNames → Limit → Shown → Shown → Type 0
LivesLimit names limit old new =
    (KeepsShown old new
    × FirstIsTooLarge names.box_file names.capture (PlanTooLarge names.plan limit old) limit old)
    ⊎ ((inputs : LiveInputs)
    × AcceptsLiveInputs names inputs old
    × LivesToLimit (live_setting inputs) inputs.plan (live_outputs names) limit old new)

-- nothing was written, or some first part of what a script of the plan writes, in its order, and nothing else
abbrev pub LivesOrder : LiveNames → Shown → Shown → Type 0
LivesOrder names old new =
    KeepsShown old new
    ⊎ ((inputs : LiveInputs)
    × AcceptsLiveInputs names inputs old
    × LivesInOrder (live_setting inputs) inputs.plan (live_outputs names) old new)

-- names that are no output of the command are as they were
abbrev pub KeepsLiveNames : LiveNames → Shown → Shown → Type 0
KeepsLiveNames names old new =
    (name : List ℕ) → ¬ (name ≡ names.released) → ¬ (name ≡ names.schedule) → ¬ (name ≡ names.script)
    → new.names name ≡ old.names name

-- The promise of `live`, for the events of the script that it wrote, which is a script of its plan.
pub record KeepsLivePromise (names : LiveNames) (old new : Shown) : Type 0 where
  pub inputs : LiveInputs
  pub accepted : AcceptsLiveInputs names inputs old
  pub events : List Event
  pub there : SystemWorld (meaning_of inputs.conf.kind).value
  pub of_plan :
      IsScript (live_setting inputs) (opening (meaning_of inputs.conf.kind).value) no_orders inputs.plan events there
  pub script_written : new.names names.script ≡ Some (script_text events)
  pub keeps : KeepsPromise (live_setting inputs) (live_outputs names).outputs events new

-- What it means, where the clock may answer these times. Where its inputs are accepted it is done, or names a limit, which
-- a script of its plan passes.
abbrev pub live_meaning : (ℕ → Type 0) → LiveNames → CommandMeaning
live_meaning may names = record {
  inputs = live_inputs names;
  files = 6;
  Leaves = LivesFiles may names;
  Promises = KeepsLivePromise names;
  StopsAt = LivesLimit names;
  LeavesUnready = NeverUnready;
  LeavesInOrder = LivesOrder names;
  KeepsNames = KeepsLiveNames names;
  Judges = λ healthy. JudgesLive healthy names;
  Accepts = λ shown. (inputs : LiveInputs) × AcceptsLiveInputs names inputs shown;
  CompletesAs = λ answer. Completes answer ⊎ ((limit : Limit) × (answer ≡ status.TooLarge limit));
}
