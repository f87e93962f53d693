-- What the command `trace` does: a run of the script that the inputs ask for, and one recovery more, of which a table
-- tells what became of each packet.
use Rattle.std.specs.Prelude.{◌≡◌, ◌⊎◌, ℕ, List}
use Rattle.plain_text.specs.declared.limit.Limit.{Limit}
use Rattle.box_conf.specs.Kinds.{meaning_of, drop_register}
use Rattle.world_io.specs.World.{Shown}
use Rattle.recovery_world.specs.World.{World as SystemWorld}
use Rattle.run_writes.specs.Run.{KeepsShown}
use Rattle.noted_runs.specs.declared.trace.rows.Row.{Row}
use Rattle.noted_runs.specs.Trace.{Traces, HasTraced, HasStopped, HasBegunTrace, traced_events}
use Rattle.input_files.specs.Judging.{ScriptTooLarge}
use Rattle.job_commands.specs.declared.inputs.Inputs.{Inputs}
use Rattle.job_commands.specs.declared.status.Status.{Status}
use Rattle.job_commands.specs.declared.status.Status.TheVariants as status
use Rattle.job_commands.specs.Judging.{Judges}
use Rattle.job_commands.specs.Meanings.{CommandMeaning, NeverUnready, PromisesNothing, StopsBy}
use Rattle.job_commands.specs.Run.{AcceptsInputs, StopsRun, setting_for}
use Rattle.job_commands.specs.Status.{Completes}
use Rattle.job_commands.specs.Turns.{FirstIsTooLarge}
use Rattle.job_commands.specs.Words.{TraceNames, run_inputs, traced_run}

-- all input files are accepted
abbrev pub AcceptsTraceInputs : TraceNames → Inputs → Shown → Type 0
AcceptsTraceInputs names inputs shown = AcceptsInputs (traced_run names) inputs shown

-- What a trace comes to

-- the same inputs, with the events of the trace
abbrev pub with_recovery : Inputs → Inputs
with_recovery inputs =
    record { conf = inputs.conf; capture = inputs.capture; events = traced_events inputs.events }

-- its events come to their end within the limits, and there are rows of what became of each packet
abbrev pub EndsTrace : Inputs → Type 0
EndsTrace inputs =
    (w : SystemWorld (meaning_of inputs.conf.kind).value) × (rows : List Row)
    × Traces (drop_register inputs.conf.kind) (setting_for inputs) inputs.events w rows

-- one of them stops at this limit
abbrev pub StopsTrace : Inputs → Limit → Type 0
StopsTrace inputs limit = StopsRun (with_recovery inputs) limit

-- What a status says: of the input files as of those of `run`, or of the trace.
abbrev pub JudgesTrace : Type 0 → TraceNames → Status → Shown → Type 0
JudgesTrace healthy names status.Done shown =
    (inputs : Inputs) × AcceptsTraceInputs names inputs shown × EndsTrace inputs
JudgesTrace healthy names (status.Refuted refutation) shown = ⊥
JudgesTrace healthy names status.BadWords shown = ⊥
JudgesTrace healthy names status.ReadFault shown = Judges healthy (traced_run names) status.ReadFault shown
JudgesTrace healthy names status.WriteFault shown = Judges healthy (traced_run names) status.WriteFault shown
JudgesTrace healthy names status.NoMemory shown = Unit {0}
JudgesTrace healthy names (status.BadInput fault) shown =
    Judges healthy (traced_run names) (status.BadInput fault) shown
JudgesTrace healthy names (status.TooLarge limit) shown =
    FirstIsTooLarge names.box_file names.capture (ScriptTooLarge names.script limit shown) limit shown
    ⊎ ((inputs : Inputs) × AcceptsTraceInputs names inputs shown × StopsTrace inputs limit)
JudgesTrace healthy names (status.Unready unready) shown = ⊥

-- The inputs are accepted, and the trace passes no limit.
abbrev pub AreAcceptedForTrace : TraceNames → Shown → Type 0
AreAcceptedForTrace names shown =
    (inputs : Inputs) × AcceptsTraceInputs names inputs shown × ((limit : Limit) → StopsTrace inputs limit → ⊥)

-- What the command leaves

-- the table tells what became of each packet
abbrev pub TracesWhole : TraceNames → Shown → Shown → Type 0
TracesWhole names old new =
    (inputs : Inputs)
    × AcceptsTraceInputs names inputs old
    × HasTraced (drop_register inputs.conf.kind) (setting_for inputs) inputs.events names.table old new

-- an event stopped at this limit, and nothing was written
abbrev pub TracesToLimit : TraceNames → Limit → Shown → Shown → Type 0
TracesToLimit names limit old new =
    (inputs : Inputs)
    × AcceptsTraceInputs names inputs old
    × HasStopped (setting_for inputs) inputs.events limit old new

-- nothing was written, or some first part of what the trace writes, in its order, and nothing else
abbrev pub TracesInOrder : TraceNames → Shown → Shown → Type 0
TracesInOrder names old new =
    KeepsShown old new
    ⊎ ((inputs : Inputs)
    × AcceptsTraceInputs names inputs old
    × HasBegunTrace (drop_register inputs.conf.kind) (setting_for inputs) inputs.events names.table old new)

-- all names but the table are as they were
abbrev pub KeepsTraceNames : TraceNames → Shown → Shown → Type 0
KeepsTraceNames names old new = (name : List ℕ) → ¬ (name ≡ names.table) → new.names name ≡ old.names name

abbrev pub trace_meaning : TraceNames → CommandMeaning
trace_meaning names = record {
  inputs = run_inputs (traced_run names);
  files = 4;
  Leaves = TracesWhole names;
  Promises = PromisesNothing;
  StopsAt = λ limit old new. StopsBy limit old new (TracesToLimit names limit old new);
  LeavesUnready = NeverUnready;
  LeavesInOrder = TracesInOrder names;
  KeepsNames = KeepsTraceNames names;
  Judges = λ healthy. JudgesTrace healthy names;
  Accepts = AreAcceptedForTrace names;
  CompletesAs = Completes;
}
