-- What the status of `trace` says, and what it leaves: from before its inputs were read.
use Rattle.std.proofs.Common.{◌≡◌, ℕ, List, [], ◌∷◌, ◌++◌, Option, refl, sym, ap, ◌∙◌, subst, inl, inr, Result, Ok}
use Rattle.std.proofs.Common.{Err, append_assoc, rules}
use Rattle.std.specs.Prelude.{⊤, IsErrOf, OnOk}
use Rattle.plain_text.specs.declared.limit.Limit.{Limit}
use Rattle.world_io.specs.World.{Shown}
use Rattle.recovery_world.specs.declared.event.Event.{Event}
use Rattle.recovery_world.specs.declared.event.Event.TheVariants as event
use Rattle.recovery_world.specs.World.{Setting}
use Rattle.recovery_world.specs.Files.{done_line}
use Rattle.output_files.specs.Writes.{report_file}
use Rattle.run_writes.specs.declared.error.RunError.{RunError}
use Rattle.run_writes.specs.declared.error.RunError.TheVariants as run_error
use Rattle.run_writes.specs.Run.{KeepsShown}
use Rattle.input_files.specs.Files.{KeepsOutputs}
use Rattle.live_writes.specs.Script.{SpareName}
use Rattle.live_writes.proofs.ScriptSteps.{spare_cut, spared}
use Rattle.noted_runs.specs.Trace.{HasBegunTrace, HasStopped, HasTraced, trace_writes}
use Rattle.noted_runs.specs.Table.{table_text}
use Rattle.job_commands.specs.declared.inputs.Inputs.{Inputs}
use Rattle.job_commands.specs.declared.status.Status.{Status}
use Rattle.job_commands.specs.declared.status.Status.TheVariants as status
use Rattle.job_commands.specs.Judging.{Judges}
use Rattle.job_commands.specs.Run.{StopsRun, setting_for}
use Rattle.job_commands.specs.Status.{AtInputs, ComesAt, Completes, EndsReading, run_outcome}
use Rattle.job_commands.specs.Words.{TraceNames, traced_run}
use Rattle.job_commands.proofs.OneVerdict.{inputs_one, run_completes}
use Rattle.job_commands.proofs.Outcomes.{begun_writes_since, not_of_run}
use Rattle.job_commands.proofs.RunLimits.{stops_are}
use Rattle.job_top.specs.Trace.{AcceptsTraceInputs, AreAcceptedForTrace, JudgesTrace, KeepsTraceNames, StopsTrace}
use Rattle.job_top.specs.Trace.{TracesInOrder, TracesWhole}
use Rattle.box_conf.specs.Kinds.{drop_register}
use Rattle.job_commands.specs.Meanings.{PromisesNothing}
use Rattle.job_commands.proofs.Usual.{Ends, IsUsual, run_says, stops_late}
use Rattle.job_top.specs.Trace.{trace_meaning}

-- The files are as they were when the inputs had been read.
module _ (a b c : Shown) (keeps : KeepsOutputs a b) where
  kept_since : KeepsShown b c → KeepsShown a c
  kept_since kept = record { names = kept.names ∙ keeps.names; sent = kept.sent ∙ keeps.sent }

  pub traced_since : {V : Type 0} (register : Option ℕ) (s : Setting V) (events : List Event) (name : List ℕ)
      (r : Result ⊤ RunError) → OnOk r (HasTraced register s events name b c)
      → OnOk r (HasTraced register s events name a c)
  traced_since register s events name (Ok done) r = record {
    world = r.world;
    rows = r.rows;
    traces = r.traces;
    table_is = r.table_is;
    report_is =
        r.report_is ∙ ap (λ (f : ℕ → List ℕ). f report_file ++ done_line r.world) keeps.sent;
    others = λ other apart. r.others other apart ∙ ap (λ f. f other) keeps.names;
  }
  traced_since register s events name (Err e) r = tt

  pub stop_since : {V : Type 0} (s : Setting V) (events : List Event) (limit : Limit) → HasStopped s events limit b c
      → HasStopped s events limit a c
  stop_since s events limit r =
      record { lines = r.lines; released = r.released; stops = r.stops; kept = kept_since r.kept }

  pub order_traced : {V : Type 0} (register : Option ℕ) (s : Setting V) (events : List Event) (name : List ℕ)
      → HasBegunTrace register s events name b c → HasBegunTrace register s events name a c
  order_traced register s events name (inl kept) = inl (kept_since kept)
  order_traced register s events name (inr (w, rows, traces, begun)) = inr (
    w,
    rows,
    traces,
    begun_writes_since a b c keeps (trace_writes name (table_text rows) (done_line w)) begun,
  )

-- The status of the trace, where its inputs are accepted.

module _ (healthy : Type 0) (names : TraceNames) (inputs : Inputs) (a c : Shown)
    (accepted : AcceptsTraceInputs names inputs a) where
  abbrev Leaves : Result ⊤ RunError → Type 0
  Leaves r =
      OnOk r (HasTraced (drop_register inputs.conf.kind) (setting_for inputs) inputs.events names.table a c)

  abbrev Stops : Result ⊤ RunError → Type 0
  Stops r =
      (limit : Limit) → r ≡ Err (run_error.Limit limit) → HasStopped (setting_for inputs) inputs.events limit a c

  trace_judged : (r : Result ⊤ RunError) → (healthy → ¬ IsErrOf r run_error.WriteFault) → Leaves r → Stops r
      → JudgesTrace healthy names (run_outcome r) a
  trace_judged (Ok done) never whole limit = (inputs, accepted, (whole.world, whole.rows, whole.traces))
  trace_judged (Err (run_error.Limit l)) never whole limit =
      let h = limit l refl in inr (inputs, accepted, (h.lines, h.released, h.stops))
  trace_judged (Err run_error.WriteFault) never whole limit = (λ ok. never ok refl, inputs, accepted)
  trace_judged (Err run_error.NoMemory) never whole limit = tt

  whole : (r : Result ⊤ RunError) → Leaves r → OnOk r (TracesWhole names a c × PromisesNothing a c)
  whole (Ok done) run = let all : TracesWhole names a c = (inputs, accepted, run) in (all, tt)
  whole (Err error) run = tt

  pub trace_ends : (r : Result ⊤ RunError) → (healthy → ¬ IsErrOf r run_error.WriteFault) → Leaves r → Stops r
      → HasBegunTrace (drop_register inputs.conf.kind) (setting_for inputs) inputs.events names.table a c
      → Ends (trace_meaning names) healthy (run_outcome r) a c
  trace_ends r never run limit begun = record {
    says = run_says (trace_meaning names) a c r (whole r run) (λ l is.
        let h = limit l is in stops_late l a c _
        (stops_are (setting_for inputs) h.stops.there h.stops.event l h.stops.world h.stops.stops) (inputs, accepted, h));
    in_order = inr (inputs, accepted, begun);
    judged = trace_judged r never run limit;
  }

-- what a refused input says, which is no stop of a run
pub trace_refused : (healthy : Type 0) (names : TraceNames) (s : Status) (a : Shown) → EndsReading s
    → ComesAt AtInputs s → Judges healthy (traced_run names) s a → JudgesTrace healthy names s a
trace_refused healthy names status.Done a quiet early h = absurd quiet
trace_refused healthy names (status.Refuted refutation) a quiet early h = absurd quiet
trace_refused healthy names status.BadWords a quiet early h = absurd quiet
trace_refused healthy names status.ReadFault a quiet early h = h
trace_refused healthy names status.WriteFault a quiet early h = absurd quiet
trace_refused healthy names status.NoMemory a quiet early h = tt
trace_refused healthy names (status.BadInput fault) a quiet early h = h
trace_refused healthy names (status.TooLarge limit) a quiet early (inl first) = inl first
trace_refused healthy names (status.TooLarge limit) a quiet early (inr (inputs, accepted, (report, released, at))) =
    absurd (not_of_run (status.TooLarge limit) limit refl
    (stops_are (setting_for inputs) at.there at.event limit at.world at.stops) early)
trace_refused healthy names (status.Unready unready) a quiet early h = absurd quiet

-- An event that stops the run stops the trace.
stops_longer : (inputs : Inputs) (limit : Limit) → StopsRun inputs limit → StopsTrace inputs limit
stops_longer inputs limit (report, released, at) = (
  report,
  released,
  record {
    before = at.before;
    event = at.event;
    after = at.after ++ event.Recover ∷ [];
    events_are =
        ap (λ (l : List Event). l ++ event.Recover ∷ []) at.events_are
        ∙ append_assoc at.before (at.event ∷ at.after) (event.Recover ∷ []);
    there = at.there;
    performs = at.performs;
    world = at.world;
    stops = at.stops;
    released_is = at.released_is;
  },
)

-- In a healthy world a trace that is accepted and passes no limit is done, or memory ran out.
pub trace_completes : (healthy : Type 0) (names : TraceNames) (shown : Shown) → healthy
    → AreAcceptedForTrace names shown → (s : Status) → JudgesTrace healthy names s shown → Completes s
trace_completes healthy names shown ok (x, a, within) = go
  where
    of_run : (s : Status) → Judges healthy (traced_run names) s shown → Completes s
    of_run s h = run_completes healthy (traced_run names) shown ok
        (x, a, λ limit stops. within limit (stops_longer x limit stops)) s h

    go : (s : Status) → JudgesTrace healthy names s shown → Completes s
    go status.Done h = inl refl
    go (status.Refuted refutation) h = absurd h
    go status.BadWords h = absurd h
    go status.ReadFault h = of_run status.ReadFault h
    go status.WriteFault h = of_run status.WriteFault h
    go status.NoMemory h = inr refl
    go (status.BadInput fault) h = of_run (status.BadInput fault) h
    go (status.TooLarge limit) (inl first) = of_run (status.TooLarge limit) (inl first)
    go (status.TooLarge limit) (inr (y, b, stops)) =
        absurd (within limit (subst (λ (i : Inputs). StopsTrace i limit)
        (inputs_one healthy (traced_run names) shown y x b a) stops))
    go (status.Unready unready) h = absurd h

-- Other names

pub trace_others : (names : TraceNames) (a b : Shown) → TracesInOrder names a b → KeepsTraceNames names a b
trace_others names a b (inl kept) name one = ap (λ f. f name) kept.names
trace_others names a b (inr (inputs, accepted, inl kept)) name one = ap (λ f. f name) kept.names
trace_others names a b (inr (inputs, accepted, inr (w, rows, traces, begun))) name one =
    let other : ¬ (names.table ≡ name) = (λ e. one (sym e)) in
    let spare : SpareName name (trace_writes names.table (table_text rows) (done_line w)) = (other, (other, tt)) in
    begun.written.names name
    ∙ spared name begun.done (a.names name) (spare_cut name begun.done
    (trace_writes names.table (table_text rows) (done_line w)) spare begun.cut)

pub trace_usual : (names : TraceNames) → IsUsual (trace_meaning names)
trace_usual names = record {
  few = search rules;
  begins = λ old new same. inl same;
  others = trace_others names;
  completes = λ healthy shown. trace_completes healthy names shown;
}
