-- What the status of `drill` says, and what it leaves: from before its inputs were read.
use Rattle.std.proofs.Common.{◌≡◌, ◌⊎◌, ℕ, Bool, List, [], refl, sym, ap, ◌∙◌, inl, inr, Result, Ok, Err, rules}
use Rattle.std.specs.Prelude.{⊤, IsErrOf, OnOk}
use Rattle.plain_text.specs.declared.limit.Limit.{Limit}
use Rattle.plain_player.specs.ScheduleText.{schedule_text}
use Rattle.box_conf.specs.declared.kind.BoxConf.{BoxConf}
use Rattle.world_io.specs.World.{Shown}
use Rattle.recovery_world.specs.World.{Setting}
use Rattle.output_files.specs.Writes.{Write}
use Rattle.run_writes.specs.declared.error.RunError.{RunError}
use Rattle.run_writes.specs.declared.error.RunError.TheVariants as run_error
use Rattle.run_writes.specs.Run.{KeepsOthers, OutputNames}
use Rattle.input_files.specs.declared.capture_file.Capture.{Capture}
use Rattle.input_files.specs.Files.{KeepsOutputs}
use Rattle.live_writes.specs.Script.{SpareName}
use Rattle.live_writes.proofs.ScriptSteps.{spare_cut, spared}
use Rattle.noted_runs.specs.Drill.{HasBegunDrill, HasDrilled, HasStopped, IsWritten, Stopped, StopsAt, Whole}
use Rattle.job_commands.specs.declared.first_inputs.FirstInputs.{FirstInputs}
use Rattle.job_commands.specs.declared.status.Status.{Status}
use Rattle.job_commands.specs.declared.status.Status.TheVariants as status
use Rattle.job_commands.specs.Status.{AtOutputs, Completes, run_outcome, stage_of_limit}
use Rattle.job_commands.specs.Turns.{JudgesFirst}
use Rattle.job_commands.specs.Words.{DrillNames}
use Rattle.job_commands.proofs.Outcomes.{begun_writes_since, files_since, written_since}
use Rattle.job_commands.proofs.RunLimits.{stops_are}
use Rattle.job_commands.proofs.ThreeFiles.{two_accepted, two_pass, two_refused}
use Rattle.job_top.specs.Drill.{AcceptsDrillInputs, AreAcceptedForDrill, DrillsInOrder, DrillsWhole}
use Rattle.job_top.specs.Drill.{JudgesDrill, SaysOfDrill, drill_outputs, drill_setting, has_drop_table}
use Rattle.job_commands.proofs.Usual.{Ends, IsUsual, run_says, stops_late}
use Rattle.job_top.specs.Drill.{KeepsDrillPromise, drill_meaning}
use Rattle.job_top.proofs.Promise.{drill_promise}

-- The files are as they were when the inputs had been read.
module _ (a b c : Shown) (keeps : KeepsOutputs a b) where
  pub drilled_since : {V : Type 0} (s : Setting V) (every : ℕ) (table : Bool) (names : OutputNames)
      (r : Result ⊤ RunError) → OnOk r (HasDrilled s every table names b c)
      → OnOk r (HasDrilled s every table names a c)
  drilled_since s every table names (Ok done) r = record {
    report = r.report;
    released = r.released;
    schedule = r.schedule;
    drills = r.drills;
    fit_records = r.fit_records;
    fit_lines = r.fit_lines;
    files = files_since a b c keeps names s.fractions r.released (schedule_text r.schedule) r.report r.files;
  }
  drilled_since s every table names (Err e) r = tt

  pub limit_since : {V : Type 0} (s : Setting V) (every : ℕ) (names : OutputNames) (limit : Limit)
      → HasStopped s every names limit b c → HasStopped s every names limit a c
  limit_since s every names limit r = record {
    released = r.released;
    stops = r.stops;
    files = files_since a b c keeps names s.fractions r.released [] [] r.files;
  }

  pub order_since : {V : Type 0} (s : Setting V) (every : ℕ) (table : Bool) (names : OutputNames)
      → HasBegunDrill s every table names b c → HasBegunDrill s every table names a c
  order_since s every table names (inl none) = inl (written_since a b c keeps [] none)
  order_since s every table names (inr (writes, is, begun)) =
      inr (writes, is, begun_writes_since a b c keeps writes begun)

-- A drill stops at the limit of moves or at that of bytes sent out.
drill_stops_are : {V : Type 0} (s : Setting V) (every : ℕ) (limit : Limit) (released : List _)
    → StopsAt s every limit released → stage_of_limit limit ≡ AtOutputs
drill_stops_are s every limit released (inl (lines, at)) = stops_are s at.there at.event limit at.world at.stops
drill_stops_are s every limit released (inr (lines, beside, schedule, others, leaves, at)) =
    stops_are s at.there at.event limit at.world at.stops

-- both files were accepted
pub inputs_accepted : (healthy : Type 0) (names : DrillNames) (inputs : FirstInputs) (a : Shown)
    → JudgesFirst healthy names.box_file names.capture (Ok inputs) a → AcceptsDrillInputs names inputs a
inputs_accepted healthy names inputs a h = record { box_accepted = h.0; capture_accepted = h.1 }

-- what stands behind the two files
abbrev Behind : Type 0 → DrillNames → BoxConf → Capture → Status → Type 0
Behind healthy names conf capture = SaysOfDrill healthy names (record { conf = conf; capture = capture })

-- The status of the drill, where its inputs are accepted.

module _ (healthy : Type 0) (names : DrillNames) (inputs : FirstInputs) (a c : Shown)
    (accepted : AcceptsDrillInputs names inputs a) where
  abbrev Leaves : Result ⊤ RunError → Type 0
  Leaves r =
      OnOk r (HasDrilled (drill_setting names inputs) names.every (has_drop_table inputs.conf.kind)
      (drill_outputs names) a c)

  abbrev Stops : Result ⊤ RunError → Type 0
  Stops r =
      (limit : Limit) → r ≡ Err (run_error.Limit limit)
      → HasStopped (drill_setting names inputs) names.every (drill_outputs names) limit a c

  behind : (s : Status) → SaysOfDrill healthy names inputs s → JudgesDrill healthy names s a
  behind s says =
      two_accepted healthy names.box_file names.capture a (Behind healthy names) inputs.conf inputs.capture s
      accepted.box_accepted accepted.capture_accepted says

  drill_judged : (r : Result ⊤ RunError) → (healthy → ¬ IsErrOf r run_error.WriteFault) → Leaves r → Stops r
      → JudgesDrill healthy names (run_outcome r) a
  drill_judged (Ok done) never whole limit =
      behind status.Done (whole.report, whole.released, whole.schedule, whole.drills)
  drill_judged (Err (run_error.Limit l)) never whole limit =
      behind (status.TooLarge l) ((limit l refl).released, (limit l refl).stops)
  drill_judged (Err run_error.WriteFault) never whole limit = behind status.WriteFault (λ ok. never ok refl)
  drill_judged (Err run_error.NoMemory) never whole limit = behind status.NoMemory tt

  whole : (r : Result ⊤ RunError) → Leaves r → OnOk r (DrillsWhole names a c × KeepsDrillPromise names a c)
  whole (Ok done) run = let all : DrillsWhole names a c = (inputs, accepted, run) in (all, drill_promise names a c all)
  whole (Err error) run = tt

  pub drill_ends : (r : Result ⊤ RunError) → (healthy → ¬ IsErrOf r run_error.WriteFault) → Leaves r → Stops r
      → HasBegunDrill (drill_setting names inputs) names.every (has_drop_table inputs.conf.kind) (drill_outputs names) a c
      → Ends (drill_meaning names) healthy (run_outcome r) a c
  drill_ends r never run limit begun = record {
    says = run_says (drill_meaning names) a c r (whole r run) (λ l is.
        let h = limit l is in stops_late l a c _
        (drill_stops_are (drill_setting names inputs) names.every l h.released h.stops) (inputs, accepted, h));
    in_order = inr (inputs, accepted, begun);
    judged = drill_judged r never run limit;
  }

-- what a refused input says
pub drill_refused : (healthy : Type 0) (names : DrillNames) (s : Status) (a : Shown)
    → JudgesFirst healthy names.box_file names.capture (Err s) a → JudgesDrill healthy names s a
drill_refused healthy names s a h = two_refused healthy names.box_file names.capture a (Behind healthy names) s h

-- In a healthy world a drill that is accepted and passes no limit is done, or memory ran out.
pub drill_completes : (healthy : Type 0) (names : DrillNames) (shown : Shown) → healthy
    → AreAcceptedForDrill names shown → (s : Status) → JudgesDrill healthy names s shown → Completes s
drill_completes healthy names shown ok (inputs, a, within) s h =
    go (two_pass healthy names.box_file names.capture shown (Behind healthy names) ok inputs.conf inputs.capture
    a.box_accepted a.capture_accepted s h)
  where
    on : (s : Status) → SaysOfDrill healthy names inputs s → Completes s
    on status.Done says = inl refl
    on (status.Refuted refutation) says = absurd says
    on status.BadWords says = absurd says
    on status.ReadFault says = absurd says
    on status.WriteFault says = absurd (says ok)
    on status.NoMemory says = inr refl
    on (status.BadInput fault) says = absurd says
    on (status.TooLarge limit) says = absurd (within limit says)
    on (status.Unready unready) says = absurd says

    go : (s ≡ status.NoMemory) ⊎ SaysOfDrill healthy names inputs s → Completes s
    go (inl none) = inr none
    go (inr says) = on s says

-- Other names

drill_spares : {V : Type 0} (s : Setting V) (every : ℕ) (table : Bool) (names : OutputNames) (name : List ℕ)
    → ¬ (name ≡ names.released) → ¬ (name ≡ names.schedule) → (writes : List Write)
    → IsWritten s every table names writes → SpareName name writes
drill_spares s every table names name one two writes (Whole report released schedule drills) =
    let other : ¬ (names.released ≡ name) = (λ e. one (sym e)) in
    let apart : ¬ (names.schedule ≡ name) = (λ e. two (sym e)) in
    (other, (other, (apart, (other, (apart, tt)))))
drill_spares s every table names name one two writes (Stopped limit released stops) =
    let other : ¬ (names.released ≡ name) = (λ e. one (sym e)) in
    let apart : ¬ (names.schedule ≡ name) = (λ e. two (sym e)) in
    (other, (other, (apart, (other, tt))))

pub drill_others : (names : DrillNames) (a b : Shown) → DrillsInOrder names a b → KeepsOthers (drill_outputs names) a b
drill_others names a b (inl kept) name one two = ap (λ f. f name) kept.names
drill_others names a b (inr (inputs, accepted, inl none)) name one two = none.names name
drill_others names a b (inr (inputs, accepted, inr (writes, is, begun))) name one two =
    begun.written.names name
    ∙ spared name begun.done (a.names name) (spare_cut name begun.done writes
    (drill_spares (drill_setting names inputs) names.every (has_drop_table inputs.conf.kind) (drill_outputs names) name
    one two writes is) begun.cut)

pub drill_usual : (names : DrillNames) → IsUsual (drill_meaning names)
drill_usual names = record {
  few = search rules;
  begins = λ old new same. inl same;
  others = drill_others names;
  completes = λ healthy shown. drill_completes healthy names shown;
}
