-- What the command `run` comes to, from what its run does.
use Rattle.std.proofs.Common.{◌≡◌, ℕ, List, [], ◌++◌, refl, ap, ◌∙◌, subst, inl, inr, Result, Ok, Err}
use Rattle.std.specs.Prelude.{⊤, IsErrOf, OnOk}
use Rattle.plain_text.specs.declared.limit.Limit.{Limit}
use Rattle.plain_text.specs.declared.packet.Packet.{Packet}
use Rattle.plain_text.specs.declared.packet.Unit.{Unit as FractionUnit}
use Rattle.world_io.specs.World.{Shown}
use Rattle.recovery_world.specs.declared.event.Event.{Event}
use Rattle.recovery_world.specs.World.{Setting}
use Rattle.output_files.specs.declared.error.OutputError.{OutputError}
use Rattle.output_files.specs.declared.error.OutputError.TheVariants as output
use Rattle.output_files.specs.Writes.{report_file, Write, after_writes, reported, HasWritten, HasBegun}
use Rattle.run_writes.specs.declared.error.RunError.{RunError}
use Rattle.run_writes.specs.declared.error.RunError.TheVariants as run_error
use Rattle.run_writes.specs.Run.{OutputNames, HasFiles, HasRun, HasStopped, HasBegunRun, KeepsShown}
use Rattle.input_files.specs.Files.{KeepsOutputs}
use Rattle.job_commands.specs.declared.inputs.Inputs.{Inputs}
use Rattle.job_commands.specs.declared.status.Status.{Status}
use Rattle.job_commands.specs.declared.status.Status.TheVariants as status
use Rattle.job_commands.specs.Judging.{Judges}
use Rattle.job_commands.specs.Run.{AcceptsInputs, outputs_of, setting_for}
use Rattle.job_commands.specs.Status.{AtInputs, AtOutputs, ComesAt, Completes, stage_of_limit, outcome_of}
use Rattle.job_commands.specs.Status.{run_outcome, IsRefusal}
use Rattle.job_commands.specs.Words.{RunNames}

-- what was read leaves names and the report as they were
module _ (a b c : Shown) (keeps : KeepsOutputs a b) where
  same_names : (name : List ℕ) → b.names name ≡ a.names name
  same_names name = ap (λ f. f name) keeps.names

  same_report : b.sent report_file ≡ a.sent report_file
  same_report = ap (λ (f : ℕ → List ℕ). f report_file) keeps.sent

  pub written_since : (writes : List Write) → HasWritten writes b c → HasWritten writes a c
  written_since writes w = record {
    names = λ name. w.names name ∙ ap (after_writes name writes) (same_names name);
    report = w.report ∙ ap (λ l. l ++ reported writes) same_report;
  }

  pub begun_writes_since : (writes : List Write) → HasBegun writes b c → HasBegun writes a c
  begun_writes_since writes begun =
      record { done = begun.done; cut = begun.cut; written = written_since begun.done begun.written }

  pub files_since : (names : OutputNames) (u : FractionUnit) (released : List Packet) (schedule report : List ℕ)
      → HasFiles names u released schedule report b c → HasFiles names u released schedule report a c
  files_since names u released schedule report f = record {
    released_is = f.released_is;
    schedule_is = f.schedule_is;
    report_is = f.report_is ∙ ap (λ l. l ++ report) same_report;
    others = λ name one two. f.others name one two ∙ same_names name;
  }

  pub run_since : {V : Type 0} (s : Setting V) (names : OutputNames) (events : List Event) → HasRun s names events b c
      → HasRun s names events a c
  run_since s names events r = record {
    report = r.report;
    released = r.released;
    schedule = r.schedule;
    leaves = r.leaves;
    fit_records = r.fit_records;
    fit_lines = r.fit_lines;
    files = files_since names s.fractions r.released _ r.report r.files;
  }

  pub whole_since : {V : Type 0} (s : Setting V) (names : OutputNames) (events : List Event) (r : Result ⊤ RunError)
      → OnOk r (HasRun s names events b c) → OnOk r (HasRun s names events a c)
  whole_since s names events (Ok done) r = run_since s names events r
  whole_since s names events (Err e) r = tt

  pub stopped_since : {V : Type 0} (s : Setting V) (names : OutputNames) (events : List Event) (limit : Limit)
      → HasStopped s names events limit b c → HasStopped s names events limit a c
  stopped_since s names events limit r = record {
    report = r.report;
    released = r.released;
    leaves = r.leaves;
    files = files_since names s.fractions r.released [] r.report r.files;
  }

  pub begun_since : {V : Type 0} (s : Setting V) (names : OutputNames) (events : List Event)
      → HasBegunRun s names events b c → HasBegunRun s names events a c
  begun_since s names events (writes, is, begun) = (writes, is, begun_writes_since writes begun)

  pub kept_shown : b ≡ c → KeepsShown a c
  kept_shown same = subst (λ (z : Shown). KeepsShown a z) same (record { names = keeps.names; sent = keeps.sent })

pub kept : (a b : Shown) → KeepsOutputs a b → KeepsShown a b
kept a b keeps = record { names = keeps.names; sent = keeps.sent }

-- The status of the run, where its inputs are accepted.

module _ (healthy : Type 0) (names : RunNames) (inputs : Inputs) (a c : Shown)
    (accepted : AcceptsInputs names inputs a) where
  pub run_judged : (r : Result ⊤ RunError) → (healthy → ¬ IsErrOf r run_error.WriteFault)
      → OnOk r (HasRun (setting_for inputs) (outputs_of names) inputs.events a c)
      → ((limit : Limit) → r ≡ Err (run_error.Limit limit)
      → HasStopped (setting_for inputs) (outputs_of names) inputs.events limit a c)
      → Judges healthy names (run_outcome r) a
  run_judged (Ok done) never whole limit =
      (inputs, accepted, (whole.report, whole.released, whole.schedule, whole.leaves))
  run_judged (Err (run_error.Limit l)) never whole limit =
      let h = limit l refl in inr (inputs, accepted, (h.report, h.released, h.leaves))
  run_judged (Err run_error.WriteFault) never whole limit = (λ ok. never ok refl, inputs, accepted)
  run_judged (Err run_error.NoMemory) never whole limit = tt

pub run_words : (r : Result ⊤ RunError) → run_outcome r ≡ status.BadWords → ⊥
run_words (Ok done) e = cc
run_words (Err (run_error.Limit l)) e = cc
run_words (Err run_error.WriteFault) e = cc
run_words (Err run_error.NoMemory) e = cc

pub run_reads : (r : Result ⊤ RunError) → run_outcome r ≡ status.ReadFault → ⊥
run_reads (Ok done) e = cc
run_reads (Err (run_error.Limit l)) e = cc
run_reads (Err run_error.WriteFault) e = cc
run_reads (Err run_error.NoMemory) e = cc

pub run_fault : (r : Result ⊤ RunError) → run_outcome r ≡ status.WriteFault → IsErrOf r run_error.WriteFault
run_fault (Ok done) e = absurd (cc)
run_fault (Err (run_error.Limit l)) e = absurd (cc)
run_fault (Err run_error.WriteFault) e = refl
run_fault (Err run_error.NoMemory) e = absurd (cc)

pub run_refuses : (r : Result ⊤ RunError) → IsRefusal (run_outcome r) → ⊥
run_refuses (Ok done) e = e
run_refuses (Err (run_error.Limit l)) e = e
run_refuses (Err run_error.WriteFault) e = e
run_refuses (Err run_error.NoMemory) e = e

pub not_of_run : (s : Status) (limit : Limit) → s ≡ status.TooLarge limit → stage_of_limit limit ≡ AtOutputs
    → ComesAt AtInputs s → ⊥
not_of_run s limit e stage h = go (subst (λ (s : Status). ComesAt AtInputs s) e h)
  where
    go : ComesAt AtInputs (status.TooLarge limit) → ⊥
    go (inl x) = cc
    go (inr x) = cc

-- What `make` comes to.

pub made_completes : (r : Result ⊤ OutputError) → ¬ IsErrOf r output.WriteFault → Completes (outcome_of r)
made_completes (Ok done) never = inl refl
made_completes (Err output.WriteFault) never = absurd (never refl)
made_completes (Err output.NoMemory) never = inr refl
