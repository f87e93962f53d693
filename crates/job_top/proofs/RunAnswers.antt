-- What the command `run` answers where its inputs are accepted.
use Rattle.std.proofs.Common.{◌≡◌, inl, inr, rules, Result, Ok, Err}
use Rattle.std.specs.Prelude.{⊤, IsErrOf, OnOk}
use Rattle.plain_text.specs.declared.limit.Limit.{Limit}
use Rattle.world_io.specs.World.{Shown}
use Rattle.run_writes.specs.declared.error.RunError.{RunError}
use Rattle.run_writes.specs.declared.error.RunError.TheVariants as run_error
use Rattle.run_writes.specs.Run.{HasBegunRun, HasRun, HasStopped}
use Rattle.job_commands.specs.declared.inputs.Inputs.{Inputs}
use Rattle.job_commands.specs.Run.{AcceptsInputs, RunsWhole, outputs_of, setting_for}
use Rattle.job_commands.specs.Status.{run_outcome}
use Rattle.job_commands.specs.Words.{RunNames}
use Rattle.job_commands.proofs.OneVerdict.{run_completes}
use Rattle.job_commands.proofs.Others.{run_others}
use Rattle.job_commands.proofs.Outcomes.{run_judged}
use Rattle.job_commands.proofs.RunLimits.{stops_are}
use Rattle.job_commands.proofs.Usual.{Ends, IsUsual, run_says, stops_late}
use Rattle.job_top.specs.Run.{KeepsRunPromise, run_meaning}
use Rattle.job_top.proofs.Promise.{promise}

pub run_usual : (names : RunNames) → IsUsual (run_meaning names)
run_usual names = record {
  few = search rules;
  begins = λ old new same. inl same;
  others = run_others names;
  completes = λ healthy shown. run_completes healthy names shown;
}

module _ (healthy : Type 0) (names : RunNames) (inputs : Inputs) (a c : Shown)
    (accepted : AcceptsInputs names inputs a) where
  abbrev Leaves : Result ⊤ RunError → Type 0
  Leaves r = OnOk r (HasRun (setting_for inputs) (outputs_of names) inputs.events a c)

  abbrev Stops : Result ⊤ RunError → Type 0
  Stops r =
      (limit : Limit) → r ≡ Err (run_error.Limit limit)
      → HasStopped (setting_for inputs) (outputs_of names) inputs.events limit a c

  whole : (r : Result ⊤ RunError) → Leaves r → OnOk r (RunsWhole names a c × KeepsRunPromise names a c)
  whole (Ok done) run = let all : RunsWhole names a c = (inputs, accepted, run) in (all, promise names a c all)
  whole (Err error) run = tt

  pub run_ends : (r : Result ⊤ RunError) → (healthy → ¬ IsErrOf r run_error.WriteFault) → Leaves r → Stops r
      → HasBegunRun (setting_for inputs) (outputs_of names) inputs.events a c
      → Ends (run_meaning names) healthy (run_outcome r) a c
  run_ends r never run limit begun = record {
    says = run_says (run_meaning names) a c r (whole r run) (λ l is.
        let h = limit l is in
        stops_late l a c _
        (stops_are (setting_for inputs) h.leaves.there h.leaves.event l h.leaves.world h.leaves.stops)
        (inputs, accepted, h));
    in_order = inr (inputs, accepted, begun);
    judged = run_judged healthy names inputs a c accepted r never run limit;
  }
