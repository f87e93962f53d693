-- What the command `run` means: what it does is stated in `job_commands`, what it promises here.
use Rattle.run_writes.specs.Run.{KeepsOthers}
use Rattle.world_io.specs.World.{Shown}
use Rattle.job_commands.specs.declared.inputs.Inputs.{Inputs}
use Rattle.job_commands.specs.Judging.{AreAccepted, Judges}
use Rattle.job_commands.specs.Meanings.{CommandMeaning, NeverUnready, StopsBy}
use Rattle.job_commands.specs.Run.{AcceptsInputs, RunsInOrder, RunsToLimit, RunsWhole, outputs_of, setting_for}
use Rattle.job_commands.specs.Status.{Completes}
use Rattle.job_commands.specs.Words.{RunNames, run_inputs}
use Rattle.job_top.specs.Headline.{KeepsPromise}

-- the promise of `run`, for the events of its script
pub record KeepsRunPromise (names : RunNames) (old new : Shown) : Type 0 where
  pub inputs : Inputs
  pub accepted : AcceptsInputs names inputs old
  pub keeps : KeepsPromise (setting_for inputs) (outputs_of names) inputs.events new

abbrev pub run_meaning : RunNames → CommandMeaning
run_meaning names = record {
  inputs = run_inputs names;
  files = 5;
  Leaves = RunsWhole names;
  Promises = KeepsRunPromise names;
  StopsAt = λ limit old new. StopsBy limit old new (RunsToLimit names limit old new);
  LeavesUnready = NeverUnready;
  LeavesInOrder = RunsInOrder names;
  KeepsNames = KeepsOthers (outputs_of names);
  Judges = λ healthy. Judges healthy names;
  Accepts = AreAccepted names;
  CompletesAs = Completes;
}
