-- What a command promises, in one record. Each command has one value of it, beside its definitions.
use Rattle.std.specs.Prelude.{ℕ, List}
use Rattle.plain_text.specs.declared.limit.Limit.{Limit}
use Rattle.plain_text.specs.declared.limit.Limit.TheVariants as limit_of
use Rattle.world_io.specs.World.{Shown}
use Rattle.handover_world.specs.declared.unready.Unready.{Unready}
use Rattle.run_writes.specs.Run.{KeepsShown}
use Rattle.job_commands.specs.declared.status.Status.{Status}

pub record CommandMeaning : Type 1 where
  -- the names of its input files, in the order of its words, which is the order in which they are read
  pub inputs : List (List ℕ)
  -- how many files it opens or creates, at most
  pub files : ℕ
  -- what Done leaves: the outputs have all that it gives
  pub Leaves : Shown → Shown → Type 0
  -- what Done promises: what was released is part of one legal run without crashes
  pub Promises : Shown → Shown → Type 0
  -- what it leaves where it stopped at this limit
  pub StopsAt : Limit → Shown → Shown → Type 0
  -- what it leaves where its system can't be handed over yet, for this cause
  pub LeavesUnready : Unready → Shown → Shown → Type 0
  -- some first part of what it gives was written, in its order
  pub LeavesInOrder : Shown → Shown → Type 0
  -- names that are none of its outputs are as they were
  pub KeepsNames : Shown → Shown → Type 0
  -- what a status says of its inputs, and of what it does with them, where the world may be healthy
  pub Judges : Type 0 → Status → Shown → Type 0
  -- its inputs are there and accepted, and neither they nor what it does with them passes a limit
  pub Accepts : Shown → Type 0
  -- what it comes to where its inputs are accepted
  pub CompletesAs : Status → Type 0

-- nothing is promised of what was released
abbrev pub PromisesNothing : Shown → Shown → Type 0
PromisesNothing old new = Unit {0}

-- Limits of files are passed when the inputs are read, before an output is created; at one of a run, this is so.
abbrev pub StopsBy : Limit → Shown → Shown → Type 0 → Type 0
StopsBy limit_of.File old new This = KeepsShown old new
StopsBy limit_of.Packets old new This = KeepsShown old new
StopsBy limit_of.Events old new This = KeepsShown old new
StopsBy limit_of.Moves old new This = This
StopsBy limit_of.OutputBytes old new This = This

-- no limit of a run is passed
abbrev pub StopsAtInputs : Limit → Shown → Shown → Type 0
StopsAtInputs limit old new = StopsBy limit old new ⊥

-- the system can always be handed over, or is not to be
abbrev pub NeverUnready : Unready → Shown → Shown → Type 0
NeverUnready unready old new = ⊥
