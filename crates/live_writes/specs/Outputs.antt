-- The outputs of the command `live`: those of `run`, and beside them the script of what happened.
use Rattle.std.specs.Prelude.{◌≡◌, ℕ, ◌≤◌, All, List, if◌then◌else◌, Some}
use Rattle.std.specs.Str.{bytes_eq}
use Rattle.plain_text.specs.Packets.{IsShort}
use Rattle.plain_machine.specs.Program.{Meaning}
use Rattle.world_io.specs.World.{Shown}
use Rattle.recovery_world.specs.World.{Setting}
use Rattle.run_writes.specs.Run.{OutputNames}
use Rattle.live_writes.specs.declared.opening.LiveFiles.{LiveFiles}
use Rattle.live_writes.specs.declared.opening.PlanRun.{PlanRun}

-- the names of the three outputs
pub record LiveOutputs : Type 0 where
  pub outputs : OutputNames
  pub script : List ℕ

abbrev pub names_of : LiveFiles → LiveOutputs
names_of files = record {
  outputs = record { released = files.released.now; schedule = files.schedule.now };
  script = files.script.now;
}

-- they differ
pub record AreApart (names : LiveOutputs) : Type 0 where
  pub outputs : names.outputs.released ≡ names.outputs.schedule → ⊥
  pub released : names.outputs.released ≡ names.script → ⊥
  pub schedule : names.outputs.schedule ≡ names.script → ⊥

-- what stays the same in a run of a box that means this
abbrev pub setting_of : {V : Type 0} → Meaning V → PlanRun → Setting V
setting_of m run = record {
  meaning = m;
  threads = run.threads;
  tags = run.tags;
  fractions = run.unit;
  packets = run.packets;
  seed = run.seed;
}

-- inputs that a box can run on: 1 to 16 threads, and packets that a record can have
pub record CanLive (run : PlanRun) : Type 0 where
  pub some_threads : 1 ≤ run.threads
  pub few_threads : run.threads ≤ 16
  pub short : All IsShort run.packets

-- What was shown, but with these bytes under a name. The outputs of `live` beside its script are those that `run`
-- leaves where the script stands there.
abbrev pub holding : List ℕ → List ℕ → Shown → Shown
holding name bytes shown =
    record shown { names = λ other. if bytes_eq name other then Some bytes else shown.names other }
