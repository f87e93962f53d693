-- What the tests keep true of a master of one thread and of its snapshots.
use Rattle.std.specs.Prelude.{◌≡◌, ℕ, length}
use Rattle.plain_machine.specs.Program.{Meaning}
use Rattle.box_program.specs.Hands.{FitsProgram}
use Rattle.master_core.specs.Mastered.{Mastered, value_of}
use Rattle.snapshot_store.specs.Stored.{Snapshots}

pub record HasMaster {V : Type 0} (m : Meaning V) (fits : ℕ → V → Type 0) (p : Mastered V) : Type 0 where
  pub vars : FitsProgram m fits value_of p.vars
  pub one_thread : length p.threads ≡ 1

abbrev pub HasStored : {V : Type 0} → Meaning V → (ℕ → V → Type 0) → Snapshots V → Type 0
HasStored m fits store = HasMaster m fits store.stored.master
