-- What a snapshot store keeps, and what a snapshot is.
use Rattle.std.specs.Prelude.{◌≡◌, ℕ, List, Option, Some}
use Rattle.plain_machine.specs.Program.{Meaning}
use Rattle.plain_machine.specs.History.{Step}
use Rattle.plain_machine.specs.Agree.{IsEarlier}
use Rattle.master_core.specs.Mastered.{Mastered}
use Rattle.master_core.specs.MasterStanding.{Stands}

-- a master at one moment, and how many moves it had made
pub record Snapshot (V : Type 0) : Type 0 where
  pub master : Mastered V
  pub moves : ℕ

-- the stored snapshot, and the one that is under way to the store, if there is one
pub record Snapshots (V : Type 0) : Type 0 where
  pub stored : Snapshot V
  pub copy : Option (Snapshot V)

-- A snapshot of this master is under way. It has this number of moves. Where the stored snapshot stands for an earlier
-- moment of the master's history, it stands for that history.
pub record HasTaken {V : Type 0} (m : Meaning V) (stored : Snapshot V) (master : Mastered V) (moves : ℕ)
    (under_way : Option (Snapshot V)) : Type 0 where
  pub copy : Snapshot V
  pub is : under_way ≡ Some copy
  pub stands : (threads : ℕ) (earlier now : List (Step V)) → Stands m threads earlier stored.master
      → Stands m threads now master → IsEarlier earlier now → Stands m threads now copy.master
  pub threads_are : copy.master.threads ≡ master.threads
  pub moves_are : copy.moves ≡ moves
