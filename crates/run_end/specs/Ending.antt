-- From where a run is finished, and that it was.
use Rattle.std.specs.Prelude.{◌≡◌, ℕ, true, List, [], ◌∷◌, take}
use Rattle.input_logger.specs.Inputs.{Fed}
use Rattle.entry_order.specs.Log.{Entry, IsIn}
use Rattle.plain_machine.specs.Line.{GoesBefore}
use Rattle.plain_machine.specs.declared.plain_move.PlainMove.{PlainMove}
use Rattle.plain_machine.specs.Program.{Meaning}
use Rattle.plain_machine.specs.History.{Step, log_of}
use Rattle.master_core.specs.Mastered.{Mastered}
use Rattle.recovery_world.specs.World.{Setting, World}
use Rattle.recovery_world.specs.Files.{moves_made}
use Rattle.recovery_world.specs.Finish.{IsToCome, IsLine, IsFinish}
use Rattle.recovery_laws.specs.Sound.{Sound}
use Rattle.run_end.specs.Playing.{IsMasterAfter, AreGreatest}

-- Oldest first: by weight, then thread.
abbrev pub AreInOrder : List Entry → List Entry → Type 0
AreInOrder log [] = Unit {0}
AreInOrder log (e ∷ later) = ((f : Entry) → IsIn f later → GoesBefore log e f) × AreInOrder log later

-- Followed entries in their order in the line: all that are still to come, and any that were made.
pub record IsOrder {V : Type 0} (s : Setting V) (w : World V) (order : List Entry) : Type 0 where
  pub followed : (e : Entry) → IsIn e order → IsIn e w.followed
  pub all : (e : Entry) → IsToCome w e → IsIn e order
  pub in_order : (line : List (Step V)) → IsLine s w line → AreInOrder (log_of line) order

-- What is at hand is that of a sound world whose master is up: the program, the inputs that were fed, the master with
-- the schedule of its moves, the followed entries in order, and the greatest released output of each thread.
pub record IsEndOf {V : Type 0} (m : Meaning V) (s : Setting V) (w : World V) (fed : Fed) (p : Mastered V)
    (schedule : List PlainMove) (order : List Entry) (numbers : List ℕ) : Type 0 where
  pub sound : Sound s w
  pub up : w.up ≡ true
  pub meaning : s.meaning ≡ m
  pub inputs : fed ≡ record { threads = s.threads; tags = s.tags; packets = take w.fed s.packets }
  pub master : IsMasterAfter s.meaning s.threads w.past p schedule
  pub in_order : IsOrder s w order
  pub released : AreGreatest w.released s.threads numbers

-- it is that of some world
abbrev pub IsEndOfSome : {V : Type 0} → Meaning V → Fed → Mastered V → List PlainMove → List Entry → List ℕ → Type 0
IsEndOfSome {V} m fed p schedule order numbers =
    (s : Setting V) × (w : World V) × IsEndOf m s w fed p schedule order numbers

-- These are the moves of the run in which the world ends.
pub record EndsIn {V : Type 0} (s : Setting V) (w : World V) (schedule : List PlainMove) : Type 0 where
  pub steps : List (Step V)
  pub finish : IsFinish s w steps
  pub schedule_is : schedule ≡ moves_made steps
