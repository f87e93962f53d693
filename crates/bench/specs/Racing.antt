-- What the threads of a round are run with, and what they leave.
use Rattle.std.specs.Prelude.{◌≡◌, Bool, false}
use Rattle.var_locks.specs.Rounds.{Opened}
use Rattle.var_locks.specs.Seats.{Seated, IsSeatOf}

-- The seat is of the round of these variables, and its thread did not end it.
pub record IsGoing {V : Type 0} (vars : Opened) (x : Seated V) : Type 0 where
  pub seat : IsSeatOf vars x
  pub going : x.ended ≡ false

-- It is of the same thread and of the same round, which it has ended or not.
pub record Stays {V : Type 0} (ended : Bool) (old new : Seated V) : Type 0 where
  pub thread : new.thread ≡ old.thread
  pub round_is : new.round ≡ old.round
  pub ended_is : new.ended ≡ ended
