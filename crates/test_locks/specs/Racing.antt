-- What a test keeps of a seat.
use Rattle.std.specs.Prelude.{◌≡◌, ℕ, Bool}
use Rattle.atomic_table.specs.Seated.{TableId}
use Rattle.var_locks.specs.Seats.{Seated}

-- the seat of this thread, in this round, which has ended it or not
pub record IsSeatIn {V : Type 0} (round : TableId) (t : ℕ) (ended : Bool) (x : Seated V) : Type 0 where
  pub thread : x.thread ≡ t
  pub round_is : x.round ≡ round
  pub ended_is : x.ended ≡ ended
