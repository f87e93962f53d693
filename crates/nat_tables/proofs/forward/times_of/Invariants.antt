use Rattle.std.proofs.Common.{◌≡◌, ℕ, ◌<◌, length}
use Rattle.nat_tables.specs.Rows.{row_at}
use Rattle.nat_tables.specs.Times.{time_at}
use Rattle.nat_tables.specs.Idling.{IsLiveUntil}
use Rattle.nat_tables.proofs.forward.times_of.Given as goal

-- the rows so far have their times
abbrev pub invariant-loop-at : goal.invariant-loop-at
invariant-loop-at l =
    (length l.times ≡ l.count) × ((k : ℕ) → k < l.at → IsLiveUntil (time_at l.times k) (row_at l.slots k))
