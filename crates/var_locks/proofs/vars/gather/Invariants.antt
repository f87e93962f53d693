use Rattle.std.proofs.Common.{◌≡◌, List, ◌++◌, length, map, reverse, None}
use Rattle.var_locks.specs.Seats.{Seated}
use Rattle.var_locks.specs.Closing.{HasSeats, seat_part, seat_marks}
use Rattle.var_locks.proofs.vars.gather.Given as goal

-- the last seats came together
abbrev pub invariant-loop-seat : goal.invariant-loop-seat
invariant-loop-seat g l =
    (l.token.table_id ≡ l.shared.table_id) × (l.token.me.0.hand ≡ None) × ((done : List (Seated g.row.P-Value.Denot))
    × (l.fn.seats.items ≡ l.seats.items ++ done) × (l.parts.items ≡ reverse (map seat_part done))
    × (l.marks.items ≡ reverse (map seat_marks done)) × HasSeats l.token.me.0 done)

abbrev pub decreases-loop-seat : goal.decreases-loop-seat
decreases-loop-seat g l = length l.seats.items
