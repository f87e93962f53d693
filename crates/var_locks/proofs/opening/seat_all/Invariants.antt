use Rattle.std.proofs.Common.{◌≡◌, [], take, drop}
use Rattle.var_locks.specs.Openings.{rest_view, fresh_seats}
use Rattle.var_locks.proofs.opening.seat_all.Given as goal

abbrev pub invariant-loop-thread : goal.invariant-loop-thread
invariant-loop-thread g l =
    (l.token.table_id ≡ l.shared.table_id) × (l.token.me ≡ (rest_view l.thread (drop l.thread l.parts) l.places, []))
    × (l.seats.items ≡ fresh_seats l.shared.table_id l.places 0 (take l.thread l.parts))
