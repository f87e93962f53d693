use Rattle.std.proofs.Common.{◌≡◌, List, ◌++◌, length, map, reverse}
use Rattle.frame_intake.specs.Orders.{orders_of}
use Rattle.live_workers.specs.Working.{Given}
use Rattle.live_workers.proofs.GatheringLemmas.{AreLimitsFrom}
use Rattle.live_workers.proofs.gathering.workers_of.Given as goal

-- the last workers were made
abbrev pub invariant-loop-seat : goal.invariant-loop-seat
invariant-loop-seat g l =
    (length l.generators.items ≡ length l.seats.items)
    × ((done : List (Given g.row.P-Value.Denot))
    × (l.fn.seats.items ≡ l.seats.items ++ map (λ w. w.seat) done)
    × (l.fn.generators.items ≡ l.generators.items ++ map (λ w. w.generator) done)
    × (l.workers.items ≡ reverse done)
    × AreLimitsFrom (orders_of l.fn.orders).moves (length l.seats.items) done)

abbrev pub decreases-loop-seat : goal.decreases-loop-seat
decreases-loop-seat g l = length l.seats.items
