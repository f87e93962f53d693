use Rattle.std.proofs.Common.{◌≡◌, List, Ok, ◌++◌, length, map, reverse}
use Rattle.live_workers.specs.Working.{Course}
use Rattle.live_workers.specs.Racing.{seat_of, moves_of, generator_of}
use Rattle.live_workers.proofs.gathering.part_all.Given as goal

-- the last ones were taken apart
abbrev pub invariant-loop-one : goal.invariant-loop-one
invariant-loop-one g l =
    (done : List (Course g.row.P-Value.Denot))
    × (l.fn.ended.items ≡ l.ended.items ++ map Ok done)
    × (l.left.seats.items ≡ reverse (map seat_of done))
    × (l.left.moves.items ≡ reverse (map moves_of done))
    × (l.left.generators.items ≡ reverse (map generator_of done))

abbrev pub decreases-loop-one : goal.decreases-loop-one
decreases-loop-one g l = length l.ended.items
