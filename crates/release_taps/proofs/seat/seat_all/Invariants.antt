use Rattle.std.proofs.Common.{◌≡◌, map}
use Rattle.release_taps.specs.Seats.{seated}
use Rattle.release_taps.proofs.seat.seat_all.Given as goal

abbrev pub invariant-loop-tap : goal.invariant-loop-tap
invariant-loop-tap g l = l.seats.items ≡ map seated l.yielded
