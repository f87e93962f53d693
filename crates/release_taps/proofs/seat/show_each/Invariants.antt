use Rattle.std.proofs.Common.{◌≡◌}
use Rattle.release_taps.specs.Seats.{labels_of}
use Rattle.release_taps.proofs.Showing.{AreShownTo}
use Rattle.release_taps.proofs.seat.show_each.Given as goal

abbrev pub invariant-loop-seat : goal.invariant-loop-seat
invariant-loop-seat g l =
    (labels_of g.T.Tap.label l.seats ≡ labels_of g.T.Tap.label l.initial.seats)
    × AreShownTo g.T.Tap.tells g.T.Tap.seen g.T.Tap.fault_count g.T.Tap.lack_count l.piece l.seat-index
    l.initial.seats l.seats
