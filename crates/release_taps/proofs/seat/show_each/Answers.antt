use Rattle.std.proofs.Common.{◌≡◌, ◌≤◌, ◌<◌, ◌∙◌, length, get_or, ap, arith}
use Rattle.std.proofs.lemmas.Option.{slice_get-get_or}
use Rattle.release_taps.proofs.Showing.{labels-set, shown-next, shown-all}
use Rattle.release_taps.proofs.seat.show_each.Goals as goal

pub loop-seat-preserved : goal.loop-seat-preserved
loop-seat-preserved g c =
    let below = c.loop-seat-test.true in
    let same = c.loop-seat.auto.seats in
    let within : c.loop-seat.seat-index < length c.loop-seat.seats = omega (arith, below, same) in
    let was = get_or c.loop-seat.seats c.loop-seat.seat-index c.seat-item.result in
    let here = slice_get-get_or c.loop-seat.seats c.loop-seat.seat-index c.seat-item.result within in (
      labels-set g.T.Tap.label c.loop-seat.seats c.loop-seat.seat-index was c.show.new.self here
          c.show.ensures.same_label
          ∙ c.loop-seat.invariant.0,
      shown-next _ _ _ _ _ c.loop-seat.seat-index c.args.seats.now c.loop-seat.seats was c.show.new.self
          c.loop-seat.invariant.1 here c.show.ensures.shown,
    )

pub returns-clause-shown : goal.returns-clause-shown
returns-clause-shown g c =
    let past = c.loop-seat-test.false in
    let same = c.loop-seat.auto.seats in
    let all : length c.loop-seat.seats ≤ c.loop-seat.seat-index = omega (arith, past, same) in
    shown-all _ _ _ _ _ c.loop-seat.seat-index c.args.seats.now c.loop-seat.seats all c.loop-seat.invariant.1
