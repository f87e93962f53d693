use Rattle.std.proofs.Common.{[], ◌∷◌, Ok, map, ap}
use Rattle.live_workers.specs.Working.{Course}
use Rattle.live_workers.specs.Racing.{seat_of, moves_of, generator_of}
use Rattle.live_workers.proofs.GatheringLemmas.{append_none, last_taken_as, put_behind}
use Rattle.live_workers.proofs.gathering.part_all.Goals as goal

pub loop-one-init : goal.loop-one-init
loop-one-init g c = (
  [],
  append_none c.args.ended.items,
  c.in_ok-with_capacity.ensures.items,
  c.in_ok-with_capacity-2.ensures.items,
  c.in_ok-with_capacity-3.ensures.items,
)

pub loop-one-preserved : goal.loop-one-preserved
loop-one-preserved g c =
    let w : Course g.row.P-Value.Denot = c.in_ok-seat.field-0 in
    let done = c.loop-one.invariant.0 in
    let view = c.seat.view_is in
    let now = c.pop.new.self.items in (
      w ∷ done,
      last_taken_as c.args.ended.items c.loop-one.ended.items now (map Ok done) c.in-Some.one (Ok w)
          c.in_ok-seat.was c.loop-one.invariant.1 c.in-Some.ensures.items,
      put_behind seat_of w done c.loop-one.left.seats.items c.push.new.self.items c.seat.inside.seat
          (ap seat_of view) c.loop-one.invariant.2 c.in_ok-push.ensures.items,
      put_behind moves_of w done c.loop-one.left.moves.items c.push-in-Some.new.self.items c.seat.inside.moves
          (ap moves_of view) c.loop-one.invariant.3 c.in_ok-push-2.ensures.items,
      put_behind generator_of w done c.loop-one.left.generators.items c.push-in-Some-2.new.self.items
          c.seat.inside.generator (ap generator_of view) c.loop-one.invariant.4 c.in_ok-push-3.ensures.items,
    )
