use Rattle.std.proofs.Common.{[], ◌∷◌, map, length, arith}
use Rattle.frame_intake.specs.Orders.{orders_of}
use Rattle.live_workers.specs.Working.{Given}
use Rattle.live_workers.proofs.GatheringLemmas.{all_made, all_reversed, append_none, last_taken, limit_at}
use Rattle.live_workers.proofs.GatheringLemmas.{limits_before, none_missing, one_longer, put_last, same_left}
use Rattle.live_workers.proofs.gathering.workers_of.Goals as goal

pub loop-seat-init : goal.loop-seat-init
loop-seat-init g c = (
  c.requires.generators,
  (
    [],
    append_none c.args.seats.items,
    append_none c.args.generators.items,
    c.in_ok-workers.ensures.items,
    λ t d within. let no : ⊥ = omega (arith, within) in absurd no,
  ),
)

pub unreachable-requires : goal.unreachable-requires
unreachable-requires g c =
    none_missing _ _ _ _ _ c.loop-seat.invariant.0 c.loop-seat.generators.ok.0 c.in_default-pop.ensures.cases.0
    c.loop-seat.seats.ok.0 c.in-Some.ensures.cases

pub loop-seat-preserved : goal.loop-seat-preserved
loop-seat-preserved g c =
    let was = c.loop-seat.invariant in
    let done = was.1.0 in
    let w : Given g.row.P-Value.Denot = record {
      seat = c.in-Some.seat;
      generator = c.in-Some-pop.generator;
      limit = c.most_moves.result;
    } in
    let limits = (orders_of c.args.orders.now).moves in (
      same_left c.loop-seat.generators.items c.pop-in-Some.new.self.items w.generator c.loop-seat.seats.items
          c.pop.new.self.items w.seat was.0 c.in-Some-pop.ensures.items c.in-Some.ensures.items,
      (
        w ∷ done,
        last_taken c.args.seats.items c.loop-seat.seats.items c.pop.new.self.items (map (λ w. w.seat) done) w.seat
            was.1.1 c.in-Some.ensures.items,
        last_taken c.args.generators.items c.loop-seat.generators.items c.pop-in-Some.new.self.items
            (map (λ w. w.generator) done) w.generator was.1.2 c.in-Some-pop.ensures.items,
        put_last w done c.loop-seat.workers.items c.push.new.self.items was.1.3 c.in_ok-push.ensures.items,
        limits_before limits (length c.loop-seat.seats.items) (length c.pop.new.self.items) w done
            (one_longer c.loop-seat.seats.items c.pop.new.self.items w.seat c.in-Some.ensures.items)
            (limit_at limits w.limit c.in-Ok.thread c.len-in-Some.result c.pop.new.self.len
            (length c.pop.new.self.items) c.in-Ok.ensures.1 c.len-in-Some.ensures c.pop.new.self.ok.0
            c.most_moves.ensures) was.1.4,
      ),
    )

pub returns : goal.returns
returns g c =
    let was = c.loop-seat.invariant in
    let limits = (orders_of c.args.orders.now).moves in
    all_reversed c.args.seats.items c.args.generators.items limits was.1.0 c.loop-seat.workers.items
    c.reverse.new.self.items was.1.3 c.reverse.ensures.items
    (all_made c.args.seats.items c.args.generators.items limits c.loop-seat.seats.items
    c.loop-seat.generators.items was.1.0 c.loop-seat.seats.len c.loop-seat.seats.ok.0
    c.in_default.ensures.cases.0 was.0 was.1.1 was.1.2 was.1.4)
