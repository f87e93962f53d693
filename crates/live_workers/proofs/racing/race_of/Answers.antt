use Rattle.std.proofs.Common.{◌≡◌, List, length, map, sym, ap, ◌∙◌, subst}
use Rattle.input_logger.specs.Inputs.{inputs_of}
use Rattle.var_locks.specs.Seats.{Seated}
use Rattle.var_locks.specs.Closing.{AreSeats, IsClosed, seat_marks}
use Rattle.live_workers.proofs.EndedWorkers.{map_count, ended_count, ended_from}
use Rattle.live_workers.proofs.RaceLemmas.{fresh_count, workers_count, workers_parts, is_given, closed_seats}
use Rattle.live_workers.proofs.racing.race_of.Goals as goal

pub workers_of-requires-clause-generators : goal.workers_of-requires-clause-generators
workers_of-requires-clause-generators g c κs within =
    ap length (c.into_vec.ensures ∙ c.take_rooms-rooms.ensures) ∙ c.requires.draws ∙ ap length c.requires.threads
    ∙ sym (fresh_count g.row.P-Value.Denot c.in_ok-vars.vars.round g.J.Round.places 0 g.J.Round.threads)
    ∙ sym (ap length c.in_ok-vars.ensures.seats)

pub run_all-requires-clause-given : goal.run_all-requires-clause-given
run_all-requires-clause-given g c κs within = λ k d low.
    let all = c.in_ok-vars.ensures.vars.threads_are ∙ ap length c.in_ok-vars.ensures.threads in
    is_given c.in_ok-vars.vars (inputs_of c.args.inputs.now) c.args.most c.args.master g.J.Round.places
    g.J.Round.threads c.in_ok-vars.seats.items c.into_vec.result.items _ c.in_ok-workers.workers.items
    c.in_ok-vars.ensures.seats c.requires.threads all c.requires.ready c.in_ok-workers.ensures k d low

pub close-requires-clause-count : goal.close-requires-clause-count
close-requires-clause-count g c κs within =
    let k = c.in_ok-left.ensures in
    let m = g.P.Program.meaning c.args.program.now in
    let inputs = inputs_of c.args.inputs.now in
    let may = g.C.Clock.may c.args.clock.now in
    let ended = ended_from m g.J.Round.guide inputs may c.args.most c.in_ok-workers.workers.items
    c.in_ok-ended.ended.items k.0 k.1 c.in_ok-ended.ensures in
    let all = c.in_ok-vars.ensures.vars.threads_are ∙ ap length c.in_ok-vars.ensures.threads in
    ap length k.2.seats_are ∙ map_count _ k.0
    ∙ ended_count m g.J.Round.guide inputs may c.args.most c.in_ok-workers.workers.items k.0 ended
    ∙ workers_count c.in_ok-vars.vars inputs c.args.most c.args.master g.J.Round.places g.J.Round.threads
    c.in_ok-vars.seats.items c.into_vec.result.items _ c.in_ok-workers.workers.items c.in_ok-vars.ensures.seats
    c.requires.threads all c.requires.ready c.in_ok-workers.ensures ∙ sym all

pub close-requires-clause-seats : goal.close-requires-clause-seats
close-requires-clause-seats g c κs within =
    let k = c.in_ok-left.ensures in
    let m = g.P.Program.meaning c.args.program.now in
    let inputs = inputs_of c.args.inputs.now in
    let may = g.C.Clock.may c.args.clock.now in
    let ended = ended_from m g.J.Round.guide inputs may c.args.most c.in_ok-workers.workers.items
    c.in_ok-ended.ended.items k.0 k.1 c.in_ok-ended.ensures in
    subst (λ (l : List (Seated g.row.P-Value.Denot)). AreSeats c.in_ok-vars.vars.round 0 l) (sym k.2.seats_are)
    (closed_seats m g.J.Round.guide inputs may c.args.most c.in_ok-vars.vars.round g.J.Round.places 0
    g.J.Round.threads c.in_ok-workers.workers.items k.0
    (c.in_ok-workers.ensures.seats_are ∙ c.in_ok-vars.ensures.seats) ended)

pub returns : goal.returns
returns g c =
    let m = g.P.Program.meaning c.args.program.now in
    let inputs = inputs_of c.args.inputs.now in
    let may = g.C.Clock.may c.args.clock.now in
    let k = c.in_ok-left.ensures in
    let ended = ended_from m g.J.Round.guide inputs may c.args.most c.in_ok-workers.workers.items
    c.in_ok-ended.ended.items k.0 k.1 c.in_ok-ended.ensures in
    let all = c.in_ok-vars.ensures.vars.threads_are ∙ ap length c.in_ok-vars.ensures.threads in
    record {
      round = c.in_ok-vars.vars.round;
      workers = c.in_ok-workers.workers.items;
      courses = k.0;
      parts = workers_parts c.in_ok-vars.vars inputs c.args.most c.args.master g.J.Round.places g.J.Round.threads
          c.in_ok-vars.seats.items c.into_vec.result.items _ c.in_ok-workers.workers.items
          c.in_ok-vars.ensures.seats c.requires.threads all c.requires.ready c.in_ok-workers.ensures;
      begin = c.in_ok-workers.ensures.generators_are ∙ (c.into_vec.ensures ∙ c.take_rooms-rooms.ensures);
      limits_are = c.in_ok-workers.ensures.limits_are;
      ended = ended;
      closed = subst (λ (l : List (Seated g.row.P-Value.Denot)).
          IsClosed m (g.P.Program.fits c.args.program.now) g.J.Round.guide c.args.master l
          c.in_ok-closed.closed.master) k.2.seats_are
          (c.in_ok-closed.ensures.closed c.args.master c.requires.master c.requires.threads);
      seats_are = closed_seats m g.J.Round.guide inputs may c.args.most c.in_ok-vars.vars.round g.J.Round.places 0
          g.J.Round.threads c.in_ok-workers.workers.items k.0
          (c.in_ok-workers.ensures.seats_are ∙ c.in_ok-vars.ensures.seats) ended;
      marks_are = c.in_ok-closed.ensures.marks ∙ ap (map seat_marks) k.2.seats_are;
      moves_are = k.2.moves_are;
      after_are = k.2.generators_are;
    }
