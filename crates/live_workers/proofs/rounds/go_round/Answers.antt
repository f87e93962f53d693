use Rattle.std.proofs.Common.{◌≡◌, ◌+◌, ◌-◌, ◌≤◌, ℕ, List, map, refl, sym, ap, ◌∙◌, subst, arith, true, Option}
use Rattle.plain_text.specs.declared.limit.TheConstants.{MOST_MOVES}
use Rattle.input_logger.specs.Inputs.{Fed, inputs_of}
use Rattle.access_log.specs.Held.{Lane}
use Rattle.rand_pcg.specs.Lcg.{Lcg}
use Rattle.recovery_world.specs.Many.{Message}
use Rattle.frame_intake.specs.Orders.{AreSome, Arrive, orders_of}
use Rattle.live_workers.specs.Frames.{frames_noted}
use Rattle.round_join.specs.Racing.{Raced}
use Rattle.live_workers.specs.Racing.{AreReadyFor, seat_of}
use Rattle.live_workers.specs.Rounds.{RoundsRest}
use Rattle.live_workers.proofs.ReadyThreads.{are_ready}
use Rattle.live_workers.proofs.Rounding.{race_with, raced, rounds}
use Rattle.live_workers.proofs.rounds.go_round.Goals as goal

pub run_race-requires-clause-ready : goal.run_race-requires-clause-ready
run_race-requires-clause-ready g c κs within =
    let k = c.requires.some in
    let all : c.args.rest.now.moves + (c.from.result - c.moves.result + 1) ≡ MOST_MOVES + 1 =
    let a = c.moves.ensures in
    let b = c.from.ensures in
    let few = c.has_parts.ensures.moves in
    omega (arith, a, b, few) in
    subst (λ (f : Fed).
    AreReadyFor (c.from.result - c.moves.result + 1) (inputs_of f) c.args.master) (sym c.inputs-inputs.ensures)
    (are_ready (g.P.Program.meaning c.args.rest.now.program) k.0 k.1 c.args.rest.now c.args.master
    (c.from.result - c.moves.result + 1) k.2 k.3 all)

pub note_moves-requires-clause-raced : goal.note_moves-requires-clause-raced
note_moves-requires-clause-raced g c κs within =
    let k = c.requires.some in
    let up = sym k.2.moved.up ∙ c.requires.up in
    let race = race_with g.P.Program.meaning g.P.Program.fits c.program-program.result.now c.args.rest.now.program
    c.guide-guide.result.now c.args.rest.now.guide c.inputs-inputs.result.now c.args.rest.now.inputs
    (g.C.Clock.may c.args.clock.now) (c.from.result - c.moves.result + 1) (orders_of c.args.orders.now).moves
    c.args.master c.args.draws c.in_ok-master.field-0.master c.in_ok-master.field-0.marks.items
    c.in_ok-master.field-0.moves.items c.in_ok-master.field-0.generators.items c.program-program.ensures
    c.guide-guide.ensures c.inputs-inputs.ensures
    c.in_ok-master.ensures in
    let r = raced (g.P.Program.meaning c.args.rest.now.program) (g.P.Program.fits c.args.rest.now.program) k.0 k.1
    c.args.rest.now (g.C.Clock.may c.args.clock.now) (c.from.result - c.moves.result + 1)
    (orders_of c.args.orders.now).moves c.args.master c.args.draws c.in_ok-master.field-0.master
    c.in_ok-master.field-0.marks.items c.in_ok-master.field-0.moves.items c.in_ok-master.field-0.generators.items race
    k.2 up k.3 in
    record {
      s = k.0;
      w = k.1;
      p = c.args.master;
      round = race.round;
      seats = map seat_of race.courses;
      q = c.in_ok-master.field-0.master;
      raced = subst (λ (l : List (List (Option ℕ))).
          Raced (g.P.Program.meaning c.args.rest.now.program) (g.P.Program.fits c.args.rest.now.program) k.0 k.1
          c.args.master race.round (map seat_of race.courses) c.in_ok-master.field-0.master l
          c.in_ok-master.field-0.moves.items c.args.rest.now) (sym c.deref.ensures.value) r;
    }

pub returns-in-Err-clause-stops : goal.returns-in-Err-clause-stops
returns-in-Err-clause-stops g c = λ s w rests stands.
    let up = sym rests.moved.up ∙ c.requires.up in
    let race = race_with g.P.Program.meaning g.P.Program.fits c.program-program.result.now c.args.rest.now.program
    c.guide-guide.result.now c.args.rest.now.guide c.inputs-inputs.result.now c.args.rest.now.inputs
    (g.C.Clock.may c.args.clock.now) (c.from.result - c.moves.result + 1) (orders_of c.args.orders.now).moves
    c.args.master c.args.draws c.in_ok-master.field-0.master c.in_ok-master.field-0.marks.items
    c.in_ok-master.field-0.moves.items c.in_ok-master.field-0.generators.items c.program-program.ensures
    c.guide-guide.ensures c.inputs-inputs.ensures
    c.in_ok-master.ensures in
    let r = raced (g.P.Program.meaning c.args.rest.now.program) (g.P.Program.fits c.args.rest.now.program) s w
    c.args.rest.now (g.C.Clock.may c.args.clock.now) (c.from.result - c.moves.result + 1)
    (orders_of c.args.orders.now).moves c.args.master c.args.draws c.in_ok-master.field-0.master
    c.in_ok-master.field-0.marks.items c.in_ok-master.field-0.moves.items c.in_ok-master.field-0.generators.items race
    rests up stands in
    c.in-Err.ensures.stops s w c.args.master race.round (map seat_of race.courses) c.in_ok-master.field-0.master
    (subst (λ (l : List (List (Option ℕ))).
    Raced (g.P.Program.meaning c.args.rest.now.program) (g.P.Program.fits c.args.rest.now.program) s w c.args.master
    race.round (map seat_of race.courses) c.in_ok-master.field-0.master l c.in_ok-master.field-0.moves.items
    c.args.rest.now) (sym c.deref.ensures.value) r)

pub returns-clause-on : goal.returns-clause-on
returns-clause-on g c = λ s w rests stands.
    let up = sym rests.moved.up ∙ c.requires.up in
    let race = race_with g.P.Program.meaning g.P.Program.fits c.program-program.result.now c.args.rest.now.program
    c.guide-guide.result.now c.args.rest.now.guide c.inputs-inputs.result.now c.args.rest.now.inputs
    (g.C.Clock.may c.args.clock.now) (c.from.result - c.moves.result + 1) (orders_of c.args.orders.now).moves
    c.args.master c.args.draws c.in_ok-master.field-0.master c.in_ok-master.field-0.marks.items
    c.in_ok-master.field-0.moves.items c.in_ok-master.field-0.generators.items c.program-program.ensures
    c.guide-guide.ensures c.inputs-inputs.ensures
    c.in_ok-master.ensures in
    let r = raced (g.P.Program.meaning c.args.rest.now.program) (g.P.Program.fits c.args.rest.now.program) s w
    c.args.rest.now (g.C.Clock.may c.args.clock.now) (c.from.result - c.moves.result + 1)
    (orders_of c.args.orders.now).moves c.args.master c.args.draws c.in_ok-master.field-0.master
    c.in_ok-master.field-0.marks.items c.in_ok-master.field-0.moves.items c.in_ok-master.field-0.generators.items race
    rests up stands in
    let came = c.in-Ok.ensures.came s w c.args.master race.round (map seat_of race.courses)
    c.in_ok-master.field-0.master
    (subst (λ (l : List (List (Option ℕ))).
    Raced (g.P.Program.meaning c.args.rest.now.program) (g.P.Program.fits c.args.rest.now.program) s w c.args.master
    race.round (map seat_of race.courses) c.in_ok-master.field-0.master l c.in_ok-master.field-0.moves.items
    c.args.rest.now) (sym c.deref.ensures.value) r) in
    let all : c.args.rest.now.moves + (c.from.result - c.moves.result + 1) ≡ MOST_MOVES + 1 =
    let a = c.moves.ensures in
    let b = c.from.ensures in
    let few = c.has_parts.ensures.moves in
    omega (arith, a, b, few) in
    let sent = c.deref-3.ensures.value ∙ c.in_ok-frames.ensures ∙ ap frames_noted c.deref-2.ensures.value in
    subst (λ (l : List Lcg). RoundsRest (g.P.Program.meaning c.args.rest.now.program) s w
    (orders_of c.args.orders.now) (g.C.Clock.may c.args.clock.now) c.args.rest.now.guide c.args.draws
    c.in-Ok.steps.items c.in_ok-arriving.arriving.items l c.in_ok-master.field-0.master c.note_moves.new.rest)
    (sym c.of.ensures)
    (rounds (g.P.Program.meaning c.args.rest.now.program) (g.P.Program.fits c.args.rest.now.program) s w
    c.args.rest.now (g.C.Clock.may c.args.clock.now) (c.from.result - c.moves.result + 1)
    (orders_of c.args.orders.now).moves c.args.master c.args.draws c.in_ok-master.field-0.master
    c.in_ok-master.field-0.marks.items c.in_ok-master.field-0.moves.items c.in_ok-master.field-0.generators.items race
    rests up stands c.in-Ok.steps.items c.note_moves.new.rest came
    c.has_parts-2.ensures.moves all (orders_of c.args.orders.now) (λ t. refl) c.in_ok-arriving.arriving.items
    (subst (λ (l : List Message). Arrive (orders_of c.args.orders.now) l c.in_ok-arriving.arriving.items) sent
    c.in_ok-arriving.ensures.arrive)
    (subst (λ (l : List Message). AreSome l c.in_ok-arriving.arriving.items) sent c.in_ok-arriving.ensures.in_order))
