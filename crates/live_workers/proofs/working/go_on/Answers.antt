use Rattle.std.proofs.Common.{◌≡◌, false, sym, subst}
use Rattle.input_logger.specs.Inputs.{inputs_of}
use Rattle.live_workers.specs.Moving.{HasInput}
use Rattle.live_workers.specs.Working.{Course}
use Rattle.live_workers.proofs.WorkingLemmas.{made_more, go_more}
use Rattle.live_workers.proofs.working.go_on.Goals as goal

pub returns-in_ok-keep-in-Took : goal.returns-in_ok-keep-in-Took
returns-in_ok-keep-in-Took g c =
    let m = g.P.Program.meaning c.args.around.now.program.now in
    let inputs = inputs_of c.args.around.now.inputs.now in
    let may = g.C.Clock.may c.args.around.now.clock.now in
    let more = made_more m g.J.Round.guide (inputs c.working.inside.seat.thread) may c.working.inside.seat
    c.working.inside.generator c.make_next-stepped.new.seat c.make_next-stepped.new.generator
    c.make_next-stepped.result c.in-Took.is c.make_next-stepped.ensures.comes in
    let k = go_more m g.J.Round.guide inputs may c.args.working.now (record {
      seat = c.working.inside.seat;
      moves = c.working.inside.moves;
      generator = c.working.inside.generator;
    }) c.keep.new.self c.working.view_is
    (subst (λ (z : Course g.row.P-Value.Denot). z.seat.ended ≡ false) (sym c.working.view_is) c.requires.going)
    c.make_next-stepped.result c.thread-thread.result c.make_next-stepped.new.seat c.make_next-stepped.new.generator
    more c.thread-thread.ensures c.keep.ensures.seat c.keep.ensures.generator c.in_ok-keep-in-Took.ensures.moves
    (subst (λ (z : Course g.row.P-Value.Denot). HasInput (inputs z.seat.thread) z.seat.part) (sym c.working.view_is)
    c.requires.input) in
    record { goes = k.goes; come = k.come; made = k.made }
