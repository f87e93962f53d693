use Rattle.std.proofs.Common.{sym, subst}
use Rattle.input_logger.specs.Inputs.{inputs_of}
use Rattle.live_workers.specs.Moving.{ComesTo}
use Rattle.live_workers.proofs.MovingLemmas.{touch_comes}
use Rattle.live_workers.proofs.moving.touch_next.Goals as goal

pub returns : goal.returns
returns g c = record {
  comes = subst
      (λ r. ComesTo (g.P.Program.meaning c.args.around.now.program.now) g.J.Round.guide
      (inputs_of c.args.around.now.inputs.now c.args.seat.now.thread) (g.C.Clock.may c.args.around.now.clock.now)
      c.args.seat.now c.args.generator.now c.touch.new.seat c.args.generator.now r) (sym c.stepped_by.ensures)
      (touch_comes (g.P.Program.meaning c.args.around.now.program.now) g.J.Round.guide
      (inputs_of c.args.around.now.inputs.now c.args.seat.now.thread) (g.C.Clock.may c.args.around.now.clock.now)
      c.args.seat.now c.args.generator.now c.touch.new.seat c.touch.result c.touch.ensures.touches);
}
