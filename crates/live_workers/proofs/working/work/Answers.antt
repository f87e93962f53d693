use Rattle.std.proofs.Common.{◌≡◌, ◌≤◌, ℕ, length, Some, sym, ap, subst}
use Rattle.input_logger.specs.Inputs.{inputs_of}
use Rattle.live_workers.specs.Working.{Course, Given, HasCome, WhyEnded}
use Rattle.live_workers.proofs.WorkingLemmas.{begun, has_ended}
use Rattle.live_workers.proofs.working.work.Goals as goal

pub returns : goal.returns
returns g c =
    let m = g.P.Program.meaning c.args.around.now.program.now in
    let inputs = inputs_of c.args.around.now.inputs.now in
    let may = g.C.Clock.may c.args.around.now.clock.now in
    let V = g.row.P-Value.Denot in
    let given = c.args.worker in
    let is = c.worker.view_is in
    let start = begun m g.J.Round.guide inputs may given (record {
      seat = c.worker.inside.seat;
      moves = c.cleared.result;
      generator = c.worker.inside.generator;
    }) (ap (λ (w : Given V). w.seat) is) c.cleared.ensures (ap (λ (w : Given V). w.generator) is) c.requires.given.none in
    let now = c.in_ok-ran.ensures.come given start in
    let view = c.working.view_is in
    record {
      ended = has_ended m g.J.Round.guide inputs may c.args.most given c.worker.inside.limit (record {
        seat = c.working.inside.seat;
        moves = c.working.inside.moves;
        generator = c.working.inside.generator;
      }) c.end.new.seat (sym (ap (λ (w : Given V). w.limit) is)) c.end.ensures.ended
          (subst (λ (z : Course V). HasCome m g.J.Round.guide inputs may given z) (sym view) now)
          (subst (λ (z : Course V). (n : ℕ) → c.worker.inside.limit ≡ Some n → length z.moves ≤ n) (sym view)
          c.in_ok-ran.ensures.few)
          (subst (λ (z : Course V). WhyEnded m g.J.Round.guide inputs c.args.most c.worker.inside.limit z.seat
          (length z.moves)) (sym view) c.in_ok-ran.ensures.why);
    }
