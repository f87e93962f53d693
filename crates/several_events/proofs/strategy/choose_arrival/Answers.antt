use Rattle.std.proofs.Common.{◌≡◌, ap, sym, ◌∙◌}
use Rattle.recovery_world.specs.declared.event.Event.TheVariants as event
use Rattle.recovery_world.specs.Many.{arrival_of}
use Rattle.several_events.proofs.Choices.{next_arrival}
use Rattle.several_events.proofs.strategy.choose_arrival.Goals as goal
use Rattle.several_events.proofs.strategy.choose_arrival.Goals.{in-Log, in-Out}

pub returns-clause-next : goal.returns-clause-next
returns-clause-next g c =
    let is : c.match-kind.event ≡ arrival_of c.in_ok-kind.kind c.in_ok-kind.thread c.in_ok-kind.number =
    elim c.match-kind.branch [
      | in-Log w ↦
          w.event-is
          ∙ (ap (λ t. event.Log t c.in_ok-kind.number) w.from.ensures
          ∙ ap (λ k. arrival_of k c.in_ok-kind.thread c.in_ok-kind.number) (sym w.in-Log.is))
      | in-Out w ↦
          w.event-is
          ∙ (ap (λ t. event.Out t c.in_ok-kind.number) w.from-in-Out.ensures
          ∙ ap (λ k. arrival_of k c.in_ok-kind.thread c.in_ok-kind.number) (sym w.in-Out.is))
    ] in
    next_arrival (g.P.Program.meaning c.args.core.now.program) c.args.core.now c.args.kind c.args.thread c.args.arrived
    c.in_ok-kind.kind c.in_ok-kind.thread c.in_ok-kind.number c.match-kind.event is
    (λ s w st. c.in_ok-kind.ensures.some s w st)
