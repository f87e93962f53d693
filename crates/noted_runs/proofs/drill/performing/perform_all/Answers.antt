use Rattle.std.proofs.Common.{◌≡◌, ◌<◌, ap, sym, refl, ◌∙◌, arith, rules, length, take, drop, suc, Err}
use Rattle.noted_runs.proofs.DrillPerformed.{halted_longer, performed_all, performed_on, performed_same}
use Rattle.noted_runs.proofs.DrillPlaces.{same_item, split_here}
use Rattle.noted_runs.proofs.drill.performing.perform_all.Goals as goal

pub loop-event-preserved : goal.loop-event-preserved
loop-event-preserved g c =
    let inv = c.loop-event.invariant in
    let low : c.loop-event.event-index < length c.args.events.now = omega arith in
    record {
      runs = c.in_ok-replayed.ensures.runs;
      program = c.in_ok-replayed.ensures.program ∙ inv.program;
      on = λ s h.
          performed_on _ _ s c.args.events.now c.loop-event.event-index _ _ _ (ap g.P.Program.meaning inv.program) low
          (same_item c.args.events.now c.loop-event.event-index _ low)
          (c.in_ok-replayed.ensures.on s (take c.loop-event.event-index c.args.events.now) (performed_same _ _ s _ _ _
          c.loop-event.system (ap g.P.Program.meaning (sym inv.program)) refl (inv.on s h)));
    }

pub returns-in_err-replayed-clause-limit : goal.returns-in_err-replayed-clause-limit
returns-in_err-replayed-clause-limit g c s h limit e =
    let inv = c.loop-event.invariant in
    let low : c.loop-event.event-index < length c.args.events.now = omega arith in
    let made : c.from_residual.result ≡ Err c.in_err-replayed.field-0.0 = search rules in
    halted_longer s _ (drop (suc c.loop-event.event-index) c.args.events.now) c.args.events.now limit
    c.perform_next.new.system
    (split_here c.args.events.now c.loop-event.event-index _ low
    (same_item c.args.events.now c.loop-event.event-index _ low))
    (c.in_err-replayed.ensures.limit s (take c.loop-event.event-index c.args.events.now)
    (performed_same _ _ s _ _ _ c.loop-event.system (ap g.P.Program.meaning (sym inv.program)) refl (inv.on s h)) limit
    (sym made ∙ e))

pub returns-clause-on : goal.returns-clause-on
returns-clause-on g c s h =
    performed_all _ s c.args.events.now c.loop-event.event-index _ c.loop-event.system (omega arith)
    (c.loop-event.invariant.on s h)
