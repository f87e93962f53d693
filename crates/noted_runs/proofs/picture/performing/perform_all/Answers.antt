use Rattle.std.proofs.Common.{◌≡◌, ◌<◌, ◌∙◌, ap, sym, refl, arith, rules, length, take, drop, suc, Err}
use Rattle.noted_runs.proofs.PicturePerformed.{halted_longer, noted_all, noted_on, noted_same, same_item, same_stop}
use Rattle.noted_runs.proofs.PicturePerformed.{split_here}
use Rattle.noted_runs.proofs.picture.performing.perform_all.Goals as goal

pub loop-event-preserved : goal.loop-event-preserved
loop-event-preserved g c =
    let inv = c.loop-event.invariant in
    let low : c.loop-event.event-index < length c.args.events.now = omega arith in
    record {
      runs = c.in_ok-perform_next.ensures.runs;
      program = c.in_ok-perform_next.ensures.program ∙ inv.program;
      on = λ s are h.
          noted_on _ _ s c.args.events.now c.loop-event.event-index _ _ c.perform_next.new.system
          (ap g.P.Program.meaning inv.program) low (same_item c.args.events.now c.loop-event.event-index _ low)
          (c.in_ok-perform_next.ensures.on s (take c.loop-event.event-index c.args.events.now) are
          (noted_same _ _ s _ _ _ c.loop-event.system (ap g.P.Program.meaning (sym inv.program)) refl
          (inv.on s are h)));
    }

pub returns-in_err-perform_next-clause-limit : goal.returns-in_err-perform_next-clause-limit
returns-in_err-perform_next-clause-limit g c s are h limit e =
    let inv = c.loop-event.invariant in
    let low : c.loop-event.event-index < length c.args.events.now = omega arith in
    let made : c.from_residual.result ≡ Err c.in_err-perform_next.field-0.0 = search rules in
    halted_longer s _ (drop (suc c.loop-event.event-index) c.args.events.now) c.args.events.now limit
    (split_here c.args.events.now c.loop-event.event-index _ low
    (same_item c.args.events.now c.loop-event.event-index _ low))
    (c.in_err-perform_next.ensures.limit s (take c.loop-event.event-index c.args.events.now)
    (noted_same _ _ s _ _ _ c.loop-event.system (ap g.P.Program.meaning (sym inv.program)) refl (inv.on s are h)) limit
    (same_stop c.from_residual.result c.in_err-perform_next.field-0.0 _ made e))

pub returns-clause-on : goal.returns-clause-on
returns-clause-on g c s are h =
    noted_all _ s c.args.events.now c.loop-event.event-index _ c.loop-event.system (omega arith)
    (c.loop-event.invariant.on s are h)
