use Rattle.std.proofs.Common.{◌≡◌, ◌<◌, ◌+◌, ap, sym, refl, ◌∙◌, arith, rules, length, take, drop, suc, ℕ, Err}
use Rattle.std.proofs.lemmas.List.{length-take-le}
use Rattle.noted_runs.proofs.TracePerformed.{gone_all, gone_on, gone_same, halted_longer, same_item, same_stop}
use Rattle.noted_runs.proofs.TracePerformed.{somewhere_same, split_here}
use Rattle.noted_runs.proofs.trace.performing.perform_all.Goals as goal

pub loop-index-preserved : goal.loop-index-preserved
loop-index-preserved g c =
    let inv = c.loop-index.invariant in
    let low : c.loop-index.index < length c.args.events.now = omega arith in
    let same = ap g.P.Program.meaning inv.program in
    record {
      runs = c.in_ok-perform_next.ensures.runs;
      program = c.in_ok-perform_next.ensures.program ∙ inv.program;
      somewhere = λ threads h. somewhere_same threads _ _ c.perform_next.new.system same
          (c.in_ok-perform_next.ensures.somewhere threads
          (somewhere_same threads _ _ c.loop-index.system (sym same) (inv.somewhere threads h)));
      on = λ s h.
          gone_on _ _ s c.args.events.now c.loop-index.index _ _ c.perform_next.new.system same low
          (same_item c.args.events.now c.loop-index.index _ low)
          (c.in_ok-perform_next.ensures.on s (take c.loop-index.index c.args.events.now)
          (ap (λ (n : ℕ). n + 1) (length-take-le c.loop-index.index c.args.events.now (omega (arith, low))))
          (gone_same _ _ s _ _ _ c.loop-index.system (sym same) refl (inv.on s h)));
    }

pub returns-in_err-perform_next-clause-limit : goal.returns-in_err-perform_next-clause-limit
returns-in_err-perform_next-clause-limit g c s h limit e =
    let inv = c.loop-index.invariant in
    let low : c.loop-index.index < length c.args.events.now = omega arith in
    let made : c.from_residual.result ≡ Err c.in_err-perform_next.field-0.0 = search rules in
    halted_longer s _ (drop (suc c.loop-index.index) c.args.events.now) c.args.events.now limit
    (split_here c.args.events.now c.loop-index.index _ low
    (same_item c.args.events.now c.loop-index.index _ low))
    (c.in_err-perform_next.ensures.limit s (take c.loop-index.index c.args.events.now)
    (gone_same _ _ s _ _ _ c.loop-index.system (ap g.P.Program.meaning (sym inv.program)) refl (inv.on s h)) limit
    (same_stop c.from_residual.result c.in_err-perform_next.field-0.0 _ made e))

pub returns-clause-on : goal.returns-clause-on
returns-clause-on g c s h =
    gone_all _ s c.args.events.now c.loop-index.index _ c.loop-index.system (omega arith)
    (c.loop-index.invariant.on s h)
