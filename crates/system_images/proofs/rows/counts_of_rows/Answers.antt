use Rattle.std.proofs.Common.{◌≤◌, ◌*◌, ap, sym, ◌∙◌, subst, arith}
use Rattle.recovery_world.specs.World.{Ended as EndedEpoch}
use Rattle.system_parts.specs.SystemStanding.{AreCounts}
use Rattle.system_images.specs.Judging.{HasRows}
use Rattle.system_images.proofs.RowsLemmas.{counted_all, counted_more}
use Rattle.system_images.proofs.rows.counts_of_rows.Goals as goal

pub loop-epoch-preserved : goal.loop-epoch-preserved
loop-epoch-preserved c =
    let at = ap (λ n. n * c.from-in-loop-epoch.result) c.from.ensures
    ∙ ap (λ n. c.loop-epoch.epoch * n) c.from-in-loop-epoch.ensures in
    counted_more c.args.threads c.args.many c.loop-epoch.epoch c.args.rows.now c.loop-epoch.ended.items
    c.push.new.self.items c.in_ok-counts.counts c.loop-epoch-test.true c.in_ok-push.ensures.items
    (subst (λ n. (x : EndedEpoch) → HasRows c.args.threads n c.args.rows.now x
    → AreCounts c.args.threads x c.in_ok-counts.counts) at c.in_ok-counts.ensures) c.loop-epoch.invariant

pub returns : goal.returns
returns c =
    let high = c.loop-epoch-test.false in
    let few = c.loop-epoch.auto.epoch-end in
    counted_all c.args.threads c.args.many c.loop-epoch.epoch c.args.rows.now c.loop-epoch.ended.items
    (omega (arith, high, few)) c.loop-epoch.invariant
