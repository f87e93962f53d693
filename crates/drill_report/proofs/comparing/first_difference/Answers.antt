use Rattle.std.proofs.Common.{arith, ◌≡◌, rules}
use Rattle.drill_report.proofs.Differences.{longer, more, unlike}
use Rattle.drill_report.proofs.comparing.first_difference.Goals as goal

pub loop-place-preserved : goal.loop-place-preserved
loop-place-preserved c =
    let alike : c.index-outputs-place.result.packet ≡ c.index-others-place.result.packet = search rules in
    record {
      same = more c.args.outputs.now c.args.others.now c.loop-place.place c.index-outputs-place.result
          c.index-others-place.result c.loop-place-test.true c.if-place-others.false c.index-outputs-place.is
          c.index-others-place.is alike c.loop-place.invariant.same;
      within = let below = c.if-place-others.false in omega (arith, below);
    }

pub returns-then-not-are_same : goal.returns-then-not-are_same
returns-then-not-are_same c =
    let apart : ¬ (c.index-outputs-place.result.packet ≡ c.index-others-place.result.packet) = search rules in
    unlike c.args.outputs.now c.args.others.now c.loop-place.place c.index-outputs-place.result
    c.index-others-place.result c.loop-place-test.true c.if-place-others.false c.index-outputs-place.is
    c.index-others-place.is apart c.loop-place.invariant.same

pub returns-then-outputs-others : goal.returns-then-outputs-others
returns-then-outputs-others c =
    longer c.args.outputs.now c.args.others.now c.loop-place.place c.loop-place-test.false c.loop-place.auto.place-end
    c.if-outputs-others.true c.loop-place.invariant.same
