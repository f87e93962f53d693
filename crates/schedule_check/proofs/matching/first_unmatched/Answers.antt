use Rattle.std.proofs.Common.{arith}
use Rattle.schedule_check.proofs.FirstOnes.{none_left, one_taken, all_matched, within_left}
use Rattle.schedule_check.proofs.matching.first_unmatched.Goals as goal

pub returns-then-count-eq0 : goal.returns-then-count-eq0
returns-then-count-eq0 c =
    none_left c.args.unit c.args.released.now c.args.other_unit c.args.emissions.now c.loop-index.index
    c.index-released-index.result c.loop-index-test.true c.index-released-index.is c.content_of-content.result
    c.content_of-content.ensures c.loop-index.left c.loop-index.invariant c.count-count.result c.count-count.ensures
    c.if-count-eq0.true

pub loop-index-preserved : goal.loop-index-preserved
loop-index-preserved c =
    one_taken c.args.unit c.args.released.now c.args.other_unit c.args.emissions.now c.loop-index.index
    c.index-released-index.result c.loop-index-test.true c.index-released-index.is c.content_of-content.result
    c.content_of-content.ensures c.loop-index.left c.loop-index.invariant c.count-count.result c.count-count.ensures
    c.if-count-eq0.false c.set.new.self c.in_ok-set.ensures

pub returns : goal.returns
returns c =
    all_matched c.args.unit c.args.released.now c.args.other_unit c.args.emissions.now c.loop-index.index (omega arith)
    (within_left c.args.unit c.args.released.now c.args.other_unit c.args.emissions.now c.loop-index.index
    c.loop-index.left c.loop-index.invariant)
