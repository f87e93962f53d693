use Rattle.std.proofs.Common.{arith}
use Rattle.schedule_check.proofs.FirstOnes.{count_fits, count_more}
use Rattle.schedule_check.proofs.matching.count_emissions.Goals as goal

pub overflow_add-count : goal.overflow_add-count
overflow_add-count c =
    let fits = count_fits c.args.unit c.args.emissions.now c.loop-emission.emission-index c.emission-item.result
    c.loop-emission-test.true c.emission-item.is c.content_of-content.result c.content_of-content.ensures
    c.loop-emission.counts c.loop-emission.invariant c.count-count.result c.count-count.ensures in
    omega (arith, fits)

pub loop-emission-preserved : goal.loop-emission-preserved
loop-emission-preserved c =
    count_more c.args.unit c.args.emissions.now c.loop-emission.emission-index c.emission-item.result
    c.loop-emission-test.true c.emission-item.is c.content_of-content.result c.content_of-content.ensures
    c.loop-emission.counts c.loop-emission.invariant c.count-count.result c.count-count.ensures c.set.new.self
    c.in_ok-set.ensures
