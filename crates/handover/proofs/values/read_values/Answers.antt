use Rattle.std.proofs.Common.{rules, ◌≡◌, length, slice_set, take, arith}
use Rattle.std.proofs.lemmas.Grind.{common_steps}
use Rattle.handover.proofs.ValuesRead.{missing, one_more}
use Rattle.handover.proofs.values.read_values.Goals as goal

pub returns-in_default-clause-fault : goal.returns-in_default-clause-fault
returns-in_default-clause-fault c =
    missing (take c.loop-index.index c.loop-index.values) c.args.parts.now c.loop-index.index c.loop-index.words _
    c.loop-index-test.true c.in_default.ensures.steps.0 c.loop-index.invariant.comes

pub loop-index-preserved : goal.loop-index-preserved
loop-index-preserved c =
    let six : length (slice_set c.loop-index.values c.loop-index.index c.in_ok-values.field-0) ≡ 6 =
    grind (arith, common_steps) in
    record {
      six = six;
      comes = one_more c.loop-index.values c.args.parts.now c.loop-index.index c.in_ok-values.field-0 c.in-Some.word.now
          c.loop-index.words c.next.new.self _ c.loop-index-test.true (omega arith) (search rules) (search rules)
          c.loop-index.invariant.comes;
    }
