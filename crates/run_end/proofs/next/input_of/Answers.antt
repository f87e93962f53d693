use Rattle.std.proofs.Common.{◌∙◌, arith}
use Rattle.run_end.proofs.InputLemmas.{input_some, input_none, few_taken}
use Rattle.run_end.proofs.next.input_of.Goals as goal

pub overflow_add-counts : goal.overflow_add-counts
overflow_add-counts g c =
    let k = few_taken c.args.master.now c.args.thread c.counts.result c.requires.room c.counts.ensures in
    omega (arith, k)

pub returns-in-Some : goal.returns-in-Some
returns-in-Some g c = λ m threads steps h stands low.
    c.input.ensures
    ∙ input_some m c.args.inputs.now threads steps c.args.master.now c.args.thread _ c.in_hand.result h stands low
    c.in-Some.is c.in_hand.ensures

pub returns-in-None : goal.returns-in-None
returns-in-None g c = λ m threads steps h stands low.
    c.input-in-None.ensures
    ∙ input_none m c.args.inputs.now threads steps c.args.master.now c.args.thread c.in_hand.result c.counts.result
    stands low c.in-None.is c.in_hand.ensures c.counts.ensures
