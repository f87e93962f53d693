use Rattle.std.proofs.Common.{◌≡◌, ◌∙◌, refl, ap, arith}
use Rattle.several_events.proofs.ChoosingLemmas.{counted_none, counted_next, counted_whole}
use Rattle.several_events.proofs.choosing.counts_of_all.Goals as goal

pub threads-init : goal.threads-init
threads-init g c = record {
  end = c.threads-thread-end.ensures.value ∙ ap (λ y. y.inputs.threads) c.core.view_is;
  counted = counted_none (g.P.Program.meaning c.args.core.now.program) c.args.core.now _ _ refl refl;
}

pub threads-preserved : goal.threads-preserved
threads-preserved g c =
    let end = c.threads.invariant.end in
    let test = c.threads-test.true in
    let few = c.core.invariant.few_threads in
    let now = ap (λ y. y.inputs.threads) c.core.view_is in
    record {
      end = c.threads.invariant.end;
      counted = counted_next (g.P.Program.meaning c.args.core.now.program) c.threads.thread c.counts-counts.result
          c.threads.entries c.threads.outputs c.core.view_is (omega (arith, test, end))
          (omega (arith, test, end, few, now)) c.counts-counts.ensures c.threads.invariant.counted;
    }

pub returns : goal.returns
returns g c =
    let last : c.threads.thread ≡ c.threads-thread-end.result =
    let a = c.threads-test.false in let b = c.threads.auto.thread-end in omega (arith, a, b) in
    counted_whole (g.P.Program.meaning c.args.core.now.program) c.args.core.now c.threads.thread _ c.threads.entries
    c.threads.outputs (last ∙ c.threads.invariant.end) c.threads.invariant.counted
