use Rattle.std.proofs.Common.{◌<◌, arith}
use Rattle.system_parts.proofs.EventChains.{threads_of_setting}
use Rattle.several_events.proofs.MessageLists.{goes_more, goes_next}
use Rattle.several_events.proofs.messages.next_of_kind.Goals as goal

pub returns-then-before-count_of-clause-some : goal.returns-then-before-count_of-clause-some
returns-then-before-count_of-clause-some g c = λ s w st.
    let threads = threads_of_setting (g.P.Program.meaning c.args.core.now.program) s w c.args.core.now st in
    let low : c.threads.turn < s.threads =
    let a = c.threads-test.true in let b = c.threads.invariant.end in omega (arith, a, b, threads) in
    goes_next _ s w c.args.core.now c.args.kind c.args.thread c.args.arrived c.threads.turn c.threads.before
    c.count_of.result st (c.threads.invariant.goes s w st) low (c.count_of.ensures s w st) (omega arith)

pub threads-preserved : goal.threads-preserved
threads-preserved g c = record {
  end = c.threads.invariant.end;
  goes = λ s w st.
      let threads = threads_of_setting (g.P.Program.meaning c.args.core.now.program) s w c.args.core.now st in
      let low : c.threads.turn < s.threads =
      let a = c.threads-test.true in let b = c.threads.invariant.end in omega (arith, a, b, threads) in
      goes_more s w c.args.kind c.args.thread c.args.arrived c.threads.turn c.threads.before c.count_of.result
      (c.threads.invariant.goes s w st) low (c.count_of.ensures s w st) (omega arith);
}
