use Rattle.std.proofs.Common.{◌≡◌, ℕ, rules, refl, subst, arith}
use Rattle.std.proofs.lemmas.Result.{on_ok_weaker}
use Rattle.crash_recovery.proofs.RecoveryLinks.{TurnedBack, turned_none, turned_more, turns_then}
use Rattle.crash_recovery.proofs.crashing.turn_links.Goals as goal

pub loop-thread-init : goal.loop-thread-init
loop-thread-init g c = record { within = search rules; epoch = refl; turned = turned_none _ _ }

pub loop-thread-preserved : goal.loop-thread-preserved
loop-thread-preserved g c = record {
  within = search rules;
  epoch = search rules;
  turned = turned_more _ c.loop-thread.thread c.counts-counts.result _ _ c.turn_back.new.self c.counts-counts.ensures
      c.loop-thread.invariant.turned c.turn_back.ensures;
}

pub returns-clause-ok : goal.returns-clause-ok
returns-clause-ok g c =
    let high = c.loop-thread-test.false in
    let few = c.loop-thread.auto.thread-end in
    let all : c.loop-thread.thread ≡ c.args.threads = omega (arith, high, few) in
    on_ok_weaker c.begin_epoch.result
    (λ begins. turns_then c.args.master.now c.args.threads c.args.sent.now c.loop-thread.sent c.begin_epoch.new.self
    c.requires.in_master (subst (λ (n : ℕ). TurnedBack c.args.master.now n c.args.sent.now c.loop-thread.sent) all
    c.loop-thread.invariant.turned) begins) c.begin_epoch.ensures.ok
