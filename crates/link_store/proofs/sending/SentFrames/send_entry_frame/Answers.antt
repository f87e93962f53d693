use Rattle.std.proofs.Common.{sym, subst, ◌<◌}
use Rattle.std.proofs.lemmas.Result.{on_ok_weaker}
use Rattle.link_store.specs.Sending.{Sending}
use Rattle.link_store.proofs.FrameLemmas.{sends_entry, one_longer_is}
use Rattle.link_store.proofs.sending.SentFrames.send_entry_frame.Goals as goal

pub returns-clause-ok : goal.returns-clause-ok
returns-clause-ok c =
    on_ok_weaker c.send.result
    (λ sends.
    let there = subst (λ (q : Sending). c.args.thread < q.threads) (sym c.self.view_is) c.requires.of_these in
    let longer = one_longer_is _ _ _ _ _ _ _ c.index_mut.ensures.value c.in_ok-push.ensures.ok c.len.ensures
    c.self.invariant.entries there in
    sends_entry _ _ c.send.new.self c.args.frame c.push.new.self c.self.view_is c.args.thread c.args.number sends
    longer) c.send.ensures.ok
