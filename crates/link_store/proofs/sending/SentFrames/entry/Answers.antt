use Rattle.std.proofs.Common.{sym, subst}
use Rattle.std.proofs.lemmas.Result.{IfOk-weaker}
use Rattle.link_store.specs.Kept.{bytes_of}
use Rattle.link_store.specs.Rows.{form_of}
use Rattle.link_store.specs.Sending.{Sending, HasEntryFrame}
use Rattle.link_store.proofs.FrameLemmas.{entry_bytes}
use Rattle.link_store.proofs.sending.SentFrames.entry.Goals as goal

pub returns-in-Some-clause-there : goal.returns-in-Some-clause-there
returns-in-Some-clause-there c =
    IfOk-weaker c.entry.result _ _
    (λ found each e has a b.
    let now = subst (λ (q : Sending). HasEntryFrame q e) (sym c.self.view_is) has in
    let is =
    entry_bytes _ e c.args.thread c.args.number (bytes_of c.self.inside.epoch (form_of c.in-Some.frame)) now a b
    c.in-Some.ensures.frame in
    each c.self.inside.epoch c.self.inside.threads e is) c.entry.ensures
