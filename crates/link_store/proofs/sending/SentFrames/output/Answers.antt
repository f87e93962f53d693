use Rattle.std.proofs.Common.{sym, subst}
use Rattle.std.proofs.lemmas.Result.{IfOk-weaker}
use Rattle.link_store.specs.Kept.{bytes_of}
use Rattle.link_store.specs.Rows.{form_of}
use Rattle.link_store.specs.Sending.{Sending, HasOutputFrame}
use Rattle.link_store.proofs.FrameLemmas.{output_bytes}
use Rattle.link_store.proofs.sending.SentFrames.output.Goals as goal

pub returns-in-Some-clause-there : goal.returns-in-Some-clause-there
returns-in-Some-clause-there c =
    IfOk-weaker c.output.result _ _
    (λ found each o has a b.
    let now = subst (λ (q : Sending). HasOutputFrame q o) (sym c.self.view_is) has in
    let is =
    output_bytes _ o c.args.thread c.args.number (bytes_of c.self.inside.epoch (form_of c.in-Some.frame)) now a b
    c.in-Some.ensures.frame in
    each c.self.inside.epoch c.self.inside.threads o is) c.output.ensures
