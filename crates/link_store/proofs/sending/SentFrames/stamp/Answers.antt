use Rattle.std.proofs.Common.{sym, subst}
use Rattle.std.proofs.lemmas.Option.{IfSome_then}
use Rattle.link_store.specs.Kept.{bytes_of}
use Rattle.link_store.specs.Rows.{form_of}
use Rattle.link_store.specs.Sending.{Sending, HasOutputFrame}
use Rattle.link_store.proofs.FrameLemmas.{output_bytes}
use Rattle.link_store.proofs.sending.SentFrames.stamp.Goals as goal

pub returns : goal.returns
returns c =
    IfSome_then c.stamp.result c.stamp.ensures
    (λ x each o has a b.
    let now = subst (λ (q : Sending). HasOutputFrame q o) (sym c.self.view_is) has in
    let is =
    output_bytes _ o c.args.thread c.args.number (bytes_of c.self.inside.epoch (form_of c.in_ok-frame.frame)) now a b
    c.in_ok-frame.ensures.frame in
    each c.self.inside.epoch c.self.inside.threads o is)
