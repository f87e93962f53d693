use Rattle.std.proofs.Common.{sym, subst}
use Rattle.std.proofs.lemmas.Result.{IfOk-weaker}
use Rattle.link_store.specs.Kept.{bytes_of}
use Rattle.link_store.specs.Sending.{Sending, HasOutputFrame}
use Rattle.link_store.proofs.FrameLemmas.{output_bytes, has_still, takes_output}
use Rattle.link_store.proofs.sending.SentFrames.take_output.Goals as goal

pub returns-in-Some-clause-there : goal.returns-in-Some-clause-there
returns-in-Some-clause-there c =
    IfOk-weaker c.into_output.result _ _
    (λ found each o has a b.
    let now = subst (λ (q : Sending). HasOutputFrame q o) (sym c.self.view_is) has in
    let is =
    output_bytes _ o c.args.thread c.args.number (bytes_of c.self.inside.epoch c.in-Some.frame) now a b
    (sym c.in-Some.ensures.taken) in
    each c.self.inside.epoch c.self.inside.threads o is) c.into_output.ensures

pub returns-in-None-clause-there : goal.returns-in-None-clause-there
returns-in-None-clause-there c =
    IfOk-weaker c.output.result _ _
    (λ found each o has a b.
    each o (has_still _ _ c.take_output.new.self o c.self.view_is (c.in-None.ensures.none) has) a b)
    c.output.ensures.there

pub returns-in-Some-clause-others : goal.returns-in-Some-clause-others
returns-in-Some-clause-others c =
    takes_output _ _ c.take_output.new.self c.args.thread c.args.number c.self.view_is c.take_output.ensures.others

pub returns-in-None-clause-others : goal.returns-in-None-clause-others
returns-in-None-clause-others c =
    takes_output _ _ c.take_output.new.self c.args.thread c.args.number c.self.view_is c.take_output.ensures.others
