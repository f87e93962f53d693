use Rattle.std.proofs.Common.{subst, ap, ◌∙◌, length}
use Rattle.std.proofs.lemmas.Result.{IfOk-weaker}
use Rattle.system_images.specs.Judging.{CountsMayBe}
use Rattle.system_images.proofs.ResumingLemmas.{prepares, prepares_wrong}
use Rattle.system_images.proofs.resuming.prepare.Goals as goal

pub returns-clause-good : goal.returns-clause-good
returns-clause-good g c =
    let may = subst (λ n. CountsMayBe n c.args.image.now) (c.len.ensures ∙ (c.core.inside.left.ok.0 ∙ ap (λ y. length
    y.left) c.core.view_is))
    (c.counts_may_be.ensures.0 c.if-not-counts_may_be.false) in
    IfOk-weaker c.judge.result _ _
    (λ _ good. prepares g.P.Program.meaning c.args.image.now c.in_ok-feed.field-0 c.args.core.now c.feed.new.core may
    c.in_ok-feed.ensures good) c.judge.ensures.good

pub returns-clause-faults : goal.returns-clause-faults
returns-clause-faults g c = λ error is s st.
    let may = subst (λ n. CountsMayBe n c.args.image.now) (c.len.ensures ∙ (c.core.inside.left.ok.0 ∙ ap (λ y. length
    y.left) c.core.view_is))
    (c.counts_may_be.ensures.0 c.if-not-counts_may_be.false) in
    prepares_wrong g.P.Program.meaning c.args.image.now c.in_ok-feed.field-0 c.args.core.now c.feed.new.core may
    c.in_ok-feed.ensures error (c.judge.ensures.faults error is) s st
