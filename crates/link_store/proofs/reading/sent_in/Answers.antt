use Rattle.std.proofs.Common.{ℕ, Option, Some, sym, ap, ◌∙◌, subst}
use Rattle.std.specs.Prelude.{IfSome}
use Rattle.wire_frames.specs.declared.frame.Frame.{Frame}
use Rattle.wire_frames.specs.Layout.{BeginsWith}
use Rattle.wire_frames.specs.FromAccessLog.{Output}
use Rattle.link_store.specs.Kept.{HasFrame}
use Rattle.link_store.proofs.KeptLemmas.{first_frame, same_sent}
use Rattle.link_store.proofs.reading.sent_in.Goals as goal

pub returns-in-Some-clause-frame : goal.returns-in-Some-clause-frame
returns-in-Some-clause-frame c =
    let w = c.in-Some-Output in
    let bytes = c.args.bytes.now in
    let read = w.is ∙ ap Some w.field-0-is in
    let begins = subst (λ (q : Option Frame). IfSome q (λ f. (size : ℕ) × BeginsWith bytes f size)) read
    c.in_ok-threads.ensures.begins in
    subst (λ (o : Output). HasFrame w.threads o) (sym c.in-Some.ensures.same)
    (first_frame bytes w.field-0-0 w.threads begins.0 w.output begins.1)

pub returns-in-Some-clause-same : goal.returns-in-Some-clause-same
returns-in-Some-clause-same c epoch threads o is =
    let w = c.in-Some-Output in
    let read = w.is ∙ ap Some w.field-0-is in
    let k = same_sent w.field-0-0 w.threads epoch threads w.output o (sym read ∙ c.in_ok-threads.ensures.same _ is) in
    (k.0, c.in-Some.ensures.same ∙ k.1)
