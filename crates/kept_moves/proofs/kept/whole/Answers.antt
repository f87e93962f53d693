use Rattle.std.proofs.Common.{◌≡◌, List, ℕ, ap, sym, subst, ◌∙◌}
use Rattle.std.proofs.lemmas.Result.{IfOk-weaker}
use Rattle.wire_frames.specs.declared.frame.Frame.TheVariants as frame
use Rattle.wire_frames.specs.Layout.{IsFrame}
use Rattle.kept_moves.specs.declared.form.Form.{Form}
use Rattle.kept_moves.specs.Keeping.{IsFor, entry_in, output_in, shown}
use Rattle.kept_moves.proofs.kept.whole.Goals as goal

pub returns-in-Logged : goal.returns-in-Logged
returns-in-Logged c =
    let kept = subst (λ (q : Form). IsFor c.args.epoch c.args.threads q) c.in-Logged.is c.requires in
    let f = frame.Entry c.args.epoch c.args.threads (entry_in c.in-Logged.thread c.in-Logged.number c.in-Logged.what
    c.in-Logged.frame) in
    let same : c.in-Logged.frame ≡ c.as_slice.result.now = cc in
    let is = subst (λ (q : List ℕ). IsFrame q f) same kept.is in
    IfOk-weaker c.told_in.result _ _ (λ r told. told f is ∙ sym (ap shown c.in-Logged.is)) c.told_in.ensures

pub returns-in-Sent : goal.returns-in-Sent
returns-in-Sent c =
    let kept = subst (λ (q : Form). IsFor c.args.epoch c.args.threads q) c.in-Sent.is c.requires in
    let f = frame.Output c.args.epoch c.args.threads (output_in c.in-Sent.thread c.in-Sent.number c.in-Sent.frame) in
    let same : c.in-Sent.frame ≡ c.as_slice-in-Sent.result.now = cc in
    let is = subst (λ (q : List ℕ). IsFrame q f) same kept.0.is in
    IfOk-weaker c.told_in-in-Sent.result _ _ (λ r told. told f is ∙ sym (ap shown c.in-Sent.is))
    c.told_in-in-Sent.ensures
