use Rattle.std.proofs.Common.{◌≡◌, ℕ, List, Some, sym, ap, ◌∙◌, subst}
use Rattle.std.proofs.lemmas.Result.{IfOk-weaker}
use Rattle.wire_frames.specs.declared.frame.Frame.TheVariants as frame
use Rattle.wire_frames.specs.Layout.{IsFrame}
use Rattle.link_store.specs.declared.kept.Form.{Form}
use Rattle.link_store.specs.Kept.{bytes_of, IsWell}
use Rattle.link_store.proofs.KeptLemmas.{one_output}
use Rattle.link_store.proofs.kept.KeptFrame.output.Goals as goal

pub returns-in-Spelled : goal.returns-in-Spelled
returns-in-Spelled c =
    let same : (epoch : ℕ) → c.as_slice.result.now ≡ bytes_of epoch c.args.self.now = λ epoch.
    c.as_slice.ensures
    ∙ sym (ap (λ (f : Form). bytes_of epoch f) c.in-Spelled.is)
    ∙ ap (λ (f : Form). bytes_of epoch f) c.self.view_is in
    IfOk-weaker c.output_in.result _ _
    (λ found each epoch threads o is.
    each epoch threads o (subst (λ (l : List ℕ). IsFrame l (frame.Output epoch threads o)) (sym (same epoch)) is))
    c.output_in.ensures

pub returns-in_ok-copy_output-in-Told : goal.returns-in_ok-copy_output-in-Told
returns-in_ok-copy_output-in-Told c epoch threads o is =
    let well = subst IsWell c.in-Told.is c.self.invariant in
    let same = sym c.self.view_is ∙ c.in-Told.is in
    let here = subst (λ (f : Form). IsFrame (bytes_of epoch f) (frame.Output epoch threads o)) same is in
    ap Some (c.in_ok-copy_output-in-Told.ensures
    ∙ (one_output epoch c.in-Told.threads c.in-Told.output well threads o here).1)
