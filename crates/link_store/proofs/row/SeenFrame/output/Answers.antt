use Rattle.std.proofs.Common.{sym, subst}
use Rattle.std.proofs.lemmas.Result.{IfOk-weaker}
use Rattle.wire_frames.specs.declared.frame.Frame.TheVariants as frame
use Rattle.wire_frames.specs.Layout.{IsFrame}
use Rattle.link_store.specs.declared.kept.Form.{Form}
use Rattle.link_store.specs.declared.row.SeenFrame.{SeenFrame}
use Rattle.link_store.specs.Kept.{bytes_of}
use Rattle.link_store.specs.Rows.{form_of}
use Rattle.link_store.proofs.row.SeenFrame.output.Goals as goal

pub returns-in_ok-copied-in-Narrow : goal.returns-in_ok-copied-in-Narrow
returns-in_ok-copied-in-Narrow c =
    IfOk-weaker c.into_output.result _ _
    (λ found each epoch threads o is.
    each epoch threads o
    (subst (λ (f : Form). IsFrame (bytes_of epoch f) (frame.Output epoch threads o)) (sym c.in_ok-copied-in-Narrow.ensures)
    (subst (λ (s : SeenFrame). IsFrame (bytes_of epoch (form_of s)) (frame.Output epoch threads o)) c.in-Narrow.is is)))
    c.into_output.ensures

pub returns-in-Whole : goal.returns-in-Whole
returns-in-Whole c =
    IfOk-weaker c.output.result _ _
    (λ found each epoch threads o is.
    each epoch threads o
    (subst (λ (s : SeenFrame). IsFrame (bytes_of epoch (form_of s)) (frame.Output epoch threads o)) c.in-Whole.is is))
    c.output.ensures
