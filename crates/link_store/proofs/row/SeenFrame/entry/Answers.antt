use Rattle.std.proofs.Common.{subst}
use Rattle.std.proofs.lemmas.Result.{IfOk-weaker}
use Rattle.wire_frames.specs.declared.frame.Frame.TheVariants as frame
use Rattle.wire_frames.specs.Layout.{IsFrame}
use Rattle.link_store.specs.declared.row.SeenFrame.{SeenFrame}
use Rattle.link_store.specs.Kept.{bytes_of}
use Rattle.link_store.specs.Rows.{form_of}
use Rattle.link_store.proofs.row.SeenFrame.entry.Goals as goal

pub returns-in-Narrow : goal.returns-in-Narrow
returns-in-Narrow c epoch threads e is =
    absurd (c.is_no_entry.ensures epoch threads e
    (subst (λ (s : SeenFrame). IsFrame (bytes_of epoch (form_of s)) (frame.Entry epoch threads e)) c.in-Narrow.is is))

pub returns-in-Whole : goal.returns-in-Whole
returns-in-Whole c =
    IfOk-weaker c.entry.result _ _
    (λ found each epoch threads e is.
    each epoch threads e
    (subst (λ (s : SeenFrame). IsFrame (bytes_of epoch (form_of s)) (frame.Entry epoch threads e)) c.in-Whole.is is))
    c.entry.ensures
