use Rattle.std.proofs.Common.{subst}
use Rattle.std.proofs.lemmas.Option.{IfSome_then}
use Rattle.wire_frames.specs.declared.frame.Frame.TheVariants as frame
use Rattle.wire_frames.specs.Layout.{IsFrame}
use Rattle.link_store.specs.declared.row.SeenFrame.{SeenFrame}
use Rattle.link_store.specs.Kept.{bytes_of}
use Rattle.link_store.specs.Rows.{form_of}
use Rattle.link_store.proofs.row.SeenFrame.stamp.Goals as goal

pub returns-in-Narrow : goal.returns-in-Narrow
returns-in-Narrow c epoch threads o is =
    c.stamp.ensures epoch threads o
    (subst (λ (s : SeenFrame). IsFrame (bytes_of epoch (form_of s)) (frame.Output epoch threads o)) c.in-Narrow.is is)

pub returns-in-Whole : goal.returns-in-Whole
returns-in-Whole c =
    IfSome_then c.stamp-in-Whole.result c.stamp-in-Whole.ensures
    (λ x each epoch threads o is.
    each epoch threads o
    (subst (λ (s : SeenFrame). IsFrame (bytes_of epoch (form_of s)) (frame.Output epoch threads o)) c.in-Whole.is is))
