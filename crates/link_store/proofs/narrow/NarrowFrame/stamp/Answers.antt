use Rattle.std.proofs.Common.{sym, ◌∙◌, subst}
use Rattle.wire_frames.specs.declared.frame.Frame.TheVariants as frame
use Rattle.wire_frames.specs.Layout.{IsFrame}
use Rattle.link_store.specs.declared.kept.Form.{Form}
use Rattle.link_store.specs.Kept.{bytes_of}
use Rattle.link_store.proofs.KeptLemmas.{told_stamp}
use Rattle.link_store.proofs.narrow.NarrowFrame.stamp.Goals as goal

pub returns : goal.returns
returns g c epoch threads o is =
    let s = c.self.inside in
    let here = subst (λ (f : Form). IsFrame (bytes_of epoch f) (frame.Output epoch threads o)) (sym c.self.view_is) is in
    c.stamp.ensures ∙ told_stamp epoch s.threads s.thread s.number s.input s.stamp s.packet c.self.invariant threads o here
