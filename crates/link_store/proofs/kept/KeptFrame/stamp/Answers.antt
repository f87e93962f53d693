use Rattle.std.proofs.Common.{sym, ap, ◌∙◌, subst}
use Rattle.wire_frames.specs.declared.frame.Frame.TheVariants as frame
use Rattle.wire_frames.specs.FromAccessLog.{Output}
use Rattle.wire_frames.specs.Layout.{IsFrame}
use Rattle.link_store.specs.declared.kept.Form.{Form}
use Rattle.link_store.specs.Kept.{bytes_of, IsWell}
use Rattle.link_store.proofs.KeptLemmas.{one_output}
use Rattle.link_store.proofs.kept.KeptFrame.stamp.Goals as goal

pub returns-in-Told : goal.returns-in-Told
returns-in-Told c epoch threads o is =
    let well = subst IsWell c.in-Told.is c.self.invariant in
    let same = sym c.self.view_is ∙ c.in-Told.is in
    let here = subst (λ (f : Form). IsFrame (bytes_of epoch f) (frame.Output epoch threads o)) same is in
    ap (λ (x : Output). x.stamp) (one_output epoch c.in-Told.threads c.in-Told.output well threads o here).1
