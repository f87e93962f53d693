use Rattle.std.proofs.lemmas.Slice.Zip.{length-zip}
use Rattle.monitor_box.proofs.copied.CopiedFlows.len.Goals as goal

pub returns : goal.returns
returns c =
    let long = length-zip c.self.inside.flows.items c.self.inside.counts.items in
    let flows = c.len.ensures in
    let counts = c.len-2.ensures in
    let least = c.min.ensures in rw (← c.self.view_is) (cc)
