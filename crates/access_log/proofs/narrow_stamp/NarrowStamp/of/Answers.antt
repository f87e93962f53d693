use Rattle.std.proofs.Common.{sym}
use Rattle.access_log.proofs.NarrowLemmas.{is_kept}
use Rattle.access_log.proofs.narrow_stamp.NarrowStamp.of.Goals as goal

pub returns : goal.returns
returns g c =
    let kept = c.first_components.result in
    let zeros = c.is_zero_from.ensures.0 c.if-not-is_zero_from.false in
    sym (is_kept g.row.N c.args.stamp.now kept c.first_components.ensures.all c.first_components.ensures.count
    c.first_components.ensures.each zeros)
