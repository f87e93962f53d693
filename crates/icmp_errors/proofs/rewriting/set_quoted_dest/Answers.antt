use Rattle.icmp_errors.proofs.Seen.{dest_fits, dest_seen, dest_keeps_header, dest_keeps_others}
use Rattle.icmp_errors.proofs.rewriting.set_quoted_dest.Goals as goal

pub rewrite-requires : goal.rewrite-requires
rewrite-requires c = dest_fits c.args.frame.now c.args.error.now c.requires

pub returns-clause-header : goal.returns-clause-header
returns-clause-header c =
    rw c.rewrite.ensures.value (dest_keeps_header c.args.frame.now c.args.error.now c.args.address c.args.port
    c.rewrite.ensures.bytes c.ranges.address.fits c.ranges.port.fits c.requires)

pub returns-clause-seen : goal.returns-clause-seen
returns-clause-seen c =
    rw c.rewrite.ensures.value (dest_seen c.args.frame.now c.args.error.now c.args.address c.args.port
    c.rewrite.ensures.bytes c.ranges.address.fits c.ranges.port.fits)

pub returns-clause-others : goal.returns-clause-others
returns-clause-others c =
    rw c.rewrite.ensures.value (dest_keeps_others c.args.frame.now c.args.error.now c.args.address c.args.port
    c.rewrite.ensures.bytes c.ranges.address.fits c.ranges.port.fits c.requires)
