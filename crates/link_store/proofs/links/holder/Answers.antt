use Rattle.std.proofs.Common.{arith}
use Rattle.link_store.proofs.links.holder.Goals as goal

pub returns-then-is_some : goal.returns-then-is_some
returns-then-is_some c =
    let len = c.args.runs.now.ok.0 in
    (omega (arith, len, c.len-i-end.ensures, c.loop-i-test.true), c.loop-i.invariant)
