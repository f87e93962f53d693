use Rattle.std.proofs.Common.{Some, ◌-◌, ◌≡◌, refl}
use Rattle.nat_tables.specs.HostCounts.{host_count}
use Rattle.nat_tables.proofs.HostLemmas.{lowered}
use Rattle.nat_tables.proofs.host_counts.HostCounts.lower.Goals as goal

pub returns-in-Some : goal.returns-in-Some
returns-in-Some c =
    let new = c.count-count.result - 1 in
    let less : new ≡ host_count c.args.host c.self.inside.counts.entries - 1 =
    rw (c.count-count.ensures, c.self.view_is) refl in
    let there = c.in-Some.ensures.value in
    let written = c.get_mut.follows.holds new in
    rw (← c.self.view_is)
    (lowered c.self.inside.counts.entries (c.get_mut.follows.lender new).entries c.args.host (Some new)
    (written.3 (rw (← there) refl)).0 less)
