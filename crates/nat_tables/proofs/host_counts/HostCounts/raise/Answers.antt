use Rattle.std.proofs.Common.{◌≡◌, ◌+◌, ◌∙◌, Some, refl}
use Rattle.nat_tables.specs.HostCounts.{host_count}
use Rattle.nat_tables.proofs.HostLemmas.{raised}
use Rattle.nat_tables.proofs.host_counts.HostCounts.raise.Goals as goal

pub returns-clause-ok : goal.returns-clause-ok
returns-clause-ok c =
    let more : c.in-Some.count ≡ host_count c.args.host c.self.inside.counts.entries + 1 =
    c.in-Some.ensures.1 ∙ (rw (c.count.ensures, c.self.view_is) refl) in
    rw (← c.self.view_is)
    (raised c.self.inside.counts.entries c.insert.new.self.entries c.args.host (Some c.in-Some.count)
    c.in_ok-insert.ensures.updates.0 more)
