use Rattle.nat_tables.proofs.HostLemmas.{still_counts, as_many_used}
use Rattle.nat_tables.proofs.mappings.Mappings.find.Goals as goal

pub invariant_of-self : goal.invariant_of-self
invariant_of-self c =
    rw c.refresh.ensures
    (still_counts c.self.inside.counts c.self.inside.table _
    (as_many_used c.args.key.now c.args.now c.self.inside.table) c.self.invariant)
