use Rattle.nat_tables.proofs.HostLemmas.{still_counts, as_many_marked}
use Rattle.nat_tables.proofs.mappings.Mappings.mark.Goals as goal

pub invariant_of-self : goal.invariant_of-self
invariant_of-self c =
    rw c.mark.ensures
    (still_counts c.self.inside.counts c.self.inside.table _
    (as_many_marked c.args.key.now c.args.seconds c.args.segment c.self.inside.table) c.self.invariant)
