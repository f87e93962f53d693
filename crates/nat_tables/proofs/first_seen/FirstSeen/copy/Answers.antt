use Rattle.std.proofs.Common.{◌∙◌}
use Rattle.nat_tables.proofs.RowLemmas.{found_apart}
use Rattle.nat_tables.proofs.first_seen.FirstSeen.copy.Goals as goal

pub invariant_of-result : goal.invariant_of-result
invariant_of-result g c =
    rw (c.in_ok-from_slice.ensures.items ∙ c.deref.ensures.value)
    (found_apart g.K.PartialEq.eq g.met.K.Eq.laws c.self.inside.indexed _ _ _ c.self.invariant)
