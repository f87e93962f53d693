use Rattle.std.proofs.Common.{sym}
use Rattle.nat_tables.proofs.RowLemmas.{found_put}
use Rattle.nat_tables.proofs.first_seen.FirstSeen.put.Goals as goal

pub invariant_of-self : goal.invariant_of-self
invariant_of-self g c =
    found_put g.K.PartialEq.eq g.met.K.Eq.laws c.self.inside.indexed _ _ _ c.args.at c.in-Some.entry c.args.value c.self.invariant
    (rw (← c.self.view_is) at (sym c.in-Some.ensures))
