use Rattle.std.proofs.Common.{arith}
use Rattle.nat_tables.proofs.RowLemmas.{found_apart, present_few}
use Rattle.nat_tables.proofs.first_seen.FirstSeen.len.Goals as goal

pub returns-clause-fits : goal.returns-clause-fits
returns-clause-fits g c =
    let all = found_apart g.K.PartialEq.eq g.met.K.Eq.laws c.self.inside.indexed _ _ _ c.self.invariant in
    omega (
      arith,
      present_few c.self.inside.rows.items,
      all.counted,
      c.self.inside.rows.ok,
      c.self.inside.rows.small,
    )
