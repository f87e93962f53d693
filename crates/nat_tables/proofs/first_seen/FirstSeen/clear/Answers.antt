use Rattle.std.proofs.Common.{◌∙◌, sym, arith}
use Rattle.nat_tables.proofs.RowLemmas.{found_apart, found_clear, row_empty, fewer_present}
use Rattle.nat_tables.proofs.first_seen.FirstSeen.clear.Goals as goal

pub overflow_sub-self : goal.overflow_sub-self
overflow_sub-self g c =
    let is = rw (← c.self.view_is) at (sym c.in-Some.ensures) in
    let all = found_apart g.K.PartialEq.eq g.met.K.Eq.laws c.self.inside.indexed _ _ _ c.self.invariant in
    omega (arith, fewer_present c.self.inside.rows.items c.args.at c.in-Some.entry is, all.counted)

pub invariant_of-self : goal.invariant_of-self
invariant_of-self g c =
    let is = rw (← c.self.view_is) at (sym c.in-Some.ensures) in
    let all = found_apart g.K.PartialEq.eq g.met.K.Eq.laws c.self.inside.indexed _ _ _ c.self.invariant in
    found_clear g.K.PartialEq.eq g.met.K.Eq.laws c.self.inside.indexed _ _ _ _ _ c.args.at c.in-Some.entry
    c.self.invariant is c.swap_remove.ensures.updates.0
    (omega (arith, fewer_present c.self.inside.rows.items c.args.at c.in-Some.entry is, all.counted))
    (λ placed. rw (c.swap_remove.ensures.value ∙ placed) at c.swap_remove.ensures.len)

pub returns-in_default : goal.returns-in_default
returns-in_default g c = row_empty c.args.self.now c.args.at c.in_default.ensures
