use Rattle.std.proofs.Common.{◌∙◌, ap, arith, length}
use Rattle.nat_tables.proofs.RowLemmas.{found_apart, found_push, present_few, one_more}
use Rattle.nat_tables.proofs.first_seen.FirstSeen.push.Goals as goal

pub overflow_add-self : goal.overflow_add-self
overflow_add-self g c =
    let all = found_apart g.K.PartialEq.eq g.met.K.Eq.laws c.self.inside.indexed _ _ _ c.self.invariant in
    omega (
      arith,
      present_few c.self.inside.rows.items,
      all.counted,
      c.self.inside.rows.ok,
      c.self.inside.rows.small,
    )

pub invariant_of-self-2 : goal.invariant_of-self-2
invariant_of-self-2 g c =
    rw (c.in_ok-push.ensures.items, c.in_ok-reserve.ensures.items)
    (found_push g.K.PartialEq.eq g.met.K.Eq.laws c.self.inside.indexed _ _ _ c.len.result _ c.args.key c.args.value
    c.self.invariant
    (rw (← c.self.view_is) at c.requires)
    (c.len.ensures ∙ c.reserve.new.self.ok.0 ∙ ap length c.in_ok-reserve.ensures.items) c.in_ok-insert.ensures.updates.0
    (one_more _ _ _ c.in_ok-insert.ensures.len))
