use Rattle.std.proofs.Common.{rules, ◌≡◌, length, sym, subst}
use Rattle.master_core.specs.Mastered.{Mastered}
use Rattle.master_core.specs.Deltas.{applied, StandsAfter}
use Rattle.master_core.proofs.DeltaLemmas.{applied_bounded, stands_after}
use Rattle.master_core.proofs.master.Master.apply.Goals as goal

pub invariant_of-self : goal.invariant_of-self
invariant_of-self g c =
    let same : length c.delta.inside.vars.items ≡ length c.self.inside.vars.items = search rules in
    rw c.apply_vars.ensures (applied_bounded c.self.inside.vars.items c.delta.inside.vars.items
    c.delta.inside.threads.items same c.delta.invariant)

pub returns-clause-stands : goal.returns-clause-stands
returns-clause-stands g c =
    let new : Mastered g.row.P-Value.Denot =
    record { vars = c.apply_vars.new.parts.items; threads = c.delta.inside.threads.items } in
    let is : new ≡ applied c.args.self.now c.args.delta = search rules in
    subst (λ (q : Mastered g.row.P-Value.Denot). StandsAfter c.args.self.now c.args.delta q) (sym is)
    (stands_after c.args.self.now c.args.delta c.requires)
