use Rattle.std.proofs.Common.{rules, ◌≡◌, length, sym, subst, Option}
use Rattle.master_core.specs.Mastered.{Mastered}
use Rattle.master_core.specs.Deltas.{changed_parts, delta_of, HasTouched, LeadsOn}
use Rattle.master_core.proofs.DeltaLemmas.{length-changed, delta_bounded, has_touched, delta_leads}
use Rattle.master_core.proofs.master.Master.delta.Goals as goal

pub invariant_of-result : goal.invariant_of-result
invariant_of-result g c =
    let same : length c.base.inside.vars.items ≡ length c.self.inside.vars.items = search rules in
    let vars_are : c.in_ok-changed_vars.field-0.items
    ≡ changed_parts c.base.inside.vars.items c.self.inside.vars.items = search rules in
    let threads_are : c.in_ok-from_slice.field-0.items ≡ c.self.inside.threads.items = search rules in
    rw (vars_are, threads_are)
    (delta_bounded c.base.inside.vars.items c.self.inside.vars.items c.self.inside.threads.items same c.self.invariant)

-- what is made is the delta
is_delta : (g : _) (c : goal.In_ok-from_slice g)
    → (let new : Mastered (Option g.row.P-Value.Denot) =
    record { vars = c.in_ok-changed_vars.field-0.items; threads = c.in_ok-from_slice.field-0.items } in
    new ≡ delta_of c.args.base.now c.args.self.now)
is_delta g c = search rules

pub returns-clause-vars : goal.returns-clause-vars
returns-clause-vars g c =
    subst (λ (d : Mastered (Option g.row.P-Value.Denot)). length d.vars ≡ length c.args.self.now.vars)
    (sym (is_delta g c)) (length-changed c.args.base.now.vars c.args.self.now.vars c.requires.base)

pub returns-clause-touched : goal.returns-clause-touched
returns-clause-touched g c =
    subst (λ (d : Mastered (Option g.row.P-Value.Denot)). HasTouched c.args.base.now c.args.self.now d)
    (sym (is_delta g c)) (has_touched c.args.base.now c.args.self.now c.requires.base)

pub returns-clause-leads : goal.returns-clause-leads
returns-clause-leads g c =
    let m = g.P.Program.meaning c.args.program.now in
    subst (λ (d : Mastered (Option g.row.P-Value.Denot)). LeadsOn m c.args.base.now c.args.self.now d)
    (sym (is_delta g c)) (delta_leads m c.args.base.now c.args.self.now c.requires.program.count c.requires.base)
