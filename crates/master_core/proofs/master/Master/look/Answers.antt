use Rattle.std.proofs.Common.{rules, arith, refl, ap, length-set, ◌≡◌, inl}
use Rattle.std.specs.Prelude.{slice_set}
use Rattle.master_core.specs.declared.parts.VarPart.{VarPart}
use Rattle.master_core.specs.declared.step.Stepped.TheVariants as stepped
use Rattle.master_core.specs.Mastered.{Mastered}
use Rattle.master_core.specs.Effects.{DoneLook}
use Rattle.master_core.proofs.BoundLemmas.{entry_bounded, adds_set}
use Rattle.master_core.proofs.EffectLemmas.{of_items}
use Rattle.master_core.proofs.master.Master.look.Goals as goal

pub invariant_of-self-2 : goal.invariant_of-self-2
invariant_of-self-2 g c =
    let looked = c.in-Ok.ensures.looked in
    let old = c.index_mut-variable.result.now in
    let no_more : c.look.new.variable.places ≡ old.places = ap (λ (y : VarPart _). y.places) looked.variable in
    entry_bounded c.self.inside.vars.items (slice_set c.self.inside.vars.items c.args.var c.look.new.variable)
    c.self.inside.threads.items c.args.thread c.index_mut-part.result.now c.look.new.part c.args.place _ _
    c.self.invariant (search rules) (search rules) (rw (← c.self.view_is) at c.requires.room)
    (rw (← c.self.view_is) at c.requires.hand) looked.logs.thread (simp length-set)
    (adds_set c.self.inside.vars.items c.args.var 1 old c.look.new.variable (search rules) (search rules) (omega arith))

pub returns : goal.returns
returns g c d x =
    let m = g.P.Program.meaning c.args.program.now in
    let q : Mastered _ = record {
      vars = slice_set c.self.inside.vars.items c.args.var c.look.new.variable;
      threads = slice_set c.self.inside.threads.items c.args.thread c.look.new.part;
    } in
    of_items
    (λ p y. DoneLook m c.args.thread c.args.var c.args.place p y c.args.self.now (stepped.Did c.in-Ok.entry) q)
    c.args.self.now.threads c.args.self.now.vars c.args.thread c.args.var c.index_mut-part.result.now d
    c.index_mut-variable.result.now x (search rules) (search rules) (search rules) (search rules) (inl (
      c.in-Ok.entry,
      refl,
      record {
        left = c.look.new.part;
        y = c.look.new.variable;
        does = c.in-Ok.ensures.looked;
        master = rw (← c.self.view_is) refl;
      },
    ))
