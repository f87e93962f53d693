use Rattle.std.proofs.Common.{rules, arith, refl, ap, length-set, ◌≡◌, ◌+◌, inl}
use Rattle.std.specs.Prelude.{slice_set}
use Rattle.master_core.specs.declared.parts.VarPart.{VarPart}
use Rattle.master_core.specs.declared.step.Stepped.TheVariants as stepped
use Rattle.master_core.specs.Mastered.{Mastered}
use Rattle.master_core.specs.Effects.{DoneTouch}
use Rattle.master_core.proofs.BoundLemmas.{place_fits, entry_bounded, adds_set}
use Rattle.master_core.proofs.EffectLemmas.{of_items}
use Rattle.master_core.proofs.master.Master.touch.Goals as goal

pub touch-requires-clause-places : goal.touch-requires-clause-places
touch-requires-clause-places g c κs within =
    place_fits c.self.inside.vars.items c.self.inside.threads.items c.args.var c.index_mut-variable.result.now
    c.self.invariant (search rules) (search rules)

pub invariant_of-self-2 : goal.invariant_of-self-2
invariant_of-self-2 g c =
    let touched = c.in-Ok.ensures.touched in
    let old = c.index_mut-variable.result.now in
    let one_more : c.touch.new.variable.places ≡ old.places + 1 = ap (λ (y : VarPart _). y.places) touched.variable in
    entry_bounded c.self.inside.vars.items (slice_set c.self.inside.vars.items c.args.var c.touch.new.variable)
    c.self.inside.threads.items c.args.thread c.index_mut-part.result.now c.touch.new.part c.args.place _ _
    c.self.invariant (search rules) (search rules) (rw (← c.self.view_is) at c.requires.room)
    (rw (← c.self.view_is) at c.requires.hand) touched.logs.thread (simp length-set)
    (adds_set c.self.inside.vars.items c.args.var 1 old c.touch.new.variable (search rules) (search rules)
    (omega arith))

pub returns : goal.returns
returns g c d x =
    let m = g.P.Program.meaning c.args.program.now in
    let q : Mastered _ = record {
      vars = slice_set c.self.inside.vars.items c.args.var c.touch.new.variable;
      threads = slice_set c.self.inside.threads.items c.args.thread c.touch.new.part;
    } in
    of_items
    (λ p y. DoneTouch m c.args.thread c.args.var c.args.place p y c.args.self.now (stepped.Did c.in-Ok.entry) q)
    c.args.self.now.threads c.args.self.now.vars c.args.thread c.args.var c.index_mut-part.result.now d
    c.index_mut-variable.result.now x (search rules) (search rules) (search rules) (search rules) (inl (
      c.in-Ok.entry,
      refl,
      record {
        left = c.touch.new.part;
        y = c.touch.new.variable;
        does = c.in-Ok.ensures.touched;
        master = rw (← c.self.view_is) refl;
      },
    ))
