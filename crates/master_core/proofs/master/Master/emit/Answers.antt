use Rattle.std.proofs.Common.{rules, sym, subst}
use Rattle.std.specs.Prelude.{slice_set}
use Rattle.master_core.specs.declared.parts.ThreadPart.{ThreadPart}
use Rattle.master_core.specs.Mastered.{IsBounded}
use Rattle.master_core.proofs.BoundLemmas.{emit_bounded}
use Rattle.master_core.proofs.master.Master.emit.Goals as goal

pub invariant_of-self-2 : goal.invariant_of-self-2
invariant_of-self-2 g c =
    subst (λ (part : ThreadPart).
    IsBounded c.self.inside.vars.items (slice_set c.self.inside.threads.items c.args.thread part))
    (sym c.in-Ok.ensures.part)
    (emit_bounded c.self.inside.vars.items c.self.inside.threads.items c.args.thread c.index_mut-part.result.now
    c.args.place _ c.self.invariant (search rules) (search rules) (rw (← c.self.view_is) at c.requires.room)
    (rw (← c.self.view_is) at c.requires.hand))
