use Rattle.std.proofs.Common.{◌≡◌, false, refl, sym, ap, ◌∙◌, subst}
use Rattle.system_parts.specs.SystemStanding.{StandsForSome}
use Rattle.recovery_core.specs.Views.{system_in}
use Rattle.recovery_core.proofs.FinishLemmas.{taken_is, taken_from, released_from}
use Rattle.recovery_core.proofs.system.System.take_released.Goals as goal

pub invariant_of-self : goal.invariant_of-self
invariant_of-self g c = subst (λ i. i.stopped ≡ false → StandsForSome (g.P.Program.meaning i.core.program) i.core)
    (sym c.self-inside.view_is) c.self.invariant

pub returns-clause-packets : goal.returns-clause-packets
returns-clause-packets g c =
    released_from _ c.replace.result
    (taken_is _ (ap system_in c.self-inside.view_is ∙ c.self.view_is) refl c.len-self-inside-inside.ensures
    (c.replace.ensures.after ∙ c.new.ensures))
    (c.replace.ensures.value ∙ ap (λ q. q.fresh) (ap system_in c.self-inside.view_is ∙ c.self.view_is))

pub returns-clause-stands : goal.returns-clause-stands
returns-clause-stands g c =
    taken_from (g.P.Program.meaning c.args.self.now.parts.program) _
    (taken_is _ (ap system_in c.self-inside.view_is ∙ c.self.view_is) refl c.len-self-inside-inside.ensures
    (c.replace.ensures.after ∙ c.new.ensures))
