use Rattle.std.proofs.Common.{refl, sym, subst}
use Rattle.system_parts.specs.SystemStanding.{StandsForSome}
use Rattle.recovery_core.proofs.FinishLemmas.{system_opens}
use Rattle.recovery_core.proofs.system.System.new.Goals as goal

pub invariant_of-result : goal.invariant_of-result
invariant_of-result g c = λ runs. subst (λ p. StandsForSome (g.P.Program.meaning p) c.in_ok-core.core)
    (sym c.in_ok-core.ensures.program) (_, _, c.in_ok-core.ensures.stands)

pub returns-clause-stands : goal.returns-clause-stands
returns-clause-stands g c = system_opens _ _ _ c.in_ok-core.ensures.stands refl c.new.ensures
