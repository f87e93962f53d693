use Rattle.std.proofs.Common.{refl, sym, subst}
use Rattle.system_parts.specs.SystemStanding.{StandsForSome}
use Rattle.recovery_core.proofs.HandingLemmas.{handed_on, stands_for_one}
use Rattle.recovery_core.proofs.system.System.resume.Goals as goal

pub invariant_of-result : goal.invariant_of-result
invariant_of-result g c = λ runs. subst (λ p. StandsForSome (g.P.Program.meaning p) c.in_ok-core.core)
    (sym c.in_ok-core.ensures.program)
    (stands_for_one _ _ c.args.image.now _ c.in_ok-core.ensures.stands c.in_ok-core.ensures.some)

pub returns-clause-stands : goal.returns-clause-stands
returns-clause-stands g c = λ w sound rest is.
    handed_on _ _ w c.args.image.now _ (c.in_ok-core.ensures.stands w sound rest is) is c.len.ensures c.new.ensures
