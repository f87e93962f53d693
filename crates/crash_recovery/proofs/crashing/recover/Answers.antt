use Rattle.std.proofs.Common.{ap, sym, ◌∙◌}
use Rattle.crash_recovery.proofs.RecoveryWorlds.{up_stays, recovers_as}
use Rattle.crash_recovery.proofs.crashing.recover.Goals as goal

pub returns-then-core : goal.returns-then-core
returns-then-core g c = up_stays _ c.args.core.now (ap (λ y. y.up) (sym c.core.view_is) ∙ c.if-core.true)

pub returns : goal.returns
returns g c =
    recovers_as _ c.in_ok-kept.kept c.args.core.now c.start_over.new.core
    (ap (λ y. y.up) (sym c.core.view_is) ∙ c.if-core.false) c.in_ok-kept.ensures.on c.from.result
    (c.from.ensures ∙ (c.epoch.ensures ∙ ap (λ y. y.logger.epoch) c.core-2.view_is))
