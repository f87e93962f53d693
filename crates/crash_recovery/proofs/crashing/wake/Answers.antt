use Rattle.std.proofs.Common.{ap, sym, ◌∙◌}
use Rattle.crash_recovery.proofs.RecoveryWorlds.{awake_stays, wakes_as}
use Rattle.crash_recovery.proofs.crashing.wake.Goals as goal

pub returns-then-core-clause-on : goal.returns-then-core-clause-on
returns-then-core-clause-on g c = awake_stays _ c.args.core.now (ap (λ y. y.up) (sym c.core.view_is) ∙ c.if-core.true)

pub returns-clause-on : goal.returns-clause-on
returns-clause-on g c =
    wakes_as _ c.in_ok-start_over.field-0 c.args.core.now c.start_over.new.core
    (ap (λ y. y.up) (sym c.core.view_is) ∙ c.if-core.false) c.in_ok-start_over.ensures.on
