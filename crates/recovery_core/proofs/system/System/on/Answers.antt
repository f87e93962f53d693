use Rattle.std.proofs.Common.{refl}
use Rattle.std.proofs.lemmas.Result.{IfOk-weaker}
use Rattle.system_parts.specs.Performing.{Releasing}
use Rattle.recovery_core.specs.Systems.{RepliesAny}
use Rattle.system_parts.specs.Performing.{IsStopped}
use Rattle.recovery_core.proofs.FinishLemmas.{system_on, system_at}
use Rattle.recovery_core.proofs.RepliesLemmas.{moves_some}
use Rattle.recovery_core.proofs.system.System.on.Goals as goal

pub invariant_of-self-in_default : goal.invariant_of-self-in_default
invariant_of-self-in_default g c = λ runs.
    moves_some g.P.Program.meaning
    (Releasing c.self.inside.fresh c.perform-done.new.out (RepliesAny c.args.event.now c.in_default.field-0))
    c.self.inside.core c.perform-done.new.core (rw c.in_default.is at c.perform-done.ensures.on) (c.self.invariant runs)

pub returns-in_default-clause-on : goal.returns-in_default-clause-on
returns-in_default-clause-on g c =
    IfOk-weaker c.perform-done.result _ _
    (λ reply moves. system_on g.P.Program.meaning (RepliesAny c.args.event.now reply) _ c.self.view_is refl moves)
    c.perform-done.ensures.on

pub returns-else-matches-clause-limit : goal.returns-else-matches-clause-limit
returns-else-matches-clause-limit g c = λ limit is. system_at g.P.Program.meaning (IsStopped c.args.event.now limit) _
    c.self.view_is refl (c.perform-done.ensures.limit limit is)
