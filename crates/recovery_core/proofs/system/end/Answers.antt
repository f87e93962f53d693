use Rattle.std.proofs.lemmas.Result.{IfOk-weaker}
use Rattle.system_images.specs.FromCrashRecovery.{WakesUp}
use Rattle.recovery_core.proofs.FinishLemmas.{ends_then}
use Rattle.recovery_core.proofs.RepliesLemmas.{moves_some}
use Rattle.recovery_core.proofs.system.end.Goals as goal

pub end_awake-requires-clause-stands : goal.end_awake-requires-clause-stands
end_awake-requires-clause-stands g c κs within =
    moves_some g.P.Program.meaning WakesUp _ _ c.in-Ok.ensures.on c.requires.stands

pub returns-in-Ok : goal.returns-in-Ok
returns-in-Ok g c = IfOk-weaker c.end_awake.result _ _
    (λ moves ends. ends_then g.P.Program.meaning _ _ moves c.in-Ok.ensures.on ends) c.end_awake.ensures
