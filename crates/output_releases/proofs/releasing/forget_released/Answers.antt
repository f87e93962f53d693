use Rattle.std.proofs.Common.{arith}
use Rattle.output_releases.proofs.ForgottenOutputs.{forgets_none, forgets_more, forgotten_more}
use Rattle.output_releases.proofs.releasing.forget_released.Goals as goal

pub loop-thread-init : goal.loop-thread-init
loop-thread-init c = record { only = forgets_none _ _; all = λ t n less low. absurd (omega (arith, less)) }

pub loop-thread-preserved : goal.loop-thread-preserved
loop-thread-preserved c = record {
  only = forgets_more _ _ _ _ c.loop-thread.thread _ c.floor.ensures.value c.loop-thread.invariant.only
      c.forget_outputs.ensures.forgets;
  all = forgotten_more _ _ _ c.loop-thread.thread _ c.floor.ensures.value c.loop-thread.invariant.all
      c.forget_outputs.ensures.forgets;
}
