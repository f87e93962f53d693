use Rattle.output_releases.specs.Released.{ForgetsReleased, AreForgotten}
use Rattle.output_releases.proofs.releasing.forget_released.Given as goal

-- frames of outputs of the threads before this one are forgotten
abbrev pub invariant-loop-thread : goal.invariant-loop-thread
invariant-loop-thread l = record {
  only : ForgetsReleased l.initial.sent l.sent l.released;
  all : AreForgotten l.sent l.released l.thread;
}
