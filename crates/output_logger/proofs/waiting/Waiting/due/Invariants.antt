use Rattle.std.proofs.Common.{ℕ, ◌<◌, ◌≤◌, slice_index}
use Rattle.output_logger.specs.Kept.{IsIndexed, IsReady, IsDueBy}
use Rattle.output_logger.proofs.waiting.Waiting.due.Given as goal

abbrev pub invariant-loop-thread : goal.invariant-loop-thread
invariant-loop-thread l = record {
  due : (a : ℕ) → IsReady l.ready.keys a → IsDueBy l.self.outputs.entries l.reached a;
  found : (u a n : ℕ) → u < l.thread → IsIndexed l.self.index.keys u n a → slice_index l.from u < n
      → IsDueBy l.self.outputs.entries l.reached a → n ≤ slice_index l.reached u → IsReady l.ready.keys a;
}
