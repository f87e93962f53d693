use Rattle.std.proofs.Common.{ℕ, ◌⊎◌, map}
use Rattle.std.specs.Map.Iter.{deref}
use Rattle.output_logger.specs.Kept.{IsIndexed, IsReady, IsDueBy}
use Rattle.output_logger.proofs.waiting.find_due.Given as goal

abbrev pub invariant-loop-arrival : goal.invariant-loop-arrival
invariant-loop-arrival l = record {
  kept : (a : ℕ) → IsReady l.initial.ready.keys a → IsReady l.ready.keys a;
  due : (a : ℕ) → IsReady l.ready.keys a
      → IsReady l.initial.ready.keys a ⊎ IsDueBy l.waiting.outputs.entries l.reached a;
  found : (u n a : ℕ) → IsIndexed (map deref l.yielded) u n a → IsDueBy l.waiting.outputs.entries l.reached a
      → IsReady l.ready.keys a;
}
