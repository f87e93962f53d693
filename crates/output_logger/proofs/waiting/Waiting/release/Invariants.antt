use Rattle.std.proofs.Common.{◌≡◌, ℕ, ◌+◌, ◌≤◌, ◌++◌, length, map, vec_len, vec_capacity}
use Rattle.std.specs.Map.Iter.{deref}
use Rattle.output_logger.specs.Logger.{appended}
use Rattle.output_logger.specs.Kept.{IsIndexed, IndexesOnly, IsReady, Gone}
use Rattle.output_logger.proofs.waiting.Waiting.release.Given as goal

abbrev pub invariant-loop-arrival : goal.invariant-loop-arrival
invariant-loop-arrival l = record {
  gone : Gone l.initial.self.outputs.entries l.self.outputs.entries l.initial.released l.released (map deref l.yielded)
      (appended l.initial.out.items l.out.items);
  appends : l.out.items ≡ l.initial.out.items ++ appended l.initial.out.items l.out.items;
  room : vec_len l.out + length l.arrival-iterator ≤ vec_capacity l.out;
  keeps : (u n a : ℕ) → (IsReady (map deref l.yielded) a → ⊥) → IsIndexed l.initial.self.index.keys u n a
      → IsIndexed l.self.index.keys u n a;
  only : IndexesOnly l.initial.self.index.keys l.initial.self.outputs.entries
      → IndexesOnly l.self.index.keys l.self.outputs.entries;
}
