use Rattle.std.proofs.Common.{ℕ, ◌<◌, slice_index}
use Rattle.replay_guide.specs.Indexes.{HasRead}
use Rattle.replay_guide.proofs.index.Index.first_read_past.Given as goal

abbrev pub invariant-loop-thread : goal.invariant-loop-thread
invariant-loop-thread l =
    (u m : ℕ) → u < l.thread → slice_index l.done u < m → HasRead l.self.reads.keys l.var l.places u m → ⊥
