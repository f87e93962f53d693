use Rattle.std.proofs.Common.{ℕ, ◌<◌, slice_index_or}
use Rattle.link_store.specs.Runs.{Run, Takes}
use Rattle.link_store.proofs.links.taker.Given as goal

abbrev pub invariant-loop-i : goal.invariant-loop-i
invariant-loop-i l = (j : ℕ) (d : Run) → j < l.i → Takes (slice_index_or l.runs.items j d) l.at → ⊥
