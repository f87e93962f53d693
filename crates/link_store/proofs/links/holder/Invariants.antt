use Rattle.std.proofs.Common.{◌≡◌, ℕ, ◌<◌, None, slice_index_or}
use Rattle.link_store.specs.Links.{frame_at}
use Rattle.link_store.specs.Runs.{Run, frames_of}
use Rattle.link_store.proofs.links.holder.Given as goal

abbrev pub invariant-loop-i : goal.invariant-loop-i
invariant-loop-i l = (j : ℕ) (d : Run) → j < l.i → frame_at (frames_of (slice_index_or l.runs.items j d)) l.at ≡ None
