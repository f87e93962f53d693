-- What is counted in each world that events lead to.
use Rattle.std.specs.Prelude.{◌≡◌, ◌≤◌, ℕ, ◌+◌, length, slice_get, Some}
use Rattle.recovery_world.specs.World.{Setting, Ended, World}
use Rattle.handover_world.specs.Faults.{bytes_of}

-- No more words were drawn than moves made, those of the past and its bytes are among those counted, and each epoch but
-- the present one has ended.
pub record IsCounted {V : Type 0} (w : World V) : Type 0 where
  pub draws : w.drawn ≤ w.moves
  pub moves : length w.past ≤ w.moves
  pub bytes : bytes_of w.past ≤ w.bytes
  pub epochs : length w.ended + 1 ≡ w.epoch

-- a thread that there is none of ended each epoch with nothing
abbrev pub HasNoOthers : {V : Type 0} → Setting V → World V → Type 0
HasNoOthers s w =
    (i t : ℕ) (x : Ended) → slice_get w.ended i ≡ Some x → s.threads ≤ t → (x.entries t ≡ 0) × (x.outputs t ≡ 0)
