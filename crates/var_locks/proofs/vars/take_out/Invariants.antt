use Rattle.std.proofs.Common.{◌≡◌, ◌≤◌, ◌<◌, ℕ, take, true, false}
use Rattle.std.specs.Prelude.{slice_index_or}
use Rattle.var_locks.proofs.vars.take_out.Given as goal

-- the values of the first slots were taken, the others are still there
abbrev pub invariant-loop-slot : goal.invariant-loop-slot
invariant-loop-slot g l =
    (l.closed.slots.items ≡ l.fn.closed.slots.items) × (l.closed.slots.len ≡ l.fn.closed.slots.len)
    × (l.slot ≤ l.closed.slots.len) × (l.slot-end ≡ l.closed.slots.len)
    × (l.parts.items ≡ take l.slot l.fn.closed.slots.items) × (l.closed.slots.len ≤ l.parts.cap)
    × ((k : ℕ) → k < l.closed.slots.len → l.slot ≤ k → slice_index_or l.closed.slots.filled k false ≡ true)
    × ((k : ℕ) → k < l.slot → slice_index_or l.closed.slots.filled k false ≡ false)
