use Rattle.std.proofs.Common.{◌≡◌, ℕ, length, take}
use Rattle.access_log.specs.Rows.{row_slots}
use Rattle.access_log.specs.Slots.{in_slots}
use Rattle.access_log.proofs.slots.count_full.Given as goal

abbrev pub invariant-loop-i : goal.invariant-loop-i
invariant-loop-i l = (from : ℕ) → l.count ≡ length (in_slots from (take l.i (row_slots l.contiguous)))
