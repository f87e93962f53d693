use Rattle.std.proofs.Common.{◌≡◌, take}
use Rattle.access_log.specs.Rows.{row_slots}
use Rattle.access_log.proofs.row.Row.in_full.Given as goal

abbrev pub invariant-loop-i : goal.invariant-loop-i
invariant-loop-i l = l.full.items ≡ take l.i (row_slots l.self)
