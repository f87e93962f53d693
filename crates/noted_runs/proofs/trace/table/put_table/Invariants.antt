use Rattle.std.proofs.Common.{◌≡◌, ◌++◌, take}
use Rattle.std.specs.List.{flat_map}
use Rattle.noted_runs.specs.Table.{heading, row_line}
use Rattle.noted_runs.proofs.trace.table.put_table.Given as goal

-- the heading, and the lines of the rows so far
abbrev pub invariant-loop-row : goal.invariant-loop-row
invariant-loop-row l = l.text ≡ heading ++ flat_map row_line (take l.row-index l.rows)
