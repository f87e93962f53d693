use Rattle.std.proofs.Common.{◌≡◌, ◌≤◌, ◌<◌, ◌-◌, ◌^◌, drop}
use Rattle.handover_world.specs.Faults.{wrong_row}
use Rattle.system_images.proofs.rows.wrong_row.Given as goal

-- those before this one are the next ones
abbrev pub invariant-loop-index : goal.invariant-loop-index
invariant-loop-index l = record {
  small : l.expected < 2 ^ 40;
  few : l.index ≤ l.expected;
  rest : wrong_row l.threads l.index (l.expected - l.index) (drop l.index l.rows)
      ≡ wrong_row l.threads 0 l.expected l.rows;
}
