use Rattle.std.proofs.Common.{◌≡◌, ◌≤◌, length, take}
use Rattle.drill_report.specs.Report.{packets_in}
use Rattle.drill_report.proofs.comparing.first_difference.Given as goal

-- the packets so far are the same
abbrev pub invariant-loop-place : goal.invariant-loop-place
invariant-loop-place l = record {
  same : take l.place (packets_in l.outputs) ≡ take l.place (packets_in l.others);
  within : l.place ≤ length l.others;
}
