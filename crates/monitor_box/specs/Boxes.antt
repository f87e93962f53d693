-- The box as a value: it has 1 to 64 tables.
use Rattle.std.specs.Prelude.{ℕ, ◌≤◌, min, max}
use Rattle.std.proofs.Common.{arith}
use Rattle.plain_machine.specs.Program.{Meaning, IsLawful}
use Rattle.monitor_box.specs.declared.monitor.MonitorBox.{MonitorBox}
use Rattle.monitor_box.specs.declared.value.MonitorValue.{MonitorValue}
use Rattle.monitor_box.specs.Monitor.{monitor_meaning, Fits}
use Rattle.monitor_box.specs.Lawful.{monitor_lawful}

pub at_least_1 : (n : ℕ) → 1 ≤ max 1 (min n 64)
at_least_1 n = omega arith

pub at_most_64 : (n : ℕ) → max 1 (min n 64) ≤ 64
at_most_64 n = omega arith

-- the box with this number of tables; of a number outside 1 to 64, the nearest
abbrev pub box_with : ℕ → MonitorBox
box_with n = record { shards = max 1 (min n 64); some = at_least_1 n; few = at_most_64 n }

abbrev pub box_meaning : MonitorBox → Meaning MonitorValue
box_meaning b = monitor_meaning b.shards

pub box_lawful : (b : MonitorBox) → IsLawful (box_meaning b) Fits
box_lawful b = monitor_lawful b.shards b.some b.few
