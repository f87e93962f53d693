-- The monitor: packets leave as they came.
use Rattle.std.specs.Prelude.{◌≡◌, ℕ, List, ◌∷◌}
use Rattle.plain_text.specs.declared.packet.Packet.{Packet}
use Rattle.plain_machine.specs.declared.emission.Emission.{Emission}
use Rattle.plain_machine.specs.History.{Emitted, Step, IsHistory}
use Rattle.monitor_box.specs.declared.value.MonitorValue.{MonitorValue}
use Rattle.monitor_box.specs.Monitor.{monitor_meaning}
use Rattle.box_runs.specs.Outputs.{IsInput, SendsOnce}

-- what a thread sends out is its input of the emission's number
abbrev pub PacketsLeaveUnchanged : Type 0
PacketsLeaveUnchanged =
    (tables threads : ℕ) (inputs : ℕ → List Packet) (x : Step MonitorValue) (earlier : List (Step MonitorValue))
    (o : Emission) → IsHistory (monitor_meaning tables) inputs threads (x ∷ earlier) → x.act ≡ Emitted o
    → IsInput inputs x.thread o.input o.packet

abbrev pub PacketsLeaveOnce : Type 0
PacketsLeaveOnce = (tables : ℕ) → SendsOnce (monitor_meaning tables)
