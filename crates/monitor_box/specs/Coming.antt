-- A number of packets, summed over those in hand that stand at a place of the program.
use Rattle.std.specs.Prelude.{ℕ, ◌==◌, if◌then◌else◌, Option, Some, None}
use Rattle.plain_text.specs.declared.packet.Packet.{Packet}
use Rattle.entry_order.specs.Stamps.{sum_below}
use Rattle.plain_machine.specs.Machine.{Hand, Thread}

abbrev pub coming_by : ℕ → (Packet → ℕ) → Option Hand → ℕ
coming_by place number None = 0
coming_by place number (Some h) = if h.place.at == place then number h.packet else 0

abbrev pub coming_sum : ℕ → (Packet → ℕ) → ℕ → (ℕ → Thread) → ℕ
coming_sum place number threads thread = sum_below threads (λ t. coming_by place number (thread t).hand)
