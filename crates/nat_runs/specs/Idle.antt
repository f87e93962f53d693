-- When a mapping is idle, and when it is live.
use Rattle.std.specs.Prelude.{◌≡◌, ◌≢◌, ℕ, ◌+◌, ◌<◌, ◌≤◌, ◌⊎◌}
use Rattle.nat_tables.specs.declared.entries.Endpoint.{Endpoint}
use Rattle.nat_tables.specs.declared.slot.Slot.{Slot}
use Rattle.nat_tables.specs.declared.phase.Phase.TheVariants.{Kept}
use Rattle.flow_boxes.specs.Idle.{idle_after}

-- the endpoint's mapping was not used for its time, and it is not kept for good, as that of a static port is
abbrev pub IsIdle : ℕ → Endpoint → Slot → Type 0
IsIdle now key slot = (slot.phase ≢ Kept) × (slot.last + idle_after key.protocol slot.phase ≤ now)

abbrev pub IsLive : ℕ → Endpoint → Slot → Type 0
IsLive now key slot = (slot.phase ≡ Kept) ⊎ (now < slot.last + idle_after key.protocol slot.phase)
