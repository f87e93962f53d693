-- When a connection is idle, and when it is live. None is kept for good.
use Rattle.std.specs.Prelude.{ℕ, ◌+◌, ◌<◌, ◌≤◌}
use Rattle.nat_tables.specs.declared.entries.Endpoint.{Endpoint}
use Rattle.nat_tables.specs.declared.slot.Slot.{Slot}
use Rattle.flow_boxes.specs.Idle.{idle_after}

-- no packet of the client used the connection for its time
abbrev pub IsIdleAt : ℕ → Endpoint → Slot → Type 0
IsIdleAt now client slot = slot.last + idle_after client.protocol slot.phase ≤ now

abbrev pub IsLiveAt : ℕ → Endpoint → Slot → Type 0
IsLiveAt now client slot = now < slot.last + idle_after client.protocol slot.phase
