-- A connection never changes its backend: after each move of each run it is there with the backend that it had before,
-- or gone.
use Rattle.std.specs.Prelude.{◌≡◌, ℕ, ◌+◌, ◌<◌, List, [], ◌∷◌, Option, Some, None}
use Rattle.plain_text.specs.declared.packet.Packet.{Packet}
use Rattle.plain_machine.specs.History.{Step, value_after, IsHistory}
use Rattle.nat_tables.specs.declared.entries.Endpoint.{Endpoint}
use Rattle.nat_tables.specs.declared.slot.Slot.{Slot}
use Rattle.nat_tables.specs.Forwards.{Forwards, slot_of}
use Rattle.balancer_box.specs.declared.value.BalancerValue.{BalancerValue}
use Rattle.balancer_box.specs.declared.value.BalancerValue.TheVariants.{Dropped, Loaded, Connected}
use Rattle.balancer_box.specs.Settings.{Settings, AreSettings}
use Rattle.balancer_box.specs.Balancer.{balancer_meaning}

abbrev pub connections_in : BalancerValue → Forwards
connections_in (Dropped d) = []
connections_in (Loaded loads) = []
connections_in (Connected es) = es

-- gone, or still of the backend of this slot
abbrev pub IsKept : Slot → Option Slot → Type 0
IsKept old None = Unit {0}
IsKept old (Some new) = new.port ≡ old.port

abbrev pub AreKept : Forwards → Forwards → Type 0
AreKept old new = (client : Endpoint) (slot : Slot) → slot_of client old ≡ Some slot → IsKept slot (slot_of client new)

abbrev pub ConnectionsKeepBackends : Type 0
ConnectionsKeepBackends =
    (s : Settings) (threads : ℕ) (inputs : ℕ → List Packet) (x : Step BalancerValue)
    (earlier : List (Step BalancerValue)) → AreSettings s → IsHistory (balancer_meaning s) inputs threads (x ∷ earlier)
    → (v : ℕ) → v < 2 + s.shards
    → AreKept (connections_in (value_after (balancer_meaning s) earlier v))
    (connections_in (value_after (balancer_meaning s) (x ∷ earlier) v))
