-- A new mapping has the parity of its inside port while a port of this parity is free (RFC 4787, REQ-4).
use Rattle.std.specs.Prelude.{◌≡◌, ℕ, ◌+◌, ◌*◌, ◌%◌, ◌<◌, ◌≤◌, List, ◌∷◌, Some}
use Rattle.plain_text.specs.declared.packet.Packet.{Packet}
use Rattle.plain_machine.specs.History.{Step, value_after, IsHistory}
use Rattle.nat_tables.specs.declared.entries.Endpoint.{Endpoint}
use Rattle.nat_tables.specs.declared.slot.Slot.{Slot}
use Rattle.nat_tables.specs.Keys.{port_key}
use Rattle.nat_box.specs.declared.value.NatValue.{NatValue}
use Rattle.nat_box.specs.Settings.{Settings, AreSettings}
use Rattle.nat_box.specs.Nat.{nat_meaning}
use Rattle.nat_box.specs.PortStanding.{free_at}
use Rattle.nat_box.specs.Sentences.{Has, mappings_in}
use Rattle.nat_runs.specs.Met.{Met, met_of}

-- the port has the parity of the other one, if a port of that parity was free when the packet touched the pool
abbrev pub HasParity : Settings → Met → ℕ → ℕ → ℕ → Type 0
HasParity s met protocol inside port =
    (value : ℕ → NatValue) × (met.at_pool ≡ Some value)
    × ((v free : ℕ) → v < 2 + 2 * s.shards → 1 ≤ free_at (port_key protocol free) (value v)
    → free % 2 ≡ inside % 2 → port % 2 ≡ inside % 2)

-- each mapping that a step makes: its endpoint had none before
abbrev pub NewHaveParity : Type 0
NewHaveParity =
    (s : Settings) (threads : ℕ) (inputs : ℕ → List Packet) (x : Step NatValue) (earlier : List (Step NatValue)) (v : ℕ)
    (key : Endpoint) (slot : Slot) → AreSettings s → IsHistory (nat_meaning s) inputs threads (x ∷ earlier)
    → Has (mappings_in (value_after (nat_meaning s) (x ∷ earlier) v)) (key, slot)
    → ((old : Slot) → Has (mappings_in (value_after (nat_meaning s) earlier v)) (key, old) → ⊥)
    → HasParity s (met_of s x.thread earlier) key.protocol key.port slot.port
