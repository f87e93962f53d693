-- A mapping stays, with its port, until it is idle (RFC 4787, REQ-1 and REQ-5; RFC 5382, REQ-5).
use Rattle.std.specs.Prelude.{◌≡◌, ℕ, ◌≤◌, ◌⊎◌, List, ◌∷◌, Some}
use Rattle.plain_text.specs.declared.packet.Packet.{Packet}
use Rattle.plain_machine.specs.History.{Step, value_after, IsHistory}
use Rattle.nat_tables.specs.declared.entries.Endpoint.{Endpoint}
use Rattle.nat_tables.specs.declared.slot.Slot.{Slot}
use Rattle.nat_box.specs.declared.value.NatValue.{NatValue}
use Rattle.nat_box.specs.Settings.{Settings, AreSettings}
use Rattle.nat_box.specs.Nat.{nat_meaning}
use Rattle.nat_box.specs.Sentences.{Has, mappings_in}
use Rattle.nat_runs.specs.Met.{Met, met_of}
use Rattle.nat_runs.specs.Idle.{IsIdle}

-- The endpoint has a mapping to the same port. The time of its last use is as it was, or later, and then it is the time
-- that the packet was told.
abbrev pub Stays : Met → Endpoint → Slot → NatValue → Type 0
Stays met key slot value =
    (later : Slot) × Has (mappings_in value) (key, later) × (later.port ≡ slot.port) × (slot.last ≤ later.last)
    × ((later.last ≡ slot.last) ⊎ (met.clock ≡ Some later.last))

-- The endpoint has no mapping there, and its last one was idle at the time that the packet was told.
abbrev pub IsGoneIdle : Met → Endpoint → Slot → NatValue → Type 0
IsGoneIdle met key slot value =
    (now : ℕ) × (met.clock ≡ Some now) × IsIdle now key slot
    × ((later : Slot) → Has (mappings_in value) (key, later) → ⊥)

-- Each mapping of each table, at each step: the time told is that of the packet whose move the step is.
abbrev pub MappingsStay : Type 0
MappingsStay =
    (s : Settings) (threads : ℕ) (inputs : ℕ → List Packet) (x : Step NatValue) (earlier : List (Step NatValue)) (v : ℕ)
    (key : Endpoint) (slot : Slot) → AreSettings s → IsHistory (nat_meaning s) inputs threads (x ∷ earlier)
    → Has (mappings_in (value_after (nat_meaning s) earlier v)) (key, slot)
    → Stays (met_of s x.thread earlier) key slot (value_after (nat_meaning s) (x ∷ earlier) v)
    ⊎ IsGoneIdle (met_of s x.thread earlier) key slot (value_after (nat_meaning s) (x ∷ earlier) v)
