-- Forward tables: the mappings of inside endpoints, in the order in which they were made. A mapping is of the inside
-- endpoint alone, whatever remote endpoint it speaks with (RFC 4787, REQ-1).
use Rattle.std.specs.Prelude.{◌≡◌, ℕ, ◌+◌, max, Bool, true, false, ◌&&◌, ◌==◌, not, nat_lt, if◌then◌else◌}
use Rattle.std.specs.Prelude.{List, [], ◌∷◌, ◌++◌, slice_get, Option, Some, None}
use Rattle.nat_tables.specs.declared.entries.Endpoint.{Endpoint}
use Rattle.nat_tables.specs.declared.entries.PortKey.{PortKey}
use Rattle.nat_tables.specs.declared.slot.Slot.{Slot}
use Rattle.nat_tables.specs.declared.entries.Find.{Find}
use Rattle.nat_tables.specs.declared.entries.Find.TheVariants.{Live, Absent}
use Rattle.nat_tables.specs.declared.entries.Bind.{Bind}
use Rattle.nat_tables.specs.declared.entries.Bind.TheVariants.{Bound, Other}
use Rattle.nat_tables.specs.declared.entries.Mapping.{Mapping}
use Rattle.nat_tables.specs.declared.phase.Phase.{Phase}
use Rattle.nat_tables.specs.declared.phase.Phase.TheVariants.{Plain, Kept}
use Rattle.nat_tables.specs.declared.phase.Segment.{Segment}
use Rattle.nat_tables.specs.Keys.{same_endpoint, port_key}
use Rattle.nat_tables.specs.Phases.{timer, is_kept, phase_after}

abbrev pub Forwards : Type 0
Forwards = List (Endpoint × Slot)

abbrev pub is_idle : ℕ → Endpoint × Slot → Bool
is_idle now e = not (is_kept e.1.phase) && not (nat_lt now (e.1.last + timer e.0.protocol e.1.phase))

abbrev pub refreshed : ℕ → Slot → Slot
refreshed now slot = record { port = slot.port; last = max slot.last now; phase = slot.phase }

-- the outside port of a mapping
abbrev pub port_of : Endpoint × Slot → PortKey
port_of e = port_key e.0.protocol e.1.port

abbrev pub slot_of : Endpoint → Forwards → Option Slot
slot_of key [] = None
slot_of key (e ∷ es) = if same_endpoint key e.0 then Some e.1 else slot_of key es

-- a refresh keeps the place
abbrev pub refresh : Endpoint → ℕ → Forwards → Forwards
refresh key now [] = []
refresh key now (e ∷ es) = if same_endpoint key e.0 then (e.0, refreshed now e.1) ∷ es else e ∷ refresh key now es

-- a slot, and the mapping of an endpoint, after a segment of this kind; a connection that is not established is kept
-- for so many seconds

abbrev pub marked : ℕ → Segment → Slot → Slot
marked seconds segment slot =
    record { port = slot.port; last = slot.last; phase = phase_after seconds segment slot.phase }

abbrev pub mark : Endpoint → ℕ → Segment → Forwards → Forwards
mark key seconds segment [] = []
mark key seconds segment (e ∷ es) =
    if same_endpoint key e.0 then (e.0, marked seconds segment e.1) ∷ es else e ∷ mark key seconds segment es

-- the mapping of an endpoint in another phase

abbrev pub in_phase : Phase → Slot → Slot
in_phase phase slot = record { port = slot.port; last = slot.last; phase = phase }

abbrev pub with_phase : Endpoint → Phase → Forwards → Forwards
with_phase key phase [] = []
with_phase key phase (e ∷ es) =
    if same_endpoint key e.0 then (e.0, in_phase phase e.1) ∷ es else e ∷ with_phase key phase es

-- a removal closes up
abbrev pub without : Endpoint → Forwards → Forwards
without key [] = []
without key (e ∷ es) = if same_endpoint key e.0 then es else e ∷ without key es

abbrev pub first_idle : ℕ → Forwards → Option (Endpoint × Slot)
first_idle now [] = None
first_idle now (e ∷ es) = if is_idle now e then Some e else first_idle now es

abbrev pub without_idle : ℕ → Forwards → Forwards
without_idle now [] = []
without_idle now (e ∷ es) = if is_idle now e then es else e ∷ without_idle now es

-- the first idle mapping is removed, and is the answer
abbrev pub idle_taken : ℕ → Forwards → Option (Endpoint × Slot) → Option (Endpoint × Slot) × Forwards
idle_taken now es (Some e) = (Some e, without_idle now es)
idle_taken now es None = (None, es)

-- or its port is
abbrev pub idle_removed : ℕ → Forwards → Option (Endpoint × Slot) → Option PortKey × Forwards
idle_removed now es (Some e) = (Some (port_of e), without_idle now es)
idle_removed now es None = (None, es)

-- a mapping that is there is removed where it is idle, and else refreshed
abbrev pub found_there : Endpoint → ℕ → Forwards → Slot → Bool → Find × Forwards
found_there key now es slot true = (Absent (Some (port_of (key, slot))), without key es)
found_there key now es slot false = (Live slot.port, refresh key now es)

-- by what is there of the key, and by the first idle mapping
abbrev pub found : Endpoint → ℕ → Forwards → Option Slot → Option (Endpoint × Slot) → Find × Forwards
found key now es (Some slot) idle = found_there key now es slot (is_idle now (key, slot))
found key now es None (Some e) = (Absent (Some (port_of e)), without_idle now es)
found key now es None None = (Absent None, es)

-- A live mapping is refreshed. One that is idle is removed; where there is none, the first idle
-- mapping of the table is removed.
abbrev pub find : Endpoint → ℕ → Forwards → Find × Forwards
find key now es = found key now es (slot_of key es) (first_idle now es)

abbrev pub bound : Endpoint → ℕ → ℕ → Forwards → Option Slot → Bind × Forwards
bound key port now es (Some slot) = (Other slot.port, refresh key now es)
bound key port now es None = (Bound, es ++ (key, record { port = port; last = now; phase = Plain }) ∷ [])

-- A mapping that is there, idle or not, is refreshed and stays. Else the key is mapped to this port, and stands last.
abbrev pub find_or_bind : Endpoint → ℕ → ℕ → Forwards → Bind × Forwards
find_or_bind key port now es = bound key port now es (slot_of key es)

abbrev pub kept_slot : ℕ → Slot
kept_slot port = record { port = port; last = 0; phase = Kept }

abbrev pub kept_by : Endpoint → ℕ → Forwards → Option Slot → Forwards
kept_by key port es (Some slot) = es
kept_by key port es None = es ++ (key, kept_slot port) ∷ []

-- The key is mapped to this port for good, and stands last, unless it has a mapping.
abbrev pub keep : Endpoint → ℕ → Forwards → Forwards
keep key port es = kept_by key port es (slot_of key es)

-- the key is mapped to this port for good
abbrev pub HasKept : Endpoint → ℕ → Forwards → Type 0
HasKept key port es = (slot : Slot) × (slot_of key es ≡ Some slot) × (slot.port ≡ port) × (slot.phase ≡ Kept)

abbrev pub lives_at : Endpoint → ℕ → ℕ → Option Slot → Bool
lives_at key port now None = false
lives_at key port now (Some slot) = (slot.port == port) && not (is_idle now (key, slot))

-- the key is mapped to this port, and its mapping is live
abbrev pub lives : Endpoint → ℕ → ℕ → Forwards → Bool
lives key port now es = lives_at key port now (slot_of key es)

-- the mapping at an index
abbrev pub mapping_of : Option (Endpoint × Slot) → Option Mapping
mapping_of None = None
mapping_of (Some e) = Some (record { key = e.0; port = e.1.port; last = e.1.last })

abbrev pub mapping_at : ℕ → Forwards → Option Mapping
mapping_at index es = mapping_of (slice_get es index)

-- the sum of a number of each mapping
abbrev pub total : (Endpoint → ℕ → ℕ) → Forwards → ℕ
total number [] = 0
total number (e ∷ es) = number e.0 e.1.port + total number es

-- Each mapping is in this, and no endpoint has two.

abbrev pub Misses : Forwards → Endpoint → Type 0
Misses [] key = Unit {0}
Misses (e ∷ es) key = (same_endpoint e.0 key ≡ false) × Misses es key

abbrev pub AreMappings : (Endpoint → Slot → Type 0) → Forwards → Type 0
AreMappings May [] = Unit {0}
AreMappings May (e ∷ es) = May e.0 e.1 × Misses es e.0 × AreMappings May es
