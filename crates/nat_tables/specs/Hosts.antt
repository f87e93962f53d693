-- How many mappings a host has, and a forward table in which no host has more than so many of a protocol (RFC 6888,
-- REQ-4). A host is an inside address; its ports are counted by protocol.
use Rattle.std.specs.Prelude.{ℕ, ◌+◌, Bool, ◌&&◌, ◌==◌, not, nat_lt, if◌then◌else◌}
use Rattle.std.specs.Prelude.{List, [], ◌∷◌, Option, Some, None}
use Rattle.nat_tables.specs.declared.entries.Endpoint.{Endpoint}
use Rattle.nat_tables.specs.declared.slot.Slot.{Slot}
use Rattle.nat_tables.specs.declared.entries.Find.{Find}
use Rattle.nat_tables.specs.declared.entries.Find.TheVariants.{Absent}
use Rattle.nat_tables.specs.declared.entries.Bind.{Bind}
use Rattle.nat_tables.specs.Forwards.{Forwards, is_idle, port_of, slot_of, without, find, find_or_bind}

-- the mapping is of this host, and of this protocol
abbrev pub is_of_host : ℕ → ℕ → Endpoint → Bool
is_of_host protocol address key = (key.protocol == protocol) && (key.address == address)

-- how many mappings it has, idle ones included
abbrev pub count_of : ℕ → ℕ → Forwards → ℕ
count_of protocol address [] = 0
count_of protocol address (e ∷ es) =
    if is_of_host protocol address e.0 then 1 + count_of protocol address es else count_of protocol address es

-- it has as many as a host may have
abbrev pub is_full : ℕ → Endpoint → Forwards → Bool
is_full most key es = not (nat_lt (count_of key.protocol key.address es) most)

-- the first of its mappings that is idle
abbrev pub first_idle_of : Endpoint → ℕ → Forwards → Option (Endpoint × Slot)
first_idle_of key now [] = None
first_idle_of key now (e ∷ es) =
    if is_of_host key.protocol key.address e.0 && is_idle now e then Some e else first_idle_of key now es

-- A host that has as many as it may have gives up the first of its own that is idle. Where it has none, all stay: an
-- idle one of another host, or of the other protocol, is of no use to it.
abbrev pub given_up : Forwards → Option (Endpoint × Slot) → Find × Forwards
given_up es (Some e) = (Absent (Some (port_of e)), without e.0 es)
given_up es None = (Absent None, es)

abbrev pub found_within : ℕ → Endpoint → ℕ → Forwards → Option Slot → Find × Forwards
found_within most key now es (Some slot) = find key now es
found_within most key now es None =
    if is_full most key es then given_up es (first_idle_of key now es) else find key now es

-- What an outbound packet finds of its source, where each host has at most so many mappings.
abbrev pub find_within : ℕ → Endpoint → ℕ → Forwards → Find × Forwards
find_within most key now es = found_within most key now es (slot_of key es)

abbrev pub bound_within : ℕ → Endpoint → ℕ → ℕ → Forwards → Option Slot → Option Bind × Forwards
bound_within most key port now es (Some slot) =
    let r = find_or_bind key port now es in (Some r.0, r.1)
bound_within most key port now es None =
    if is_full most key es then (None, es) else (let r = find_or_bind key port now es in (Some r.0, r.1))

-- A key without a mapping, whose host has as many as it may have, is bound to nothing.
abbrev pub bind_within : ℕ → Endpoint → ℕ → ℕ → Forwards → Option Bind × Forwards
bind_within most key port now es = bound_within most key port now es (slot_of key es)
