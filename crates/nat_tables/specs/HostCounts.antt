-- Counts of the mappings of hosts, by protocol.
use Rattle.std.specs.Prelude.{◌≡◌, ℕ, ◌+◌, Bool, false, ◌&&◌, ◌==◌, List, Option, Some, None}
use Rattle.std.specs.Map.{lookup}
use Rattle.nat_tables.specs.declared.entries.Endpoint.{Endpoint}
use Rattle.nat_tables.specs.declared.slot.Slot.{Slot}
use Rattle.nat_tables.specs.declared.host_counts.Host.{Host}
use Rattle.nat_tables.specs.Forwards.{Forwards}
use Rattle.nat_tables.specs.Hosts.{is_of_host, count_of}
use Rattle.nat_tables.specs.Ports.{one_if}

abbrev pub same_host : Host → Host → Bool
same_host a b = (a.protocol == b.protocol) && (a.address == b.address)

abbrev pub host_of : Endpoint → Host
host_of key = record { protocol = key.protocol; address = key.address }

-- a host without an entry has none
abbrev pub counted : Option ℕ → ℕ
counted None = 0
counted (Some count) = count

abbrev pub host_count : Host → List (Host × ℕ) → ℕ
host_count host counts = counted (lookup (same_host host) counts)

-- the counts are those of these mappings; where none are kept, nothing is said
abbrev pub AreCounts : Option (List (Host × ℕ)) → Forwards → Type 0
AreCounts None es = Unit {0}
AreCounts (Some counts) es = (host : Host) → host_count host counts ≡ count_of host.protocol host.address es

-- the others have one mapping more, which is of this endpoint's host
abbrev pub HasOneMore : Endpoint → Forwards → Forwards → Type 0
HasOneMore key few many =
    (protocol address : ℕ)
    → count_of protocol address many ≡ one_if (is_of_host protocol address key) + count_of protocol address few

-- the mapping of a row is of the endpoint's host; an empty row has none
abbrev pub row_is_of_host : Endpoint → Option (Endpoint × Slot) → Bool
row_is_of_host key None = false
row_is_of_host key (Some e) = is_of_host key.protocol key.address e.0
