-- The pool: the free ports of each protocol in a range, those of each parity in increasing order (RFC 3022, section
-- 2.2, the ports of one outside address; RFC 4787, REQ-3 and REQ-4).
use Rattle.std.specs.Prelude.{◌≡◌, ℕ, zero, suc, ◌+◌, ◌-◌, ◌%◌, ◌^◌, ◌<◌, ◌≤◌, Bool, ◌&&◌, ◌==◌, nat_lt, not}
use Rattle.std.specs.Prelude.{true, false, if◌then◌else◌, List, [], ◌∷◌, length, slice_index, Option, Some, None}
use Rattle.std.specs.List.{remove}
use Rattle.nat_tables.specs.declared.entries.PortKey.{PortKey}
use Rattle.nat_tables.specs.Keys.{same_port, port_key}

-- the free ports of one protocol
pub record Ports : Type 0 where
  pub even : List ℕ
  pub odd : List ℕ

pub record PoolPorts : Type 0 where
  -- the range, both ends included
  pub low : ℕ
  pub high : ℕ
  pub tcp : Ports
  pub udp : Ports

-- one of these ports at the index that the draw chooses, and the others; none of no ports
abbrev pub chosen : ℕ → List ℕ → Option (ℕ × List ℕ)
chosen draw [] = None
chosen draw (p ∷ ps) =
    let at = draw % length (p ∷ ps) in
    Some (slice_index (p ∷ ps) at, remove (p ∷ ps) at)

-- what was chosen of the ports of the wanted parity, or else of the others, which are then all that are free
abbrev pub of_even : Ports → Option (ℕ × List ℕ) → Option (ℕ × List ℕ) → Option ℕ × Ports
of_even ports (Some c) odd = (Some c.0, record { even = c.1; odd = ports.odd })
of_even ports None (Some c) = (Some c.0, record { even = ports.even; odd = c.1 })
of_even ports None None = (None, ports)

abbrev pub of_odd : Ports → Option (ℕ × List ℕ) → Option (ℕ × List ℕ) → Option ℕ × Ports
of_odd ports even (Some c) = (Some c.0, record { even = ports.even; odd = c.1 })
of_odd ports (Some c) None = (Some c.0, record { even = c.1; odd = ports.odd })
of_odd ports None None = (None, ports)

abbrev pub is_even : ℕ → Bool
is_even port = port % 2 == 0

-- a port of the parity of this one while one is free
abbrev pub reserved_of : ℕ → ℕ → Ports → Option ℕ × Ports
reserved_of port draw ports =
    if is_even port then of_even ports (chosen draw ports.even) (chosen draw ports.odd)
    else of_odd ports (chosen draw ports.even) (chosen draw ports.odd)

-- the ports in increasing order with one more
abbrev pub with_port : ℕ → List ℕ → List ℕ
with_port p [] = p ∷ []
with_port p (q ∷ qs) = if nat_lt p q then p ∷ q ∷ qs else if p == q then q ∷ qs else q ∷ with_port p qs

abbrev pub given_back_to : ℕ → Ports → Ports
given_back_to p ports =
    if is_even p then record { even = with_port p ports.even; odd = ports.odd }
    else record { even = ports.even; odd = with_port p ports.odd }

abbrev pub in_tcp : PoolPorts → Option ℕ × Ports → Option ℕ × PoolPorts
in_tcp pool r = (r.0, record { low = pool.low; high = pool.high; tcp = r.1; udp = pool.udp })

abbrev pub in_udp : PoolPorts → Option ℕ × Ports → Option ℕ × PoolPorts
in_udp pool r = (r.0, record { low = pool.low; high = pool.high; tcp = pool.tcp; udp = r.1 })

-- a port is taken out, for a flow of this protocol from this port, as the draw chooses
abbrev pub reserve : ℕ → ℕ → ℕ → PoolPorts → Option ℕ × PoolPorts
reserve protocol port draw pool =
    if protocol == 6 then in_tcp pool (reserved_of port draw pool.tcp)
    else if protocol == 17 then in_udp pool (reserved_of port draw pool.udp)
    else (None, pool)

abbrev pub is_in_range : ℕ → PoolPorts → Bool
is_in_range p pool = not (nat_lt p pool.low) && not (nat_lt pool.high p)

-- a port is free again; nothing changes where it is out of range, free, or of another protocol
abbrev pub give_back : ℕ → ℕ → PoolPorts → PoolPorts
give_back protocol p pool =
    if is_in_range p pool then if protocol == 6
    then record { low = pool.low; high = pool.high; tcp = given_back_to p pool.tcp; udp = pool.udp }
    else if protocol == 17
    then record { low = pool.low; high = pool.high; tcp = pool.tcp; udp = given_back_to p pool.udp } else pool else pool

abbrev pub no_ports : Ports
no_ports = record { even = []; odd = [] }

-- these ports, and this number of ports from `low` on
abbrev pub ports_from : ℕ → ℕ → Ports → Ports
ports_from low zero ports = ports
ports_from low (suc n) ports = given_back_to (low + n) (ports_from low n ports)

abbrev pub full_pool : ℕ → ℕ → PoolPorts
full_pool low high =
    let ports = ports_from low (high + 1 - low) no_ports in
    record { low = low; high = high; tcp = ports; udp = ports }

-- A pool that lacks the ports of a list

abbrev pub has_port : PortKey → List PortKey → Bool
has_port k [] = false
has_port k (j ∷ js) = if same_port k j then true else has_port k js

-- of this number of ports of a protocol from `low` on, those that are not of the list
abbrev pub ports_without : List PortKey → ℕ → ℕ → ℕ → Ports
ports_without out protocol low zero = no_ports
ports_without out protocol low (suc n) =
    if has_port (port_key protocol (low + n)) out then ports_without out protocol low n
    else given_back_to (low + n) (ports_without out protocol low n)

abbrev pub pool_without : List PortKey → ℕ → ℕ → PoolPorts
pool_without out low high = record {
  low = low;
  high = high;
  tcp = ports_without out 6 low (high + 1 - low);
  udp = ports_without out 17 low (high + 1 - low);
}

-- how many ports of the protocol are free
abbrev pub free_count : ℕ → PoolPorts → ℕ
free_count protocol pool =
    if protocol == 6 then length pool.tcp.even + length pool.tcp.odd
    else if protocol == 17 then length pool.udp.even + length pool.udp.odd
    else 0

-- Counting

abbrev pub one_if : Bool → ℕ
one_if b = if b then 1 else 0

-- how often the port stands there
abbrev pub count_port : ℕ → List ℕ → ℕ
count_port p [] = 0
count_port p (q ∷ qs) = one_if (q == p) + count_port p qs

abbrev pub free_in : ℕ → Ports → ℕ
free_in p ports = count_port p ports.even + count_port p ports.odd

-- how often the port of the protocol is free
abbrev pub free_of : ℕ → ℕ → PoolPorts → ℕ
free_of protocol p pool = if protocol == 6 then free_in p pool.tcp else if protocol == 17 then free_in p pool.udp else 0

abbrev pub has_protocol : ℕ → Bool
has_protocol protocol = if protocol == 6 then true else protocol == 17

-- 1 for a port of the range and of one of the two protocols
abbrev pub of_range : ℕ → ℕ → PortKey → ℕ
of_range low high k =
    if has_protocol k.protocol then one_if (not (nat_lt k.port low) && not (nat_lt high k.port)) else 0

-- the port is below each of these
abbrev pub IsBelow : ℕ → List ℕ → Type 0
IsBelow p [] = Unit {0}
IsBelow p (q ∷ qs) = (p < q) × IsBelow p qs

-- ports of 16 bits and of this parity, in increasing order
abbrev pub AreOfParity : ℕ → List ℕ → Type 0
AreOfParity parity [] = Unit {0}
AreOfParity parity (p ∷ ps) = (p < 2 ^ 16) × (p % 2 ≡ parity) × IsBelow p ps × AreOfParity parity ps

abbrev pub ArePorts : PoolPorts → Type 0
ArePorts pool =
    AreOfParity 0 pool.tcp.even × AreOfParity 1 pool.tcp.odd × AreOfParity 0 pool.udp.even × AreOfParity 1 pool.udp.odd

-- While a port of this parity is free, one of this parity is reserved.
abbrev pub KeepsParity : Type 0
KeepsParity =
    (protocol port draw p q : ℕ) (pool : PoolPorts) → ArePorts pool → (reserve protocol port draw pool).0 ≡ Some p
    → 1 ≤ free_of protocol q pool → q % 2 ≡ port % 2 → p % 2 ≡ port % 2
