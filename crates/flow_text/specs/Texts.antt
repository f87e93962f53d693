-- How protocols (RFC 790), IPv4 addresses (four decimal numbers, as in RFC 1123, section 2.1) and endpoints are
-- written.
use Rattle.std.specs.Prelude.{ℕ, ◌/◌, ◌%◌, ◌^◌, ◌==◌, if◌then◌else◌, List, ◌++◌, codes, decimal}

-- the two protocols that have ports by name, TCP (6) and UDP (17), and any other by its number
abbrev pub protocol_text : ℕ → List ℕ
protocol_text protocol =
    if protocol == 6 then codes "tcp"
    else if protocol == 17 then codes "udp"
    else decimal protocol

-- the four bytes of an address, the high one first, with dots between
abbrev pub address_text : ℕ → List ℕ
address_text address =
    decimal (address / 2 ^ 24) ++ codes "." ++ decimal (address / 2 ^ 16 % 256)
    ++ codes "." ++ decimal (address / 2 ^ 8 % 256) ++ codes "." ++ decimal (address % 256)

-- an address and a port
abbrev pub endpoint_text : ℕ → ℕ → List ℕ
endpoint_text address port = address_text address ++ codes ":" ++ decimal port
