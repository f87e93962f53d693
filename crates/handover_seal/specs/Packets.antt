-- The digest of packets, and what is hashed of them: it tells any two lists of packets apart.
use Rattle.std.specs.Prelude.{◌≡◌, ◌<◌, ◌≤◌, ◌^◌, ℕ, ◌+◌, ◌++◌, List, [], ◌∷◌, codes, length, slice_get, take, Some}
use Rattle.std.specs.Int.{to_be_bytes, w32, w64}
use Rattle.std.specs.List.{flat_map}
use Rattle.sha2.specs.Sha256.{sha256}
use Rattle.plain_text.specs.declared.packet.Packet.{Packet}
use Rattle.plain_text.specs.declared.packet.Unit.{Unit as TimeUnit}
use Rattle.plain_text.specs.declared.packet.Unit.TheVariants.{Micro, Nano}

-- a packet: its time, its length on the wire, how many bytes were captured of it, and these bytes
abbrev pub packet_text : Packet → List ℕ
packet_text p =
    to_be_bytes w32 p.seconds
    ++ (to_be_bytes w32 p.fraction ++ (to_be_bytes w32 p.original ++ (to_be_bytes w64 (length p.bytes) ++ p.bytes)))

-- what the fractions of the times count
abbrev pub unit_text : TimeUnit → List ℕ
unit_text Micro = codes "u"
unit_text Nano = codes "n"

abbrev pub packets_text : TimeUnit → List Packet → List ℕ
packets_text unit packets = unit_text unit ++ flat_map packet_text packets

abbrev pub packets_digest : TimeUnit → List Packet → List ℕ
packets_digest unit packets = sha256 (packets_text unit packets)

-- the digest of the first packets, for each count of them
abbrev pub AreFirstDigests : TimeUnit → List Packet → List (List ℕ) → Type 0
AreFirstDigests unit packets digests =
    (length digests ≡ length packets + 1)
    × ((k : ℕ) → k ≤ length packets → slice_get digests k ≡ Some (packets_digest unit (take k packets)))

-- the numbers of a packet are those that a capture can have
abbrev pub FitsText : Packet → Type 0
FitsText p = (p.seconds < 2 ^ 32) × (p.fraction < 2 ^ 32) × (p.original < 2 ^ 32) × (length p.bytes < 2 ^ 64)
