-- The bytes of a generated packet, field by field in the order of the wire: an Ethernet frame that carries IPv4 (RFC
-- 791), and in it TCP (RFC 9293) or UDP (RFC 768). Numbers of 16 and 32 bits have their high byte first.
use Rattle.std.specs.Prelude.{ℕ, ◌==◌, if◌then◌else◌, List, [], ◌∷◌, ◌++◌, replicate}
use Rattle.std.specs.Int.{to_be_bytes, w16, w32}
use Rattle.inet_checksum.specs.OnesComplement.{words, checksum_of}
use Rattle.traffic_gen.specs.declared.fields.Fields.{Fields}
use Rattle.traffic_gen.specs.declared.fields.Protocol.{Protocol}
use Rattle.traffic_gen.specs.declared.fields.Protocol.TheVariants.{Tcp, Udp}

-- fields of 8, 16 and 32 bits
abbrev pub byte : ℕ → List ℕ
byte n = n ∷ []

abbrev pub word : ℕ → List ℕ
word n = to_be_bytes w16 n

abbrev pub long : ℕ → List ℕ
long n = to_be_bytes w32 n

abbrev pub protocol_number : Protocol → ℕ
protocol_number Tcp = 6
protocol_number Udp = 17

-- 10.0.0.x
abbrev pub source_address : Fields → List ℕ
source_address f = 10 ∷ 0 ∷ 0 ∷ f.source_host ∷ []

-- 198.51.100.x
abbrev pub destination_address : Fields → List ℕ
destination_address f = 198 ∷ 51 ∷ 100 ∷ f.destination_host ∷ []

abbrev pub ethernet_header : List ℕ
ethernet_header =
    (2 ∷ 0 ∷ 0 ∷ 0 ∷ 0 ∷ 2 ∷ [])  -- destination
    ++ (2 ∷ 0 ∷ 0 ∷ 0 ∷ 0 ∷ 1 ∷ [])  -- source
    ++ word 0x0800  -- type: IPv4

-- of 20 bytes, with this checksum
abbrev pub ipv4_header : Fields → ℕ → List ℕ
ipv4_header f checksum =
    byte 0x45  -- version 4, a header of 5 words of 32 bits
    ++ byte 0  -- type of service
    ++ word 46  -- total length
    ++ word f.identification
    ++ word 0  -- flags and fragment offset
    ++ byte 64  -- time to live
    ++ byte (protocol_number f.protocol)
    ++ word checksum
    ++ source_address f
    ++ destination_address f

-- a segment that acknowledges, with this source port and checksum, and six bytes of data
abbrev pub tcp_segment : ℕ → ℕ → List ℕ
tcp_segment source_port checksum =
    word source_port
    ++ word 80  -- destination port
    ++ long 0  -- sequence number
    ++ long 0  -- acknowledgment number
    ++ byte 0x50  -- a header of 5 words of 32 bits
    ++ byte 0x10  -- control bits: ACK
    ++ word 1024  -- window
    ++ word checksum
    ++ word 0  -- urgent pointer
    ++ replicate 6 0  -- data

-- with this source port and checksum, and eighteen bytes of data
abbrev pub udp_datagram : ℕ → ℕ → List ℕ
udp_datagram source_port checksum =
    word source_port
    ++ word 53  -- destination port
    ++ word 26  -- length
    ++ word checksum
    ++ replicate 18 0  -- data

abbrev pub transport_of : Protocol → ℕ → ℕ → List ℕ
transport_of Tcp source_port checksum = tcp_segment source_port checksum
transport_of Udp source_port checksum = udp_datagram source_port checksum

-- what the IPv4 header is followed by, with this checksum
abbrev pub transport : Fields → ℕ → List ℕ
transport f checksum = transport_of f.protocol f.source_port checksum

-- what the transport's checksum covers before the transport itself
abbrev pub pseudo_header : Fields → List ℕ
pseudo_header f =
    source_address f
    ++ destination_address f
    ++ byte 0
    ++ byte (protocol_number f.protocol)
    ++ word 26  -- transport length

-- how a transport checksum is written: in UDP a 0 means none, and one that comes out as 0 is all ones
abbrev pub written_checksum : Protocol → ℕ → ℕ
written_checksum Tcp checksum = checksum
written_checksum Udp checksum = if checksum == 0 then 0xFFFF else checksum

abbrev pub header_checksum : Fields → ℕ
header_checksum f = checksum_of (words (ipv4_header f 0))

abbrev pub transport_checksum : Fields → ℕ
transport_checksum f = written_checksum f.protocol (checksum_of (words (pseudo_header f ++ transport f 0)))

abbrev pub frame : Fields → List ℕ
frame f = ethernet_header ++ ipv4_header f (header_checksum f) ++ transport f (transport_checksum f)
