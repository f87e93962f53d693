-- Captures as bytes: libpcap savefiles of version 2.4 with Ethernet frames, by pcap-savefile(5) and
-- draft-ietf-opsawg-pcap, "PCAP Capture File Format".
use Rattle.std.specs.Prelude.{◌≡◌, ℕ, ◌^◌, ◌<◌, ◌≤◌, List, [], ◌∷◌, ◌++◌, length, replicate}
use Rattle.std.specs.List.{flat_map}
use Rattle.byteorder.specs.Endian.{big_bytes, big_number, little_bytes, little_number}
use Rattle.plain_text.specs.declared.limit.TheConstants.{MOST_CAPTURED}
use Rattle.plain_text.specs.declared.packet.Packet.{Packet}
use Rattle.plain_text.specs.declared.packet.Unit.{Unit as TimeUnit}
use Rattle.plain_text.specs.declared.packet.Unit.TheVariants.{Micro, Nano}
use Rattle.pcap_io.specs.declared.order.Order.{Order}
use Rattle.pcap_io.specs.declared.order.Order.TheVariants.{Little, Big}

-- the n bytes of a number
abbrev pub spelled : Order → ℕ → ℕ → List ℕ
spelled Little n x = little_bytes n x
spelled Big n x = big_bytes n x

-- the number in the first n bytes
abbrev pub number : Order → ℕ → List ℕ → ℕ
number Little n bytes = little_number n bytes
number Big n bytes = big_number n bytes

abbrev pub magic : TimeUnit → ℕ
magic Micro = 0xa1b2c3d4
magic Nano = 0xa1b23c4d

-- the file header: magic, version 2.4, the time zone, sigfigs and snaplen, which are not used, and link type 1
abbrev pub header_of : Order → TimeUnit → List ℕ → List ℕ
header_of o u unused = spelled o 4 (magic u) ++ spelled o 2 2 ++ spelled o 2 4 ++ unused ++ spelled o 4 1

-- a record: seconds, fraction, captured length, original length, and the captured bytes
abbrev pub record_of : Order → Packet → List ℕ
record_of o p =
    spelled o 4 p.seconds ++ spelled o 4 p.fraction ++ spelled o 4 (length p.bytes) ++ spelled o 4 p.original ++ p.bytes

abbrev pub records_of : Order → List Packet → List ℕ
records_of o packets = flat_map (record_of o) packets

-- what a record can have
pub record IsRecorded (p : Packet) : Type 0 where
  pub seconds : p.seconds < 2 ^ 32
  pub fraction : p.fraction < 2 ^ 32
  pub original : p.original < 2 ^ 32
  pub captured : length p.bytes ≤ MOST_CAPTURED

abbrev pub AreRecorded : List Packet → Type 0
AreRecorded [] = Unit {0}
AreRecorded (p ∷ ps) = IsRecorded p × AreRecorded ps

-- the bytes begin with a header and the records of these packets, and after them stands the rest
pub record Begins (bytes : List ℕ) (o : Order) (u : TimeUnit) (packets : List Packet) (rest : List ℕ) : Type 0 where
  pub unused : List ℕ
  pub unused_length : length unused ≡ 12
  pub parts : bytes ≡ header_of o u unused ++ (records_of o packets ++ rest)
  pub each : AreRecorded packets

-- the bytes are a capture of these packets
abbrev pub IsCapture : List ℕ → TimeUnit → List Packet → Type 0
IsCapture bytes u packets = (o : Order) × Begins bytes o u packets []

-- the one written form: little-endian, with the time zone and sigfigs 0, and the most captured bytes as snaplen
abbrev pub written_header : TimeUnit → List ℕ
written_header u = header_of Little u (replicate 8 0 ++ spelled Little 4 MOST_CAPTURED)

abbrev pub written : TimeUnit → List Packet → List ℕ
written u packets = written_header u ++ records_of Little packets
