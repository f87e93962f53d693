-- The limits of a pcapng capture: its packets and its bytes.
use Rattle.std.specs.Prelude.{◌≡◌, ℕ, ◌-◌, ◌≤◌, ◌&&◌, ◌==◌, nat_lt, if◌then◌else◌, Bool, true, false, List, length}
use Rattle.std.specs.Prelude.{take, Option, Some, None, Result, Ok, Err}
use Rattle.plain_text.specs.declared.limit.TheConstants.{MOST_FILE_BYTES, MOST_PACKETS}
use Rattle.plain_text.specs.declared.limit.Limit.{Limit}
use Rattle.plain_text.specs.declared.limit.Limit.TheVariants.{File, Packets}
use Rattle.plain_text.specs.declared.packet.Packet.{Packet}
use Rattle.pcap_io.specs.declared.order.Order.{Order}
use Rattle.pcap_io.specs.Capture.{number}
use Rattle.pcapng_io.specs.declared.block.Block.{Block}
use Rattle.pcapng_io.specs.declared.fault.NgCause.{NgCause}
use Rattle.pcapng_io.specs.declared.fault.NgCause.TheVariants.{ShortBlock, BadLength, BadMagic, BadVersion, BadLinkType}
use Rattle.pcapng_io.specs.declared.fault.NgCause.TheVariants.{BadOption, NoInterface, BadPacket, BadTime}
use Rattle.pcapng_io.specs.Blocks.{kind_of, gives_packet}
use Rattle.pcapng_io.specs.Capture.{Section, Reaches}
use Rattle.pcapng_io.specs.Frames.{framed}

abbrev pub is_short : Result Block NgCause → Bool
is_short (Ok b) = false
is_short (Err ShortBlock) = true
is_short (Err BadLength) = false
is_short (Err BadMagic) = false
is_short (Err BadVersion) = false
is_short (Err BadLinkType) = false
is_short (Err BadOption) = false
is_short (Err NoInterface) = false
is_short (Err BadPacket) = false
is_short (Err BadTime) = false

-- the four type bytes of a packet's block stand here, within the bytes that are left of a file's limit
abbrev pub shows_packet : Order → ℕ → List ℕ → Bool
shows_packet o room bytes = nat_lt 3 room && (nat_lt 3 (length bytes) && gives_packet (kind_of (number o 4 bytes)))

-- the block that begins here needs more bytes than are left of a file's limit, and more are there
abbrev pub is_cut : Order → ℕ → List ℕ → Bool
is_cut o room bytes = nat_lt room (length bytes) && is_short (framed o (take room bytes))

-- The limit that is passed by what begins here, where all packets of a capture were given or not. The packets' limit
-- goes before the file's, and both before every fault of the block.
abbrev pub limit_here : Order → Bool → ℕ → List ℕ → Option Limit
limit_here o full room bytes =
    if full && shows_packet o room bytes then Some Packets
    else if is_cut o room bytes then Some File
    else None

-- the limit that is passed behind this number of bytes, which gave this number of packets
abbrev pub limit_behind : Section → ℕ → ℕ → List ℕ → Option Limit
limit_behind s count offset rest = limit_here s.order (count == MOST_PACKETS) (MOST_FILE_BYTES - offset) rest

-- whole blocks within the limits, and then one that passes this limit
pub record PassesNgLimit (bytes : List ℕ) (limit : Limit) : Type 0 where
  pub before : List Packet
  pub section : Section
  pub passed : List ℕ
  pub rest : List ℕ
  pub reaches : Reaches bytes before section passed rest
  pub count : length before ≤ MOST_PACKETS
  pub size : length passed ≤ MOST_FILE_BYTES
  pub limited : limit_behind section (length before) (length passed) rest ≡ Some limit
