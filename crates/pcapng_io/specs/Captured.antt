-- What reading a whole capture of either format answers.
use Rattle.std.specs.Prelude.{◌≡◌, ℕ, ◌≤◌, true, false, List, length, All}
use Rattle.plain_text.specs.declared.limit.TheConstants.{MOST_FILE_BYTES, MOST_PACKETS}
use Rattle.plain_text.specs.declared.limit.Limit.{Limit}
use Rattle.plain_text.specs.declared.packet.Packet.{Packet}
use Rattle.plain_text.specs.declared.packet.Unit.{Unit as TimeUnit}
use Rattle.plain_text.specs.declared.packet.Unit.TheVariants.{Nano}
use Rattle.pcap_io.specs.declared.capture.Captured.{Captured}
use Rattle.pcap_io.specs.declared.capture.Captured.TheVariants as captured
use Rattle.plain_text.specs.Octets.{IsOfBytes}
use Rattle.pcap_io.specs.Capture.{AreRecorded}
use Rattle.pcap_io.specs.Captured.{Says}
use Rattle.pcapng_io.specs.declared.capture.AnyCaptured.{AnyCaptured}
use Rattle.pcapng_io.specs.declared.capture.AnyCaptured.TheVariants as any
use Rattle.pcapng_io.specs.declared.fault.AnyFault.TheVariants as fault
use Rattle.pcapng_io.specs.Capture.{begins_ng, IsNg, IsNgFault}
use Rattle.pcapng_io.specs.Limits.{PassesNgLimit}

-- the bytes are a pcapng capture of these packets, in nanoseconds, and within the limits
pub record IsNgWithin (bytes : List ℕ) (u : TimeUnit) (packets : List Packet) : Type 0 where
  pub unit : u ≡ Nano
  pub capture : IsNg bytes packets
  pub count : length packets ≤ MOST_PACKETS
  pub size : length bytes ≤ MOST_FILE_BYTES

-- What an answer says of bytes that begin as a pcapng capture. A limit that is passed goes before a fault behind it.
abbrev pub SaysNg : List ℕ → AnyCaptured → Type 0
SaysNg bytes (any.Capture u packets) = IsNgWithin bytes u packets
SaysNg bytes (any.Refused (fault.Capture f)) = ⊥
SaysNg bytes (any.Refused (fault.Ng f)) = IsNgFault bytes f × ((limit : Limit) → PassesNgLimit bytes limit → ⊥)
SaysNg bytes (any.TooLarge limit) = PassesNgLimit bytes limit
SaysNg bytes any.ReadFault = Unit {0}
SaysNg bytes any.NoMemory = Unit {0}

-- what the reader of savefiles answers
abbrev pub any_captured : Captured → AnyCaptured
any_captured (captured.Capture u packets) = any.Capture u packets
any_captured (captured.Refused f) = any.Refused (fault.Capture f)
any_captured (captured.TooLarge limit) = any.TooLarge limit
any_captured captured.ReadFault = any.ReadFault
any_captured captured.NoMemory = any.NoMemory

-- What an answer says of bytes of either format: of a pcapng capture, or what the reader of savefiles says.
pub record SaysAny (bytes : List ℕ) (answer : AnyCaptured) : Type 0 where
  pub ng : begins_ng bytes ≡ true → SaysNg bytes answer
  pub savefile : begins_ng bytes ≡ false → (told : Captured) × (answer ≡ any_captured told) × Says bytes told

-- the bytes decide the answer
abbrev pub IsDecidedAny : AnyCaptured → Type 0
IsDecidedAny (any.Capture u packets) = Unit {0}
IsDecidedAny (any.Refused f) = Unit {0}
IsDecidedAny (any.TooLarge limit) = Unit {0}
IsDecidedAny any.ReadFault = ⊥
IsDecidedAny any.NoMemory = ⊥

-- the packets are such that a record of a savefile can have them, of bytes, and no more than the limit
abbrev pub CapturesPackets : AnyCaptured → Type 0
CapturesPackets (any.Capture u packets) = AreRecorded packets × All IsOfBytes packets × (length packets ≤ MOST_PACKETS)
CapturesPackets (any.Refused f) = Unit {0}
CapturesPackets (any.TooLarge limit) = Unit {0}
CapturesPackets any.ReadFault = Unit {0}
CapturesPackets any.NoMemory = Unit {0}
