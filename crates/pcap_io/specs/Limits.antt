-- The limits of a capture: its packets and its bytes.
use Rattle.std.specs.Prelude.{◌≡◌, ℕ, ◌-◌, ◌<◌, ◌≤◌, List, length, take, ◌==◌, if◌then◌else◌, Some}
use Rattle.plain_text.specs.declared.limit.TheConstants.{MOST_FILE_BYTES, MOST_PACKETS}
use Rattle.plain_text.specs.declared.packet.Packet.{Packet}
use Rattle.plain_text.specs.declared.packet.Unit.{Unit as TimeUnit}
use Rattle.plain_text.specs.declared.limit.Limit.{Limit}
use Rattle.plain_text.specs.declared.limit.Limit.TheVariants.{File, Packets}
use Rattle.pcap_io.specs.declared.order.Order.{Order}
use Rattle.pcap_io.specs.declared.fault.CaptureCause.TheVariants.{ShortRecord}
use Rattle.pcap_io.specs.Capture.{Begins}
use Rattle.pcap_io.specs.Faults.{record_fault, offset_after}

-- how many bytes the record at this offset may take, after this number of packets
abbrev pub room_at : ℕ → ℕ → ℕ
room_at count offset = if count == MOST_PACKETS then 0 else MOST_FILE_BYTES - offset

-- the limit that a record passes which needs more
abbrev pub limit_at : ℕ → Limit
limit_at count = if count == MOST_PACKETS then Packets else File

-- the record that begins here needs more bytes than it may take, and more are there
abbrev pub IsCut : Order → ℕ → List ℕ → Type 0
IsCut o room bytes = (room < length bytes) × (record_fault o (take room bytes) ≡ Some ShortRecord)

-- a capture of these packets is within the limits
abbrev pub IsWithinLimits : Order → List Packet → Type 0
IsWithinLimits o packets = (length packets ≤ MOST_PACKETS) × (offset_after o packets ≤ MOST_FILE_BYTES)

-- whole records within the limits, and then one that passes this limit
pub record PassesLimit (bytes : List ℕ) (limit : Limit) : Type 0 where
  pub order : Order
  pub unit : TimeUnit
  pub before : List Packet
  pub rest : List ℕ
  pub begins : Begins bytes order unit before rest
  pub within : IsWithinLimits order before
  pub cut : IsCut order (room_at (length before) (offset_after order before)) rest
  pub passed : limit ≡ limit_at (length before)
