-- Where bytes are no capture: the first place at which they leave the format, and why.
use Rattle.std.specs.Prelude.{◌≡◌, ℕ, ◌+◌, ◌<◌, List, length, drop, ◌==◌, nat_lt, if◌then◌else◌, ◌&&◌, Option, Some}
use Rattle.std.specs.Prelude.{None, ◌⊎◌}
use Rattle.plain_text.specs.declared.limit.TheConstants.{MOST_CAPTURED}
use Rattle.plain_text.specs.declared.packet.Packet.{Packet}
use Rattle.plain_text.specs.declared.packet.Unit.{Unit as TimeUnit}
use Rattle.plain_text.specs.declared.packet.Unit.TheVariants.{Micro, Nano}
use Rattle.pcap_io.specs.declared.order.Order.{Order}
use Rattle.pcap_io.specs.declared.order.Order.TheVariants.{Little, Big}
use Rattle.pcap_io.specs.declared.fault.CaptureCause.{CaptureCause}
use Rattle.pcap_io.specs.declared.fault.CaptureCause.TheVariants.{BadMagic, BadVersion, BadLinkType, ShortHeader}
use Rattle.pcap_io.specs.declared.fault.CaptureCause.TheVariants.{ShortRecord, TooLong}
use Rattle.pcap_io.specs.declared.fault.CaptureFault.{CaptureFault}
use Rattle.pcap_io.specs.Capture.{number, magic, records_of, Begins}

abbrev pub fault_at : ℕ → CaptureCause → CaptureFault
fault_at offset cause = record { offset = offset; cause = cause }

-- the byte order and the unit that the magic in the first four bytes tells, if it is one
abbrev pub form_of : List ℕ → Option (Order × TimeUnit)
form_of bytes =
    if number Little 4 bytes == magic Micro then Some (Little, Micro)
    else if number Little 4 bytes == magic Nano then Some (Little, Nano)
    else if number Big 4 bytes == magic Micro then Some (Big, Micro)
    else if number Big 4 bytes == magic Nano then Some (Big, Nano)
    else None

-- the first test that fails of the numbers that follow the magic
abbrev pub later_fault : Order → List ℕ → Option CaptureFault
later_fault o bytes =
    if (number o 2 (drop 4 bytes) == 2) && (number o 2 (drop 6 bytes) == 4)
    then if number o 4 (drop 20 bytes) == 1 then None else Some (fault_at 20 BadLinkType)
    else Some (fault_at 4 BadVersion)

abbrev pub form_fault : Option (Order × TimeUnit) → List ℕ → Option CaptureFault
form_fault None bytes = Some (fault_at 0 BadMagic)
form_fault (Some form) bytes = later_fault form.0 bytes

-- the first test of the file header that fails
abbrev pub header_fault : List ℕ → Option CaptureFault
header_fault bytes =
    if nat_lt (length bytes) 24 then Some (fault_at (length bytes) ShortHeader) else form_fault (form_of bytes) bytes

-- the captured length in a record's header
abbrev pub captured : Order → List ℕ → ℕ
captured o bytes = number o 4 (drop 8 bytes)

-- the first test that fails of the record that begins here, of which at least one byte is there
abbrev pub record_fault : Order → List ℕ → Option CaptureCause
record_fault o bytes =
    if nat_lt (length bytes) 16 then Some ShortRecord
    else if nat_lt MOST_CAPTURED (captured o bytes) then Some TooLong
    else if nat_lt (length bytes) (16 + captured o bytes) then Some ShortRecord
    else None

-- the offset that follows the header and these packets' records
abbrev pub offset_after : Order → List Packet → ℕ
offset_after o packets = 24 + length (records_of o packets)

-- whole records, and then at least one byte of one that is faulty
pub record IsRecordFault (bytes : List ℕ) (fault : CaptureFault) : Type 0 where
  pub order : Order
  pub unit : TimeUnit
  pub before : List Packet
  pub rest : List ℕ
  pub begins : Begins bytes order unit before rest
  pub some : 0 < length rest
  pub faulty : record_fault order rest ≡ Some fault.cause
  pub place : fault.offset ≡ offset_after order before

-- this is the first place where the bytes are no capture
abbrev pub IsFaultOf : List ℕ → CaptureFault → Type 0
IsFaultOf bytes fault = (header_fault bytes ≡ Some fault) ⊎ IsRecordFault bytes fault
