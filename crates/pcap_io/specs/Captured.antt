-- What reading a whole capture answers and takes.
use Rattle.std.specs.Prelude.{◌≡◌, ℕ, ◌≤◌, List, [], length, All}
use Rattle.plain_text.specs.declared.limit.TheConstants.{MOST_FILE_BYTES, MOST_PACKETS}
use Rattle.plain_text.specs.Octets.{IsOfBytes}
use Rattle.plain_text.specs.declared.limit.Limit.{Limit}
use Rattle.plain_text.specs.declared.packet.Packet.{Packet}
use Rattle.plain_text.specs.declared.packet.Unit.{Unit as TimeUnit}
use Rattle.pcap_io.specs.declared.capture.Captured.{Captured}
use Rattle.pcap_io.specs.declared.capture.Captured.TheVariants.{Capture, Refused, TooLarge, ReadFault, NoMemory}
use Rattle.pcap_io.specs.Capture.{IsCapture}
use Rattle.pcap_io.specs.Faults.{IsFaultOf}
use Rattle.pcap_io.specs.Limits.{PassesLimit}

-- the bytes are a capture of these packets, and within the limits
pub record IsCaptureWithin (bytes : List ℕ) (u : TimeUnit) (packets : List Packet) : Type 0 where
  pub capture : IsCapture bytes u packets
  pub count : length packets ≤ MOST_PACKETS
  pub size : length bytes ≤ MOST_FILE_BYTES

-- What an answer says of the bytes. A limit that is passed goes before a fault behind it.
abbrev pub Says : List ℕ → Captured → Type 0
Says bytes (Capture u packets) = IsCaptureWithin bytes u packets
Says bytes (Refused fault) = IsFaultOf bytes fault × ((limit : Limit) → PassesLimit bytes limit → ⊥)
Says bytes (TooLarge limit) = PassesLimit bytes limit
Says bytes ReadFault = Unit {0}
Says bytes NoMemory = Unit {0}

-- the bytes decide the answer
abbrev pub IsDecided : Captured → Type 0
IsDecided (Capture u packets) = Unit {0}
IsDecided (Refused fault) = Unit {0}
IsDecided (TooLarge limit) = Unit {0}
IsDecided ReadFault = ⊥
IsDecided NoMemory = ⊥

-- the bytes that an answer takes from a source, which has such a relation
abbrev pub TakesCapture : {S : Type 0} → (S → List ℕ → S → Type 0) → Captured → S → S → Type 0
TakesCapture reads (Capture u packets) old new =
    (bytes : List ℕ) × reads old bytes new × IsCaptureWithin bytes u packets
TakesCapture reads (Refused fault) old new = (taken : List ℕ) × reads old taken new
TakesCapture reads (TooLarge limit) old new = (taken : List ℕ) × reads old taken new
TakesCapture reads ReadFault old new = (taken : List ℕ) × reads old taken new
TakesCapture reads NoMemory old new = (taken : List ℕ) × reads old taken new

-- each captured byte is below 256
abbrev pub CapturesBytes : Captured → Type 0
CapturesBytes (Capture u packets) = All IsOfBytes packets
CapturesBytes (Refused fault) = Unit {0}
CapturesBytes (TooLarge limit) = Unit {0}
CapturesBytes ReadFault = Unit {0}
CapturesBytes NoMemory = Unit {0}

-- after a capture nothing is left
abbrev pub EndsAt : Captured → List ℕ → Type 0
EndsAt (Capture u packets) rest = rest ≡ []
EndsAt (Refused fault) rest = Unit {0}
EndsAt (TooLarge limit) rest = Unit {0}
EndsAt ReadFault rest = Unit {0}
EndsAt NoMemory rest = Unit {0}
