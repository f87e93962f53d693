-- What a call of a reader answers, takes and leaves.
use Rattle.std.specs.Prelude.{◌≡◌, ℕ, ◌+◌, ◌<◌, ◌≤◌, true, List, [], length, Some}
use Rattle.plain_text.specs.declared.limit.Limit.{Limit}
use Rattle.plain_text.specs.Octets.{IsOfBytes}
use Rattle.pcap_io.specs.declared.order.Order.{Order}
use Rattle.pcap_io.specs.declared.next.Next.{Next}
use Rattle.pcap_io.specs.declared.next.Next.TheVariants as next
use Rattle.pcap_io.specs.Capture.{record_of, IsRecorded}
use Rattle.pcap_io.specs.Faults.{record_fault}
use Rattle.pcap_io.specs.Limits.{IsCut, room_at, limit_at}
use Rattle.pcap_io.specs.Reading.{Reading}

-- the reader after an answer: a packet moves it on, and anything else ends it
abbrev pub after : Reading → Next → Reading
after r (next.Packet p) = record r { offset = r.offset + (16 + length p.bytes); count = r.count + 1 }
after r next.End = record r { over = true }
after r (next.Refused fault) = record r { over = true }
after r (next.TooLarge limit) = record r { over = true }
after r next.ReadFault = record r { over = true }
after r next.NoMemory = record r { over = true }
after r next.Over = record r { over = true }

-- the bytes that an answer takes from a source, which has such a relation
abbrev pub Takes : {S : Type 0} → (S → List ℕ → S → Type 0) → Order → Next → S → S → Type 0
Takes reads o (next.Packet p) old new = reads old (record_of o p) new
Takes reads o next.End old new = reads old [] new
Takes reads o (next.Refused fault) old new = (taken : List ℕ) × reads old taken new
Takes reads o (next.TooLarge limit) old new = (taken : List ℕ) × reads old taken new
Takes reads o next.ReadFault old new = (taken : List ℕ) × reads old taken new
Takes reads o next.NoMemory old new = (taken : List ℕ) × reads old taken new
Takes reads o next.Over old new = reads old [] new

-- a packet is one that a record can have, and within the limits
abbrev pub IsGiven : ℕ → Next → Type 0
IsGiven room (next.Packet p) = IsRecorded p × (16 + length p.bytes ≤ room)
IsGiven room next.End = Unit {0}
IsGiven room (next.Refused fault) = Unit {0}
IsGiven room (next.TooLarge limit) = Unit {0}
IsGiven room next.ReadFault = Unit {0}
IsGiven room next.NoMemory = Unit {0}
IsGiven room next.Over = Unit {0}

-- each byte of a packet is below 256
abbrev pub GivesBytes : Next → Type 0
GivesBytes (next.Packet p) = IsOfBytes p
GivesBytes next.End = Unit {0}
GivesBytes (next.Refused fault) = Unit {0}
GivesBytes (next.TooLarge limit) = Unit {0}
GivesBytes next.ReadFault = Unit {0}
GivesBytes next.NoMemory = Unit {0}
GivesBytes next.Over = Unit {0}

-- What each answer says of the bytes left, at an offset where a record may take the bytes of the room, or pass this
-- limit.
abbrev pub Answers : Order → ℕ → ℕ → Limit → List ℕ → Next → Type 0
Answers o offset room limit left (next.Packet p) = Unit {0}
Answers o offset room limit left next.End = left ≡ []
Answers o offset room limit left (next.Refused fault) =
    (0 < length left) × (record_fault o left ≡ Some fault.cause) × (IsCut o room left → ⊥) × (fault.offset ≡ offset)
Answers o offset room limit left (next.TooLarge passed) = IsCut o room left × (passed ≡ limit)
Answers o offset room limit left next.ReadFault = Unit {0}
Answers o offset room limit left next.NoMemory = Unit {0}
Answers o offset room limit left next.Over = Unit {0}

abbrev pub AnswersAt : Reading → List ℕ → Next → Type 0
AnswersAt r left next = Answers r.order r.offset (room_at r.count r.offset) (limit_at r.count) left next
