-- Captures of either format.
use Rattle.std.specs.Prelude.{◌≡◌, ℕ, ◌≤◌, Bool, true, false, List, [], ◌++◌, length, Some, None}
use Rattle.plain_text.specs.declared.limit.TheConstants.{MOST_FILE_BYTES, MOST_PACKETS}
use Rattle.plain_text.specs.declared.packet.Unit.{Unit as TimeUnit}
use Rattle.plain_text.specs.declared.packet.Unit.TheVariants.{Nano}
use Rattle.pcap_io.specs.declared.next.Next.{Next}
use Rattle.pcap_io.specs.declared.next.Next.TheVariants as capture
use Rattle.pcap_io.specs.declared.order.Order.TheVariants.{Little}
use Rattle.pcap_io.specs.declared.started.Started.{Started}
use Rattle.pcap_io.specs.declared.started.Started.TheVariants as begun
use Rattle.pcap_io.specs.Capture.{header_of}
use Rattle.pcap_io.specs.Faults.{header_fault}
use Rattle.pcap_io.specs.Limits.{room_at}
use Rattle.pcap_io.specs.Reader.{AnswersAt, Takes, IsGiven, after}
use Rattle.pcap_io.specs.Started.{TakesHeader, IsFresh}
use Rattle.pcapng_io.specs.declared.any.AnyStarted.{AnyStarted}
use Rattle.pcapng_io.specs.declared.any.AnyStarted.TheVariants as started
use Rattle.pcapng_io.specs.declared.any.Format.{Format}
use Rattle.pcapng_io.specs.declared.any.Format.TheVariants as form
use Rattle.pcapng_io.specs.declared.fault.AnyFault.TheVariants as fault
use Rattle.pcapng_io.specs.declared.next.AnyNext.{AnyNext}
use Rattle.pcapng_io.specs.declared.next.AnyNext.TheVariants as next
use Rattle.pcapng_io.specs.Capture.{begins_ng}
use Rattle.pcapng_io.specs.Reader.{NgReading, AnswersNg, TakesNg}
use Rattle.pcapng_io.specs.Stops.{held_type}

-- an answer of the reader of savefiles
abbrev pub any_next : Next → AnyNext
any_next (capture.Packet p) = next.Packet p
any_next capture.End = next.End
any_next (capture.Refused f) = next.Refused (fault.Capture f)
any_next (capture.TooLarge limit) = next.TooLarge limit
any_next capture.ReadFault = next.ReadFault
any_next capture.NoMemory = next.NoMemory
any_next capture.Over = next.Over

-- an answer of the reader of a savefile's header
abbrev pub any_started : Started → AnyStarted
any_started (begun.Reader r) = started.Reader (form.Capture r)
any_started (begun.Refused f) = started.Refused (fault.Capture f)
any_started begun.ReadFault = started.ReadFault
any_started begun.NoMemory = started.NoMemory

-- a pcapng reader at its first block, whose type was read
abbrev pub first_reading : NgReading
first_reading = record { order = Little; interfaces = []; typed = true; offset = 0; count = 0; over = false }

-- what the answer says of the bytes left, of which the first four tell the format
abbrev pub StartsAny : List ℕ → AnyStarted → Type 0
StartsAny left (started.Reader (form.Capture r)) = (begins_ng left ≡ false) × (header_fault left ≡ None)
StartsAny left (started.Reader (form.Ng r)) = begins_ng left ≡ true
StartsAny left (started.Refused (fault.Capture f)) = (begins_ng left ≡ false) × (header_fault left ≡ Some f)
StartsAny left (started.Refused (fault.Ng f)) = ⊥
StartsAny left started.ReadFault = Unit {0}
StartsAny left started.NoMemory = Unit {0}

-- the bytes that an answer takes from a source, which has such a relation, and the reader that it gives
abbrev pub TakesStart : {S : Type 0} → (S → List ℕ → S → Type 0) → AnyStarted → S → S → Type 0
TakesStart reads (started.Reader (form.Capture r)) old new =
    TakesHeader reads (begun.Reader r) old new × IsFresh (begun.Reader r)
TakesStart reads (started.Reader (form.Ng r)) old new = reads old (held_type true) new × (r ≡ first_reading)
TakesStart reads (started.Refused f) old new = (taken : List ℕ) × reads old taken new
TakesStart reads started.ReadFault old new = (taken : List ℕ) × reads old taken new
TakesStart reads started.NoMemory old new = (taken : List ℕ) × reads old taken new

abbrev pub unit_of : Format → TimeUnit
unit_of (form.Capture r) = r.unit
unit_of (form.Ng r) = Nano

abbrev pub is_over : Format → Bool
is_over (form.Capture r) = r.over
is_over (form.Ng r) = r.over

-- what each answer says of the bytes left, as the reader of the format has it
abbrev pub AnswersAny : Format → List ℕ → AnyNext → Type 0
AnswersAny (form.Capture r) left answer = (next : Next) × (answer ≡ any_next next) × AnswersAt r left next
AnswersAny (form.Ng r) left answer = AnswersNg r (held_type r.typed ++ left) answer

-- the bytes that an answer takes from a source, and the reader after it
abbrev pub TakesAny : {S : Type 0} → (S → List ℕ → S → Type 0) → AnyNext → S → S → Format → Format → Type 0
TakesAny reads answer old new (form.Capture r) to =
    (next : Next) × (answer ≡ any_next next) × Takes reads r.order next old new × (to ≡ form.Capture (after r next))
    × IsGiven (room_at r.count r.offset) next
TakesAny reads answer old new (form.Ng r) to =
    (q : NgReading) × (to ≡ form.Ng q) × TakesNg reads answer old new r q × (q.count ≤ MOST_PACKETS)
    × (q.offset ≤ MOST_FILE_BYTES)

-- where a savefile's header was read, these are its bytes
abbrev pub IsHeader : Started → List ℕ → Type 0
IsHeader (begun.Reader r) head = (unused : List ℕ) × (length unused ≡ 12) × (head ≡ header_of r.order r.unit unused)
IsHeader (begun.Refused f) head = Unit {0}
IsHeader begun.ReadFault head = Unit {0}
IsHeader begun.NoMemory head = Unit {0}
