-- What a call of the reader of pcapng captures answers, takes and leaves.
use Rattle.std.specs.Prelude.{◌≡◌, ℕ, ◌+◌, ◌<◌, ◌≤◌, Bool, true, false, List, [], ◌∷◌, ◌++◌, length, Option, Some, None}
use Rattle.std.specs.Prelude.{Result, Ok, Err, option_to_list}
use Rattle.plain_text.specs.declared.packet.Packet.{Packet}
use Rattle.plain_text.specs.declared.limit.TheConstants.{MOST_FILE_BYTES}
use Rattle.plain_text.specs.Octets.{IsOfBytes}
use Rattle.pcap_io.specs.declared.order.Order.{Order}
use Rattle.pcap_io.specs.Capture.{IsRecorded}
use Rattle.pcapng_io.specs.declared.fault.AnyFault.TheVariants.{Capture, Ng}
use Rattle.pcapng_io.specs.declared.interface.Interface.{Interface}
use Rattle.pcapng_io.specs.declared.next.AnyNext.{AnyNext}
use Rattle.pcapng_io.specs.declared.next.AnyNext.TheVariants as next
use Rattle.pcapng_io.specs.declared.place.Stop.{Stop}
use Rattle.pcapng_io.specs.declared.place.Stop.TheVariants as stop
use Rattle.pcapng_io.specs.Capture.{Section, Passes, block_fault}
use Rattle.pcapng_io.specs.Limits.{limit_behind}
use Rattle.pcapng_io.specs.Stops.{held_type}

-- a reader: the section, whether the next block's type was read before, the bytes passed and the packets given, and
-- whether it is over
pub record NgReading : Type 0 where
  pub order : Order
  pub interfaces : List Interface
  pub typed : Bool
  pub offset : ℕ
  pub count : ℕ
  pub over : Bool

abbrev pub section_of : NgReading → Section
section_of r = record { order = r.order; interfaces = r.interfaces }

-- From one reader to another whole blocks were passed, which gave these packets. Their bytes were taken, by a source's
-- relation, or held before.
pub record Moves {S : Type 0} (reads : S → List ℕ → S → Type 0) (old new : S) (from to : NgReading)
    (packets : List Packet) : Type 0 where
  pub taken : List ℕ
  pub passed : List ℕ
  pub read : reads old taken new
  pub parts : held_type from.typed ++ taken ≡ passed ++ held_type to.typed
  pub passes : Passes (section_of from) passed packets (section_of to)
  pub offset : to.offset ≡ from.offset + length passed
  pub count : to.count ≡ from.count + length packets

-- a packet was given, or a block without one was passed; else the reader is as before
abbrev pub MovesOn : {S : Type 0} → (S → List ℕ → S → Type 0) → Result (Option Packet) Stop → S → S → NgReading
    → NgReading → Type 0
MovesOn reads (Ok packet) old new from to = Moves reads old new from to (option_to_list packet) × (to.over ≡ from.over)
MovesOn reads (Err why) old new from to = ((taken : List ℕ) × reads old taken new) × (to ≡ from)

-- what is said of the bytes where a reader passes no block
abbrev pub StopsAt : Section → ℕ → ℕ → List ℕ → Stop → Type 0
StopsAt s count offset bytes stop.End = bytes ≡ []
StopsAt s count offset bytes (stop.Refused cause) =
    (0 < length bytes) × (block_fault s bytes ≡ Some cause) × (limit_behind s count offset bytes ≡ None)
StopsAt s count offset bytes (stop.TooLarge limit) = limit_behind s count offset bytes ≡ Some limit
StopsAt s count offset bytes stop.ReadFault = Unit {0}
StopsAt s count offset bytes stop.NoMemory = Unit {0}

-- whole blocks without packets, and then a place where the reader stops, within the limits
pub record StopsBehind (r : NgReading) (bytes : List ℕ) (offset : ℕ) (why : Stop) : Type 0 where
  pub passed : List ℕ
  pub rest : List ℕ
  pub last : Section
  pub parts : bytes ≡ passed ++ rest
  pub passes : Passes (section_of r) passed [] last
  pub place : offset ≡ r.offset + length passed
  pub within : offset ≤ MOST_FILE_BYTES
  pub stops : StopsAt last r.count offset rest why

-- what each answer says of the bytes left, with those that are held before them
abbrev pub AnswersNg : NgReading → List ℕ → AnyNext → Type 0
AnswersNg r bytes (next.Packet p) = Unit {0}
AnswersNg r bytes next.End = (offset : ℕ) × StopsBehind r bytes offset stop.End
AnswersNg r bytes (next.Refused (Capture fault)) = ⊥
AnswersNg r bytes (next.Refused (Ng fault)) = StopsBehind r bytes fault.offset (stop.Refused fault.cause)
AnswersNg r bytes (next.TooLarge limit) = (offset : ℕ) × StopsBehind r bytes offset (stop.TooLarge limit)
AnswersNg r bytes next.ReadFault = Unit {0}
AnswersNg r bytes next.NoMemory = Unit {0}
AnswersNg r bytes next.Over = Unit {0}

-- the bytes that an answer takes from a source, and the reader after it: a packet moves it on, and anything else ends
-- it
abbrev pub TakesNg : {S : Type 0} → (S → List ℕ → S → Type 0) → AnyNext → S → S → NgReading → NgReading → Type 0
TakesNg reads (next.Packet p) old new from to = Moves reads old new from to (p ∷ []) × (to.over ≡ false)
TakesNg reads next.End old new from to = Moves reads old new from to [] × (to.over ≡ true) × (to.typed ≡ false)
TakesNg reads (next.Refused fault) old new from to = ((taken : List ℕ) × reads old taken new) × (to.over ≡ true)
TakesNg reads (next.TooLarge limit) old new from to = ((taken : List ℕ) × reads old taken new) × (to.over ≡ true)
TakesNg reads next.ReadFault old new from to = ((taken : List ℕ) × reads old taken new) × (to.over ≡ true)
TakesNg reads next.NoMemory old new from to = ((taken : List ℕ) × reads old taken new) × (to.over ≡ true)
TakesNg reads next.Over old new from to = reads old [] new × (to ≡ from)

-- the answer of a reader that stops at this offset
abbrev pub answer_of : Stop → ℕ → AnyNext
answer_of stop.End offset = next.End
answer_of (stop.Refused cause) offset = next.Refused (Ng (record { offset = offset; cause = cause }))
answer_of (stop.TooLarge limit) offset = next.TooLarge limit
answer_of stop.ReadFault offset = next.ReadFault
answer_of stop.NoMemory offset = next.NoMemory

-- a packet is one that a record of a savefile can have, and of bytes
abbrev pub GivesAny : AnyNext → Type 0
GivesAny (next.Packet p) = IsRecorded p × IsOfBytes p
GivesAny next.End = Unit {0}
GivesAny (next.Refused fault) = Unit {0}
GivesAny (next.TooLarge limit) = Unit {0}
GivesAny next.ReadFault = Unit {0}
GivesAny next.NoMemory = Unit {0}
GivesAny next.Over = Unit {0}
