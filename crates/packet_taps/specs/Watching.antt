-- What each answer of watching a capture says of its bytes, when these packets were shown.
use Rattle.std.specs.Prelude.{◌≡◌, ◌⊎◌, ℕ, ◌+◌, ◌≤◌, false, List, [], length, All, Some, None}
use Rattle.plain_text.specs.declared.packet.Packet.{Packet}
use Rattle.plain_text.specs.declared.packet.Unit.{Unit as TimeUnit}
use Rattle.plain_text.specs.Octets.{IsOfBytes}
use Rattle.pcap_io.specs.declared.order.Order.{Order}
use Rattle.pcap_io.specs.Capture.{Begins}
use Rattle.pcapng_io.specs.declared.capture.AnyCaptured.TheVariants as captured
use Rattle.pcapng_io.specs.Capture.{Section, Reaches, begins_ng}
use Rattle.pcapng_io.specs.Captured.{SaysAny}
use Rattle.world_io.specs.World.{Shown, Ledger, KeepsOrder}
use Rattle.packet_taps.specs.declared.command.Watched.{Watched}
use Rattle.packet_taps.specs.declared.command.Watched.TheVariants.{Done, BadWords, ReadFault, NoMemory, BadInput}
use Rattle.packet_taps.specs.declared.command.Watched.TheVariants.{TooLarge}

-- the bytes begin with the header of a savefile and the records of these packets
pub record BeginsSavefile (bytes : List ℕ) (packets : List Packet) : Type 0 where
  pub savefile : begins_ng bytes ≡ false
  pub order : Order
  pub unit : TimeUnit
  pub rest : List ℕ
  pub begins : Begins bytes order unit packets rest

-- the bytes begin with whole blocks of a pcapng capture, which give these packets
pub record BeginsNg (bytes : List ℕ) (packets : List Packet) : Type 0 where
  pub section : Section
  pub passed : List ℕ
  pub rest : List ℕ
  pub reaches : Reaches bytes packets section passed rest

-- these are the first packets of the bytes
abbrev pub AreFirst : List ℕ → List Packet → Type 0
AreFirst bytes packets = (packets ≡ []) ⊎ (BeginsSavefile bytes packets ⊎ BeginsNg bytes packets)

-- the bytes are a capture of these packets
abbrev pub IsWhole : List ℕ → List Packet → Type 0
IsWhole bytes packets = (unit : TimeUnit) × SaysAny bytes (captured.Capture unit packets) × All IsOfBytes packets

abbrev pub SaysWatched : List ℕ → List Packet → Watched → Type 0
SaysWatched bytes packets (Done count) = IsWhole bytes packets × (count ≡ length packets)
SaysWatched bytes packets BadWords = ⊥
SaysWatched bytes packets ReadFault = AreFirst bytes packets
SaysWatched bytes packets NoMemory = AreFirst bytes packets
SaysWatched bytes packets (BadInput fault) = SaysAny bytes (captured.Refused fault) × AreFirst bytes packets
SaysWatched bytes packets (TooLarge limit) = SaysAny bytes (captured.TooLarge limit) × AreFirst bytes packets

-- the bytes under the name are such, where it is there
abbrev pub IsToldOf : List ℕ → (List ℕ → Type 0) → Shown → Type 0
IsToldOf name said shown = (bytes : List ℕ) × (shown.names name ≡ Some bytes) × said bytes

-- the file of the name was not opened, and nothing was shown
abbrev pub WasNotOpened : List Packet → Watched → Type 0
WasNotOpened packets (Done count) = ⊥
WasNotOpened packets BadWords = ⊥
WasNotOpened packets ReadFault = packets ≡ []
WasNotOpened packets NoMemory = packets ≡ []
WasNotOpened packets (BadInput fault) = ⊥
WasNotOpened packets (TooLarge limit) = ⊥

-- What an answer says of the file of the name. In a healthy world reading fails only where the name is not there.
pub record JudgesWatched (healthy : Type 0) (name : List ℕ) (packets : List Packet) (answer : Watched)
    (shown : Shown) : Type 0 where
  pub told : IsToldOf name (λ bytes. SaysWatched bytes packets answer) shown ⊎ WasNotOpened packets answer
  pub missing : healthy → answer ≡ ReadFault → shown.names name ≡ None

-- names and what was sent stay; only reading has gone on
pub record KeepsFiles (old new : Shown) : Type 0 where
  pub names : new.names ≡ old.names
  pub sent : new.sent ≡ old.sent
  pub name_of : new.name_of ≡ old.name_of

-- At most one file was opened and read, none was created, the calls are as orderly as they were where none was created
-- before either, and only the count of faults of reading may have risen. What was healthy is healthy.
pub record ReadsOneName {W : Type 0} (ledger_of : W → Ledger) (healthy_of : W → Type 0) (old new : W) : Type 0 where
  pub created : (ledger_of new).created ≡ (ledger_of old).created
  pub given : (ledger_of new).given ≤ (ledger_of old).given + 1
  pub orderly : KeepsOrder (ledger_of old) (ledger_of new)
  pub read_faults : (ledger_of old).read_faults ≤ (ledger_of new).read_faults
  pub write_faults : (ledger_of new).write_faults ≡ (ledger_of old).write_faults
  pub stays_healthy : healthy_of old → healthy_of new
