-- What each block's body is to be, what it makes of the interfaces of its section, and what packet it gives.
use Rattle.std.specs.Prelude.{◌≡◌, ◌≤◌, Bool, ℕ, ◌+◌, ◌*◌, ◌^◌, min, ◌==◌, ◌||◌, nat_lt, if◌then◌else◌, List, [], ◌∷◌}
use Rattle.std.specs.Prelude.{◌++◌, length, take, drop, slice_get, Option, Some, None, Result, Ok, Err}
use Rattle.plain_text.specs.declared.limit.TheConstants.{MOST_CAPTURED}
use Rattle.plain_text.specs.declared.packet.Packet.{Packet}
use Rattle.pcap_io.specs.declared.order.Order.{Order}
use Rattle.pcap_io.specs.Capture.{number}
use Rattle.pcapng_io.specs.declared.block.BlockKind.{BlockKind}
use Rattle.pcapng_io.specs.declared.block.BlockKind.TheVariants as kind
use Rattle.pcapng_io.specs.declared.fault.NgCause.{NgCause}
use Rattle.pcapng_io.specs.declared.fault.NgCause.TheVariants.{BadVersion, NoInterface, BadPacket, BadTime}
use Rattle.pcapng_io.specs.declared.packet.BlockError.{BlockError}
use Rattle.pcapng_io.specs.declared.packet.BlockError.TheVariants.{Fault, NoMemory}
use Rattle.pcapng_io.specs.declared.interface.Interface.{Interface}
use Rattle.pcapng_io.specs.Interfaces.{interface_in}
use Rattle.pcapng_io.specs.Times.{seconds_of, nanos_of}

-- the interfaces of the section behind a block, and its packet
pub record Content : Type 0 where
  pub interfaces : List Interface
  pub packet : Option Packet

-- this number of captured bytes is too many for a packet, or for what the body has behind this number of bytes
abbrev pub passes_body : ℕ → ℕ → List ℕ → Bool
passes_body captured before body = nat_lt MOST_CAPTURED captured || nat_lt (length body) (before + captured)

-- an enhanced packet: interface, high and low half of the time, captured and original length in 32 bits each, and the
-- captured bytes
abbrev pub enhanced_time : Order → List ℕ → ℕ
enhanced_time o body = number o 4 (drop 4 body) * 2 ^ 32 + number o 4 (drop 8 body)

abbrev pub enhanced_at : Order → Interface → List ℕ → Option ℕ → Result Packet NgCause
enhanced_at o i body None = Err BadTime
enhanced_at o i body (Some seconds) = Ok (record {
  seconds = seconds;
  fraction = nanos_of i (enhanced_time o body);
  original = number o 4 (drop 16 body);
  bytes = take (number o 4 (drop 12 body)) (drop 20 body);
})

abbrev pub enhanced_on : Order → List ℕ → Option Interface → Result Packet NgCause
enhanced_on o body None = Err NoInterface
enhanced_on o body (Some i) =
    if passes_body (number o 4 (drop 12 body)) 20 body then Err BadPacket
    else enhanced_at o i body (seconds_of i (enhanced_time o body))

-- a simple packet: its original length, and the captured bytes
abbrev pub captured_of : Interface → ℕ → ℕ
captured_of i original = if i.snaplen == 0 then original else min original i.snaplen

abbrev pub simple_on : Order → List ℕ → Option Interface → Result Packet NgCause
simple_on o body None = Err NoInterface
simple_on o body (Some i) =
    if passes_body (captured_of i (number o 4 body)) 4 body then Err BadPacket else Ok (record {
      seconds = 0;
      fraction = 0;
      original = number o 4 body;
      bytes = take (captured_of i (number o 4 body)) (drop 4 body);
    })

-- a block that describes an interface, and one that gives a packet
abbrev pub describes : List Interface → Result Interface NgCause → Result Content NgCause
describes interfaces (Ok i) = Ok (record { interfaces = interfaces ++ i ∷ []; packet = None })
describes interfaces (Err cause) = Err cause

abbrev pub gives : List Interface → Result Packet NgCause → Result Content NgCause
gives interfaces (Ok p) = Ok (record { interfaces = interfaces; packet = Some p })
gives interfaces (Err cause) = Err cause

-- The table of blocks. A section header has its byte-order magic, the major version, which is to be 1, the minor
-- version and a length that are not used; it begins a section without interfaces.
abbrev pub content : Order → List Interface → BlockKind → List ℕ → Result Content NgCause
content o interfaces kind.Section body =
    if number o 2 (drop 4 body) == 1 then Ok (record { interfaces = []; packet = None }) else Err BadVersion
content o interfaces kind.Interface body = describes interfaces (interface_in o body)
content o interfaces kind.Simple body = gives interfaces (simple_on o body (slice_get interfaces 0))
content o interfaces kind.Enhanced body = gives interfaces (enhanced_on o body (slice_get interfaces (number o 4 body)))
content o interfaces kind.Other body = Ok (record { interfaces = interfaces; packet = None })

-- what reading a part of a block answers; running out of memory says nothing
abbrev pub Tells : {X : Type 0} → Result X NgCause → Result X BlockError → Type 0
Tells value (Ok x) = value ≡ Ok x
Tells value (Err (Fault cause)) = value ≡ Err cause
Tells value (Err NoMemory) = Unit {0}

-- what reading a block's body answers, and the interfaces behind it; after an error they are as before
abbrev pub TellsContent : Result Content NgCause → Result (Option Packet) BlockError → List Interface
    → List Interface → Type 0
TellsContent value (Ok packet) old new = value ≡ Ok (record { interfaces = new; packet = packet })
TellsContent value (Err (Fault cause)) old new = (value ≡ Err cause) × (new ≡ old)
TellsContent value (Err NoMemory) old new = new ≡ old

-- a second has units
abbrev pub HasUnits : Interface → Type 0
HasUnits i = 1 ≤ i.units
