-- What the command `play` writes: the packets that a schedule sends out, in its order, as a capture, and how many there
-- are.
use Rattle.std.specs.Prelude.{◌≡◌, ℕ, List, ◌++◌, codes, decimal, length, Result, Ok, Err, ⊤}
use Rattle.plain_text.specs.declared.packet.Packet.{Packet}
use Rattle.plain_text.specs.declared.packet.Unit.{Unit as FractionUnit}
use Rattle.pcap_io.specs.Capture.{written_header, records_of}
use Rattle.pcap_io.specs.declared.order.Order.TheVariants as order
use Rattle.plain_machine.specs.declared.plain_move.PlayFault.{PlayFault}
use Rattle.plain_machine.specs.History.{Step, emissions}
use Rattle.schedule_check.specs.Checking.{packets_of}
use Rattle.world_io.specs.World.{Shown}
use Rattle.output_files.specs.Writes.{Write, HasWritten, HasBegun}
use Rattle.output_files.specs.Written.{single_writes}
use Rattle.schedule_commands.specs.declared.error.ScheduleError.{ScheduleError}
use Rattle.schedule_commands.specs.declared.error.ScheduleError.TheVariants as error

-- the report: how many packets were sent out
abbrev pub emitted_text : ℕ → List ℕ
emitted_text count = codes "emitted " ++ decimal count ++ codes "\n"

-- the capture of these packets in the unit of the inputs, and then the report
abbrev pub packet_writes : List ℕ → FractionUnit → List Packet → List Write
packet_writes name u packets =
    single_writes name (written_header u) (records_of order.Little packets) (emitted_text (length packets))

abbrev pub emitted_writes : {V : Type 0} → List ℕ → FractionUnit → List (Step V) → List Write
emitted_writes name u steps = packet_writes name u (packets_of (emissions steps))

-- What an answer says of what the schedule comes to. Writing is begun only where it is legal; running out of memory
-- says nothing.
abbrev pub SaysPlay : {V : Type 0} → Result (List (Step V)) PlayFault → Result ⊤ (ScheduleError PlayFault) → Type 0
SaysPlay (Ok steps) (Ok done) = Unit {0}
SaysPlay (Ok steps) (Err (error.Refused named)) = ⊥
SaysPlay (Ok steps) (Err error.WriteFault) = Unit {0}
SaysPlay (Ok steps) (Err error.NoMemory) = Unit {0}
SaysPlay (Err fault) (Ok done) = ⊥
SaysPlay (Err fault) (Err (error.Refused named)) = named ≡ fault
SaysPlay (Err fault) (Err error.WriteFault) = ⊥
SaysPlay (Err fault) (Err error.NoMemory) = Unit {0}

-- the schedule is legal, and what it sends out was written
pub record HasPlayed {V : Type 0} (outcome : Result (List (Step V)) PlayFault) (name : List ℕ) (u : FractionUnit)
    (old new : Shown) : Type 0 where
  pub steps : List (Step V)
  pub legal : outcome ≡ Ok steps
  pub written : HasWritten (emitted_writes name u steps) old new

-- the schedule is legal, and some first part of what it sends out was written, and nothing else
pub record HasBegunPlay {V : Type 0} (outcome : Result (List (Step V)) PlayFault) (name : List ℕ) (u : FractionUnit)
    (old new : Shown) : Type 0 where
  pub steps : List (Step V)
  pub legal : outcome ≡ Ok steps
  pub begun : HasBegun (emitted_writes name u steps) old new
