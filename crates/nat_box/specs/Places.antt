-- What the Local of a packet in hand says: the place of its next move, and what was noted.
use Rattle.std.specs.Prelude.{ℕ, ◌+◌, ◌*◌, ◌/◌, ◌%◌, ◌^◌, Bool, [], ◌∷◌, slice_index, ◌==◌, if◌then◌else◌}
use Rattle.plain_machine.specs.declared.local.Local.{Local}
use Rattle.nat_tables.specs.declared.entries.PortKey.{PortKey}
use Rattle.nat_tables.specs.declared.phase.Segment.{Segment}
use Rattle.nat_tables.specs.declared.phase.Segment.TheVariants.{Silent, Opens, Carries, Closes}
use Rattle.nat_tables.specs.Keys.{port_key}
use Rattle.flow_boxes.specs.Flows.{endpoint}
use Rattle.nat_box.specs.declared.place.Place.{Place}
use Rattle.nat_box.specs.declared.place.Place.TheVariants.{HearsTime, FindsMapping, UnbindsFreed, GivesBackFreed}
use Rattle.nat_box.specs.declared.place.Place.TheVariants.{DrawsWord, ReservesPort, BindsPort, FindsOrBinds}
use Rattle.nat_box.specs.declared.place.Place.TheVariants.{UnbindsLost, GivesBackLost, FindsEndpoint, AsksIfLives}
use Rattle.nat_box.specs.declared.place.Place.TheVariants.{CountsDrop, SendsOut, Ends, FindsPort}
use Rattle.nat_box.specs.declared.place.Class.{Class}
use Rattle.nat_box.specs.declared.place.Class.TheVariants.{Outbound, Hairpin, Inbound, OutboundError}
use Rattle.nat_box.specs.declared.place.Noted.{Noted}

-- the number of a place; each other number is the end
abbrev pub number_of : Place → ℕ
number_of HearsTime = 0
number_of FindsMapping = 1
number_of UnbindsFreed = 2
number_of GivesBackFreed = 3
number_of DrawsWord = 4
number_of ReservesPort = 5
number_of BindsPort = 6
number_of FindsOrBinds = 7
number_of UnbindsLost = 8
number_of GivesBackLost = 9
number_of FindsEndpoint = 10
number_of AsksIfLives = 11
number_of CountsDrop = 12
number_of SendsOut = 13
number_of Ends = 14
number_of FindsPort = 15

abbrev pub place_numbered : ℕ → Place
place_numbered at =
    if at == 0 then HearsTime else if at == 1 then FindsMapping else if at == 2 then UnbindsFreed else if at == 3
    then GivesBackFreed else if at == 4 then DrawsWord else if at == 5 then ReservesPort else if at == 6 then BindsPort
    else if at == 7 then FindsOrBinds else if at == 8 then UnbindsLost else if at == 9 then GivesBackLost
    else if at == 10 then FindsEndpoint else if at == 11 then AsksIfLives else if at == 12 then CountsDrop
    else if at == 13 then SendsOut else if at == 15 then FindsPort else Ends

abbrev pub number_of_class : Class → ℕ
number_of_class Outbound = 0
number_of_class Hairpin = 1
number_of_class Inbound = 2
number_of_class OutboundError = 3

abbrev pub class_of : ℕ → Class
class_of number =
    if number == 0 then Outbound else if number == 1 then Hairpin else if number == 3 then OutboundError else Inbound

abbrev pub number_of_segment : Segment → ℕ
number_of_segment Silent = 0
number_of_segment Opens = 1
number_of_segment Carries = 2
number_of_segment Closes = 3

abbrev pub segment_numbered : ℕ → Segment
segment_numbered number =
    if number == 0 then Silent else if number == 1 then Opens else if number == 2 then Carries else Closes

-- a port and a kind of segments in one register: the kind stands above the 16 bits of the port

abbrev pub packed : ℕ → Segment → ℕ
packed port segment = port + 2 ^ 16 * number_of_segment segment

abbrev pub packed_port : ℕ → ℕ
packed_port register = register % 2 ^ 16

abbrev pub packed_segment : ℕ → Segment
packed_segment register = segment_numbered (register / 2 ^ 16)

-- the register in which a packet that is counted as dropped has the reason
abbrev pub reason_register : ℕ
reason_register = 6

-- what the Local has noted
abbrev pub noted : Local → Noted
noted l = record {
  class = class_of (slice_index l.regs 0);
  source = endpoint (slice_index l.regs 1 % 2 ^ 8) (slice_index l.regs 2 % 2 ^ 32) (slice_index l.regs 3 % 2 ^ 16);
  dest_port = packed_port (slice_index l.regs 4);
  segment = packed_segment (slice_index l.regs 4);
  time = slice_index l.regs 5;
  word_or_reason = slice_index l.regs reason_register;
  port = slice_index l.regs 7 % 2 ^ 16;
  freed = port_key (slice_index l.regs 8 % 2 ^ 8) (slice_index l.regs 9 % 2 ^ 16);
  target = endpoint (slice_index l.regs 1 % 2 ^ 8) (slice_index l.regs 10 % 2 ^ 32) (slice_index l.regs 11 % 2 ^ 16);
}

-- the Local that notes this; the endpoint that a packet goes to has the protocol of the one that it comes from
abbrev pub local_of : Place → Noted → Local
local_of place n = record {
  at = number_of place;
  regs =
      number_of_class n.class ∷ n.source.protocol ∷ n.source.address ∷ n.source.port
      ∷ packed n.dest_port n.segment ∷ n.time ∷ n.word_or_reason ∷ n.port ∷ n.freed.protocol ∷ n.freed.port
      ∷ n.target.address ∷ n.target.port ∷ [];
}

-- which of the two numbers it is, says the place: the random word, until a port is taken, or the reason for a drop

abbrev pub drawn_word : Noted → ℕ
drawn_word n = n.word_or_reason

abbrev pub drop_reason : Noted → ℕ
drop_reason n = n.word_or_reason

-- no outside port; a packet whose host may have no mapping more has it in place of one

abbrev pub no_port : ℕ
no_port = 0

abbrev pub is_refused : Noted → Bool
is_refused n = n.port == no_port

-- the outside port of its source, and the one that it goes to
abbrev pub source_key : Noted → PortKey
source_key n = port_key n.source.protocol n.port

abbrev pub dest_key : Noted → PortKey
dest_key n = port_key n.source.protocol n.dest_port
