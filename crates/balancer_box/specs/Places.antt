-- Where the box is with a packet, and what it has noted of it, as a Local.
use Rattle.std.specs.Prelude.{ℕ, ◌%◌, ◌^◌, Bool, true, false, ◌==◌, if◌then◌else◌, [], ◌∷◌, slice_index}
use Rattle.plain_machine.specs.declared.local.Local.{Local}
use Rattle.flow_boxes.specs.Flows.{endpoint}
use Rattle.balancer_box.specs.declared.place.Place.{Place}
use Rattle.balancer_box.specs.declared.place.Place.TheVariants.{HearsTime, FindsConnection, LowersIdle, RaisesLeast}
use Rattle.balancer_box.specs.declared.place.Place.TheVariants.{Connects, LowersSpare, ChecksConnection, CountsDrop}
use Rattle.balancer_box.specs.declared.place.Place.TheVariants.{SendsOut, LowersVain, Ends}
use Rattle.balancer_box.specs.declared.place.Class.{Class}
use Rattle.balancer_box.specs.declared.place.Class.TheVariants.{Client, Answer}
use Rattle.balancer_box.specs.declared.place.Tells.{Tells}
use Rattle.balancer_box.specs.declared.place.Tells.TheVariants.{Nothing, Opens, Finishes, Resets}
use Rattle.balancer_box.specs.declared.place.Noted.{Noted}

-- the number of a place; each other number is the end
abbrev pub number_of : Place → ℕ
number_of HearsTime = 0
number_of FindsConnection = 1
number_of LowersIdle = 2
number_of RaisesLeast = 3
number_of Connects = 4
number_of LowersSpare = 5
number_of ChecksConnection = 6
number_of CountsDrop = 7
number_of SendsOut = 8
number_of LowersVain = 9
number_of Ends = 10

abbrev pub place_numbered : ℕ → Place
place_numbered at =
    if at == 0 then HearsTime else if at == 1 then FindsConnection else if at == 2 then LowersIdle else if at == 3
    then RaisesLeast else if at == 4 then Connects else if at == 5 then LowersSpare else if at == 6
    then ChecksConnection else if at == 7 then CountsDrop else if at == 8 then SendsOut else if at == 9
    then LowersVain else Ends

abbrev pub number_of_class : Class → ℕ
number_of_class Client = 0
number_of_class Answer = 1

abbrev pub class_of : ℕ → Class
class_of number = if number == 0 then Client else Answer

abbrev pub number_of_flag : Bool → ℕ
number_of_flag true = 1
number_of_flag false = 0

abbrev pub number_of_tells : Tells → ℕ
number_of_tells Nothing = 0
number_of_tells Opens = 1
number_of_tells Finishes = 2
number_of_tells Resets = 3

abbrev pub tells_numbered : ℕ → Tells
tells_numbered number =
    if number == 0 then Nothing else if number == 1 then Opens else if number == 2 then Finishes else Resets

-- the register in which a packet that is counted as dropped has the reason
abbrev pub reason_register : ℕ
reason_register = 8

-- what the Local has noted, with this number of backends
abbrev pub noted : ℕ → Local → Noted
noted backends l = record {
  class = class_of (slice_index l.regs 0);
  client = endpoint (slice_index l.regs 1 % 2 ^ 8) (slice_index l.regs 2 % 2 ^ 32) (slice_index l.regs 3 % 2 ^ 16);
  resets = slice_index l.regs 4 == 1;
  time = slice_index l.regs 5;
  backend = slice_index l.regs 6 % backends;
  spare = slice_index l.regs 7 % backends;
  reason = slice_index l.regs reason_register;
  tells = tells_numbered (slice_index l.regs 9);
}

-- the Local that notes this
abbrev pub local_of : Place → Noted → Local
local_of place n = record {
  at = number_of place;
  regs =
      number_of_class n.class ∷ n.client.protocol ∷ n.client.address ∷ n.client.port ∷ number_of_flag n.resets ∷ n.time
      ∷ n.backend ∷ n.spare ∷ n.reason ∷ number_of_tells n.tells ∷ 0 ∷ 0 ∷ [];
}
