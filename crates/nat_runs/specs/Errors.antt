-- Errors of ICMP go through by the line alone: without it a packet is what its frame is as a flow, and none comes to
-- the place of errors.
use Rattle.std.specs.Prelude.{◌≡◌, ℕ, Bool, false, List, Some, Result, Ok, Err}
use Rattle.plain_text.specs.declared.packet.Packet.{Packet}
use Rattle.packet_headers.specs.declared.flow.Flow.{Flow}
use Rattle.packet_headers.specs.declared.flow.NotFlow.{NotFlow}
use Rattle.packet_headers.specs.View.{viewed}
use Rattle.plain_machine.specs.declared.local.Local.{Local}
use Rattle.plain_machine.specs.Machine.{Hand}
use Rattle.plain_machine.specs.History.{Step, thread_after, IsHistory}
use Rattle.nat_box.specs.declared.place.Place.TheVariants.{FindsPort}
use Rattle.nat_box.specs.declared.seeing.Seen.{Seen}
use Rattle.nat_box.specs.declared.seeing.Seen.TheVariants.{OfFlow, OfNeither}
use Rattle.nat_box.specs.declared.value.NatValue.{NatValue}
use Rattle.nat_box.specs.Places.{place_numbered, noted}
use Rattle.nat_box.specs.Settings.{Settings, AreSettings}
use Rattle.nat_box.specs.Nat.{begun, bytes_out, local_at, nat_meaning}

abbrev pub flow_alone : Result Flow NotFlow → Seen
flow_alone (Ok flow) = OfFlow flow
flow_alone (Err answer) = OfNeither answer

abbrev pub BeginsByFlow : Type 0
BeginsByFlow =
    (s : Settings) → s.errors ≡ false → (p : Packet)
    → (nat_meaning s).begin p ≡ local_at (begun s (flow_alone (viewed p.bytes p.original)))

abbrev pub SendsByFlow : Type 0
SendsByFlow =
    (s : Settings) → s.errors ≡ false → (p : Packet) (l : Local)
    → (nat_meaning s).out p l ≡ bytes_out s p.bytes (noted l) (flow_alone (viewed p.bytes p.original))

-- All other moves are the same with the line and without it.
abbrev pub OtherMovesAreTheSame : Type 0
OtherMovesAreTheSame =
    (s : Settings) (errors : Bool)
    → nat_meaning (record s { errors = errors })
    ≡ record (nat_meaning s) {
      begin = (nat_meaning (record s { errors = errors })).begin;
      out = (nat_meaning (record s { errors = errors })).out;
    }

-- after each move of each run
abbrev pub NoneFindsPort : Type 0
NoneFindsPort =
    (s : Settings) (threads : ℕ) (inputs : ℕ → List Packet) (steps : List (Step NatValue)) (t : ℕ) (h : Hand)
    → AreSettings s → IsHistory (nat_meaning s) inputs threads steps → s.errors ≡ false
    → (thread_after steps t).hand ≡ Some h → place_numbered h.place.at ≡ FindsPort → ⊥
