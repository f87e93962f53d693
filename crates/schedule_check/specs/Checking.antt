-- What playing a schedule tells: the packets that it sends out, and whether released packets are among them.
use Rattle.std.specs.Prelude.{◌≡◌, List, length, map, Result, Ok, Err}
use Rattle.plain_text.specs.declared.packet.Packet.{Packet}
use Rattle.plain_text.specs.declared.packet.Unit.{Unit as FractionUnit}
use Rattle.plain_machine.specs.declared.emission.Emission.{Emission}
use Rattle.plain_machine.specs.declared.plain_move.PlayFault.{PlayFault}
use Rattle.plain_machine.specs.History.{Step, emissions}
use Rattle.plain_player.specs.declared.whole.PlayError.{PlayError}
use Rattle.plain_player.specs.declared.whole.PlayError.TheVariants as error
use Rattle.schedule_check.specs.Unmatched.{FirstUnmatched}
use Rattle.recovery_world.specs.Matching.{IsMatched}
use Rattle.schedule_check.specs.declared.checking.Checked.{Checked}
use Rattle.schedule_check.specs.declared.checking.Checked.TheVariants.{Found, Refuted}
use Rattle.schedule_check.specs.declared.checking.Refutation.TheVariants as refuted

abbrev pub packets_of : List Emission → List Packet
packets_of sent = map (λ emission. emission.packet) sent

-- the answer to a schedule that comes to a history, or to a fault
abbrev pub IsEmitted : {V : Type 0} → Result (List (Step V)) PlayFault → Result (List Packet) PlayError → Type 0
IsEmitted (Ok steps) (Ok packets) = packets ≡ packets_of (emissions steps)
IsEmitted (Err fault) (Err (error.Fault named)) = named ≡ fault
IsEmitted (Ok steps) (Err (error.Fault named)) = ⊥
IsEmitted (Err fault) (Ok packets) = ⊥
IsEmitted outcome (Err error.NoMemory) = Unit {0}

-- What is found of such a schedule, on inputs with fractions in this unit, and of released packets with fractions in
-- that one: it is legal, and they are matched; or the first fault; or it is legal, and the first that is unmatched.
abbrev pub IsChecked : {V : Type 0} → Result (List (Step V)) PlayFault → FractionUnit → List Packet → FractionUnit
    → Checked → Type 0
IsChecked (Ok steps) unit released other (Found number) =
    IsMatched other released unit (emissions steps) × (number ≡ length released)
IsChecked (Ok steps) unit released other (Refuted (refuted.Packet number)) =
    FirstUnmatched other released unit (emissions steps) number
IsChecked (Ok steps) unit released other (Refuted (refuted.Moves named)) = ⊥
IsChecked (Err fault) unit released other (Found number) = ⊥
IsChecked (Err fault) unit released other (Refuted (refuted.Packet number)) = ⊥
IsChecked (Err fault) unit released other (Refuted (refuted.Moves named)) = named ≡ fault
