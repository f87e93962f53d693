-- What the command `check` tells: how many released packets it found, where the schedule is legal and each has an
-- emission of its own.
use Rattle.std.specs.Prelude.{ℕ, List, [], ◌∷◌, ◌++◌, codes, decimal, length, Result, Ok, Err}
use Rattle.plain_text.specs.declared.packet.Packet.{Packet}
use Rattle.plain_text.specs.declared.packet.Unit.{Unit as FractionUnit}
use Rattle.plain_machine.specs.declared.plain_move.PlayFault.{PlayFault}
use Rattle.plain_machine.specs.History.{Step}
use Rattle.schedule_check.specs.declared.checking.Refutation.{Refutation}
use Rattle.schedule_check.specs.declared.checking.Checked.TheVariants.{Found, Refuted}
use Rattle.schedule_check.specs.Checking.{IsChecked}
use Rattle.output_files.specs.Writes.{Write, Reports}
use Rattle.schedule_commands.specs.declared.error.ScheduleError.{ScheduleError}
use Rattle.schedule_commands.specs.declared.error.ScheduleError.TheVariants as error

-- the report: how many released packets were found
abbrev pub found_text : ℕ → List ℕ
found_text count = codes "found " ++ decimal count ++ codes "\n"

abbrev pub found_writes : ℕ → List Write
found_writes count = Reports (found_text count) ∷ []

-- The schedule, on inputs with fractions in this unit, is legal, and each of the released packets has an emission of
-- its own.
abbrev pub IsFound : {V : Type 0} → Result (List (Step V)) PlayFault → FractionUnit → List Packet
    → FractionUnit → Type 0
IsFound outcome unit released other = IsChecked outcome unit released other (Found (length released))

-- What an answer says of what the schedule comes to, and of the released packets. The report is begun only where they
-- are found; running out of memory says nothing.
abbrev pub SaysCheck : {A V : Type 0} → Result (List (Step V)) PlayFault → FractionUnit → List Packet → FractionUnit
    → Result A (ScheduleError Refutation) → Type 0
SaysCheck outcome unit released other (Ok done) = IsFound outcome unit released other
SaysCheck outcome unit released other (Err (error.Refused refutation)) =
    IsChecked outcome unit released other (Refuted refutation)
SaysCheck outcome unit released other (Err error.WriteFault) = IsFound outcome unit released other
SaysCheck outcome unit released other (Err error.NoMemory) = Unit {0}
