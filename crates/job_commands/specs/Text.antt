-- The text of each status, as the program tells it on standard error.
use Rattle.std.specs.Prelude.{ℕ, List, ◌++◌, codes, decimal}
use Rattle.plain_text.specs.declared.fault.LineCause.{LineCause}
use Rattle.plain_text.specs.declared.fault.LineCause.TheVariants as line
use Rattle.plain_text.specs.declared.limit.Limit.{Limit}
use Rattle.plain_text.specs.declared.limit.Limit.TheVariants.{File, Packets, Events, Moves, OutputBytes}
use Rattle.pcap_io.specs.declared.fault.CaptureCause.{CaptureCause}
use Rattle.pcap_io.specs.declared.fault.CaptureCause.TheVariants as capture
use Rattle.pcapng_io.specs.declared.fault.NgCause.{NgCause}
use Rattle.pcapng_io.specs.declared.fault.NgCause.TheVariants as ng
use Rattle.plain_machine.specs.declared.plain_move.PlayCause.{PlayCause}
use Rattle.plain_machine.specs.declared.plain_move.PlayCause.TheVariants as move
use Rattle.schedule_check.specs.declared.checking.Refutation.{Refutation}
use Rattle.schedule_check.specs.declared.checking.Refutation.TheVariants as refuted
use Rattle.handover_world.specs.declared.unready.Unready.{Unready as UnreadyCause}
use Rattle.handover_world.specs.declared.unready.Unready.TheVariants as unready
use Rattle.hand_faults.specs.declared.fault.HandCause.{HandCause}
use Rattle.hand_faults.specs.declared.fault.HandCause.TheVariants as hand
use Rattle.job_commands.specs.declared.status.InputFault.{InputFault}
use Rattle.job_commands.specs.declared.status.InputFault.TheVariants.{BoxFile, SecondBox, Capture, NgCapture, Script}
use Rattle.job_commands.specs.declared.status.InputFault.TheVariants.{Plan, Schedule, Moves, Released, NgReleased}
use Rattle.job_commands.specs.declared.status.InputFault.TheVariants.{Handover}
use Rattle.job_commands.specs.declared.status.Status.{Status}
use Rattle.job_commands.specs.declared.status.Status.TheVariants.{Done, Refuted, BadWords, ReadFault, WriteFault}
use Rattle.job_commands.specs.declared.status.Status.TheVariants.{NoMemory, BadInput, TooLarge, Unready}

abbrev pub cause_text : LineCause → List ℕ
cause_text line.UnknownWord = codes "unknown word"
cause_text line.MissingWord = codes "missing word"
cause_text line.ExtraWord = codes "extra word"
cause_text line.BadNumber = codes "bad number"
cause_text line.OutOfRange = codes "out of range"
cause_text line.Twice = codes "twice"
cause_text line.MissingLine = codes "missing line"

abbrev pub capture_cause_text : CaptureCause → List ℕ
capture_cause_text capture.BadMagic = codes "bad magic"
capture_cause_text capture.BadVersion = codes "bad version"
capture_cause_text capture.BadLinkType = codes "bad link type"
capture_cause_text capture.ShortHeader = codes "short header"
capture_cause_text capture.ShortRecord = codes "short record"
capture_cause_text capture.TooLong = codes "too long"

abbrev pub ng_cause_text : NgCause → List ℕ
ng_cause_text ng.ShortBlock = codes "short block"
ng_cause_text ng.BadLength = codes "bad length"
ng_cause_text ng.BadMagic = codes "bad magic"
ng_cause_text ng.BadVersion = codes "bad version"
ng_cause_text ng.BadLinkType = codes "bad link type"
ng_cause_text ng.BadOption = codes "bad option"
ng_cause_text ng.NoInterface = codes "no interface"
ng_cause_text ng.BadPacket = codes "bad packet"
ng_cause_text ng.BadTime = codes "bad time"

abbrev pub move_cause_text : PlayCause → List ℕ
move_cause_text move.NoSuchThread = codes "no such thread"
move_cause_text move.NothingToTake = codes "nothing to take"
move_cause_text move.MissingAnswer = codes "missing answer"
move_cause_text move.UnwantedAnswer = codes "unwanted answer"

abbrev pub hand_cause_text : HandCause → List ℕ
hand_cause_text (hand.Line cause) = cause_text cause
hand_cause_text hand.Box = codes "another box"
hand_cause_text hand.Capture = codes "another capture"
hand_cause_text hand.Count = codes "bad count"
hand_cause_text (hand.Move cause) = move_cause_text cause
hand_cause_text hand.Released = codes "bad released"

abbrev pub limit_text : Limit → List ℕ
limit_text File = codes "file"
limit_text Packets = codes "packets"
limit_text Events = codes "events"
limit_text Moves = codes "moves"
limit_text OutputBytes = codes "output bytes"

-- the line, the offset or the move at which an input leaves its grammar, and why
abbrev pub fault_text : InputFault → List ℕ
fault_text (BoxFile fault) = codes "bad input: box: line " ++ decimal fault.line ++ codes ": " ++ cause_text fault.cause
fault_text (SecondBox fault) =
    codes "bad input: second box: line " ++ decimal fault.line ++ codes ": " ++ cause_text fault.cause
fault_text (Capture fault) =
    codes "bad input: capture: offset " ++ decimal fault.offset ++ codes ": " ++ capture_cause_text fault.cause
fault_text (Script fault) =
    codes "bad input: script: line " ++ decimal fault.line ++ codes ": " ++ cause_text fault.cause
fault_text (Plan fault) = codes "bad input: plan: line " ++ decimal fault.line ++ codes ": " ++ cause_text fault.cause
fault_text (NgCapture fault) =
    codes "bad input: capture: offset " ++ decimal fault.offset ++ codes ": " ++ ng_cause_text fault.cause
fault_text (Schedule fault) =
    codes "bad input: schedule: line " ++ decimal fault.line ++ codes ": " ++ cause_text fault.cause
fault_text (Moves fault) =
    codes "bad input: schedule: move " ++ decimal fault.number ++ codes ": " ++ move_cause_text fault.cause
fault_text (Released fault) =
    codes "bad input: released: offset " ++ decimal fault.offset ++ codes ": " ++ capture_cause_text fault.cause
fault_text (NgReleased fault) =
    codes "bad input: released: offset " ++ decimal fault.offset ++ codes ": " ++ ng_cause_text fault.cause
fault_text (Handover fault) =
    codes "bad input: handover: line " ++ decimal fault.line ++ codes ": " ++ hand_cause_text fault.cause

-- why a system can't be handed over yet
abbrev pub unready_text : UnreadyCause → List ℕ
unready_text unready.Down = codes "unready: down"
unready_text (unready.Left many) = codes "unready: left " ++ decimal many
unready_text (unready.Behind many) = codes "unready: behind " ++ decimal many

-- the first illegal move, and why, or the number of the packet
abbrev pub refutation_text : Refutation → List ℕ
refutation_text (refuted.Moves fault) =
    codes "refuted: schedule: move " ++ decimal fault.number ++ codes ": " ++ move_cause_text fault.cause
refutation_text (refuted.Packet number) = codes "refuted: released: packet " ++ decimal number

abbrev pub status_text : Status → List ℕ
status_text Done = codes "done"
status_text (Refuted refutation) = refutation_text refutation
status_text BadWords = codes "bad words"
status_text ReadFault = codes "read fault"
status_text WriteFault = codes "write fault"
status_text NoMemory = codes "no memory"
status_text (BadInput fault) = fault_text fault
status_text (TooLarge limit) = codes "too large: " ++ limit_text limit
status_text (Unready cause) = unready_text cause
