-- What a hand-over, and a run that goes on from one, come to whose runs came to this.
use Rattle.std.specs.Prelude.{Result, Ok, Err, ⊤}
use Rattle.handover_world.specs.declared.fault.ResumeError.{ResumeError}
use Rattle.handover_world.specs.declared.fault.ResumeError.TheVariants.{Count, Move, Released, NoMemory}
use Rattle.run_writes.specs.declared.error.RunError.{RunError}
use Rattle.run_writes.specs.declared.error.RunError.TheVariants as run
use Rattle.hand_command.specs.declared.error.HandError.{HandError}
use Rattle.hand_command.specs.declared.error.HandError.TheVariants as hand
use Rattle.hand_command.specs.declared.error.GoOnError.{GoOnError}
use Rattle.hand_command.specs.declared.error.GoOnError.TheVariants as on

abbrev pub hand_error_of : RunError → HandError
hand_error_of (run.Limit limit) = hand.Limit limit
hand_error_of run.WriteFault = hand.WriteFault
hand_error_of run.NoMemory = hand.NoMemory

abbrev pub hand_result_of : Result ⊤ RunError → Result ⊤ HandError
hand_result_of (Ok done) = Ok done
hand_result_of (Err error) = Err (hand_error_of error)

abbrev pub go_on_error_of : RunError → GoOnError
go_on_error_of (run.Limit limit) = on.Limit limit
go_on_error_of run.WriteFault = on.WriteFault
go_on_error_of run.NoMemory = on.NoMemory

abbrev pub go_on_result_of : Result ⊤ RunError → Result ⊤ GoOnError
go_on_result_of (Ok done) = Ok done
go_on_result_of (Err error) = Err (go_on_error_of error)

-- the image has a fault, or memory ran out
abbrev pub not_resumed : ResumeError → GoOnError
not_resumed (Count place) = on.Fault (Count place)
not_resumed (Move fault) = on.Fault (Move fault)
not_resumed (Released place) = on.Fault (Released place)
not_resumed NoMemory = on.NoMemory
