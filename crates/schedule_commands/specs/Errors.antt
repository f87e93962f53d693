-- Which error of a command over a schedule an error of its parts becomes.
use Rattle.plain_machine.specs.declared.plain_move.PlayFault.{PlayFault}
use Rattle.plain_player.specs.declared.whole.PlayError.{PlayError}
use Rattle.plain_player.specs.declared.whole.PlayError.TheVariants as play
use Rattle.output_files.specs.declared.error.OutputError.{OutputError}
use Rattle.output_files.specs.declared.error.OutputError.TheVariants as output
use Rattle.schedule_commands.specs.declared.error.ScheduleError.{ScheduleError}
use Rattle.schedule_commands.specs.declared.error.ScheduleError.TheVariants as error

abbrev pub of_output : {F : Type 0} → OutputError → ScheduleError F
of_output output.WriteFault = error.WriteFault
of_output output.NoMemory = error.NoMemory

abbrev pub of_playing : PlayError → ScheduleError PlayFault
of_playing (play.Fault fault) = error.Refused fault
of_playing play.NoMemory = error.NoMemory
