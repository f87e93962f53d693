use Rattle.plain_text.proofs.WholeFiles.{one_file}
use Rattle.plain_player.specs.ScheduleText.{schedule_text}
use Rattle.plain_player.specs.Schedules.{schedule_form}
use Rattle.plain_player.proofs.OneMove.{moves_are_decisive}
use Rattle.plain_player.proofs.WrittenSchedules.{read_back}
use Rattle.plain_player.proofs.laws.written_schedules_are_read.Goals as goal

pub returns-clause-read : goal.returns-clause-read
returns-clause-read c = read_back

pub returns-clause-alone : goal.returns-clause-alone
returns-clause-alone c = λ moves other fit is.
    one_file schedule_form moves_are_decisive (schedule_text moves) other moves is (read_back moves fit)
