use Rattle.plain_text.proofs.WholeFiles.{one_file}
use Rattle.script_text.specs.Scripts.{script_form, script_text}
use Rattle.script_text.proofs.OneLine.{events_are_decisive}
use Rattle.script_text.proofs.ReadBack.{read_back}
use Rattle.script_text.proofs.laws.written_scripts_are_read.Goals as goal

pub returns-clause-read : goal.returns-clause-read
returns-clause-read c = read_back

pub returns-clause-alone : goal.returns-clause-alone
returns-clause-alone c = λ events other fit is.
    one_file script_form events_are_decisive (script_text events) other events is (read_back events fit)
