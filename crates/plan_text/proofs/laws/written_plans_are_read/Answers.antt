use Rattle.plain_text.proofs.WholeFiles.{one_file}
use Rattle.plan_text.specs.Plans.{plan_form, plan_text}
use Rattle.plan_text.proofs.OneLine.{lines_are_decisive}
use Rattle.plan_text.proofs.ReadBack.{read_back}
use Rattle.plan_text.proofs.laws.written_plans_are_read.Goals as goal

pub returns-clause-read : goal.returns-clause-read
returns-clause-read c = read_back

pub returns-clause-alone : goal.returns-clause-alone
returns-clause-alone c = λ lines other fit is.
    one_file plan_form lines_are_decisive (plan_text lines) other lines is (read_back lines fit)
