use Rattle.plan_text.proofs.OneLine.{lines_are_decisive}
use Rattle.plan_text.proofs.plan.read_plan.Goals as goal

pub read_lines-requires : goal.read_lines-requires
read_lines-requires c = record { decisive = lines_are_decisive }
