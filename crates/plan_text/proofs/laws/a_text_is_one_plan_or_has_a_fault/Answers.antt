use Rattle.plain_text.specs.declared.limit.TheConstants.{MOST_EVENTS}
use Rattle.plain_text.proofs.WholeFiles.{either, not_both, one_file, one_fault, too_many, too_many_before}
use Rattle.plan_text.specs.Plans.{plan_form}
use Rattle.plan_text.proofs.OneLine.{lines_are_decisive}
use Rattle.plan_text.proofs.laws.a_text_is_one_plan_or_has_a_fault.Goals as goal

pub returns-clause-either : goal.returns-clause-either
returns-clause-either c = either plan_form lines_are_decisive

pub returns-clause-not_both : goal.returns-clause-not_both
returns-clause-not_both c = not_both plan_form lines_are_decisive

pub returns-clause-one_plan : goal.returns-clause-one_plan
returns-clause-one_plan c = one_file plan_form lines_are_decisive

pub returns-clause-one_fault : goal.returns-clause-one_fault
returns-clause-one_fault c = one_fault plan_form lines_are_decisive

pub returns-clause-too_many : goal.returns-clause-too_many
returns-clause-too_many c = too_many plan_form lines_are_decisive MOST_EVENTS

pub returns-clause-too_many_before : goal.returns-clause-too_many_before
returns-clause-too_many_before c = too_many_before plan_form lines_are_decisive MOST_EVENTS
