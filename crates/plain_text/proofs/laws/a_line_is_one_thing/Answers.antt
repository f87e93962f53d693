use Rattle.plain_text.proofs.Rows.{says_no_fault, no_fault_says, one_reading}
use Rattle.plain_text.proofs.laws.a_line_is_one_thing.Goals as goal

pub returns-clause-says : goal.returns-clause-says
returns-clause-says c = says_no_fault

pub returns-clause-faulty : goal.returns-clause-faulty
returns-clause-faulty c = no_fault_says

pub returns-clause-one : goal.returns-clause-one
returns-clause-one c = one_reading
