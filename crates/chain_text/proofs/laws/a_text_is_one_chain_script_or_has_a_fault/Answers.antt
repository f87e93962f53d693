use Rattle.plain_text.specs.declared.limit.TheConstants.{MOST_EVENTS}
use Rattle.plain_text.proofs.WholeFiles.{either, not_both, one_file, one_fault, too_many, too_many_before}
use Rattle.chain_text.specs.ChainScripts.{chain_form}
use Rattle.chain_text.proofs.OneEvent.{chain_is_decisive}
use Rattle.chain_text.proofs.laws.a_text_is_one_chain_script_or_has_a_fault.Goals as goal

pub returns-clause-either : goal.returns-clause-either
returns-clause-either c = either chain_form chain_is_decisive

pub returns-clause-not_both : goal.returns-clause-not_both
returns-clause-not_both c = not_both chain_form chain_is_decisive

pub returns-clause-one_script : goal.returns-clause-one_script
returns-clause-one_script c = one_file chain_form chain_is_decisive

pub returns-clause-one_fault : goal.returns-clause-one_fault
returns-clause-one_fault c = one_fault chain_form chain_is_decisive

pub returns-clause-too_many : goal.returns-clause-too_many
returns-clause-too_many c = too_many chain_form chain_is_decisive MOST_EVENTS

pub returns-clause-too_many_before : goal.returns-clause-too_many_before
returns-clause-too_many_before c = too_many_before chain_form chain_is_decisive MOST_EVENTS
