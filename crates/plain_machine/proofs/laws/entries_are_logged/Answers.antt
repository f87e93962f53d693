use Rattle.plain_machine.proofs.Histories.{history_log, entry_made}
use Rattle.plain_machine.proofs.laws.entries_are_logged.Goals as goal

pub returns-clause-log : goal.returns-clause-log
returns-clause-log g c = history_log

pub returns-clause-made : goal.returns-clause-made
returns-clause-made g c = entry_made
