use Rattle.plain_machine.proofs.Runs.{history_more}
use Rattle.plain_machine.proofs.LoggedEffects.{entry_thread}
use Rattle.plain_machine.proofs.Hands.{hand_input, taken_within}
use Rattle.plain_machine.proofs.line_laws.runs_are_kept.Goals as goal

pub returns-clause-more_inputs : goal.returns-clause-more_inputs
returns-clause-more_inputs g c = history_more

pub returns-clause-of_threads : goal.returns-clause-of_threads
returns-clause-of_threads g c = entry_thread

pub returns-clause-taken : goal.returns-clause-taken
returns-clause-taken g c = taken_within

pub returns-clause-in_hand : goal.returns-clause-in_hand
returns-clause-in_hand g c = hand_input
