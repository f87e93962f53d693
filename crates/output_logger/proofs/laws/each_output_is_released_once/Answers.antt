use Rattle.output_logger.proofs.NameLemmas.{lives_once, lives_noted}
use Rattle.output_logger.proofs.laws.each_output_is_released_once.Goals as goal

pub returns-clause-once : goal.returns-clause-once
returns-clause-once c = lives_once

pub returns-clause-noted : goal.returns-clause-noted
returns-clause-noted c = lives_noted
