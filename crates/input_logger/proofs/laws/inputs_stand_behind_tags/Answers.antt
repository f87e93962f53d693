use Rattle.input_logger.proofs.InputsBehind.{inputs_behind}
use Rattle.input_logger.proofs.laws.inputs_stand_behind_tags.Goals as goal

pub returns : goal.returns
returns c = inputs_behind
