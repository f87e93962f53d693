use Rattle.run_drawing.specs.Picture.{at_first}
use Rattle.run_drawing.proofs.MovesShown.{moves_shown}
use Rattle.run_drawing.proofs.laws.every_move_has_one_mark.Goals as goal

pub returns : goal.returns
returns c = λ threads notes. moves_shown threads notes at_first
