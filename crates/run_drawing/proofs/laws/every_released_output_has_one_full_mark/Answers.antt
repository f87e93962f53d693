use Rattle.run_drawing.specs.Picture.{at_first}
use Rattle.run_drawing.proofs.ReleasesShown.{releases_shown}
use Rattle.run_drawing.proofs.laws.every_released_output_has_one_full_mark.Goals as goal

pub returns : goal.returns
returns c = λ threads notes. releases_shown threads notes at_first
