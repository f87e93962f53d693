use Rattle.svg_text.proofs.Elements.{picture_well_formed}
use Rattle.svg_text.proofs.laws.drawings_are_well_formed.Goals as goal

pub returns : goal.returns
returns c = picture_well_formed
