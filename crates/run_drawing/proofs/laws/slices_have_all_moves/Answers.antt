use Rattle.run_drawing.proofs.SlicesWhole.{few_slices, whole_slices}
use Rattle.run_drawing.proofs.laws.slices_have_all_moves.Goals as goal

pub returns-clause-few : goal.returns-clause-few
returns-clause-few c = few_slices

pub returns-clause-all : goal.returns-clause-all
returns-clause-all c = whole_slices
