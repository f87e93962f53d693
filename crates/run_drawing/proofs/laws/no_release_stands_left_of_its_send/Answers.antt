use Rattle.run_drawing.specs.Picture.{at_first}
use Rattle.run_drawing.proofs.Happened.{all_happened}
use Rattle.run_drawing.proofs.TimeOrder.{to_the_right}
use Rattle.run_drawing.proofs.laws.no_release_stands_left_of_its_send.Goals as goal

pub returns-clause-order : goal.returns-clause-order
returns-clause-order c = λ threads notes. all_happened threads notes at_first

pub returns-clause-to_the_right : goal.returns-clause-to_the_right
returns-clause-to_the_right c = λ threads notes. to_the_right threads notes at_first
