use Rattle.round_join.proofs.MarkLemmas.{seats_have_marks}
use Rattle.round_join.proofs.laws.seats_have_marks.Goals as goal

pub returns : goal.returns
returns g c = record { marks = λ m past round seats are light. seats_have_marks m past round seats are light }
