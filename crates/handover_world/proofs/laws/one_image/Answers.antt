use Rattle.std.proofs.Common.{sym, ◌∙◌}
use Rattle.handover_world.proofs.OneImage.{image_there, image_one, past_one, released_one, ended_long, ended_one}
use Rattle.handover_world.proofs.laws.one_image.Goals as goal

pub returns-clause-there : goal.returns-clause-there
returns-clause-there g c = image_there

pub returns-clause-one : goal.returns-clause-one
returns-clause-one g c = image_one

pub returns-clause-past : goal.returns-clause-past
returns-clause-past g c = λ s v w image x y a b. past_one s v w image a b x y

pub returns-clause-released : goal.returns-clause-released
returns-clause-released g c = λ s v w image x y r q a b. released_one s v w image a b x y r q

pub returns-clause-fed : goal.returns-clause-fed
returns-clause-fed g c = λ s v w image a b. (sym a.fed ∙ b.fed, sym a.clock ∙ b.clock, sym a.draws ∙ b.draws)

pub returns-clause-counts : goal.returns-clause-counts
returns-clause-counts g c = λ s v w image a b. (sym a.epoch ∙ b.epoch, sym a.moves ∙ b.moves, sym a.bytes ∙ b.bytes)

pub returns-clause-epochs : goal.returns-clause-epochs
returns-clause-epochs g c = ended_long

pub returns-clause-ended : goal.returns-clause-ended
returns-clause-ended g c = λ s v w image i t x y a b. ended_one s v w image a b i t x y
