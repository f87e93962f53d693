use Rattle.longer_captures.proofs.LongerLemmas.{sound_there, single_there, performed_there, performed_on}
use Rattle.longer_captures.proofs.LongerLemmas.{performed_stop}
use Rattle.longer_captures.proofs.longer_captures_keep_worlds.Goals as goal

pub returns-clause-sound : goal.returns-clause-sound
returns-clause-sound g c = λ s w more h. sound_there s w more h

pub returns-clause-single : goal.returns-clause-single
returns-clause-single g c = λ s w more ev to freed new h on. single_there s w more ev to freed new h on

pub returns-clause-longer : goal.returns-clause-longer
returns-clause-longer g c = λ s w more p. performed_there s w more p

pub returns-clause-goes_on : goal.returns-clause-goes_on
returns-clause-goes_on g c = λ s w ev to freed new p on. performed_on s w ev to freed new p on

pub returns-clause-stopped : goal.returns-clause-stopped
returns-clause-stopped g c = λ s w ev limit new p h. performed_stop s w ev limit new p h
