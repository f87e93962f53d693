use Rattle.recovery_laws.proofs.SoundParts.{snapshots_stand, line_stands, released_stands, waiting_stands}
use Rattle.recovery_laws.proofs.sound_worlds_stand.Goals as goal

pub returns-clause-snapshots : goal.returns-clause-snapshots
returns-clause-snapshots g c = snapshots_stand

pub returns-clause-line : goal.returns-clause-line
returns-clause-line g c = λ s w line h l. line_stands s w h.firm line l

pub returns-clause-released : goal.returns-clause-released
returns-clause-released g c = λ s w line o h l. released_stands s w h.firm line l o

pub returns-clause-waiting : goal.returns-clause-waiting
returns-clause-waiting g c = waiting_stands
