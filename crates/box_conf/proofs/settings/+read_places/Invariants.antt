use Rattle.std.proofs.Common.{length}
use Rattle.box_conf.proofs.settings.+read_places.Given as goal

-- one place fewer
abbrev pub decreases-read_places : goal.decreases-read_places
decreases-read_places l = length l.places.now
