use Rattle.std.proofs.Common.{length}
use Rattle.test_rounds.proofs.racing.+go_on_by.Given as goal

abbrev pub decreases-go_on_by : goal.decreases-go_on_by
decreases-go_on_by g l = length l.stages.now
