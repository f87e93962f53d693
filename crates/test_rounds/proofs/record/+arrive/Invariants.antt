use Rattle.std.proofs.Common.{length}
use Rattle.test_rounds.proofs.record.+arrive.Given as goal

abbrev pub decreases-arrive : goal.decreases-arrive
decreases-arrive g l = length l.frames.now
