use Rattle.test_locks.specs.Followed.{AreFollowed}
use Rattle.test_locks.proofs.following.guide_of.Given as goal

-- what is held can be followed
abbrev pub invariant-loop-entry : goal.invariant-loop-entry
invariant-loop-entry l = AreFollowed l.held l.last
