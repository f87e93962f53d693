use Rattle.std.proofs.Common.{◌≡◌, false}
use Rattle.test_rounds.proofs.agreeing.perform_all.Given as goal

abbrev pub invariant-events : goal.invariant-events
invariant-events g l = l.system.stopped ≡ false
