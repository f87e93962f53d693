use Rattle.release_taps.specs.Recorded.{AreUnused}
use Rattle.test_commands.proofs.taps.new_taps.Given as goal

abbrev pub invariant-loop-limit : goal.invariant-loop-limit
invariant-loop-limit l = AreUnused l.taps.items
