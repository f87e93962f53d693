use Rattle.std.proofs.Common.{◌≡◌, false}
use Rattle.bench.proofs.system.perform_packet.Given as goal

abbrev pub invariant-steps : goal.invariant-steps
invariant-steps g l = l.system.stopped ≡ false
