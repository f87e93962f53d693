use Rattle.std.proofs.Common.{◌≡◌, false}
use Rattle.bench.proofs.system.perform_packets.Given as goal

abbrev pub invariant-packets : goal.invariant-packets
invariant-packets g l = l.system.stopped ≡ false
