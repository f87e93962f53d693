use Rattle.std.proofs.Common.{◌≡◌}
use Rattle.schedule_check.specs.Checking.{packets_of}
use Rattle.schedule_check.proofs.emitting.packets_of.Given as goal

-- the packets are those of the emissions so far
abbrev pub invariant-loop-emission : goal.invariant-loop-emission
invariant-loop-emission l = l.packets ≡ packets_of l.yielded
