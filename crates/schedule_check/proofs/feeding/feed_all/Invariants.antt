use Rattle.std.proofs.Common.{◌≡◌}
use Rattle.schedule_check.proofs.feeding.feed_all.Given as goal

-- the log has the packets so far
abbrev pub invariant-loop-packet : goal.invariant-loop-packet
invariant-loop-packet l = l.log ≡ record { threads = l.threads; tags = l.tags; packets = l.yielded }
