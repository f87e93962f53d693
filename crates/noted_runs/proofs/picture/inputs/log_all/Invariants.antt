use Rattle.std.proofs.Common.{◌≡◌}
use Rattle.noted_runs.proofs.picture.inputs.log_all.Given as goal

-- the packets so far were fed
abbrev pub invariant-loop-packet : goal.invariant-loop-packet
invariant-loop-packet l = l.log ≡ record { threads = l.threads; tags = l.tags; packets = l.yielded }
