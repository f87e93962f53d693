use Rattle.std.proofs.Common.{◌≡◌}
use Rattle.noted_runs.specs.Turns.{AreTurns}
use Rattle.noted_runs.proofs.trace.steering.steer_all.Given as goal

-- the packets so far were steered
abbrev pub invariant-loop-packet : goal.invariant-loop-packet
invariant-loop-packet l = record {
  inputs : l.inputs ≡ record { threads = l.threads; tags = l.tags; packets = l.yielded };
  turns : AreTurns l.threads l.tags l.yielded l.turns;
}
