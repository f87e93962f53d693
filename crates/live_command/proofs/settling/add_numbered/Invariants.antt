use Rattle.std.proofs.Common.{◌≡◌, ◌++◌}
use Rattle.recovery_world.specs.Many.{numbered}
use Rattle.live_command.proofs.settling.add_numbered.Given as goal

-- those up to the number before this one are there
abbrev pub invariant-loop-earlier : goal.invariant-loop-earlier
invariant-loop-earlier l = l.frames.items ≡ l.initial.frames.items ++ numbered l.kind l.thread 1 l.earlier
