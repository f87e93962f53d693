use Rattle.std.proofs.Common.{◌≡◌, ◌≤◌}
use Rattle.crash_recovery.proofs.RecoveryLinks.{TurnedBack}
use Rattle.crash_recovery.proofs.crashing.turn_links.Given as goal

-- the links have these threads, and those before this one are turned back
abbrev pub invariant-loop-thread : goal.invariant-loop-thread
invariant-loop-thread g l = record {
  within : l.threads ≤ l.sent.threads;
  epoch : l.sent.epoch ≡ l.fn.sent.epoch;
  turned : TurnedBack l.master l.thread l.fn.sent l.sent;
}
