use Rattle.std.proofs.Common.{◌≡◌, ◌≤◌, length}
use Rattle.system_parts.specs.Views.{parts_in}
use Rattle.packet_feeds.proofs.FeedLemmas.{with_fed}
use Rattle.packet_feeds.proofs.feeding.feed.Given as goal

-- as many of the packets that were left are fed as there were turns
abbrev pub invariant-packets : goal.invariant-packets
invariant-packets g l = record {
  within : l.counter ≤ length l.fn.core.left;
  fed : parts_in l.core-inside ≡ with_fed l.counter l.fn.core;
}
