use Rattle.std.proofs.Common.{◌≡◌, [], take}
use Rattle.replay_guide.specs.Worlds.{put_before}
use Rattle.system_end.proofs.EndingLemmas.{backwards}
use Rattle.system_end.proofs.ending.followed_entries.Given as goal

-- those with the names so far are there
abbrev pub invariant-loop-thread : goal.invariant-loop-thread
invariant-loop-thread l = l.entries.items ≡ backwards (put_before l.guide (take l.thread-index l.thread-items) [])
