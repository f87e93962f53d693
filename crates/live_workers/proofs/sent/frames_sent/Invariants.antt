use Rattle.std.proofs.Common.{◌≡◌, take}
use Rattle.live_workers.specs.Frames.{frames_noted}
use Rattle.live_workers.proofs.sent.frames_sent.Given as goal

-- those of the steps so far stand there
abbrev pub invariant-loop-step : goal.invariant-loop-step
invariant-loop-step l = l.frames.items ≡ frames_noted (take l.step-index l.steps)
