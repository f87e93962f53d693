use Rattle.std.proofs.Common.{◌≡◌, take}
use Rattle.plain_player.specs.ScheduleText.{schedule_text}
use Rattle.plain_player.specs.Schedules.{FitLines}
use Rattle.plain_player.proofs.schedule.put_schedule.Given as goal

-- the lines of the moves so far, which fit them
abbrev pub invariant-loop-index : goal.invariant-loop-index
invariant-loop-index l = record {
  text : l.text ≡ schedule_text (take l.index l.schedule);
  fits : FitLines (take l.index l.schedule);
}
