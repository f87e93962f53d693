use Rattle.std.proofs.Common.{◌≡◌, ◌+◌}
use Rattle.plain_text.specs.declared.limit.TheConstants.{MOST_EVENTS}
use Rattle.plain_text.specs.Lines.{counted_lines}
use Rattle.plain_text.specs.LineFiles.{Begins, count_of}
use Rattle.plain_player.specs.Schedules.{schedule_form}
use Rattle.plain_player.proofs.schedule.read_schedule.Given as goal

-- the moves so far are those of the first lines, and the others are left; the room is what the limit leaves
abbrev pub invariant-loop-line : goal.invariant-loop-line
invariant-loop-line l = record {
  begins : Begins schedule_form (counted_lines l.text) l.moves l.line-iterator;
  room : l.room + count_of schedule_form l.moves ≡ MOST_EVENTS;
}
