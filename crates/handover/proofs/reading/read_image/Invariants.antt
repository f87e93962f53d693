use Rattle.std.proofs.Common.{◌≡◌, ◌+◌, length}
use Rattle.plain_text.specs.declared.limit.TheConstants.{MOST_EVENTS}
use Rattle.handover.proofs.WholeImages.{IsRead, lines_at}
use Rattle.handover.proofs.reading.read_image.Given as goal

-- the lines so far are those of the image, and the others are left; the room is what the limit leaves
abbrev pub invariant-loop-line : goal.invariant-loop-line
invariant-loop-line l = record {
  read : IsRead l.text l.stage l.image l.line-iterator;
  room : l.room + length (lines_at l.stage l.image) ≡ MOST_EVENTS;
}
