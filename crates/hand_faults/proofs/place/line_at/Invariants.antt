use Rattle.std.proofs.Common.{◌≡◌, ◌<◌, length}
use Rattle.std.specs.Prelude.{slice_get}
use Rattle.plain_text.specs.Lines.{counted_lines}
use Rattle.hand_faults.proofs.place.line_at.Given as goal

-- the place is so far behind the lines that were passed
abbrev pub invariant-loop-line : goal.invariant-loop-line
invariant-loop-line l = record {
  there : l.left < length l.line-iterator;
  same : slice_get (counted_lines l.text) l.place ≡ slice_get l.line-iterator l.left;
}
