use Rattle.std.proofs.Common.{◌≡◌, ◌+◌}
use Rattle.plain_text.specs.Lines.{counted_lines}
use Rattle.plain_text.specs.LineFiles.{Begins, count_of}
use Rattle.plain_text.proofs.line_file.read_lines.Given as goal

-- the things so far are those of the first lines, and the others are left; the room is what the limit leaves
abbrev pub invariant-loop-line : goal.invariant-loop-line
invariant-loop-line g l = record {
  begins : Begins g.F.LineFile.form (counted_lines l.text) l.things l.line-iterator;
  room : l.room + count_of g.F.LineFile.form l.things ≡ l.most;
}
