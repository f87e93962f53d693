use Rattle.std.proofs.Common.{◌≡◌, take}
use Rattle.std.specs.Prelude.{All}
use Rattle.plain_text.specs.LineFiles.{text_of}
use Rattle.plain_text.proofs.line_file.put_lines.Given as goal

-- the lines of the things so far, which fit them
abbrev pub invariant-loop-thing : goal.invariant-loop-thing
invariant-loop-thing g l = record {
  text : l.text ≡ text_of g.F.WrittenFile.line (take l.thing-index l.things);
  fits : All g.F.WrittenFile.fits (take l.thing-index l.things);
}
