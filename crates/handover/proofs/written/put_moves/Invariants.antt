use Rattle.std.proofs.Common.{◌≡◌, take}
use Rattle.std.specs.Prelude.{All}
use Rattle.plain_text.specs.LineFiles.{text_of}
use Rattle.handover.specs.declared.line.ImageLine.TheVariants as line
use Rattle.handover.specs.Images.{FitsLine, line_text}
use Rattle.handover.proofs.written.put_moves.Given as goal

-- the lines of the moves so far, which fit them
abbrev pub invariant-loop-index : goal.invariant-loop-index
invariant-loop-index l = record {
  text : l.text ≡ text_of (λ plain. line_text (line.Move plain)) (take l.index l.moves);
  fits : All (λ plain. FitsLine (line.Move plain)) (take l.index l.moves);
}
