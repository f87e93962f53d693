use Rattle.std.proofs.Common.{◌≡◌, ◌+◌, ◌<◌, ◌^◌, length}
use Rattle.plain_text.specs.Lines.{counted_from}
use Rattle.plain_text.proofs.line.LineIterIterator.next.Given as goal

-- the lines left are those at the call, and their numbers fit
abbrev pub invariant-loop-self : goal.invariant-loop-self
invariant-loop-self l = record {
  left : counted_from l.self-inside.number l.self-inside.rest.now ≡ l.fn.self;
  room : l.self-inside.number + length l.self-inside.rest.now < 2 ^ 64;
}

abbrev pub decreases-loop-self : goal.decreases-loop-self
decreases-loop-self l = length l.self-inside.rest.now
