use Rattle.std.proofs.Common.{◌≡◌, length}
use Rattle.plain_text.specs.Lines.{words_of}
use Rattle.plain_text.proofs.word.WordIterIterator.next.Given as goal

-- the words left are those at the call
abbrev pub invariant-loop-self : goal.invariant-loop-self
invariant-loop-self l = words_of l.self-inside.rest.now ≡ l.fn.self

abbrev pub decreases-loop-self : goal.decreases-loop-self
decreases-loop-self l = length l.self-inside.rest.now
