use Rattle.std.proofs.Common.{◌≡◌, length}
use Rattle.plain_text.specs.Lines.{words_of}
use Rattle.chain_text.proofs.rest.behind_word.Given as goal

-- the words of the rest are those of the line
abbrev pub invariant-loop-rest : goal.invariant-loop-rest
invariant-loop-rest l = words_of l.rest ≡ words_of l.fn.line

abbrev pub decreases-loop-rest : goal.decreases-loop-rest
decreases-loop-rest l = length l.rest
