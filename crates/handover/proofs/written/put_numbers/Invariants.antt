use Rattle.std.proofs.Common.{◌≡◌, ◌++◌, take}
use Rattle.handover.specs.Images.{numbered}
use Rattle.handover.proofs.written.put_numbers.Given as goal

-- the word and the numbers so far
abbrev pub invariant-loop-number : goal.invariant-loop-number
invariant-loop-number l = l.text ≡ l.fn.text ++ (l.word ++ numbered (take l.number-index l.numbers))
