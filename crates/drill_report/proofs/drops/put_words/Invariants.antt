use Rattle.std.proofs.Common.{◌≡◌, ◌++◌, drop, Some}
use Rattle.drill_report.specs.Report.{drop_words}
use Rattle.drill_report.proofs.drops.put_words.Given as goal

-- with the words that are left, all are there
abbrev pub invariant-loop-byte : goal.invariant-loop-byte
invariant-loop-byte l =
    l.out ++ drop_words l.reason (drop l.byte-index l.text) ≡ l.fn.out ++ drop_words (Some 48) l.text
