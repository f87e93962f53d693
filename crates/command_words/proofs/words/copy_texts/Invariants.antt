use Rattle.std.proofs.Common.{◌≡◌, ◌++◌, map}
use Rattle.std.specs.String.{string_bytes}
use Rattle.std.specs.Vec.Iter.{into_iter_items}
use Rattle.command_words.proofs.words.copy_texts.Given as goal

-- the texts so far and those of the strings left are the texts of all strings
abbrev pub invariant-loop-string : goal.invariant-loop-string
invariant-loop-string l =
    l.texts.items ++ map string_bytes (into_iter_items l.string-iterator)
    ≡ map string_bytes (into_iter_items l.fn.strings)
