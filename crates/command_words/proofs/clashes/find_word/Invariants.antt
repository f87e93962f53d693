use Rattle.std.proofs.Common.{ℕ, ◌<◌, false}
use Rattle.command_words.specs.Clashes.{IsOtherWord, MayBeOne}
use Rattle.command_words.specs.Pipes.{word_at}
use Rattle.command_words.proofs.clashes.find_word.Given as goal

-- no word so far names the file
abbrev pub invariant-loop-place : goal.invariant-loop-place
invariant-loop-place g l =
    (place : ℕ) → place < l.place → IsOtherWord l.words l.places l.written place
    → MayBeOne (g.N.Names.may l.names) l.file (word_at l.words place) false
