use Rattle.std.proofs.Common.{◌≡◌, ℕ, ◌<◌, length}
use Rattle.command_words.specs.Pipes.{name_at, word_at}
use Rattle.command_words.proofs.pipes.copy_named.Given as goal

-- the words so far have the names of the streams
abbrev pub invariant-loop-place : goal.invariant-loop-place
invariant-loop-place l =
    (length l.named.items ≡ l.place)
    × ((place : ℕ) → place < l.place → word_at l.named.items place ≡ name_at l.words l.places place)
