use Rattle.std.proofs.Common.{ℕ, ◌<◌, ◌≤◌}
use Rattle.command_words.specs.Pipes.{IsPiped}
use Rattle.command_words.proofs.pipes.find_piped.Given as goal

-- no word so far stands for a stream
abbrev pub invariant-loop-place : goal.invariant-loop-place
invariant-loop-place l = (k : ℕ) → l.from ≤ k → k < l.place → ¬ IsPiped l.words l.places l.side k
