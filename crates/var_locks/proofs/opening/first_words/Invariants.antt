use Rattle.std.proofs.Common.{◌≡◌, ◌*◌, ◌++◌, take, map, replicate}
use Rattle.var_locks.specs.Words.{spread}
use Rattle.var_locks.proofs.opening.first_words.Given as goal

abbrev pub invariant-loop-var : goal.invariant-loop-var
invariant-loop-var l = l.words.items ≡ spread (map (λ n. n * 2) (take l.var l.places))

abbrev pub invariant-loop-thread : goal.invariant-loop-thread
invariant-loop-thread l = l.words.items ≡ spread (map (λ n. n * 2) l.places ++ replicate l.thread 0)
