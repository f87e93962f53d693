use Rattle.std.proofs.Common.{◌≡◌, ℕ, List, [], length, slice_get, Some}
use Rattle.input_logger.proofs.log.InputLog.new.Given as goal

-- a list for each thread so far, all empty
abbrev pub invariant-loop : goal.invariant-loop
invariant-loop l =
    (length l.places.items ≡ l.counter) × ((k : ℕ) (list : List ℕ) → slice_get l.places.items k ≡ Some list → list ≡ [])
