use Rattle.std.proofs.Common.{ℕ, List, ◌++◌}
use Rattle.std.specs.Prelude.{sum}
use Rattle.round_order.specs.Turns.{AreLeft, AreTurns, lengths}
use Rattle.round_order.proofs.turns.weave.Given as goal

-- whatever turns the receipts that are left have, they follow those that were found
abbrev pub invariant-loop-thread : goal.invariant-loop-thread
invariant-loop-thread l =
    AreLeft l.marks l.left.items
    × ((rest : List ℕ) → AreTurns l.marks l.left.items rest
    → AreTurns l.marks (lengths l.marks) (l.turns.items ++ rest))

abbrev pub decreases-loop-thread : goal.decreases-loop-thread
decreases-loop-thread l = sum l.left.items
