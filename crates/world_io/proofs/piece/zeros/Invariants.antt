use Rattle.std.proofs.Common.{◌≤◌, ◌-◌, vec_len}
use Rattle.world_io.proofs.piece.zeros.Given as goal

abbrev pub invariant-pieces : goal.invariant-pieces
invariant-pieces l = vec_len l.zeros ≤ l.count

abbrev pub decreases-pieces : goal.decreases-pieces
decreases-pieces l = l.count - vec_len l.zeros
