-- The pairs of times are fewer than the times.
use Rattle.std.specs.Prelude.{ℕ, ◌≤◌, max, List, length}
use Rattle.std.proofs.Common.{arith}
use Rattle.nat_tables.specs.declared.times.Pairs.{Pairs}
use Rattle.nat_tables.specs.declared.times.Pairs.TheVariants.{Alone, Of}
use Rattle.nat_tables.specs.declared.times.Times.TheDeep.{deep-Pairs}
use Rattle.nat_tables.specs.Times.{HasPairs}

pub pairs_are_fewer : (pairs : Pairs) (times : List ℕ) → HasPairs pairs times → max (deep-Pairs pairs) 0 ≤ length times
pairs_are_fewer Alone times has = omega arith
pairs_are_fewer (Of pairs) times has = let several = has.several in let half = has.half in omega arith
