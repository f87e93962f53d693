-- The nearest number within a range is within it.
use Rattle.std.specs.Prelude.{ℕ, ◌≤◌, min, max}
use Rattle.std.proofs.Common.{arith}

pub at_least : (least n most : ℕ) → least ≤ max least (min n most)
at_least least n most = omega arith

pub at_most : (least n most : ℕ) → least ≤ most → max least (min n most) ≤ most
at_most least n most order = omega arith

pub one_of_64 : 1 ≤ 64
one_of_64 = omega arith
