-- Powers are at least 1.
use Rattle.std.proofs.Common.{ℕ, zero, suc, ◌^◌, ◌≤◌, arith}
use Rattle.std.proofs.Math.Nat.{pow-suc}

pub ten_pow : (n : ℕ) → 1 ≤ 10 ^ n
ten_pow zero = omega arith
ten_pow (suc n) = let fact = ten_pow n in omega (arith, pow-suc 10 n)
