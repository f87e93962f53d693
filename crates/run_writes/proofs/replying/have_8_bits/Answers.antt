use Rattle.std.proofs.Common.{arith}
use Rattle.run_writes.proofs.replying.have_8_bits.Goals as goal

pub returns : goal.returns
returns c = λ k. omega (arith, c.type_inv.bytes k)
