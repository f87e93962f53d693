use Rattle.std.proofs.Common.{arith}
use Rattle.world_io.proofs.beginning.keep.Goals as goal

pub returns-clause-octets : goal.returns-clause-octets
returns-clause-octets c = λ k. omega (arith, c.type_inv.piece k)
