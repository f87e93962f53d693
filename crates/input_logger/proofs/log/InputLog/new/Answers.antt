use Rattle.std.proofs.Common.{arith}
use Rattle.input_logger.proofs.PlaceLists.{new_is_indexed}
use Rattle.input_logger.proofs.log.InputLog.new.Goals as goal

pub invariant_of-result : goal.invariant_of-result
invariant_of-result c =
    rw c.new-2.ensures
    (new_is_indexed c.args.threads c.args.tags c.loop.places.items c.requires.some c.requires.few
    (omega arith) c.loop.invariant.1)
