use Rattle.inet_checksum.proofs.Words.{ones_value_eight}
use Rattle.inet_checksum.proofs.sum.Goals as goal

pub loop-rest-preserved : goal.loop-rest-preserved
loop-rest-preserved c = ones_value_eight _ _ _ _ _ c.in-len8-up.len_at_least c.from_be_bytes.ensures
    c.add_around-total.ensures c.loop-rest.invariant
