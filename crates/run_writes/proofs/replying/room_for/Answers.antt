use Rattle.std.proofs.Common.{arith}
use Rattle.run_writes.proofs.OutputRecords.{short_one}
use Rattle.run_writes.proofs.replying.room_for.Goals as goal

pub record_len-requires : goal.record_len-requires
record_len-requires c = short_one c.args.outputs.now c.loop-output.output-index c.output-item.result c.requires
    (omega arith) c.output-item.is
