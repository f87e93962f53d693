use Rattle.std.proofs.Common.{take}
use Rattle.std.specs.Prelude.{All}
use Rattle.world_io.specs.World.{Start}
use Rattle.pcap_io.specs.Capture.{records_of}
use Rattle.pcap_io.specs.declared.order.Order.TheVariants as order
use Rattle.output_files.specs.Written.{HasAppended, OnlyWrites}
use Rattle.run_writes.specs.Run.{FitsRecord}
use Rattle.run_writes.specs.Replies.{packets_in}
use Rattle.run_writes.proofs.replying.append_outputs.Given as goal

-- the records of the packets so far were appended or are gathered
abbrev pub invariant-loop-output : goal.invariant-loop-output
invariant-loop-output g l = record {
  fit : All FitsRecord (packets_in (take l.output-index l.outputs));
  only_writes : OnlyWrites g.W.World.ledger g.W.World.healthy l.fn.world l.world;
  shows : (p : Start) → g.W.World.honest p l.world
      → HasAppended l.file (records_of order.Little (packets_in (take l.output-index l.outputs))) l.piece
      (g.W.World.shows p l.fn.world) (g.W.World.shows p l.world);
  before : (p : Start) → g.W.World.honest p l.world → g.W.World.honest p l.fn.world;
}
