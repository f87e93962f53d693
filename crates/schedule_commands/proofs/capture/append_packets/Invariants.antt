use Rattle.std.proofs.Common.{take}
use Rattle.world_io.specs.World.{Start}
use Rattle.pcap_io.specs.Capture.{records_of}
use Rattle.pcap_io.specs.declared.order.Order.TheVariants as order
use Rattle.output_files.specs.Written.{HasAppended, OnlyWrites}
use Rattle.schedule_commands.proofs.capture.append_packets.Given as goal

-- the records of the packets so far were appended or are gathered
abbrev pub invariant-loop-packet : goal.invariant-loop-packet
invariant-loop-packet g l = record {
  only_writes : OnlyWrites g.W.World.ledger g.W.World.healthy l.fn.world l.world;
  shows : (p : Start) → g.W.World.honest p l.world
      → HasAppended l.file (records_of order.Little (take l.packet-index l.packets)) l.piece
      (g.W.World.shows p l.fn.world) (g.W.World.shows p l.world);
  before : (p : Start) → g.W.World.honest p l.world → g.W.World.honest p l.fn.world;
}
