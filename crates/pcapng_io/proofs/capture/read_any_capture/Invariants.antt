use Rattle.std.proofs.Common.{◌-◌, length}
use Rattle.std.specs.Prelude.{All}
use Rattle.plain_text.specs.declared.limit.TheConstants.{MOST_PACKETS}
use Rattle.plain_text.specs.Octets.{IsOfBytes}
use Rattle.world_io.specs.Taking.{TakesSome}
use Rattle.world_io.specs.World.{Start}
use Rattle.pcapng_io.proofs.Captures.{HasReadAny, IsFormatOf}
use Rattle.world_io.specs.Stream.{GoesOn}
use Rattle.pcapng_io.proofs.capture.read_any_capture.Given as goal

-- the packets that were read stand before the reader
abbrev pub invariant-records : goal.invariant-records
invariant-records g l =
    let source = g.S.Source in
    record {
      read : HasReadAny source.reads l.fn.source l.source l.reader l.packets;
      shows : (p : Start) → source.honest p l.source → IsFormatOf (source.remains p l.fn.source) l.reader;
      some : TakesSome source.reads l.fn.source l.source;
      octets : All IsOfBytes l.packets;
      goes_on : GoesOn source.faults source.healthy l.fn.source l.source;
    }

abbrev pub decreases-records : goal.decreases-records
decreases-records g l = MOST_PACKETS - length l.packets
