use Rattle.std.proofs.Common.{◌-◌}
use Rattle.std.specs.Prelude.{All}
use Rattle.plain_text.specs.declared.limit.TheConstants.{MOST_PACKETS}
use Rattle.plain_text.specs.Octets.{IsOfBytes}
use Rattle.pcap_io.proofs.Captures.{HasRead, StandsAt}
use Rattle.world_io.specs.Stream.{GoesOn}
use Rattle.pcap_io.proofs.capture.read_capture.Given as goal

-- the reader stands behind the packets that were read
abbrev pub invariant-records : goal.invariant-records
invariant-records g l =
    let source = g.S.Source in
    record {
      stands : StandsAt l.reader l.packets;
      taken : HasRead source.reads l.fn.source l.source l.reader.order l.reader.unit l.packets;
      bytes : All IsOfBytes l.packets;
      goes_on : GoesOn source.faults source.healthy l.fn.source l.source;
    }

abbrev pub decreases-records : goal.decreases-records
decreases-records g l = MOST_PACKETS - l.reader.count
