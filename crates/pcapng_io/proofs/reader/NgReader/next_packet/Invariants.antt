use Rattle.std.proofs.Common.{◌≡◌, ◌-◌, false, []}
use Rattle.plain_text.specs.declared.limit.TheConstants.{MOST_FILE_BYTES}
use Rattle.pcapng_io.specs.Reader.{Moves}
use Rattle.world_io.specs.Stream.{GoesOn}
use Rattle.pcapng_io.proofs.reader.NgReader.next_packet.Given as goal

-- blocks without packets were passed
abbrev pub invariant-blocks-2 : goal.invariant-blocks-2
invariant-blocks-2 g l =
    let source = g.S.Source in
    record {
      moved : Moves source.reads l.fn.source l.source l.fn.self l.self [];
      running : l.self.over ≡ false;
      goes_on : GoesOn source.faults source.healthy l.fn.source l.source;
    }

abbrev pub decreases-blocks-2 : goal.decreases-blocks-2
decreases-blocks-2 g l = MOST_FILE_BYTES - l.self.offset
