use Rattle.std.proofs.Common.{◌≡◌, ◌+◌, length}
use Rattle.plain_text.specs.Octets.{AreBytes}
use Rattle.world_io.specs.Stream.{GoesOn}
use Rattle.world_io.proofs.beginning.read_front.Given as goal

-- the bytes so far were taken, and the room is what the limit leaves
abbrev pub invariant-loop-bytes : goal.invariant-loop-bytes
invariant-loop-bytes g l =
    let source = g.S.Source in
    record {
      reads : source.reads l.fn.source l.bytes l.source;
      bytes : AreBytes l.bytes;
      room : l.room + length l.bytes ≡ l.limit;
      goes_on : GoesOn source.faults source.healthy l.fn.source l.source;
    }

abbrev pub decreases-loop-bytes : goal.decreases-loop-bytes
decreases-loop-bytes g l = l.room
