use Rattle.std.proofs.Common.{length, ◌-◌, ◌≤◌, take}
use Rattle.plain_text.specs.Octets.{AreBytes}
use Rattle.world_io.specs.Stream.{GoesOn}
use Rattle.world_io.proofs.piece.fill_piece.Given as goal

-- the first `done` bytes of the piece are those that were taken
abbrev pub invariant-loop-done : goal.invariant-loop-done
invariant-loop-done g l =
    let source = g.S.Source in
    record {
      taken : source.reads l.fn.source (take l.done l.piece) l.source;
      within : l.done ≤ length l.piece;
      bytes : AreBytes l.piece;
      goes_on : GoesOn source.faults source.healthy l.fn.source l.source;
    }

abbrev pub decreases-loop-done : goal.decreases-loop-done
decreases-loop-done g l = length l.piece - l.done
