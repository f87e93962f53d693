use Rattle.std.proofs.Common.{◌≡◌, ◌++◌, ◌-◌, ◌≤◌, IsTrue, length, take}
use Rattle.world_io.specs.World.{is_writable}
use Rattle.world_told.specs.Ledgers.{told_ledger}
use Rattle.world_told.specs.Sent.{name_of, sent_to}
use Rattle.world_told.proofs.tapping.write_piece.Given as goal

-- the first `done` bytes were appended
abbrev pub invariant-loop-done : goal.invariant-loop-done
invariant-loop-done g l =
    record {
      sent : sent_to l.file l.world.calls ≡ sent_to l.file l.fn.world.calls ++ take l.done l.piece;
      within : l.done ≤ length l.piece;
      name : name_of l.file l.world.calls ≡ name_of l.file l.fn.world.calls;
      writable : IsTrue (is_writable (told_ledger g.W.World.ledger l.world) l.file);
    }

abbrev pub decreases-loop-done : goal.decreases-loop-done
decreases-loop-done g l = length l.piece - l.done
