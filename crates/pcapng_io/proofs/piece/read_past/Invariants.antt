use Rattle.std.proofs.Common.{◌≡◌, length, ◌-◌, ◌≤◌, List, ℕ}
use Rattle.world_io.specs.Stream.{GoesOn}
use Rattle.pcapng_io.proofs.piece.read_past.Given as goal

-- this number of bytes was taken
abbrev pub invariant-loop-done : goal.invariant-loop-done
invariant-loop-done g l =
    let source = g.S.Source in
    record {
      taken : (taken : List ℕ) × source.reads l.fn.source taken l.source × (length taken ≡ l.done);
      within : l.done ≤ l.count;
      goes_on : GoesOn source.faults source.healthy l.fn.source l.source;
    }

abbrev pub decreases-loop-done : goal.decreases-loop-done
decreases-loop-done g l = l.count - l.done
