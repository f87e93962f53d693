use Rattle.std.proofs.Common.{◌≡◌, ◌≤◌, ℕ, length}
use Rattle.pcapng_io.specs.Interfaces.{with_options}
use Rattle.pcapng_io.proofs.interface.Interface.with_options.Given as goal

-- what all options make of the plain interface, those that are left make of the interface so far
abbrev pub invariant-loop-rest : goal.invariant-loop-rest
invariant-loop-rest l = record {
  same : (n : ℕ) → length l.bytes ≤ n
      → (m : ℕ)
      × (length l.rest ≤ m)
      × (with_options n l.order l.fn.self l.bytes ≡ with_options m l.order l.interface l.rest);
  units : 1 ≤ l.interface.units;
}

abbrev pub decreases-loop-rest : goal.decreases-loop-rest
decreases-loop-rest l = length l.rest
