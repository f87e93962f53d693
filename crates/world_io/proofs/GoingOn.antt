-- What goes on in a source or a sink from each state to the next goes on from the first to the last.
use Rattle.std.proofs.Common.{ℕ, arith}
use Rattle.world_io.specs.Stream.{GoesOn}

module _ {S : Type 0} (faults : S → ℕ) (healthy : S → Type 0) where
  pub GoesOn-same : (a : S) → GoesOn faults healthy a a
  GoesOn-same a = record { later = omega arith; stays_healthy = λ well. well }

  pub GoesOn-trans : (a b c : S) → GoesOn faults healthy a b → GoesOn faults healthy b c → GoesOn faults healthy a c
  GoesOn-trans a b c r s = record {
    later = omega (arith, r.later, s.later);
    stays_healthy = λ well. s.stays_healthy (r.stays_healthy well);
  }
