-- Writing that failed once the inputs were read has failed since before they were read.
use Rattle.std.proofs.Common.{ℕ, List, arith}
use Rattle.world_io.specs.World.{Ledger, WritingFailed}
use Rattle.input_files.specs.Files.{OnlyReads}

module _ {W : Type 0} (ledger : W → Ledger) (healthy : W → Type 0) where
  pub failed_since : (names : List (List ℕ)) (a b c : W) → OnlyReads ledger healthy names a b
      → WritingFailed ledger healthy b c → WritingFailed ledger healthy a c
  failed_since names a b c reads failed = record {
    rose = omega (arith, reads.ledger.write_faults, failed.rose);
    not_healthy = λ well. failed.not_healthy (reads.stays_healthy well);
  }
