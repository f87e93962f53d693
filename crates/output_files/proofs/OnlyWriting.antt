-- Where only writing goes on from each state of a world to the next, only writing has gone on from the first to the
-- last.
use Rattle.std.proofs.Common.{ℕ, ◌+◌, ◌∙◌, arith}
use Rattle.world_io.specs.World.{Ledger, WritesOn, WritingFailed}
use Rattle.world_io.specs.OneFile.{KeepsLedgerWriting-same, KeepsLedgerWriting-more}
use Rattle.output_files.specs.Written.{AfterWriting, OnlyWrites, WritesFiles}

AfterWriting-trans : (m n : ℕ) (a b c : Ledger) → AfterWriting m a b → AfterWriting n b c → AfterWriting (m + n) a c
AfterWriting-trans m n a b c r s = record {
  given = omega (arith, r.given, s.given);
  opened = s.opened ∙ r.opened;
  opened_names = s.opened_names ∙ r.opened_names;
  orderly = s.orderly ∙ r.orderly;
  read_faults = s.read_faults ∙ r.read_faults;
  write_faults = omega (arith, r.write_faults, s.write_faults);
}

module _ {W : Type 0} (ledger : W → Ledger) (healthy : W → Type 0) where
  pub OnlyWrites-same : (a : W) → OnlyWrites ledger healthy a a
  OnlyWrites-same a = record {
    ledger = KeepsLedgerWriting-same (ledger a);
    stays_healthy = λ well. well;
  }

  pub OnlyWrites-trans : (a b c : W) → OnlyWrites ledger healthy a b
      → OnlyWrites ledger healthy b c → OnlyWrites ledger healthy a c
  OnlyWrites-trans a b c r s = record {
    ledger = KeepsLedgerWriting-more (ledger a) (ledger b) (ledger c) r.ledger s.ledger;
    stays_healthy = λ well. s.stays_healthy (r.stays_healthy well);
  }

  -- bytes were appended to an output or to the report
  pub OnlyWrites-on : (a b : W) → WritesOn ledger healthy a b → OnlyWrites ledger healthy a b
  OnlyWrites-on a b on = record { ledger = on.ledger; stays_healthy = on.stays_healthy }

  -- it went on, and then writing failed
  pub OnlyWrites-failed : (a b c : W) → OnlyWrites ledger healthy a b → WritingFailed ledger healthy b c
      → WritingFailed ledger healthy a c
  OnlyWrites-failed a b c r s = record {
    rose = omega (arith, r.ledger.write_faults, s.rose);
    not_healthy = λ well. s.not_healthy (r.stays_healthy well);
  }

  -- no file is new
  pub OnlyWrites-files : (n : ℕ) (a b : W) → OnlyWrites ledger healthy a b
      → WritesFiles ledger healthy n a b
  OnlyWrites-files n a b r = record {
    ledger = record {
      given = omega (arith, r.ledger.given);
      opened = r.ledger.opened;
      opened_names = r.ledger.opened_names;
      orderly = r.ledger.orderly;
      read_faults = r.ledger.read_faults;
      write_faults = r.ledger.write_faults;
    };
    stays_healthy = r.stays_healthy;
  }

module _ {W : Type 0} (ledger : W → Ledger) (healthy : W → Type 0) where
  -- the files add up
  pub WritesFiles-trans : (m n : ℕ) (a b c : W) → WritesFiles ledger healthy m a b → WritesFiles ledger healthy n b c
      → WritesFiles ledger healthy (m + n) a c
  WritesFiles-trans m n a b c r s = record {
    ledger = AfterWriting-trans m n (ledger a) (ledger b) (ledger c) r.ledger s.ledger;
    stays_healthy = λ well. s.stays_healthy (r.stays_healthy well);
  }

  -- it went on, and then writing failed
  pub WritesFiles-failed : (n : ℕ) (a b c : W) → WritesFiles ledger healthy n a b → WritingFailed ledger healthy b c
      → WritingFailed ledger healthy a c
  WritesFiles-failed n a b c r s = record {
    rose = omega (arith, r.ledger.write_faults, s.rose);
    not_healthy = λ well. s.not_healthy (r.stays_healthy well);
  }
