-- What the calls that write do to a world.
use Rattle.std.specs.Prelude.{◌≡◌, ◌+◌, ◌≤◌, List, [], ◌∷◌, ◌++◌, Result, Ok, Err, ℕ, take}
use Rattle.world_io.specs.World.{Shown, Ledger, KeepsLedgerWriting, WritesFile}
use Rattle.world_io.specs.declared.world.OpenFault.{OpenFault}
use Rattle.world_io.specs.declared.world.OpenFault.TheVariants as opening
use Rattle.output_files.specs.declared.error.OutputError.{OutputError}
use Rattle.output_files.specs.declared.error.OutputError.TheVariants as output
use Rattle.output_files.specs.Writes.{Write, Creates, Appends, Reports, HasWritten, HasBegun, HasGathered}

abbrev pub output_error_of : OpenFault → OutputError
output_error_of opening.Failed = output.WriteFault
output_error_of opening.NoMemory = output.NoMemory

-- all the bytes were appended; a prefix of them, where writing ended with an error
abbrev pub AppendsTo : {A E : Type 0} → Result A E → ℕ → List ℕ → Shown → Shown → Type 0
AppendsTo (Ok done) file bytes old new = WritesFile file bytes old new
AppendsTo (Err error) file bytes old new = (n : ℕ) × WritesFile file (take n bytes) old new

-- Of these bytes all were appended to a file but the last ones, which are gathered.
pub record HasAppended (file : ℕ) (bytes gathered : List ℕ) (old new : Shown) : Type 0 where
  pub first : List ℕ
  pub bytes_are : bytes ≡ first ++ gathered
  pub written : WritesFile file first old new

-- All these bytes were appended but the last ones, which are gathered; a prefix of them, where writing ended with an
-- error.
abbrev pub AppendsSome : {A E : Type 0} → Result A E → ℕ → List ℕ → List ℕ → Shown → Shown → Type 0
AppendsSome (Ok done) file bytes gathered old new = HasAppended file bytes gathered old new
AppendsSome (Err error) file bytes gathered old new = (n : ℕ) × WritesFile file (take n bytes) old new

-- All these writes were done, or after an error some first part of them.
abbrev pub Writes : {A E : Type 0} → Result A E → List Write → Shown → Shown → Type 0
Writes (Ok done) writes old new = HasWritten writes old new
Writes (Err error) writes old new = HasBegun writes old new

-- All these writes were done but for the lines that are gathered, or after an error some first part of them.
abbrev pub WritesGathered : {A E : Type 0} → Result A E → List Write → List ℕ → Shown → Shown → Type 0
WritesGathered (Ok done) writes lines old new = HasGathered writes lines old new
WritesGathered (Err error) writes lines old new = HasBegun writes old new

-- only writing has gone on, to at most this number of new files
pub record AfterWriting (files : ℕ) (old new : Ledger) : Type 0 where
  pub given : new.given ≤ old.given + files
  pub opened : new.opened ≡ old.opened
  pub opened_names : new.opened_names ≡ old.opened_names
  pub orderly : new.orderly ≡ old.orderly
  pub read_faults : new.read_faults ≡ old.read_faults
  pub write_faults : old.write_faults ≤ new.write_faults

-- From the one state of a world to the other only writing has gone on, to outputs that are there, and what was healthy
-- is healthy.
pub record OnlyWrites {W : Type 0} (ledger_of : W → Ledger) (healthy_of : W → Type 0) (old new : W) : Type 0 where
  pub ledger : KeepsLedgerWriting (ledger_of old) (ledger_of new)
  pub stays_healthy : healthy_of old → healthy_of new

-- From the one state of a world to the other only writing has gone on, to at most this number of new files, and what
-- was healthy is healthy.
pub record WritesFiles {W : Type 0} (ledger_of : W → Ledger) (healthy_of : W → Type 0) (files : ℕ)
    (old new : W) : Type 0 where
  pub ledger : AfterWriting files (ledger_of old) (ledger_of new)
  pub stays_healthy : healthy_of old → healthy_of new

-- the writes of a command with one output: it is created, its header and its body are appended, and then the report is
-- written
abbrev pub single_writes : List ℕ → List ℕ → List ℕ → List ℕ → List Write
single_writes name header body text = Creates name ∷ Appends name header ∷ Appends name body ∷ Reports text ∷ []
