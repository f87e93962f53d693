-- What reading the file of a name does to a world, and what it says of the bytes under the name.
use Rattle.std.specs.Prelude.{◌≡◌, ℕ, ◌+◌, ◌≤◌, List, ◌++◌, length, Some, None, Result, Ok, Err}
use Rattle.world_io.specs.World.{Shown, Ledger, KeepsOrder}
use Rattle.world_io.specs.declared.beginning.Front.{Front}
use Rattle.world_io.specs.declared.beginning.FrontError.{FrontError}
use Rattle.world_io.specs.declared.beginning.FrontError.TheVariants.{Failed, NoMemory}
use Rattle.input_files.specs.Texts.{IsFrontOf}

abbrev pub IsMissing : List ℕ → Shown → Type 0
IsMissing name shown = shown.names name ≡ None

-- What reading the front of the file of a name says of it. In a healthy world reading fails only where the name is not
-- there.
abbrev pub ReadsFrontOf : Type 0 → List ℕ → Result Front FrontError → Shown → Type 0
ReadsFrontOf healthy name (Ok front) shown = (bytes : List ℕ) × (shown.names name ≡ Some bytes) × IsFrontOf front bytes
ReadsFrontOf healthy name (Err Failed) shown = healthy → IsMissing name shown
ReadsFrontOf healthy name (Err NoMemory) shown = Unit {0}

-- names and what was sent stay; only reading has gone on
pub record KeepsOutputs (old new : Shown) : Type 0 where
  pub names : new.names ≡ old.names
  pub sent : new.sent ≡ old.sent
  pub name_of : new.name_of ≡ old.name_of

-- files of all these names were opened, in this order, and no others
abbrev pub OpensAll : List (List ℕ) → Ledger → Ledger → Type 0
OpensAll names old new = new.opened_names ≡ old.opened_names ++ names

-- files of a first part of these names were opened, in this order, and no others
pub record OpensFirst (names : List (List ℕ)) (old new : Ledger) : Type 0 where
  pub first : List (List ℕ)
  pub rest : List (List ℕ)
  pub names_are : names ≡ first ++ rest
  pub opened : OpensAll first old new

-- files of a first part of these names were opened, each at most once, none was created, the calls are as orderly as
-- they were where none was created before either, and only the count of faults of reading may have risen
pub record AfterInputs (names : List (List ℕ)) (old new : Ledger) : Type 0 where
  pub created : new.created ≡ old.created
  pub given : new.given ≤ old.given + length names
  pub opened : OpensFirst names old new
  pub orderly : KeepsOrder old new
  pub read_faults : old.read_faults ≤ new.read_faults
  pub write_faults : new.write_faults ≡ old.write_faults

-- From the one state of a world to the other only reading has gone on: files of a first part of these names were
-- opened, in this order, and what was healthy is healthy.
pub record OnlyReads {W : Type 0} (ledger_of : W → Ledger) (healthy_of : W → Type 0) (names : List (List ℕ))
    (old new : W) : Type 0 where
  pub ledger : AfterInputs names (ledger_of old) (ledger_of new)
  pub stays_healthy : healthy_of old → healthy_of new
