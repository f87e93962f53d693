-- What a world of files shows, and what its calls do to it.
use Rattle.std.specs.Prelude.{◌≡◌, ◌⊎◌, ◌||◌, nat_eq, ℕ, ◌+◌, ◌≤◌, Bool, true, false, List, [], ◌∷◌, ◌++◌, Option, Some}
use Rattle.world_io.specs.Stream.{Rose}
use Rattle.world_io.specs.declared.stream.Filled.{Filled}
use Rattle.world_io.specs.declared.stream.Filled.TheVariants.{Got, End, Failed}
use Rattle.world_io.specs.declared.stream.Put.{Put}
use Rattle.world_io.specs.declared.stream.Put.TheVariants as put

-- what stands under each name at the beginning; no code can read it
abbrev pub Start : Type 0
Start = List ℕ → Option (List ℕ)

-- the bytes that a world shows: under each name, left in each file that was opened, and sent to each file that was
-- created, of which 0 is the report; and the name of each file that was created
pub record Shown : Type 0 where
  pub names : List ℕ → Option (List ℕ)
  pub left : ℕ → List ℕ
  pub sent : ℕ → List ℕ
  pub name_of : ℕ → List ℕ

-- what a world shows whatever the beginning: the numbers that it gave, the files whose end was found, how many numbers
-- it gave, the names of the files that were opened, in order, whether its calls came in an order for which there can be
-- a beginning (a world with no record of them says that they did), and its faults
pub record Ledger : Type 0 where
  pub opened : ℕ → Bool
  pub ended : ℕ → Bool
  pub created : ℕ → Bool
  pub given : ℕ
  pub opened_names : List (List ℕ)
  pub orderly : Bool
  pub read_faults : ℕ
  pub write_faults : ℕ

-- the report, or a file that was created
abbrev pub is_writable : Ledger → ℕ → Bool
is_writable ledger file = nat_eq file 0 || ledger.created file

-- an end that was found is remembered
abbrev pub KeepsEnds : Ledger → Ledger → Type 0
KeepsEnds old new = (k : ℕ) → old.ended k ≡ true → new.ended k ≡ true

abbrev pub NothingCreated : Ledger → Type 0
NothingCreated ledger = (k : ℕ) → ledger.created k ≡ false

-- where nothing was created before, the calls are as orderly as they were
abbrev pub KeepsOrder : Ledger → Ledger → Type 0
KeepsOrder old new = NothingCreated old → new.orderly ≡ old.orderly

-- no number was given, ends may have been found, and only the count of faults of reading may have risen
pub record KeepsLedgerReading (old new : Ledger) : Type 0 where
  pub opened : new.opened ≡ old.opened
  pub ended : KeepsEnds old new
  pub created : new.created ≡ old.created
  pub given : new.given ≡ old.given
  pub opened_names : new.opened_names ≡ old.opened_names
  pub orderly : new.orderly ≡ old.orderly
  pub read_faults : old.read_faults ≤ new.read_faults
  pub write_faults : new.write_faults ≡ old.write_faults

-- no number was given, and only the count of faults of writing may have risen
pub record KeepsLedgerWriting (old new : Ledger) : Type 0 where
  pub opened : new.opened ≡ old.opened
  pub ended : KeepsEnds old new
  pub created : new.created ≡ old.created
  pub given : new.given ≡ old.given
  pub opened_names : new.opened_names ≡ old.opened_names
  pub orderly : new.orderly ≡ old.orderly
  pub read_faults : new.read_faults ≡ old.read_faults
  pub write_faults : old.write_faults ≤ new.write_faults

-- From the one state of a world to the other only reading has gone on, in files that were opened before, and what was
-- healthy is healthy.
pub record ReadsOn {W : Type 0} (ledger_of : W → Ledger) (healthy_of : W → Type 0) (old new : W) : Type 0 where
  pub ledger : KeepsLedgerReading (ledger_of old) (ledger_of new)
  pub stays_healthy : healthy_of old → healthy_of new

-- From the one state of a world to the other only writing has gone on, in files that were created before or the report,
-- and what was healthy is healthy.
pub record WritesOn {W : Type 0} (ledger_of : W → Ledger) (healthy_of : W → Type 0) (old new : W) : Type 0 where
  pub ledger : KeepsLedgerWriting (ledger_of old) (ledger_of new)
  pub stays_healthy : healthy_of old → healthy_of new

-- Reading failed between these states of a world, which was not healthy.
pub record ReadingFailed {W : Type 0} (ledger_of : W → Ledger) (healthy_of : W → Type 0) (old new : W) : Type 0 where
  pub rose : Rose (ledger_of old).read_faults (ledger_of new).read_faults
  pub not_healthy : ¬ healthy_of old

-- Writing failed between these states of a world, which was not healthy.
pub record WritingFailed {W : Type 0} (ledger_of : W → Ledger) (healthy_of : W → Type 0) (old new : W) : Type 0 where
  pub rose : Rose (ledger_of old).write_faults (ledger_of new).write_faults
  pub not_healthy : ¬ healthy_of old

-- a number that was never given, and is not the report's
pub record IsNew (file : ℕ) (ledger : Ledger) : Type 0 where
  pub not_report : ¬ (file ≡ 0)
  pub not_opened : ledger.opened file ≡ false
  pub not_created : ledger.created file ≡ false

-- a new number was given to the opened file of a name
pub record GivesOpened (name : List ℕ) (file : ℕ) (old new : Ledger) : Type 0 where
  pub fresh : IsNew file old
  pub opened : new.opened file ≡ true
  pub others : (k : ℕ) → ¬ (k ≡ file) → new.opened k ≡ old.opened k
  pub ended : KeepsEnds old new
  pub created : new.created ≡ old.created
  pub given : new.given ≡ old.given + 1
  pub opened_names : new.opened_names ≡ old.opened_names ++ name ∷ []
  pub orderly : KeepsOrder old new
  pub read_faults : old.read_faults ≤ new.read_faults
  pub write_faults : new.write_faults ≡ old.write_faults

-- a new number was given to a created file
pub record GivesCreated (file : ℕ) (old new : Ledger) : Type 0 where
  pub fresh : IsNew file old
  pub created : new.created file ≡ true
  pub others : (k : ℕ) → ¬ (k ≡ file) → new.created k ≡ old.created k
  pub opened : new.opened ≡ old.opened
  pub ended : KeepsEnds old new
  pub given : new.given ≡ old.given + 1
  pub opened_names : new.opened_names ≡ old.opened_names
  pub orderly : new.orderly ≡ old.orderly
  pub read_faults : new.read_faults ≡ old.read_faults
  pub write_faults : old.write_faults ≤ new.write_faults

-- a file was opened at the first byte of a name that is there
pub record OpensFile (name : List ℕ) (file : ℕ) (old new : Shown) : Type 0 where
  pub left : old.names name ≡ Some (new.left file)
  pub other_left : (k : ℕ) → ¬ (k ≡ file) → new.left k ≡ old.left k
  pub names : new.names ≡ old.names
  pub sent : new.sent ≡ old.sent
  pub name_of : new.name_of ≡ old.name_of

-- these were the next bytes of what this file had left, and were taken
pub record ReadsFile (file : ℕ) (taken : List ℕ) (old new : Shown) : Type 0 where
  pub left : old.left file ≡ taken ++ new.left file
  pub other_left : (k : ℕ) → ¬ (k ≡ file) → new.left k ≡ old.left k
  pub names : new.names ≡ old.names
  pub sent : new.sent ≡ old.sent
  pub name_of : new.name_of ≡ old.name_of

-- a file was created under a name, which now has no bytes
pub record CreatesFile (name : List ℕ) (file : ℕ) (old new : Shown) : Type 0 where
  pub empty : new.names name ≡ Some []
  pub other_names : (other : List ℕ) → ¬ (other ≡ name) → new.names other ≡ old.names other
  pub sent : new.sent file ≡ []
  pub other_sent : (k : ℕ) → ¬ (k ≡ file) → new.sent k ≡ old.sent k
  pub name_of : new.name_of file ≡ name
  pub other_name_of : (k : ℕ) → ¬ (k ≡ file) → new.name_of k ≡ old.name_of k
  pub left : new.left ≡ old.left

-- no file was created; the name's bytes are as before or empty
pub record CreatesNothing (name : List ℕ) (old new : Shown) : Type 0 where
  pub own : (new.names name ≡ old.names name) ⊎ (new.names name ≡ Some [])
  pub other_names : (other : List ℕ) → ¬ (other ≡ name) → new.names other ≡ old.names other
  pub sent : new.sent ≡ old.sent
  pub name_of : new.name_of ≡ old.name_of
  pub left : new.left ≡ old.left

-- these bytes were appended to what was sent to this file, and to the bytes of the name that it has, where it has one
pub record WritesFile (file : ℕ) (bytes : List ℕ) (old new : Shown) : Type 0 where
  pub sent : new.sent file ≡ old.sent file ++ bytes
  pub other_sent : (k : ℕ) → ¬ (k ≡ file) → new.sent k ≡ old.sent k
  pub named : (had : List ℕ) → ¬ (file ≡ 0) → old.names (old.name_of file) ≡ Some had
      → new.names (old.name_of file) ≡ Some (had ++ bytes)
  pub other_names : (name : List ℕ) → (¬ (file ≡ 0) → ¬ (name ≡ old.name_of file)) → new.names name ≡ old.names name
  pub name_of : new.name_of ≡ old.name_of
  pub left : new.left ≡ old.left

-- a fill that took nothing
abbrev pub FilledNothing : Filled → Type 0
FilledNothing (Got n) = ⊥
FilledNothing End = Unit {0}
FilledNothing Failed = Unit {0}

-- a put that appended nothing
abbrev pub PutNothing : Put → Type 0
PutNothing (put.Took n) = ⊥
PutNothing put.Failed = Unit {0}
PutNothing put.NoMemory = Unit {0}
