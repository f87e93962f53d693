-- Outputs as a list of writes, in order. What a command is to write is such a list; what stands after it, or after a
-- part of it, is read off the list.
use Rattle.std.specs.Prelude.{◌≡◌, ◌⊎◌, ℕ, List, [], ◌∷◌, ◌++◌, Option, Some, None, if◌then◌else◌}
use Rattle.std.specs.Str.{bytes_eq}
use Rattle.world_io.specs.World.{Shown}

-- the report has this number, and is there from the beginning
abbrev pub report_file : ℕ
report_file = 0

-- One write: an output is created under a name, and has no bytes then; or bytes are appended to the output of a name,
-- or to the report.
pub data Write : Type 0 where
  Creates : (name : List ℕ) → Write
  Appends : (name bytes : List ℕ) → Write
  Reports : (bytes : List ℕ) → Write

-- What stands after writes

abbrev pub longer : List ℕ → Option (List ℕ) → Option (List ℕ)
longer bytes None = None
longer bytes (Some had) = Some (had ++ bytes)

-- the bytes under a name after one write, where it had these before
abbrev pub after_write : List ℕ → Write → Option (List ℕ) → Option (List ℕ)
after_write name (Creates other) had = if bytes_eq other name then Some [] else had
after_write name (Appends other bytes) had = if bytes_eq other name then longer bytes had else had
after_write name (Reports bytes) had = had

-- the bytes under a name after writes
abbrev pub after_writes : List ℕ → List Write → Option (List ℕ) → Option (List ℕ)
after_writes name [] had = had
after_writes name (write ∷ writes) had = after_writes name writes (after_write name write had)

abbrev pub reported_by : Write → List ℕ
reported_by (Creates name) = []
reported_by (Appends name bytes) = []
reported_by (Reports bytes) = bytes

-- what writes append to the report
abbrev pub reported : List Write → List ℕ
reported [] = []
reported (write ∷ writes) = reported_by write ++ reported writes

-- These writes were done, and no other.
pub record HasWritten (writes : List Write) (old new : Shown) : Type 0 where
  pub names : (name : List ℕ) → new.names name ≡ after_writes name writes (old.names name)
  pub report : new.sent report_file ≡ old.sent report_file ++ reported writes

-- A part of writes

abbrev pub IsPrefix : List ℕ → List ℕ → Type 0
IsPrefix part whole = (more : List ℕ) × (whole ≡ part ++ more)

-- the first bytes of the one append are those of the other
abbrev pub IsPartOf : Write → Write → Type 0
IsPartOf (Creates name) write = ⊥
IsPartOf (Appends name part) (Creates other) = ⊥
IsPartOf (Appends name part) (Appends other bytes) = (name ≡ other) × IsPrefix part bytes
IsPartOf (Appends name part) (Reports bytes) = ⊥
IsPartOf (Reports part) (Creates other) = ⊥
IsPartOf (Reports part) (Appends other bytes) = ⊥
IsPartOf (Reports part) (Reports bytes) = IsPrefix part bytes

-- The first of the writes, the last of them maybe only in part.
abbrev pub IsCut : List Write → List Write → Type 0
IsCut [] writes = Unit {0}
IsCut (first ∷ done) [] = ⊥
IsCut (first ∷ done) (write ∷ writes) = ((first ≡ write) × IsCut done writes) ⊎ (IsPartOf first write × (done ≡ []))

-- Some first part of the writes was done, and no other.
pub record HasBegun (writes : List Write) (old new : Shown) : Type 0 where
  pub done : List Write
  pub cut : IsCut done writes
  pub written : HasWritten done old new

-- An output that was created

-- the file with this number has this name, under which there are bytes
pub record IsOutput (file : ℕ) (name : List ℕ) (shown : Shown) : Type 0 where
  pub not_report : ¬ (file ≡ report_file)
  pub name_is : shown.name_of file ≡ name
  pub bytes : List ℕ
  pub there : shown.names name ≡ Some bytes

-- all outputs that were created are still what they were
abbrev pub KeepsOutputs : Shown → Shown → Type 0
KeepsOutputs old new = (file : ℕ) (name : List ℕ) → IsOutput file name old → IsOutput file name new

-- Lines that are gathered

-- only the report is longer after these writes
abbrev pub AreOnlyReports : List Write → Type 0
AreOnlyReports [] = Unit {0}
AreOnlyReports (Creates name ∷ writes) = ⊥
AreOnlyReports (Appends name bytes ∷ writes) = (bytes ≡ []) × AreOnlyReports writes
AreOnlyReports (Reports bytes ∷ writes) = AreOnlyReports writes

-- The writes were done but for the last ones, of which only the report would be longer: by these lines, which are
-- gathered.
pub record HasGathered (writes : List Write) (lines : List ℕ) (old new : Shown) : Type 0 where
  pub done : List Write
  pub late : List Write
  pub writes_are : writes ≡ done ++ late
  pub only : AreOnlyReports late
  pub lines_are : lines ≡ reported late
  pub written : HasWritten done old new
