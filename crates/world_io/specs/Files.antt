-- The files of a world in memory, each under its number: the place where it stands, counted from 1.
use Rattle.std.specs.Prelude.{◌≡◌, ℕ, zero, suc, ◌-◌, Bool, true, false, List, [], ◌∷◌, ◌++◌, Option, Some, None}
use Rattle.std.specs.Prelude.{slice_get, slice_set, take}
use Rattle.world_io.specs.declared.memory_file.CreatedFile.{CreatedFile}
use Rattle.world_io.specs.declared.memory_file.MemoryFile.{MemoryFile}
use Rattle.world_io.specs.declared.memory_file.MemoryFile.TheVariants.{Opened, Created}

-- the file that has this number, if it was given
abbrev pub file_of : List MemoryFile → ℕ → Option MemoryFile
file_of files zero = None
file_of files (suc place) = slice_get files place

abbrev pub is_opened : Option MemoryFile → Bool
is_opened None = false
is_opened (Some (Opened left)) = true
is_opened (Some (Created f)) = false

-- it was opened, and nothing is left of it
abbrev pub is_ended : Option MemoryFile → Bool
is_ended None = false
is_ended (Some (Opened [])) = true
is_ended (Some (Opened (next ∷ left))) = false
is_ended (Some (Created f)) = false

abbrev pub is_created : Option MemoryFile → Bool
is_created None = false
is_created (Some (Opened left)) = false
is_created (Some (Created f)) = true

abbrev pub left_in : Option MemoryFile → List ℕ
left_in None = []
left_in (Some (Opened left)) = left
left_in (Some (Created f)) = []

abbrev pub sent_to : Option MemoryFile → List ℕ
sent_to None = []
sent_to (Some (Opened left)) = []
sent_to (Some (Created f)) = f.sent

abbrev pub name_in : Option MemoryFile → List ℕ
name_in None = []
name_in (Some (Opened left)) = []
name_in (Some (Created f)) = f.name

-- these bytes, the next that the opened file of this number had, were taken
pub record TakesFromFile (number : ℕ) (taken : List ℕ) (old new : List MemoryFile) : Type 0 where
  pub rest : List ℕ
  pub had : file_of old number ≡ Some (Opened (taken ++ rest))
  pub after : new ≡ slice_set old (number - 1) (Opened rest)

-- these bytes were sent to the created file of this number
pub record SendsToFile (number : ℕ) (bytes : List ℕ) (old new : List MemoryFile) : Type 0 where
  pub file : CreatedFile
  pub had : file_of old number ≡ Some (Created file)
  pub after : new ≡ slice_set old (number - 1) (Created (record file { sent = file.sent ++ bytes }))

-- of what was sent to the created file of this number the first bytes were kept, as many as the count
pub record CutsFile (number count : ℕ) (old new : List MemoryFile) : Type 0 where
  pub file : CreatedFile
  pub had : file_of old number ≡ Some (Created file)
  pub after : new ≡ slice_set old (number - 1) (Created (record file { sent = take count file.sent }))
