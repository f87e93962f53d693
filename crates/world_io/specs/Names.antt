-- Names with their bytes, in the order in which they came.
use Rattle.std.specs.Prelude.{◌≡◌, ℕ, List, [], ◌∷◌, ◌++◌, Option, Some, None, if◌then◌else◌}
use Rattle.std.specs.Str.{bytes_eq}
use Rattle.world_io.specs.declared.names.NamedBytes.{NamedBytes}

-- the bytes under a name, where it is there
abbrev pub bytes_under : List NamedBytes → List ℕ → Option (List ℕ)
bytes_under [] name = None
bytes_under (n ∷ ns) name = if bytes_eq n.name name then Some n.bytes else bytes_under ns name

-- the name has these bytes, and every other name is as it was
pub record SetsName (name bytes : List ℕ) (old new : List NamedBytes) : Type 0 where
  pub own : bytes_under new name ≡ Some bytes
  pub others : (other : List ℕ) → ¬ (other ≡ name) → bytes_under new other ≡ bytes_under old other

-- the name has these bytes behind those that it had, where it is there, and every other name is as it was
pub record AppendsToName (name bytes : List ℕ) (old new : List NamedBytes) : Type 0 where
  pub own : (had : List ℕ) → bytes_under old name ≡ Some had → bytes_under new name ≡ Some (had ++ bytes)
  pub others : (other : List ℕ) → ¬ (other ≡ name) → bytes_under new other ≡ bytes_under old other
