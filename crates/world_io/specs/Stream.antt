-- What one call does to a source or a sink of bytes.
use Rattle.std.specs.Prelude.{◌≡◌, ℕ, ◌+◌, ◌-◌, ◌^◌, ◌<◌, ◌≤◌, min, List, [], length, take}
use Rattle.world_io.specs.declared.stream.Filled.{Filled}
use Rattle.world_io.specs.declared.stream.Filled.TheVariants.{Got, End, Failed}
use Rattle.world_io.specs.declared.stream.Put.{Put}
use Rattle.world_io.specs.declared.stream.Put.TheVariants as put

-- a count of faults rose, or stands at its last value
abbrev pub Rose : ℕ → ℕ → Type 0
Rose before now = min (before + 1) (2 ^ 64 - 1) ≤ now

-- From the one state of a source or sink to the other: its count of faults has not fallen, and what was healthy is
-- healthy.
pub record GoesOn {S : Type 0} (faults_of : S → ℕ) (healthy_of : S → Type 0) (old new : S) : Type 0 where
  pub later : faults_of old ≤ faults_of new
  pub stays_healthy : healthy_of old → healthy_of new

-- A call failed between these states: the count of faults rose, or stands at its last value, and it was not healthy.
pub record HasFailed {S : Type 0} (faults_of : S → ℕ) (healthy_of : S → Type 0) (old new : S) : Type 0 where
  pub rose : Rose (faults_of old) (faults_of new)
  pub not_healthy : ¬ healthy_of old

-- a number of bytes moved of a piece of this length: at least one, where the piece has one
abbrev pub IsCountOf : ℕ → ℕ → Type 0
IsCountOf n len = (n ≤ len) × (0 < len → 0 < n)

abbrev pub FillCount : Filled → ℕ → Type 0
FillCount (Got n) len = IsCountOf n len
FillCount End len = Unit {0}
FillCount Failed len = Unit {0}

-- the bytes that a fill took, which are the first of the piece
abbrev pub filled_bytes : Filled → List ℕ → List ℕ
filled_bytes (Got n) piece = take n piece
filled_bytes End piece = []
filled_bytes Failed piece = []

-- a fill ends exactly where nothing was left
abbrev pub EndsAtEnd : Filled → List ℕ → Type 0
EndsAtEnd (Got n) left = 0 < length left
EndsAtEnd End left = left ≡ []
EndsAtEnd Failed left = Unit {0}

abbrev pub PutCount : Put → ℕ → Type 0
PutCount (put.Took n) len = IsCountOf n len
PutCount put.Failed len = Unit {0}
PutCount put.NoMemory len = Unit {0}

-- the bytes that a put took, which are the first of the piece
abbrev pub put_bytes : Put → List ℕ → List ℕ
put_bytes (put.Took n) piece = take n piece
put_bytes put.Failed piece = []
put_bytes put.NoMemory piece = []
