-- A tap in memory, as plain data, and what showing does to it.
use Rattle.std.specs.Prelude.{◌≡◌, ℕ, ◌+◌, ◌<◌, List, ◌++◌, Option, Some, None, length, ⊤}
use Rattle.world_io.specs.Calls.{counted}
use Rattle.release_taps.specs.Seats.{AllFresh}
use Rattle.release_taps.specs.declared.tap.Shown.{Shown}
use Rattle.release_taps.specs.declared.tap.Shown.TheVariants.{Took, Failed, NoMemory}

-- the bytes that it was shown, how many it may hold, and its counts
pub record Recorded : Type 0 where
  pub bytes : List ℕ
  pub limit : Option ℕ
  pub faults : ℕ
  pub lacks : ℕ

-- so many bytes would be too many
abbrev pub IsPast : Option ℕ → ℕ → Type 0
IsPast None count = ⊥
IsPast (Some limit) count = limit < count

-- a piece that goes past the limit fails, and no other does
abbrev pub Records : Recorded → List ℕ → Shown → Recorded → Type 0
Records old piece Took new =
    ¬ IsPast old.limit (length old.bytes + length piece) × (new ≡ record old { bytes = old.bytes ++ piece })
Records old piece Failed new =
    IsPast old.limit (length old.bytes + length piece) × (new ≡ record old { faults = counted old.faults })
Records old piece NoMemory new =
    ¬ IsPast old.limit (length old.bytes + length piece) × (new ≡ record old { lacks = counted old.lacks })

-- taps in memory that were shown nothing
abbrev pub AreUnused : List Recorded → Type 0
AreUnused taps = AllFresh {T = Recorded} (λ _. ⊤) (λ t. t.bytes) (λ t. t.faults) (λ t. t.lacks) taps
