-- How long the mappings of rows are live.
use Rattle.std.specs.Prelude.{◌≡◌, ℕ, ◌+◌, ◌<◌, ◌≤◌, Bool, true, false, List, length, Option, Some, None}
use Rattle.nat_tables.specs.declared.entries.Endpoint.{Endpoint}
use Rattle.nat_tables.specs.declared.slot.Slot.{Slot}
use Rattle.nat_tables.specs.Phases.{timer, is_kept}
use Rattle.nat_tables.specs.Forwards.{is_idle}
use Rattle.nat_tables.specs.Rows.{row_at}
use Rattle.nat_tables.specs.Times.{time_at}

-- the mapping of a row is live up to this time; one that is kept always is
abbrev pub IsLiveUntil : ℕ → Option (Endpoint × Slot) → Type 0
IsLiveUntil time None = Unit {0}
IsLiveUntil time (Some e) = is_kept e.1.phase ≡ false → time < e.1.last + timer e.0.protocol e.1.phase

-- the mapping of each row that has a time is live up to it
abbrev pub AreLiveUntil : List ℕ → List (Option (Endpoint × Slot)) → Type 0
AreLiveUntil times rows = (at : ℕ) → at < length times → IsLiveUntil (time_at times at) (row_at rows at)

abbrev pub row_is_idle : ℕ → Option (Endpoint × Slot) → Bool
row_is_idle now None = false
row_is_idle now (Some e) = is_idle now e

-- from this row on, none is idle
abbrev pub NoneIsIdle : ℕ → ℕ → List (Option (Endpoint × Slot)) → Type 0
NoneIsIdle start now rows = (at : ℕ) → start ≤ at → row_is_idle now (row_at rows at) ≡ false

-- from this row on, the first mapping that is idle stands in that row
pub record IsFirstIdle (start now : ℕ) (rows : List (Option (Endpoint × Slot))) (at : ℕ) : Type 0 where
  pub from : start ≤ at
  pub idle : row_is_idle now (row_at rows at) ≡ true
  pub others : (k : ℕ) → start ≤ k → k < at → row_is_idle now (row_at rows k) ≡ false
