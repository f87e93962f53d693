-- The load of each backend: how many connections it is counted for. Sums and differences are modulo 2^64.
use Rattle.std.specs.Prelude.{ℕ, ◌+◌, ◌-◌, ◌%◌, ◌^◌, ◌<◌, ◌≤◌, nat_lt, if◌then◌else◌, List, [], ◌∷◌, length}
use Rattle.std.specs.Prelude.{slice_index, slice_set, replicate}

-- the load of one backend grows by 1; nothing changes where it is not there
abbrev pub raised : ℕ → List ℕ → List ℕ
raised number loads =
    if nat_lt number (length loads) then slice_set loads number ((slice_index loads number + 1) % 2 ^ 64) else loads

-- it falls by 1
abbrev pub lowered : ℕ → List ℕ → List ℕ
lowered number loads =
    if nat_lt number (length loads)
    then slice_set loads number ((slice_index loads number + (2 ^ 64 - 1)) % 2 ^ 64)
    else loads

abbrev pub least_from : ℕ → ℕ → ℕ → List ℕ → ℕ
least_from least load next [] = least
least_from least load next (x ∷ xs) =
    if nat_lt x load then least_from next x (next + 1) xs else least_from least load (next + 1) xs

-- the backend of least load, the first of equals
abbrev pub least_loaded : List ℕ → ℕ
least_loaded [] = 0
least_loaded (x ∷ xs) = least_from 0 x 1 xs

abbrev pub no_loads : ℕ → List ℕ
no_loads count = replicate count 0

-- This backend has the least load, and it is the first that has it.
pub record HasLeastLoad (loads : List ℕ) (number : ℕ) : Type 0 where
  pub there : number < length loads
  pub least : (k : ℕ) → k < length loads → slice_index loads number ≤ slice_index loads k
  pub first : (k : ℕ) → k < number → slice_index loads number < slice_index loads k
