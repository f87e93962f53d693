-- The places of released outputs in the order of release, for each thread by their numbers.
use Rattle.std.specs.Prelude.{◌≡◌, ℕ, ◌<◌, ◌&&◌, cond, nat_eq, List, [], length, slice_index_or}
use Rattle.noted_runs.specs.Fates.{place_behind}

-- a place was noted for this number, unless there was one; 0 stands for none
abbrev pub IsNoted : ℕ → ℕ → List ℕ → List ℕ → Type 0
IsNoted number place old new =
    (j : ℕ)
    → slice_index_or new j 0
    ≡ cond (nat_eq number j && nat_eq (slice_index_or old j 0) 0) place (slice_index_or old j 0)

-- for each thread and number the place at which they stand first
pub record HasPlaces (threads : ℕ) (names : List (ℕ × ℕ)) (lists : List (List ℕ)) : Type 0 where
  pub count : length lists ≡ threads
  pub each : (t j : ℕ) → t < threads → slice_index_or (slice_index_or lists t []) j 0 ≡ place_behind 0 t j names
