-- Times in a list, and the earlier one of each two neighbours in another one.
use Rattle.std.specs.Prelude.{◌≡◌, ℕ, ◌+◌, ◌*◌, ◌/◌, ◌<◌, ◌≤◌, min, List, length, get_or}
use Rattle.nat_tables.specs.declared.times.Pairs.{Pairs}
use Rattle.nat_tables.specs.declared.times.Pairs.TheVariants.{Alone, Of}

-- the last time that there is
abbrev pub never : ℕ
never = 18446744073709551615

-- the time at an index, and past the end the last one that there is
abbrev pub time_at : List ℕ → ℕ → ℕ
time_at times at = get_or times at never

abbrev pub earlier_of : List ℕ → ℕ → ℕ
earlier_of times pair = min (time_at times (2 * pair)) (time_at times (2 * pair + 1))

pub record ArePairs (pairs times : List ℕ) : Type 0 where
  pub several : 2 ≤ length times
  pub half : length pairs ≡ (length times + 1) / 2
  pub each : (pair : ℕ) → time_at pairs pair ≡ earlier_of times pair

abbrev pub HasPairs : Pairs → List ℕ → Type 0
HasPairs Alone times = length times ≤ 1
HasPairs (Of pairs) times = ArePairs pairs.value times

-- from this index on, none is before this time
abbrev pub AreFrom : ℕ → ℕ → List ℕ → Type 0
AreFrom start now times = (at : ℕ) → start ≤ at → now ≤ time_at times at

-- from this index on, the first one before this time stands at that index
pub record IsFirstBefore (start now : ℕ) (times : List ℕ) (at : ℕ) : Type 0 where
  pub from : start ≤ at
  pub inside : at < length times
  pub before : time_at times at < now
  pub others : (k : ℕ) → start ≤ k → k < at → now ≤ time_at times k
