-- Where things stand in an overview, which is 1300 wide: events or times to the right, counts upwards, and below them a
-- floor for each thread, on which its bars stand.
use Rattle.std.specs.Prelude.{ℕ, ◌+◌, ◌-◌, ◌*◌, ◌/◌, max, min}

-- the event at this place, from 0, of so many; or this time of a span of so much
abbrev pub across : ℕ → ℕ → ℕ
across many i = 120 + min (min i 10000000000000000 * 1000 / max 1 many) 1000

-- a count, where the greatest is this
abbrev pub upwards : ℕ → ℕ → ℕ
upwards most n = 260 - min (min n 1000000000 * 200 / max 1 most) 200

abbrev pub floor_of : ℕ → ℕ
floor_of t = 340 + 40 * min t 100

-- how tall a bar of so many moves is, where the tallest has so many
abbrev pub tall : ℕ → ℕ → ℕ
tall most n = min (min n 1000000000 * 30 / max 1 most) 30

-- how high the overview of so many threads is
abbrev pub overview_high : ℕ → ℕ
overview_high threads = 320 + 40 * min threads 100
