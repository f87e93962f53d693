-- The random words of a seed: those of a Pcg32 that starts at it, on stream 54
-- (O'Neill, "PCG: A Family of Simple Fast Space-Efficient Statistically Good Algorithms for Random Number Generation").
use Rattle.std.specs.Prelude.{ℕ}
use Rattle.rand_pcg.specs.Lcg.{Lcg, started, advance, increment_of}
use Rattle.rand_pcg.specs.Pcg.{multiplier_64, pcg32}

-- the generator of a seed, after this number of words
abbrev pub generator_after : ℕ → ℕ → Lcg
generator_after seed count = advance 64 multiplier_64 count (started 64 multiplier_64 seed (increment_of 64 54))

-- word k of a seed, from 0
abbrev pub word_of : ℕ → ℕ → ℕ
word_of seed k = (pcg32 (generator_after seed k)).0
