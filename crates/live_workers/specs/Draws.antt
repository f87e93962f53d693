-- The random words of the workers of a seed: those of worker t are on stream 55 + t
-- (O'Neill, "PCG: A Family of Simple Fast Space-Efficient Statistically Good Algorithms for Random Number Generation").
use Rattle.std.specs.Prelude.{ℕ, zero, suc, ◌+◌, List, [], ◌∷◌}
use Rattle.rand_pcg.specs.Lcg.{Lcg, started, advance, increment_of}
use Rattle.rand_pcg.specs.Pcg.{multiplier_64}

-- the generator of worker t, after this number of words
abbrev pub worker_generator : ℕ → ℕ → ℕ → Lcg
worker_generator seed t count =
    advance 64 multiplier_64 count (started 64 multiplier_64 seed (increment_of 64 (55 + t)))

-- those of this many threads from thread t on, before their first words
abbrev pub generators_of : ℕ → ℕ → ℕ → List Lcg
generators_of seed t zero = []
generators_of seed t (suc many) = worker_generator seed t 0 ∷ generators_of seed (t + 1) many
