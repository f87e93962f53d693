-- The words of a seed of which some were drawn.
use Rattle.std.specs.Prelude.{ℕ, ◌%◌, ◌^◌}
use Rattle.rand_pcg.specs.Lcg.{Lcg}
use Rattle.random_words.specs.Words.{generator_after}

pub record Drawn : Type 0 where
  -- the generator, as it is behind them
  pub generator : Lcg
  -- how many they are, modulo 2^64
  pub drawn : ℕ

-- those of a seed, when this number of them were drawn
abbrev pub drawn_after : ℕ → ℕ → Drawn
drawn_after seed count = record { generator = generator_after seed count; drawn = count % 2 ^ 64 }
