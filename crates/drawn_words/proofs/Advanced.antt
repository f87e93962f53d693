-- The generator behind some words of a seed.
use Rattle.std.proofs.Common.{◌≡◌, ℕ, ◌<◌, ◌^◌, ◌%◌, refl, sym, ap, ◌∙◌, arith}
use Rattle.rand_pcg.specs.Lcg.{Lcg, advance, state_after}
use Rattle.rand_pcg.specs.Pcg.{multiplier_64}
use Rattle.random_words.specs.Words.{generator_after}
use Rattle.drawn_words.specs.Drawn.{Drawn, drawn_after}

ahead : (seed count : ℕ) → advance 64 multiplier_64 count (generator_after seed 0) ≡ generator_after seed count
unfolding state_after
ahead seed count = refl

whole : (count : ℕ) → count < 2 ^ 64 → count ≡ count % 2 ^ 64
whole count few = omega (arith, few)

pub words_are : (seed count : ℕ) (old new : Lcg) → count < 2 ^ 64 → old ≡ generator_after seed 0
    → new ≡ advance 64 multiplier_64 count old
    → (let d : Drawn = record { generator = new; drawn = count } in d) ≡ drawn_after seed count
words_are seed count old new few fresh is =
    ap (λ (g : Lcg). let d : Drawn = record { generator = g; drawn = count } in d)
    (is ∙ ap (λ (g : Lcg). advance 64 multiplier_64 count g) fresh ∙ ahead seed count)
    ∙ ap (λ (n : ℕ). let d : Drawn = record { generator = generator_after seed count; drawn = n } in d)
    (whole count few)
