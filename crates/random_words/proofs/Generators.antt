-- The generator before the first word, and after one word more.
use Rattle.std.proofs.Common.{◌≡◌, ℕ, zero, suc, ◌+◌, refl, ap, ◌∙◌, add-one}
use Rattle.rand_pcg.specs.Lcg.{Lcg, next, next_state, state_after, started, increment_of}
use Rattle.rand_pcg.specs.Pcg.{multiplier_64, pcg32}
use Rattle.random_words.specs.Words.{generator_after, word_of}

-- a new generator gave no word
pub no_word : (seed : ℕ) → started 64 multiplier_64 seed (increment_of 64 54) ≡ generator_after seed 0
unfolding state_after
no_word seed = refl

-- a step after n steps is the last of n + 1
state_after-suc : (w m p n s : ℕ) → next_state w m p (state_after w m p n s) ≡ state_after w m p (suc n) s
unfolding state_after
state_after-suc w m p zero s = refl
state_after-suc w m p (suc n) s = state_after-suc w m p n (next_state w m p s)

generator_after-suc : (seed count : ℕ)
    → next 64 multiplier_64 (generator_after seed count) ≡ generator_after seed (count + 1)
generator_after-suc seed count =
    let start = started 64 multiplier_64 seed (increment_of 64 54) in
    rw add-one (ap (λ (s : ℕ). let g : Lcg = record { state = s; increment = start.increment } in g)
    (state_after-suc 64 multiplier_64 start.increment count start.state))

pub this_word : (seed count word : ℕ) (old new : Lcg) → (word, new) ≡ pcg32 old → old ≡ generator_after seed count
    → word ≡ word_of seed count
this_word seed count word old new is at = ap (λ (p : ℕ × Lcg). p.0) is ∙ ap (λ (g : Lcg). (pcg32 g).0) at

pub after_word : (seed count word : ℕ) (old new : Lcg) → (word, new) ≡ pcg32 old → old ≡ generator_after seed count
    → new ≡ generator_after seed (count + 1)
after_word seed count word old new is at =
    ap (λ (p : ℕ × Lcg). p.1) is ∙ ap (λ (g : Lcg). (pcg32 g).1) at ∙ generator_after-suc seed count
