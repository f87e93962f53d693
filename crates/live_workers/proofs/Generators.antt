-- One more generator behind the others.
use Rattle.std.proofs.Common.{◌≡◌, ℕ, zero, suc, ◌+◌, List, [], ◌∷◌, ◌++◌, refl, sym, ap, ◌∙◌, arith}
use Rattle.rand_pcg.specs.Lcg.{Lcg, started, increment_of, state_after}
use Rattle.rand_pcg.specs.Pcg.{multiplier_64}
use Rattle.live_workers.specs.Draws.{worker_generator, generators_of}

more_from : (seed t n : ℕ)
    → generators_of seed t (suc n) ≡ generators_of seed t n ++ worker_generator seed (t + n) 0 ∷ []
more_from seed t zero = let at : t ≡ t + 0 = omega arith in ap (λ (u : ℕ). worker_generator seed u 0 ∷ []) at
more_from seed t (suc n) =
    let at : t + 1 + n ≡ t + suc n = omega arith in
    ap (λ (l : List Lcg). worker_generator seed t 0 ∷ l)
    (more_from seed (t + 1) n
    ∙ ap (λ (u : ℕ). generators_of seed (t + 1) n ++ worker_generator seed u 0 ∷ []) at)

fresh : (seed t : ℕ) → started 64 multiplier_64 seed (increment_of 64 (55 + t)) ≡ worker_generator seed t 0
unfolding state_after
fresh seed t = refl

pub one_more : (seed n : ℕ) (before after : List Lcg) (g : Lcg) → before ≡ generators_of seed 0 n
    → g ≡ started 64 multiplier_64 seed (increment_of 64 (55 + n)) → after ≡ before ++ g ∷ []
    → after ≡ generators_of seed 0 (n + 1)
one_more seed n before after g so_far is more =
    let at : 0 + n ≡ n = omega arith in
    let next : suc n ≡ n + 1 = omega arith in
    more ∙ ap (λ (l : List Lcg). l ++ g ∷ []) so_far
    ∙ ap (λ (x : Lcg). generators_of seed 0 n ++ x ∷ []) (is ∙ fresh seed n)
    ∙ ap (λ (u : ℕ). generators_of seed 0 n ++ worker_generator seed u 0 ∷ []) (sym at)
    ∙ sym (more_from seed 0 n) ∙ ap (generators_of seed 0) next
