-- Of a thread among frames.
use Rattle.std.proofs.Common.{◌≡◌, ◌≢◌, ℕ, cond, eqb, eq-eqb, List, [], ◌∷◌, ◌++◌, true, false, refl, ap, arith}
use Rattle.std.proofs.lemmas.Bool.Decides.{nat_tests}
use Rattle.recovery_world.specs.Many.{Message}
use Rattle.plan_script.specs.Rounds.{of_thread}

apart_eqb : (a b : ℕ) → a ≢ b → eqb a b ≡ false
apart_eqb a b h = grind (arith, nat_tests)

pub of_thread_append : (t : ℕ) (xs ys : List Message) → of_thread t (xs ++ ys) ≡ of_thread t xs ++ of_thread t ys
of_thread_append t [] ys = refl
of_thread_append t (f ∷ xs) ys =
    let rest = of_thread_append t xs ys in
    elim (eqb f.thread t) as
    (λ b.
    cond b (f ∷ of_thread t (xs ++ ys)) (of_thread t (xs ++ ys))
    ≡ cond b (f ∷ of_thread t xs) (of_thread t xs) ++ of_thread t ys)
    [ true ↦ ap (λ l. f ∷ l) rest | false ↦ rest ]

pub of_own : (t : ℕ) (f : Message) → f.thread ≡ t → of_thread t (f ∷ []) ≡ f ∷ []
of_own t f h = ap (λ b. cond b (f ∷ []) []) (eq-eqb f.thread t h)

pub of_other : (t : ℕ) (f : Message) → f.thread ≢ t → of_thread t (f ∷ []) ≡ []
of_other t f h = ap (λ b. cond b (f ∷ []) []) (apart_eqb f.thread t h)
