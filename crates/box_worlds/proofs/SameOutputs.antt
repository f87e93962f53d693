-- Two lists of outputs that have none twice and the same members have as many of each kind.
use Rattle.std.proofs.Common.{◌≡◌, ℕ, ◌+◌, ◌≤◌, Bool, true, false, cond, List, [], ◌∷◌, refl, sym, ap, ◌∙◌, subst, inl}
use Rattle.std.proofs.Common.{inr, ◌⊎◌, arith}
use Rattle.std.specs.Prelude.{nat_eq, ◌&&◌}
use Rattle.std.proofs.lemmas.Bool.Decides.{nat_tests}
use Rattle.recovery_world.specs.World.{Sent}
use Rattle.recovery_world.specs.Events.{IsAmong}
use Rattle.recovery_laws.specs.Sound.{times}
use Rattle.recovery_laws.proofs.AcceptedRuns.{among_times}

abbrev pub how_many : (Sent → Bool) → List Sent → ℕ
how_many p [] = 0
how_many p (o ∷ sent) = cond (p o) (how_many p sent + 1) (how_many p sent)

-- one occurrence is taken out of a list
abbrev IsWithout : Sent → List Sent → List Sent → Type 0
IsWithout o [] less = ⊥
IsWithout o (x ∷ xs) less = ((x ≡ o) × (less ≡ xs)) ⊎ ((rest : List Sent) × (less ≡ x ∷ rest) × IsWithout o xs rest)

without_there : (o : Sent) (xs : List Sent) → IsAmong o xs → (less : List Sent) × IsWithout o xs less
without_there o [] h = absurd h
without_there o (x ∷ xs) (inl h) = (xs, inl (h, refl))
without_there o (x ∷ xs) (inr h) = let r = without_there o xs h in (x ∷ r.0, inr (r.0, refl, r.1))

still_there : (o p : Sent) (xs less : List Sent) → IsWithout o xs less → IsAmong p xs → (o ≡ p → ⊥) → IsAmong p less
still_there o p [] less w h ne = absurd h
still_there o p (x ∷ xs) less (inl (same, is)) (inl h) ne = absurd (ne (sym same ∙ h))
still_there o p (x ∷ xs) less (inl (same, is)) (inr h) ne = subst (λ (l : List Sent). IsAmong p l) (sym is) h
still_there o p (x ∷ xs) less (inr (rest, is, w)) (inl h) ne = subst (λ (l : List Sent). IsAmong p l) (sym is) (inl h)
still_there o p (x ∷ xs) less (inr (rest, is, w)) (inr h) ne =
    subst (λ (l : List Sent). IsAmong p l) (sym is) (inr (still_there o p xs rest w h ne))

swapped : (a b : Bool) (n k : ℕ) → n ≡ cond b (k + 1) k
    → cond a (n + 1) n ≡ cond b (cond a (k + 1) k + 1) (cond a (k + 1) k)
swapped true true n k e = omega arith
swapped true false n k e = omega arith
swapped false true n k e = omega arith
swapped false false n k e = omega arith

fewer : (p : Sent → Bool) (o : Sent) (xs less : List Sent) → IsWithout o xs less
    → how_many p xs ≡ cond (p o) (how_many p less + 1) (how_many p less)
fewer p o [] less w = absurd w
fewer p o (x ∷ xs) less (inl (same, is)) =
    rw is (subst (λ (y : Sent).
    cond (p x) (how_many p xs + 1) (how_many p xs) ≡ cond (p y) (how_many p xs + 1) (how_many p xs)) same refl)
fewer p o (x ∷ xs) less (inr (rest, is, w)) =
    rw is (swapped (p x) (p o) (how_many p xs) (how_many p rest) (fewer p o xs rest w))

first_times : (o : Sent) (xs : List Sent)
    → times o.emission.thread o.emission.number (o ∷ xs) ≡ times o.emission.thread o.emission.number xs + 1
first_times o xs =
    let a : nat_eq o.emission.thread o.emission.thread ≡ true = grind (arith, nat_tests) in
    let b : nat_eq o.emission.number o.emission.number ≡ true = grind (arith, nat_tests) in
    rw a (rw b refl)

later_times : (t j : ℕ) (o : Sent) (xs : List Sent) → times t j xs ≤ times t j (o ∷ xs)
later_times t j o xs = go (nat_eq o.emission.thread t && nat_eq o.emission.number j)
  where
    go : (b : Bool) → times t j xs ≤ cond b (times t j xs + 1) (times t j xs)
    go true = omega arith
    go false = omega arith

within : (p : Sent → Bool) (xs ys : List Sent) → ((t j : ℕ) → times t j xs ≤ 1)
    → ((o : Sent) → IsAmong o xs → IsAmong o ys) → how_many p xs ≤ how_many p ys
within p [] ys once all = omega arith
within p (o ∷ xs) ys once all = go (without_there o ys (all o (inl refl)))
    (λ less all2. within p xs less later all2)
  where
    later : (t j : ℕ) → times t j xs ≤ 1
    later t j = let x = later_times t j o xs in let y = once t j in omega (arith, x, y)

    differs : (x : Sent) → IsAmong x xs → o ≡ x → ⊥
    differs x i same =
        let c = among_times x xs i in
        let y = once o.emission.thread o.emission.number in
        let z = first_times o xs in
        let q : times x.emission.thread x.emission.number xs ≡ times o.emission.thread o.emission.number xs =
        ap (λ (e : Sent). times e.emission.thread e.emission.number xs) (sym same) in
        omega (arith, c, y, z, q)

    more : (b : Bool) (n k : ℕ) → n ≤ k → cond b (n + 1) n ≤ cond b (k + 1) k
    more true n k e = omega arith
    more false n k e = omega arith

    go : (less : List Sent) × IsWithout o ys less
        → ((less : List Sent) → ((x : Sent) → IsAmong x xs → IsAmong x less) → how_many p xs ≤ how_many p less)
        → cond (p o) (how_many p xs + 1) (how_many p xs) ≤ how_many p ys
    go (less, w) rest =
        let k = rest less (λ x i. still_there o x ys less w (all x (inr i)) (differs x i)) in
        let a = more (p o) (how_many p xs) (how_many p less) k in
        let b = fewer p o ys less w in
        rw b a

pub as_many : (p : Sent → Bool) (xs ys : List Sent) → ((t j : ℕ) → times t j xs ≤ 1) → ((t j : ℕ) → times t j ys ≤ 1)
    → ((o : Sent) → IsAmong o xs → IsAmong o ys) → ((o : Sent) → IsAmong o ys → IsAmong o xs)
    → how_many p xs ≡ how_many p ys
as_many p xs ys once_there once_here to from =
    let a = within p xs ys once_there to in let b = within p ys xs once_here from in omega (arith, a, b)
