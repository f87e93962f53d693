-- Numbers that go from one to another, and never fall.
use Rattle.std.proofs.Common.{◌≡◌, ℕ, zero, suc, ◌+◌, ◌≤◌, ◌<◌, List, [], ◌∷◌, ◌++◌, arith, length, get_or}
use Rattle.std.specs.List.Sorted.{IsNonDecreasing}

abbrev pub Rises : ℕ → ℕ → List ℕ → Type 0
Rises low high [] = low ≤ high
Rises low high (x ∷ xs) = (low ≤ x) × Rises x high xs

pub rises_low : (less low high : ℕ) (xs : List ℕ) → less ≤ low → Rises low high xs → Rises less high xs
rises_low less low high [] below rise = omega (arith, below, rise)
rises_low less low high (x ∷ xs) below rise = (omega (arith, below, rise.0), rise.1)

pub rises_append : (low mid high : ℕ) (xs ys : List ℕ) → Rises low mid xs → Rises mid high ys
    → Rises low high (xs ++ ys)
rises_append low mid high [] ys first second = rises_low low mid high ys first second
rises_append low mid high (x ∷ xs) ys first second = (first.0, rises_append x mid high xs ys first.1 second)

below_all : (low high : ℕ) (xs : List ℕ) → Rises low high xs → (j d : ℕ) → j < length xs → low ≤ get_or xs j d
below_all low high [] rise j d within = absurd (omega (arith, within))
below_all low high (x ∷ xs) rise zero d within = rise.0
below_all low high (x ∷ xs) rise (suc j) d within =
    let later = below_all x high xs rise.1 j d (omega (arith, within)) in
    let first = rise.0 in
    omega (arith, later, first)

pub rises : (low high : ℕ) (xs : List ℕ) → Rises low high xs → IsNonDecreasing xs
rises low high [] rise i j d up within = absurd (omega (arith, within))
rises low high (x ∷ xs) rise zero zero d up within = omega arith
rises low high (x ∷ xs) rise zero (suc j) d up within = below_all x high xs rise.1 j d (omega (arith, within))
rises low high (x ∷ xs) rise (suc i) zero d up within = absurd (omega (arith, up))
rises low high (x ∷ xs) rise (suc i) (suc j) d up within =
    rises x high xs rise.1 i j d (omega (arith, up)) (omega (arith, within))
