-- The slices of an overview are at most 50, and have all moves of a thread.
use Rattle.std.proofs.Common.{◌≡◌, ℕ, zero, suc, ◌+◌, ◌*◌, ◌/◌, ◌≤◌, List, [], ◌∷◌, ◌++◌, refl, sym, ap, ◌∙◌, arith}
use Rattle.std.proofs.Common.{length, take, drop, length-drop, take-append-drop}
use Rattle.std.specs.Prelude.{sum}
use Rattle.std.proofs.lemmas.List.Sums.{sum_by-cons}
use Rattle.run_drawing.specs.declared.note.Note.{Note}
use Rattle.run_drawing.specs.Slices.{moves_in, moves_of, slices_from, slices_of}

pub moves_append : (t : ℕ) (xs ys : List Note) → moves_of t (xs ++ ys) ≡ moves_of t xs + moves_of t ys
moves_append t [] ys = omega arith
moves_append t (n ∷ xs) ys = let rest = moves_append t xs ys in omega (arith, rest)

sliced : (t every many first : ℕ) (notes : List Note) → length notes ≤ many * every
    → sum (moves_in (slices_from t every many first notes)) ≡ moves_of t notes
sliced t every zero first [] low = refl
sliced t every zero first (n ∷ later) low = absurd (omega (arith, low))
sliced t every (suc many) first [] low = refl
sliced t every (suc many) first (n ∷ later) low =
    let notes : List Note = n ∷ later in
    let here : ℕ = moves_of t (take every notes) in
    let short = length-drop every notes in
    let lower : length (drop every notes) ≤ many * every = omega (arith, short, low) in
    sum_by-cons (λ (x : ℕ). x) here (moves_in (slices_from t every many (first + every) (drop every notes)))
    ∙ (ap (λ (k : ℕ). here + k) (sliced t every many (first + every) (drop every notes) lower)
    ∙ (sym (moves_append t (take every notes) (drop every notes))
    ∙ ap (moves_of t) (take-append-drop every notes)))

fits : (n : ℕ) → n ≤ 50 * (n / 50 + 1)
fits n = omega arith

pub whole_slices : (t : ℕ) (notes : List Note) → sum (moves_in (slices_of t notes)) ≡ moves_of t notes
whole_slices t notes = sliced t (length notes / 50 + 1) 50 0 notes (fits (length notes))

few : (t every many first : ℕ) (notes : List Note) → length (slices_from t every many first notes) ≤ many
few t every zero first notes = omega arith
few t every (suc many) first [] = omega arith
few t every (suc many) first (n ∷ later) =
    let rest = few t every many (first + every) (drop every (n ∷ later)) in omega (arith, rest)

pub few_slices : (t : ℕ) (notes : List Note) → length (slices_of t notes) ≤ 50
few_slices t notes = few t (length notes / 50 + 1) 50 0 notes
