-- Drawing the moves of threads by turns: all that stands here is newest first.
use Rattle.std.specs.Prelude.{◌≡◌, ℕ, ◌<◌, List, [], ◌∷◌, length, slice_index_or, slice_set}

-- In these turns each of the lists gives its newest item, until nothing is left of any.
abbrev pub AreDrawn : {A : Type 0} → List (List A) → List ℕ → List A → Type 0
AreDrawn lists [] [] = (t : ℕ) → slice_index_or lists t [] ≡ []
AreDrawn lists [] (x ∷ drawn) = ⊥
AreDrawn lists (t ∷ turns) [] = ⊥
AreDrawn {A} lists (t ∷ turns) (x ∷ drawn) =
    (t < length lists)
    × (rest : List A) × (slice_index_or lists t [] ≡ x ∷ rest) × AreDrawn (slice_set lists t rest) turns drawn
