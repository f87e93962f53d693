-- Outputs in lists.
use Rattle.std.proofs.Common.{◌≡◌, ◌⊎◌, List, [], ◌∷◌, ◌++◌, refl, inl, inr}
use Rattle.access_log.specs.declared.entry.Output.{Output}
use Rattle.output_logger.specs.Logger.{IsAmong}

pub among_left : (x : Output) (xs ys : List Output) → IsAmong x xs → IsAmong x (xs ++ ys)
among_left x [] ys i = absurd i
among_left x (y ∷ xs) ys (inl is) = inl is
among_left x (y ∷ xs) ys (inr i) = inr (among_left x xs ys i)

pub among_last : (x : Output) (xs : List Output) → IsAmong x (xs ++ x ∷ [])
among_last x [] = inl refl
among_last x (y ∷ xs) = inr (among_last x xs)

pub among_either : (x z : Output) (xs : List Output) → IsAmong x (xs ++ z ∷ []) → IsAmong x xs ⊎ (z ≡ x)
among_either x z [] (inl is) = inr is
among_either x z [] (inr i) = absurd i
among_either x z (y ∷ xs) (inl is) = inl (inl is)
among_either x z (y ∷ xs) (inr i) = go (among_either x z xs i)
  where
    go : IsAmong x xs ⊎ (z ≡ x) → IsAmong x (y ∷ xs) ⊎ (z ≡ x)
    go (inl k) = inl (inr k)
    go (inr k) = inr k
