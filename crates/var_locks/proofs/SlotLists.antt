-- One slot in hand.
use Rattle.std.proofs.Common.{◌≡◌, ℕ, Bool, true, false, refl, List, [], ◌∷◌, ap}
use Rattle.master_core.specs.declared.parts.VarPart.{VarPart}

part_or : {V : Type 0} → VarPart V → List (ℕ × VarPart V) → VarPart V
part_or d [] = d
part_or d (x ∷ xs) = x.1

pub first_same : {V : Type 0} {v : ℕ} {x y : VarPart V} {l k : List (ℕ × VarPart V)} → (v, x) ∷ l ≡ (v, y) ∷ k → x ≡ y
unfolding part_or
first_same {V} {v} {x} {y} {l} {k} e = ap (λ (z : List (ℕ × VarPart V)). part_or x z) e

-- what holds either way
pub either_way : {A : Type 0} (b : Bool) → (b ≡ true → A) → (b ≡ false → A) → A
either_way true yes_it no_it = yes_it refl
either_way false yes_it no_it = no_it refl
