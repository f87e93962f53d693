-- One value of a function changes.
use Rattle.std.proofs.Common.{◌≡◌, ◌≢◌, ℕ, refl, cond}
use Rattle.std.specs.Prelude.{nat_eq}
use Rattle.plain_machine.proofs.Histories.{not_eq, is_eq}

abbrev pub put : {A : Type 0} → ℕ → A → (ℕ → A) → ℕ → A
put t x f u = cond (nat_eq u t) x (f u)

pub put_here : {A : Type 0} (t u : ℕ) (x : A) (f : ℕ → A) → u ≡ t → put t x f u ≡ x
put_here t u x f same = rw (is_eq u t same) refl

pub put_else : {A : Type 0} (t u : ℕ) (x : A) (f : ℕ → A) → u ≢ t → put t x f u ≡ f u
put_else t u x f apart = rw (not_eq u t apart) refl
