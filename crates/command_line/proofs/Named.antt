-- Taps that have the names of their pairs.
use Rattle.std.proofs.Common.{◌≡◌, ◌+◌, ◌*◌, ℕ, zero, suc, List, [], ◌∷◌, ◌++◌, Option, Some, None, length, map}
use Rattle.std.proofs.Common.{slice_get}
use Rattle.std.proofs.Common.{refl, sym, ap, ◌∙◌, subst, arith, length-append}
use Rattle.release_taps.specs.declared.seat.Seat.{Seat}
use Rattle.release_taps.specs.Seats.{labels_of}
use Rattle.command_line.specs.Running.{AreNamed}

some-same : {X : Type 0} {x y : X} → Some x ≡ Some y → x ≡ y
some-same {X} {x} same = cc

head_same : {x y : List ℕ} {xs ys : List (List ℕ)} → x ∷ xs ≡ y ∷ ys → y ≡ x
head_same {x} {y} {xs} {ys} e = cc

tail_same : {x y : List ℕ} {xs ys : List (List ℕ)} → x ∷ xs ≡ y ∷ ys → xs ≡ ys
tail_same {x} {y} {xs} {ys} e = cc

-- what is so of each place is so with one more
pub push-each : {T : Type 0} (Holds : ℕ → T → Type 0) (xs : List T) (x : T)
    → ((k : ℕ) (y : T) → slice_get xs k ≡ Some y → Holds k y) → Holds (length xs) x
    → (k : ℕ) (y : T) → slice_get (xs ++ x ∷ []) k ≡ Some y → Holds k y
push-each Holds [] x each last zero y there = subst (Holds 0) (some-same there) last
push-each Holds [] x each last (suc k) y there = cc
push-each Holds (z ∷ xs) x each last zero y there = each 0 y there
push-each Holds (z ∷ xs) x each last (suc k) y there =
    push-each (λ j. Holds (suc j)) xs x (λ j w. each (suc j) w) last k y there

module _ {T : Type 0} (label : T → List ℕ) (words : List (List ℕ)) where
  pub named-push : (taps : List T) (tap : T) (pair : ℕ) → length taps ≡ pair → AreNamed label words taps
      → slice_get words (2 * pair + 1) ≡ Some (label tap) → AreNamed label words (taps ++ tap ∷ [])
  named-push taps tap pair count named last =
      push-each (λ k t. slice_get words (2 * k + 1) ≡ Some (label t)) taps tap named
      (ap (λ n. slice_get words (2 * n + 1)) count ∙ last)

  labelled : (Holds : ℕ → List ℕ → Type 0) (taps : List T) (seats : List (Seat T))
      → labels_of label seats ≡ map label taps
      → ((k : ℕ) (tap : T) → slice_get taps k ≡ Some tap → Holds k (label tap))
      → (k : ℕ) (seat : Seat T) → slice_get seats k ≡ Some seat → Holds k (label seat.tap)
  labelled Holds taps [] same each k seat there = cc
  labelled Holds [] (s ∷ seats) same each k seat there = cc
  labelled Holds (t ∷ taps) (s ∷ seats) same each zero seat there =
      subst (Holds 0) (head_same same ∙ ap (λ (r : Seat T). label r.tap) (some-same there)) (each 0 t refl)
  labelled Holds (t ∷ taps) (s ∷ seats) same each (suc k) seat there =
      labelled (λ j. Holds (suc j)) taps seats (tail_same same) (λ j w. each (suc j) w) k seat there

  -- seats of the same labels as these taps
  pub named-seats : (taps : List T) (seats : List (Seat T)) → labels_of label seats ≡ map label taps
      → AreNamed label words taps → AreNamed (λ (seat : Seat T). label seat.tap) words seats
  named-seats taps seats same named = labelled (λ j l. slice_get words (2 * j + 1) ≡ Some l) taps seats same named

pub length-push : {T : Type 0} (taps : List T) (tap : T) (pair : ℕ) → length taps ≡ pair
    → length (taps ++ tap ∷ []) ≡ pair + 1
length-push taps tap pair count = omega (arith, count, length-append taps (tap ∷ []))
