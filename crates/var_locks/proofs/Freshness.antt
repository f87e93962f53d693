-- The threads get their seats, one after another.
use Rattle.std.proofs.Common.{◌≡◌, ℕ, zero, suc, ◌+◌, ◌<◌, List, [], ◌∷◌, ◌++◌, length, take, drop, refl, sym, ap, ◌∙◌}
use Rattle.std.proofs.Common.{arith}
use Rattle.std.specs.Prelude.{slice_index_or}
use Rattle.master_core.specs.declared.parts.VarPart.{VarPart}
use Rattle.master_core.specs.declared.parts.ThreadPart.{ThreadPart}
use Rattle.atomic_table.specs.Seated.{TableId}
use Rattle.var_locks.specs.Seats.{Seated}
use Rattle.var_locks.specs.Views.{first_share, other_shares}
use Rattle.var_locks.specs.Openings.{places_of, rest_view, fresh_seat, fresh_seats}

-- the parts from a thread on begin with its own
pub parts_from : (parts : List ThreadPart) (t : ℕ) (d : ThreadPart) → t < length parts
    → drop t parts ≡ slice_index_or parts t d ∷ drop (t + 1) parts
parts_from [] t d low = absurd (omega (arith, low))
parts_from (x ∷ xs) zero d low = refl
parts_from (x ∷ xs) (suc t) d low =
    let n : suc t + 1 ≡ suc (t + 1) = omega arith in
    parts_from xs t d (omega (arith, low)) ∙ ap (λ (k : ℕ). slice_index_or xs t d ∷ drop k (x ∷ xs)) (sym n)

-- and so do the shares of the view
pub view_from : {V : Type 0} (t : ℕ) (parts : List ThreadPart) (places : List ℕ) (part : ThreadPart)
    (others : List ThreadPart) → parts ≡ part ∷ others
    → (first_share (rest_view {V = V} t parts places) ≡ rest_view t (part ∷ []) places)
    × (other_shares (rest_view {V = V} t parts places) ≡ rest_view (t + 1) others places)
view_from {V} t parts places part others is = (
  ap (λ (l : List ThreadPart). first_share (rest_view {V = V} t l places)) is,
  ap (λ (l : List ThreadPart). other_shares (rest_view {V = V} t l places)) is,
)

-- one more seat
pub seats_next : {V : Type 0} (round : TableId) (places : List ℕ) (from : ℕ) (parts : List ThreadPart) (t : ℕ)
    (d : ThreadPart) → t < length parts
    → fresh_seats {V = V} round places from (take (t + 1) parts)
    ≡ fresh_seats round places from (take t parts) ++ fresh_seat round places (from + t) (slice_index_or parts t d) ∷ []
seats_next round places from [] t d low = absurd (omega (arith, low))
seats_next {V} round places from (x ∷ xs) zero d low =
    let n : from ≡ from + 0 = omega arith in ap (λ (k : ℕ). fresh_seat {V = V} round places k x ∷ []) n
seats_next {V} round places from (x ∷ xs) (suc t) d low =
    let n : suc t + 1 ≡ suc (t + 1) = omega arith in
    let k : from + 1 + t ≡ from + suc t = omega arith in
    ap (λ (i : ℕ). fresh_seats {V = V} round places from (take i (x ∷ xs))) n
    ∙ ap (λ (l : List (Seated V)). fresh_seat round places from x ∷ l)
    (seats_next round places (from + 1) xs t d (omega (arith, low))
    ∙ ap (λ (i : ℕ).
    fresh_seats round places (from + 1) (take t xs) ++ fresh_seat {V = V} round places i (slice_index_or xs t d) ∷ [])
    k)

pub places_next : {V : Type 0} (vars : List (VarPart V)) (v : ℕ) (d : VarPart V) → v < length vars
    → places_of (take (v + 1) vars) ≡ places_of (take v vars) ++ (slice_index_or vars v d).places ∷ []
places_next [] v d low = absurd (omega (arith, low))
places_next (x ∷ xs) zero d low = refl
places_next {V} (x ∷ xs) (suc v) d low =
    let n : suc v + 1 ≡ suc (v + 1) = omega arith in
    ap (λ (i : ℕ). places_of (take i (x ∷ xs))) n
    ∙ ap (λ (l : List ℕ). x.places ∷ l) (places_next xs v d (omega (arith, low)))
