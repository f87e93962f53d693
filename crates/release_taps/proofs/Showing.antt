-- What becomes of seats when their taps are shown bytes, one after the other.
use Rattle.std.proofs.Common.{◌≡◌, ◌≢◌, ◌<◌, ◌≤◌, ℕ, zero, suc, List, [], ◌∷◌, Some, length, map, set, slice_get}
use Rattle.std.proofs.Common.{◌+◌, ◌==◌, inl, inr, refl, sym, ap, ◌∙◌, subst, arith, length-set}
use Rattle.std.proofs.lemmas.Bool.{cases_Bool, eqb-true, eqb-false}
use Rattle.std.proofs.lemmas.Option.{slice_get_within}
use Rattle.release_taps.specs.declared.seat.Seat.{Seat}
use Rattle.release_taps.specs.Seats.{IsShown, AreShown, labels_of, seated}

some-same : {X : Type 0} {x y : X} → Some x ≡ Some y → x ≡ y
some-same {X} {x} same = cc

le-refl : (n : ℕ) → n ≤ n
le-refl n = omega arith

pub slice_get-set_same : {X : Type 0} (xs : List X) (i : ℕ) (x y : X) → slice_get xs i ≡ Some x
    → slice_get (set xs i y) i ≡ Some y
slice_get-set_same [] i x y there = cc
slice_get-set_same (z ∷ zs) zero x y there = refl
slice_get-set_same (z ∷ zs) (suc i) x y there = slice_get-set_same zs i x y there

pub slice_get-set_other : {X : Type 0} (xs : List X) (i j : ℕ) (y : X) → j ≢ i
    → slice_get (set xs i y) j ≡ slice_get xs j
slice_get-set_other [] i j y differ = refl
slice_get-set_other (z ∷ zs) zero zero y differ = absurd (differ refl)
slice_get-set_other (z ∷ zs) zero (suc j) y differ = refl
slice_get-set_other (z ∷ zs) (suc i) zero y differ = refl
slice_get-set_other (z ∷ zs) (suc i) (suc j) y differ = slice_get-set_other zs i j y (λ e. differ (ap suc e))

-- the labels stay where a seat is set that has the same
pub labels-set : {T : Type 0} (label : T → List ℕ) (seats : List (Seat T)) (i : ℕ) (was new : Seat T)
    → slice_get seats i ≡ Some was → label new.tap ≡ label was.tap
    → labels_of label (set seats i new) ≡ labels_of label seats
labels-set label [] i was new there same = refl
labels-set label (z ∷ seats) zero was new there same =
    ap (λ l. l ∷ labels_of label seats) (same ∙ ap (λ (s : Seat _). label s.tap) (sym (some-same there)))
labels-set label (z ∷ seats) (suc i) was new there same =
    ap (λ l. label z.tap ∷ l) (labels-set label seats i was new there same)

-- those of taps that were seated
pub labels-seated : {T : Type 0} (label : T → List ℕ) (taps : List T)
    → labels_of label (map seated taps) ≡ map label taps
labels-seated label [] = refl
labels-seated label (tap ∷ taps) = ap (λ l. label tap ∷ l) (labels-seated label taps)

module _ {T : Type 0} (tells : T → Type 0) (seen : T → List ℕ) (faults lacks : T → ℕ) (bytes : List ℕ) where
  -- the taps before this place were shown the bytes, and the others not yet
  pub record AreShownTo (place : ℕ) (old new : List (Seat T)) : Type 0 where
    pub count : length new ≡ length old
    pub before : (k : ℕ) (seat : Seat T) → k < place → slice_get new k ≡ Some seat
        → (was : Seat T) × (slice_get old k ≡ Some was) × IsShown tells seen faults lacks bytes was seat
    pub behind : (k : ℕ) → place ≤ k → slice_get new k ≡ slice_get old k

  pub shown-none : (seats : List (Seat T)) → AreShownTo 0 seats seats
  shown-none seats = record {
    count = refl;
    before = λ k seat below. absurd (let none : ⊥ = omega (arith, below) in none);
    behind = λ k at. refl;
  }

  pub shown-next : (place : ℕ) (old new : List (Seat T)) (was seat : Seat T) → AreShownTo place old new
      → slice_get new place ≡ Some was → IsShown tells seen faults lacks bytes was seat
      → AreShownTo (place + 1) old (set new place seat)
  shown-next place old new was seat to here shown = record {
    count = length-set new place seat ∙ to.count;
    before = λ k other below there. elim (cases_Bool (k == place)) [
      | inl same ↦
          let at : k ≡ place = eqb-true k place same in
          let is : other ≡ seat =
          some-same (sym there ∙ ap (λ j. slice_get (set new place seat) j) at
          ∙ slice_get-set_same new place was seat here) in (
            was,
            ap (λ j. slice_get old j) at ∙ sym (to.behind place (le-refl place)) ∙ here,
            subst (λ s. IsShown tells seen faults lacks bytes was s) (sym is) shown,
          )
      | inr differ ↦
          let apart : k ≢ place = eqb-false k place differ in
          to.before k other (omega (arith, below, apart)) (sym (slice_get-set_other new place k seat apart) ∙ there)
    ];
    behind = λ k at.
        let apart : k ≢ place = omega (arith, at) in
        slice_get-set_other new place k seat apart ∙ to.behind k (omega (arith, at));
  }

  pub shown-all : (place : ℕ) (old new : List (Seat T)) → length new ≤ place → AreShownTo place old new
      → AreShown tells seen faults lacks bytes old new
  shown-all place old new all to = record {
    count = to.count;
    each = λ k seat there.
        let within = slice_get_within new k seat there in
        to.before k seat (omega (arith, within, all)) there;
  }
