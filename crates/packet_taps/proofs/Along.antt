-- What becomes of places when their taps are shown a packet, one after the other.
use Rattle.std.proofs.Common.{◌≡◌, ◌≢◌, ◌<◌, ◌≤◌, ℕ, List, Some, length, set, slice_get, ◌+◌, ◌==◌, inl, inr, refl, sym}
use Rattle.std.proofs.Common.{ap, ◌∙◌, subst, arith, length-set}
use Rattle.std.proofs.lemmas.Bool.{cases_Bool, eqb-true, eqb-false}
use Rattle.std.proofs.lemmas.Option.{slice_get_within}
use Rattle.plain_text.specs.declared.packet.Packet.{Packet}
use Rattle.release_taps.proofs.Showing.{slice_get-set_same, slice_get-set_other}
use Rattle.packet_taps.specs.declared.place.Place.{Place}
use Rattle.packet_taps.specs.Places.{IsShown, AreShown}

some-same : {X : Type 0} {x y : X} → Some x ≡ Some y → x ≡ y
some-same {X} {x} same = cc

le-refl : (n : ℕ) → n ≤ n
le-refl n = omega arith

module _ {T : Type 0} (saw missed : T → List Packet → Type 0) (faults lacks : T → ℕ) (packets : List Packet) where
  -- the taps before this place were shown the packets, and the others not yet
  pub record AreShownTo (index : ℕ) (old new : List (Place T)) : Type 0 where
    pub count : length new ≡ length old
    pub before : (k : ℕ) (place : Place T) → k < index → slice_get new k ≡ Some place
        → (was : Place T) × (slice_get old k ≡ Some was) × IsShown saw missed faults lacks packets was place
    pub behind : (k : ℕ) → index ≤ k → slice_get new k ≡ slice_get old k

  pub shown-none : (places : List (Place T)) → AreShownTo 0 places places
  shown-none places = record {
    count = refl;
    before = λ k place below. absurd (let none : ⊥ = omega (arith, below) in none);
    behind = λ k at. refl;
  }

  pub shown-next : (index : ℕ) (old new : List (Place T)) (was place : Place T) → AreShownTo index old new
      → slice_get new index ≡ Some was → IsShown saw missed faults lacks packets was place
      → AreShownTo (index + 1) old (set new index place)
  shown-next index old new was place to here shown = record {
    count = length-set new index place ∙ to.count;
    before = λ k other below there. elim (cases_Bool (k == index)) [
      | inl same ↦
          let at : k ≡ index = eqb-true k index same in
          let is : other ≡ place =
          some-same (sym there ∙ ap (λ j. slice_get (set new index place) j) at
          ∙ slice_get-set_same new index was place here) in (
            was,
            ap (λ j. slice_get old j) at ∙ sym (to.behind index (le-refl index)) ∙ here,
            subst (λ (s : Place T). IsShown saw missed faults lacks packets was s) (sym is) shown,
          )
      | inr differ ↦
          let apart : k ≢ index = eqb-false k index differ in
          to.before k other (omega (arith, below, apart)) (sym (slice_get-set_other new index k place apart) ∙ there)
    ];
    behind = λ k at.
        let apart : k ≢ index = omega (arith, at) in
        slice_get-set_other new index k place apart ∙ to.behind k (omega (arith, at));
  }

  pub shown-all : (index : ℕ) (old new : List (Place T)) → length new ≤ index → AreShownTo index old new
      → AreShown saw missed faults lacks packets old new
  shown-all index old new all to = record {
    count = to.count;
    each = λ k place there.
        let within = slice_get_within new k place there in
        to.before k place (omega (arith, within, all)) there;
  }
