-- What is known of taps in their seats, each with the answer that its tap gave last.
use Rattle.std.specs.Prelude.{◌≡◌, ℕ, ◌<◌, List, [], ◌++◌, Some, length, map, take, slice_get}
use Rattle.release_taps.specs.declared.seat.Seat.{Seat}
use Rattle.release_taps.specs.declared.tap.Shown.TheVariants.{Took, Failed, NoMemory}

-- a tap in its seat that was shown nothing yet
abbrev pub seated : {T : Type 0} → T → Seat T
seated tap = record { tap = tap; last = Took }

-- what the taps are called, in the order of their seats
abbrev pub labels_of : {T : Type 0} → (T → List ℕ) → List (Seat T) → List (List ℕ)
labels_of label seats = map (λ s. label s.tap) seats

module _ {T : Type 0} (tells : T → Type 0) (seen : T → List ℕ) (faults lacks : T → ℕ) where
  -- Where it tells, a tap that is there has seen these bytes, and one that is lost a first part of them. A lost one has
  -- counted why.
  pub record Mirrors (bytes : List ℕ) (seat : Seat T) : Type 0 where
    pub there : seat.last ≡ Took → tells seat.tap → seen seat.tap ≡ bytes
    pub first : tells seat.tap → take (length (seen seat.tap)) bytes ≡ seen seat.tap
    pub failed : seat.last ≡ Failed → 0 < faults seat.tap
    pub lacked : seat.last ≡ NoMemory → 0 < lacks seat.tap

  abbrev pub AllMirror : List ℕ → List (Seat T) → Type 0
  AllMirror bytes seats = (k : ℕ) (seat : Seat T) → slice_get seats k ≡ Some seat → Mirrors bytes seat

  -- the tap was shown these bytes, if it was there
  pub record IsShown (bytes : List ℕ) (old new : Seat T) : Type 0 where
    pub mirrors : (before : List ℕ) → Mirrors before old → Mirrors (before ++ bytes) new
    pub lost_stays : ¬ (old.last ≡ Took) → new ≡ old

  -- each tap that was there was shown these bytes, and keeps its seat
  pub record AreShown (bytes : List ℕ) (old new : List (Seat T)) : Type 0 where
    pub count : length new ≡ length old
    pub each : (k : ℕ) (seat : Seat T) → slice_get new k ≡ Some seat
        → (was : Seat T) × (slice_get old k ≡ Some was) × IsShown bytes was seat

  -- a tap that was shown nothing, and has no faults
  pub record IsFresh (tap : T) : Type 0 where
    pub seen_nothing : tells tap → seen tap ≡ []
    pub no_faults : faults tap ≡ 0
    pub no_lacks : lacks tap ≡ 0

  abbrev pub AllFresh : List T → Type 0
  AllFresh taps = (k : ℕ) (tap : T) → slice_get taps k ≡ Some tap → IsFresh tap
