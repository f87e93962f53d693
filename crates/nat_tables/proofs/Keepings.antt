-- A mapping that is kept for good stays in its table, whatever is done there.
use Rattle.std.proofs.Common.{◌≡◌, ℕ, Bool, true, false, [], ◌∷◌, ◌++◌, refl, sym, ap, ◌∙◌, Option, Some, None}
use Rattle.std.specs.Prelude.{if◌then◌else◌}
use Rattle.nat_tables.specs.declared.entries.Endpoint.{Endpoint}
use Rattle.nat_tables.specs.declared.slot.Slot.{Slot}
use Rattle.nat_tables.specs.declared.phase.Phase.TheVariants.{Plain, Kept}
use Rattle.nat_tables.specs.declared.phase.Segment.{Segment}
use Rattle.nat_tables.specs.declared.phase.Segment.TheVariants.{Silent, Opens, Carries, Closes}
use Rattle.nat_tables.specs.Phases.{phase_after}
use Rattle.nat_tables.specs.Keys.{same_endpoint}
use Rattle.nat_tables.specs.Forwards.{Forwards, is_idle, slot_of, refresh, without, without_idle, found}
use Rattle.nat_tables.specs.Forwards.{refreshed, marked, mark, bound, HasKept}

kept_after : (seconds : ℕ) (segment : Segment) → phase_after seconds segment Kept ≡ Kept
kept_after seconds Silent = refl
kept_after seconds Opens = refl
kept_after seconds Carries = refl
kept_after seconds Closes = refl

pub kept_live : (now : ℕ) (key : Endpoint) (slot : Slot) → slot.phase ≡ Kept → is_idle now (key, slot) ≡ false
kept_live now key slot kept = rw kept refl

module _ (key : Endpoint) (port : ℕ) where
  kept_refreshed : (other : Endpoint) (now : ℕ) (es : Forwards) → HasKept key port es
      → HasKept key port (refresh other now es)
  kept_refreshed other now [] (slot, there, is, kept) = absurd (cc)
  kept_refreshed other now (e ∷ es) (slot, there, is, kept) =
      by (same_endpoint other e.0) (same_endpoint key e.0) refl refl there
      (λ h. kept_refreshed other now es (slot, h, is, kept))
    where
      by : (a b : Bool) → same_endpoint other e.0 ≡ a → same_endpoint key e.0 ≡ b
          → (if b then Some e.1 else slot_of key es) ≡ Some slot
          → (slot_of key es ≡ Some slot → HasKept key port (refresh other now es))
          → HasKept key port (refresh other now (e ∷ es))
      by true true p q there rest =
          let s : e.1 ≡ slot = cc in
          rw (p, q)
          (refreshed now e.1, refl, ap (λ (x : Slot). x.port) s ∙ is, ap (λ (x : Slot). x.phase) s ∙ kept)
      by true false p q there rest = rw (p, q) (slot, there, is, kept)
      by false true p q there rest = rw (p, q) (slot, there, is, kept)
      by false false p q there rest = rw (p, q) (rest there)

  pub kept_marked : (other : Endpoint) (seconds : ℕ) (segment : Segment) (es : Forwards) → HasKept key port es
      → HasKept key port (mark other seconds segment es)
  kept_marked other seconds segment [] (slot, there, is, kept) = absurd (cc)
  kept_marked other seconds segment (e ∷ es) (slot, there, is, kept) =
      by (same_endpoint other e.0) (same_endpoint key e.0) refl refl there
      (λ h. kept_marked other seconds segment es (slot, h, is, kept))
    where
      by : (a b : Bool) → same_endpoint other e.0 ≡ a → same_endpoint key e.0 ≡ b
          → (if b then Some e.1 else slot_of key es) ≡ Some slot
          → (slot_of key es ≡ Some slot → HasKept key port (mark other seconds segment es))
          → HasKept key port (mark other seconds segment (e ∷ es))
      by true true p q there rest =
          let s : e.1 ≡ slot = cc in
          let k : e.1.phase ≡ Kept = ap (λ (x : Slot). x.phase) s ∙ kept in
          rw (p, q) (
            marked seconds segment e.1,
            refl,
            ap (λ (x : Slot). x.port) s ∙ is,
            ap (phase_after seconds segment) k ∙ kept_after seconds segment,
          )
      by true false p q there rest = rw (p, q) (slot, there, is, kept)
      by false true p q there rest = rw (p, q) (slot, there, is, kept)
      by false false p q there rest = rw (p, q) (rest there)

  -- a mapping that is idle is another one

  kept_without : (now : ℕ) (other : Endpoint) (gone : Slot) (es : Forwards) → slot_of other es ≡ Some gone
      → is_idle now (other, gone) ≡ true → HasKept key port es → HasKept key port (without other es)
  kept_without now other gone [] at idle (slot, there, is, kept) = absurd (cc)
  kept_without now other gone (e ∷ es) at idle (slot, there, is, kept) =
      by (same_endpoint other e.0) (same_endpoint key e.0) refl refl at there
      (λ h j. kept_without now other gone es h idle (slot, j, is, kept))
    where
      by : (a b : Bool) → same_endpoint other e.0 ≡ a → same_endpoint key e.0 ≡ b
          → (if a then Some e.1 else slot_of other es) ≡ Some gone
          → (if b then Some e.1 else slot_of key es) ≡ Some slot
          → (slot_of other es ≡ Some gone → slot_of key es ≡ Some slot → HasKept key port (without other es))
          → HasKept key port (without other (e ∷ es))
      by true true p q at there rest =
          let s : gone ≡ slot = (let a : e.1 ≡ gone = cc in let b : e.1 ≡ slot = cc in sym a ∙ b) in
          let live : is_idle now (other, gone) ≡ false =
          kept_live now other gone (ap (λ (x : Slot). x.phase) s ∙ kept) in
          absurd (cc)
      by true false p q at there rest = rw p (slot, there, is, kept)
      by false true p q at there rest = rw (p, q) (slot, there, is, kept)
      by false false p q at there rest = rw (p, q) (rest at there)

  kept_without_idle : (now : ℕ) (es : Forwards) → HasKept key port es → HasKept key port (without_idle now es)
  kept_without_idle now [] (slot, there, is, kept) = absurd (cc)
  kept_without_idle now (e ∷ es) (slot, there, is, kept) =
      by (is_idle now e) (same_endpoint key e.0) refl refl there
      (λ h. kept_without_idle now es (slot, h, is, kept))
    where
      by : (a b : Bool) → is_idle now e ≡ a → same_endpoint key e.0 ≡ b
          → (if b then Some e.1 else slot_of key es) ≡ Some slot
          → (slot_of key es ≡ Some slot → HasKept key port (without_idle now es))
          → HasKept key port (without_idle now (e ∷ es))
      by true true p q there rest =
          let s : e.1 ≡ slot = cc in
          let live : is_idle now e ≡ false = kept_live now e.0 e.1 (ap (λ (x : Slot). x.phase) s ∙ kept) in
          absurd (cc)
      by true false p q there rest = rw p (slot, there, is, kept)
      by false true p q there rest = rw (p, q) (slot, there, is, kept)
      by false false p q there rest = rw (p, q) (rest there)

  kept_more : (other : Endpoint) (new : Slot) (es : Forwards) → HasKept key port es
      → HasKept key port (es ++ (other, new) ∷ [])
  kept_more other new [] (slot, there, is, kept) = absurd (cc)
  kept_more other new (e ∷ es) (slot, there, is, kept) =
      by (same_endpoint key e.0) refl there (λ h. kept_more other new es (slot, h, is, kept))
    where
      by : (b : Bool) → same_endpoint key e.0 ≡ b → (if b then Some e.1 else slot_of key es) ≡ Some slot
          → (slot_of key es ≡ Some slot → HasKept key port (es ++ (other, new) ∷ []))
          → HasKept key port ((e ∷ es) ++ (other, new) ∷ [])
      by true q there rest = rw q (slot, there, is, kept)
      by false q there rest = rw q (rest there)

  pub kept_found : (other : Endpoint) (now : ℕ) (es : Forwards) (a : Option Slot) (b : Option (Endpoint × Slot))
      → slot_of other es ≡ a → HasKept key port es → HasKept key port (found other now es a b).1
  kept_found other now es (Some slot) b at has = by (is_idle now (other, slot)) refl
    where
      by : (t : Bool) → is_idle now (other, slot) ≡ t → HasKept key port (found other now es (Some slot) b).1
      by true q = rw q (kept_without now other slot es at q has)
      by false q = rw q (kept_refreshed other now es has)
  kept_found other now es None (Some e) at has = kept_without_idle now es has
  kept_found other now es None None at has = has

  pub kept_bound : (other : Endpoint) (new now : ℕ) (es : Forwards) (a : Option Slot) → HasKept key port es
      → HasKept key port (bound other new now es a).1
  kept_bound other new now es (Some slot) has = kept_refreshed other now es has
  kept_bound other new now es None has =
      kept_more other (record { port = new; last = now; phase = Plain }) es has
