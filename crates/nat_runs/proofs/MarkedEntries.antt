-- The mappings of a table after a segment was noted in one of them.
use Rattle.std.proofs.Common.{◌≡◌, ℕ, Bool, true, false, [], ◌∷◌, refl, sym, ap, ◌∙◌, inl, inr, Option, Some, None}
use Rattle.std.specs.Prelude.{◌==◌, if◌then◌else◌}
use Rattle.nat_tables.specs.declared.entries.Endpoint.{Endpoint}
use Rattle.nat_tables.specs.declared.slot.Slot.{Slot}
use Rattle.nat_tables.specs.declared.phase.Segment.{Segment}
use Rattle.nat_tables.specs.Keys.{same_endpoint}
use Rattle.nat_tables.specs.Forwards.{Forwards, marked, mark}
use Rattle.nat_tables.proofs.Counting.{same_is}
use Rattle.nat_box.specs.declared.place.Noted.{Noted}
use Rattle.nat_box.specs.Nat.{followed_by}
use Rattle.nat_box.specs.Sentences.{Has}
use Rattle.nat_runs.proofs.TableEntries.{WasOr}

-- The endpoint has the port that it had, used at the same time.
abbrev pub HasLike : Forwards → Endpoint → Slot → Type 0
HasLike es key slot = (new : Slot) × Has es (key, new) × (new.port ≡ slot.port) × (new.last ≡ slot.last)

marked_has : (own : Endpoint) (seconds : ℕ) (segment : Segment) (es : Forwards) (key : Endpoint) (slot : Slot)
    → Has es (key, slot) → HasLike (mark own seconds segment es) key slot
marked_has own seconds segment [] key slot h = absurd h
marked_has own seconds segment (x ∷ es) key slot h =
    by (same_endpoint own x.0) h (marked_has own seconds segment es key slot)
  where
    by : (b : Bool) → Has (x ∷ es) (key, slot) → (Has es (key, slot) → HasLike (mark own seconds segment es) key slot)
        → HasLike (if b then (x.0, marked seconds segment x.1) ∷ es else x ∷ mark own seconds segment es) key slot
    by true (inl p) rest = (
      marked seconds segment slot,
      inl (ap (λ (z : Endpoint × Slot). (z.0, marked seconds segment z.1)) p),
      refl,
      refl,
    )
    by true (inr h) rest = (slot, inr h, refl, refl)
    by false (inl p) rest = (slot, inl p, refl, refl)
    by false (inr h) rest = let r = rest h in (r.0, inr r.1, r.2, r.3)

-- and so it was before
marked_had : (own : Endpoint) (seconds : ℕ) (segment : Segment) (es : Forwards) (key : Endpoint) (slot : Slot)
    → Has (mark own seconds segment es) (key, slot) → (old : Slot) × Has es (key, old) × (slot.last ≡ old.last)
    × (slot.port ≡ old.port)
marked_had own seconds segment [] key slot h = absurd h
marked_had own seconds segment (x ∷ es) key slot h =
    by (same_endpoint own x.0) h (marked_had own seconds segment es key slot)
  where
    by : (b : Bool)
        → Has (if b then (x.0, marked seconds segment x.1) ∷ es else x ∷ mark own seconds segment es) (key, slot)
        → (Has (mark own seconds segment es) (key, slot)
        → (old : Slot) × Has es (key, old) × (slot.last ≡ old.last) × (slot.port ≡ old.port))
        → (old : Slot) × Has (x ∷ es) (key, old) × (slot.last ≡ old.last) × (slot.port ≡ old.port)
    by true (inl p) rest = (
      x.1,
      inl (ap (λ (z : Endpoint × Slot). (z.0, x.1)) p),
      ap (λ (z : Endpoint × Slot). z.1.last) (sym p),
      ap (λ (z : Endpoint × Slot). z.1.port) (sym p),
    )
    by true (inr h) rest = (slot, inr h, refl, refl)
    by false (inl p) rest = (slot, inl p, refl, refl)
    by false (inr h) rest = let r = rest h in (r.0, inr r.1, r.2, r.3)

marked_was : (own : Endpoint) (seconds : ℕ) (segment : Segment) (es : Forwards) (e : Endpoint × Slot)
    → Has (mark own seconds segment es) e → WasOr own e es
marked_was own seconds segment [] e h = absurd h
marked_was own seconds segment (x ∷ es) e h =
    by (same_endpoint own x.0) refl h (marked_was own seconds segment es e)
  where
    by : (b : Bool) → same_endpoint own x.0 ≡ b
        → Has (if b then (x.0, marked seconds segment x.1) ∷ es else x ∷ mark own seconds segment es) e
        → (Has (mark own seconds segment es) e → WasOr own e es) → WasOr own e (x ∷ es)
    by true q (inl p) rest = inr (same_is own x.0 q ∙ ap (λ (z : Endpoint × Slot). z.0) p)
    by true q (inr h) rest = inl (inr h)
    by false q (inl p) rest = inl (inl p)
    by false q (inr h) rest = on (rest h)
      where
        on : WasOr own e es → WasOr own e (x ∷ es)
        on (inl k) = inl (inr k)
        on (inr k) = inr k

-- The same where connections are followed, or not

pub followed_has : (c : Option ℕ) (n : Noted) (es : Forwards) (key : Endpoint) (slot : Slot) → Has es (key, slot)
    → HasLike (followed_by c n es) key slot
followed_has None n es key slot h = (slot, h, refl, refl)
followed_has (Some seconds) n es key slot h = by (n.source.protocol == 6)
  where
    by : (b : Bool) → HasLike (if b then mark n.source seconds n.segment es else es) key slot
    by true = marked_has n.source seconds n.segment es key slot h
    by false = (slot, h, refl, refl)

pub followed_had : (c : Option ℕ) (n : Noted) (es : Forwards) (key : Endpoint) (slot : Slot)
    → Has (followed_by c n es) (key, slot) → (old : Slot) × Has es (key, old) × (slot.last ≡ old.last)
    × (slot.port ≡ old.port)
followed_had None n es key slot h = (slot, h, refl, refl)
followed_had (Some seconds) n es key slot h = by (n.source.protocol == 6) h
  where
    by : (b : Bool) → Has (if b then mark n.source seconds n.segment es else es) (key, slot)
        → (old : Slot) × Has es (key, old) × (slot.last ≡ old.last) × (slot.port ≡ old.port)
    by true h = marked_had n.source seconds n.segment es key slot h
    by false h = (slot, h, refl, refl)

pub followed_was : (c : Option ℕ) (n : Noted) (es : Forwards) (e : Endpoint × Slot) → Has (followed_by c n es) e
    → WasOr n.source e es
followed_was None n es e h = inl h
followed_was (Some seconds) n es e h = by (n.source.protocol == 6) h
  where
    by : (b : Bool) → Has (if b then mark n.source seconds n.segment es else es) e → WasOr n.source e es
    by true h = marked_was n.source seconds n.segment es e h
    by false h = inl h

-- one change after another
pub was_before : (own : Endpoint) (e : Endpoint × Slot) (after es : Forwards) → WasOr own e after
    → (Has after e → WasOr own e es) → WasOr own e es
was_before own e after es (inl h) old = old h
was_before own e after es (inr q) old = inr q
