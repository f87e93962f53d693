-- Connections after a refresh, a removal and a new one.
use Rattle.std.proofs.Common.{◌≡◌, ℕ, Bool, true, false, [], ◌∷◌, ◌++◌, refl, ap, Option, Some, None}
use Rattle.std.specs.Prelude.{◌==◌, ◌&&◌, not, if◌then◌else◌}
use Rattle.std.proofs.lemmas.Bool.{eqb-true}
use Rattle.nat_tables.specs.declared.entries.Endpoint.{Endpoint}
use Rattle.nat_tables.specs.declared.slot.Slot.{Slot}
use Rattle.nat_tables.specs.declared.phase.Phase.{Phase}
use Rattle.nat_tables.specs.Keys.{same_endpoint}
use Rattle.nat_tables.specs.Forwards.{Forwards, slot_of, refreshed, refresh, in_phase, with_phase, without, is_idle}
use Rattle.nat_tables.specs.Forwards.{lives_at, Misses}
use Rattle.nat_tables.proofs.Counting.{same_is}

pub slot_refreshed : (key : Endpoint) (now : ℕ) (slot : Slot) (es : Forwards) → slot_of key es ≡ Some slot
    → slot_of key (refresh key now es) ≡ Some (refreshed now slot)
slot_refreshed key now slot [] is = absurd (cc)
slot_refreshed key now slot (e ∷ es) is = by (same_endpoint key e.0) refl is (slot_refreshed key now slot es)
  where
    by : (b : Bool) → same_endpoint key e.0 ≡ b → (if b then Some e.1 else slot_of key es) ≡ Some slot
        → (slot_of key es ≡ Some slot → slot_of key (refresh key now es) ≡ Some (refreshed now slot))
        → slot_of key (refresh key now (e ∷ es)) ≡ Some (refreshed now slot)
    by true q is rest = let s : e.1 ≡ slot = cc in rw (q, q) (ap (λ (t : Slot). Some (refreshed now t)) s)
    by false q is rest = rw (q, q) (rest is)

pub slot_in_phase : (key : Endpoint) (phase : Phase) (slot : Slot) (es : Forwards) → slot_of key es ≡ Some slot
    → slot_of key (with_phase key phase es) ≡ Some (in_phase phase slot)
slot_in_phase key phase slot [] is = absurd (cc)
slot_in_phase key phase slot (e ∷ es) is = by (same_endpoint key e.0) refl is (slot_in_phase key phase slot es)
  where
    by : (b : Bool) → same_endpoint key e.0 ≡ b → (if b then Some e.1 else slot_of key es) ≡ Some slot
        → (slot_of key es ≡ Some slot → slot_of key (with_phase key phase es) ≡ Some (in_phase phase slot))
        → slot_of key (with_phase key phase (e ∷ es)) ≡ Some (in_phase phase slot)
    by true q is rest = let s : e.1 ≡ slot = cc in rw (q, q) (ap (λ (t : Slot). Some (in_phase phase t)) s)
    by false q is rest = rw (q, q) (rest is)

pub slot_appended : (key : Endpoint) (slot : Slot) (es : Forwards) → slot_of key es ≡ None
    → same_endpoint key key ≡ true → slot_of key (es ++ (key, slot) ∷ []) ≡ Some slot
slot_appended key slot [] is self = rw self refl
slot_appended key slot (e ∷ es) is self = by (same_endpoint key e.0) refl is (λ h. slot_appended key slot es h self)
  where
    by : (b : Bool) → same_endpoint key e.0 ≡ b → (if b then Some e.1 else slot_of key es) ≡ None
        → (slot_of key es ≡ None → slot_of key (es ++ (key, slot) ∷ []) ≡ Some slot)
        → slot_of key ((e ∷ es) ++ (key, slot) ∷ []) ≡ Some slot
    by true q is rest = absurd (cc)
    by false q is rest = rw q (rest is)

pub without_refreshed : (key : Endpoint) (now : ℕ) (es : Forwards) → without key (refresh key now es) ≡ without key es
without_refreshed key now [] = refl
without_refreshed key now (e ∷ es) = by (same_endpoint key e.0) refl (without_refreshed key now es)
  where
    by : (b : Bool) → same_endpoint key e.0 ≡ b → without key (refresh key now es) ≡ without key es
        → without key (refresh key now (e ∷ es)) ≡ without key (e ∷ es)
    by true q rest = rw (q, q) refl
    by false q rest = rw (q, q) (ap (λ (r : Forwards). e ∷ r) rest)

-- a client that no other connection is of
pub missed : (key : Endpoint) (es : Forwards) → Misses es key → slot_of key es ≡ None
missed key [] none = refl
missed key (e ∷ es) none = by (same_endpoint key e.0) refl (missed key es none.1)
  where
    by : (b : Bool) → same_endpoint key e.0 ≡ b → slot_of key es ≡ None → slot_of key (e ∷ es) ≡ None
    by true q rest =
        let k : key ≡ e.0 = same_is key e.0 q in
        let turned : same_endpoint e.0 key ≡ same_endpoint key e.0 = rw k refl in
        let no : same_endpoint e.0 key ≡ false = none.0 in absurd (cc)
    by false q rest = rw q rest

and_left : (a b : Bool) → (a && b) ≡ true → a ≡ true
and_left true b e = refl
and_left false b e = absurd (cc)

-- a connection that lives is of this backend
pub lives_there : (key : Endpoint) (backend now : ℕ) (es : Forwards) (o : Option Slot) → slot_of key es ≡ o
    → lives_at key backend now o ≡ true → (slot : Slot) × (slot_of key es ≡ Some slot) × (slot.port ≡ backend)
lives_there key backend now es None at is = absurd (cc)
lives_there key backend now es (Some slot) at is =
    (slot, at, eqb-true _ _ (and_left (slot.port == backend) (not (is_idle now (key, slot))) is))
