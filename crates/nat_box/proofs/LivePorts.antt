-- A port that a read of a forward table finds.
use Rattle.std.proofs.Common.{◌≡◌, ℕ, Bool, true, false, refl, Option, Some, None, arith}
use Rattle.std.specs.Prelude.{◌==◌, ◌&&◌, not, if◌then◌else◌}
use Rattle.std.proofs.lemmas.Bool.Decides.{nat_tests}
use Rattle.nat_tables.specs.declared.entries.Endpoint.{Endpoint}
use Rattle.nat_tables.specs.declared.slot.Slot.{Slot}
use Rattle.nat_tables.specs.Forwards.{Forwards, is_idle, slot_of, lives_at, lives}
use Rattle.nat_box.specs.Nat.{live_slot, live_port}

-- it is that of a live mapping
pub live_is : (now : ℕ) (key : Endpoint) (slot : Slot) (port : ℕ) → live_slot key now (Some slot) ≡ Some port
    → (is_idle now (key, slot) ≡ false) × (slot.port ≡ port)
live_is now key slot port e = by (is_idle now (key, slot)) refl e
  where
    by : (b : Bool) → is_idle now (key, slot) ≡ b → (if b then None else Some slot.port) ≡ Some port
        → (is_idle now (key, slot) ≡ false) × (slot.port ≡ port)
    by true q e = absurd (cc)
    by false q e = (q, cc)

pub live_lives : (key : Endpoint) (now port : ℕ) (es : Forwards) → live_port key now es ≡ Some port
    → lives key port now es ≡ true
live_lives key now port es = by (slot_of key es)
  where
    by : (o : Option Slot) → live_slot key now o ≡ Some port → lives_at key port now o ≡ true
    by None e = absurd (cc)
    by (Some slot) e =
        let is = live_is now key slot port e in
        let same : (slot.port == port) ≡ true = (let q : slot.port ≡ port = is.1 in grind (arith, nat_tests)) in
        rw (same, is.0) refl

-- and where it finds none, no mapping of the endpoint lives
pub none_lives : (key : Endpoint) (now : ℕ) (es : Forwards) → live_port key now es ≡ None → (port : ℕ)
    → lives key port now es ≡ false
none_lives key now es e port = by (slot_of key es) e
  where
    both : (same idle : Bool) (port : ℕ) → (if idle then None else Some port) ≡ None → (same && not idle) ≡ false
    both true true port e = refl
    both false true port e = refl
    both same false port e = absurd (cc)

    by : (o : Option Slot) → live_slot key now o ≡ None → lives_at key port now o ≡ false
    by None e = refl
    by (Some slot) e = both (slot.port == port) (is_idle now (key, slot)) slot.port e
