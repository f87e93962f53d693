-- What a packet's segment, noted in a mapping, leaves as it was.
use Rattle.std.proofs.Common.{◌≡◌, ℕ, Bool, true, false, [], ◌∷◌, refl, ap, ◌∙◌, subst, Option, Some, None}
use Rattle.std.specs.Prelude.{◌==◌, if◌then◌else◌}
use Rattle.nat_tables.specs.declared.entries.Endpoint.{Endpoint}
use Rattle.nat_tables.specs.declared.entries.PortKey.{PortKey}
use Rattle.nat_tables.specs.declared.slot.Slot.{Slot}
use Rattle.nat_tables.specs.declared.phase.Segment.{Segment}
use Rattle.nat_tables.specs.Keys.{same_endpoint}
use Rattle.nat_tables.specs.Forwards.{Forwards, slot_of, marked, mark, total}
use Rattle.nat_tables.proofs.Counting.{total_marked}
use Rattle.nat_box.specs.declared.place.Place.{Place}
use Rattle.nat_box.specs.declared.place.Noted.{Noted}
use Rattle.nat_box.specs.declared.value.NatValue.{NatValue}
use Rattle.nat_box.specs.declared.value.NatValue.TheVariants.{Dropped, Free, Mapped, Taken}
use Rattle.nat_box.specs.Settings.{Settings}
use Rattle.nat_box.specs.Nat.{followed_by, followed}
use Rattle.nat_box.specs.PortStanding.{maps, maps_for, bare, queued, queued_for, loose}
use Rattle.nat_box.specs.Emissions.{left_forward, WasMapped}
use Rattle.nat_box.proofs.Effects.{seen}

-- an endpoint has its port, and was used as late

abbrev pub HasPort : Endpoint → Slot → Forwards → Type 0
HasPort key slot es =
    (later : Slot) × (slot_of key es ≡ Some later) × (later.port ≡ slot.port) × (later.last ≡ slot.last)

slot_marked : (key other : Endpoint) (seconds : ℕ) (segment : Segment) (es : Forwards) (slot : Slot)
    → slot_of other es ≡ Some slot → HasPort other slot (mark key seconds segment es)
slot_marked key other seconds segment [] slot is = absurd (cc)
slot_marked key other seconds segment (e ∷ es) slot is =
    by (same_endpoint key e.0) (same_endpoint other e.0) refl refl is (slot_marked key other seconds segment es slot)
  where
    by : (a b : Bool) → same_endpoint key e.0 ≡ a → same_endpoint other e.0 ≡ b
        → (if b then Some e.1 else slot_of other es) ≡ Some slot
        → (slot_of other es ≡ Some slot → HasPort other slot (mark key seconds segment es))
        → HasPort other slot (mark key seconds segment (e ∷ es))
    by true true p q is rest =
        let s : e.1 ≡ slot = cc in rw (p, q)
        (marked seconds segment e.1, refl, ap (λ (x : Slot). x.port) s, ap (λ (x : Slot). x.last) s)
    by true false p q is rest = rw (p, q) (slot, is, refl, refl)
    by false true p q is rest = rw (p, q) (slot, is, refl, refl)
    by false false p q is rest = rw (p, q) (rest is)

pub slot_followed : (c : Option ℕ) (n : Noted) (es : Forwards) (other : Endpoint) (slot : Slot)
    → slot_of other es ≡ Some slot → HasPort other slot (followed_by c n es)
slot_followed None n es other slot is = (slot, is, refl, refl)
slot_followed (Some seconds) n es other slot is = by (n.source.protocol == 6)
  where
    by : (b : Bool) → HasPort other slot (if b then mark n.source seconds n.segment es else es)
    by true = slot_marked n.source other seconds n.segment es slot is
    by false = (slot, is, refl, refl)

pub was_followed : (s : Settings) (n : Noted) (x : NatValue) (old : Option Forwards) (key : Endpoint) (port : ℕ)
    → WasMapped (left_forward (Some x) old) key port → WasMapped (left_forward (Some (followed s n x)) old) key port
was_followed s n (Dropped d) old key port was = was
was_followed s n (Free pool) old key port was = was
was_followed s n (Mapped es) old key port (left, slot, same, there, is) =
    let e : left ≡ es = cc in
    let later =
    slot_followed s.closing n es key slot (subst (λ (x : Forwards). slot_of key x ≡ Some slot) e there) in
    (followed_by s.closing n es, later.0, refl, later.1, later.2 ∙ is)
was_followed s n (Taken bs) old key port was = was

-- the sums over the entries

pub total_followed : (w : Endpoint → ℕ → ℕ) (c : Option ℕ) (n : Noted) (es : Forwards)
    → total w (followed_by c n es) ≡ total w es
total_followed w None n es = refl
total_followed w (Some seconds) n es = by (n.source.protocol == 6)
  where
    by : (b : Bool) → total w (if b then mark n.source seconds n.segment es else es) ≡ total w es
    by true = total_marked w n.source seconds n.segment es
    by false = refl

pub seen_followed : (k : PortKey) (e : Endpoint) (s : Settings) (n : Noted) (x : NatValue) (p : Place) (m : Noted)
    → seen k e (followed s n x) p m ≡ seen k e x p m
seen_followed k e s n (Dropped d) p m = refl
seen_followed k e s n (Free pool) p m = refl
seen_followed k e s n (Mapped es) p m =
    let a = total_followed (maps k) s.closing n es in
    let b = total_followed (maps_for k e) s.closing n es in λ i. record {
      free = 0;
      mapped = a i;
      mapped_for = b i;
      bare = bare k p m;
      queued = queued k p m;
      queued_for = queued_for k e p m;
      loose = loose k p m;
      taken = 0;
      taken_for = 0;
    }
seen_followed k e s n (Taken bs) p m = refl
