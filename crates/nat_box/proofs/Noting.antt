-- What a touch leaves noted fits its fields.
use Rattle.std.proofs.Common.{◌≡◌, ℕ, zero, suc, ◌%◌, ◌^◌, ◌<◌, Bool, true, false, List, [], ◌∷◌, length, refl, subst}
use Rattle.std.proofs.Common.{arith, Option, Some, None, inl, inr}
use Rattle.std.specs.Prelude.{◌==◌, slice_index}
use Rattle.std.specs.List.{remove}
use Rattle.nat_tables.specs.Ports.{Ports, PoolPorts, chosen, of_even, of_odd, is_even, reserved_of, reserve}
use Rattle.nat_tables.specs.Ports.{AreOfParity, ArePorts}
use Rattle.nat_tables.specs.Forwards.{Forwards, is_idle, slot_of, first_idle, found_there, found, bound, port_of}
use Rattle.nat_tables.specs.Forwards.{AreMappings}
use Rattle.nat_tables.proofs.Keeping.{may_slot, may_idle}
use Rattle.nat_box.specs.Places.{source_key, drawn_word, no_port}
use Rattle.nat_box.specs.Settings.{Settings}
use Rattle.nat_box.specs.Nat.{mapped, after_find, after_reserve, after_bind, touched, MayMap, Fits}
use Rattle.nat_box.specs.Nat.{touched_by}
use Rattle.nat_box.specs.Noting.{IsNoted}
use Rattle.nat_box.specs.LimitLaws.{Comes, touch_comes}
use Rattle.nat_box.specs.declared.place.Goes.{Goes}
use Rattle.nat_tables.specs.declared.entries.Endpoint.{Endpoint}
use Rattle.nat_tables.specs.declared.entries.PortKey.{PortKey}
use Rattle.nat_tables.specs.declared.slot.Slot.{Slot}
use Rattle.nat_box.specs.declared.place.Place.{Place}
use Rattle.nat_box.specs.declared.place.Place.TheVariants.{HearsTime, FindsMapping, UnbindsFreed, GivesBackFreed}
use Rattle.nat_box.specs.declared.place.Place.TheVariants.{DrawsWord, ReservesPort, BindsPort, FindsOrBinds}
use Rattle.nat_box.specs.declared.place.Place.TheVariants.{UnbindsLost, GivesBackLost, FindsEndpoint, AsksIfLives}
use Rattle.nat_box.specs.declared.place.Place.TheVariants.{CountsDrop, SendsOut, Ends, FindsPort}
use Rattle.nat_box.specs.declared.place.Class.{Class}
use Rattle.nat_box.specs.declared.place.Class.TheVariants.{Outbound, Hairpin, Inbound, OutboundError}
use Rattle.nat_box.specs.declared.place.Noted.{Noted}
use Rattle.nat_box.specs.declared.value.NatValue.{NatValue}
use Rattle.nat_box.specs.declared.value.NatValue.TheVariants.{Dropped, Free, Mapped, Taken}

mapped_noted : (n : Noted) (c : Class) → IsNoted n → IsNoted (mapped n c).noted
mapped_noted n Outbound is = is
mapped_noted n Hairpin is = is
mapped_noted n Inbound is = is
mapped_noted n OutboundError is = is

with_port : (n : Noted) (p : ℕ) → p < 2 ^ 16 → IsNoted n → IsNoted (record n { port = p })
with_port n p low is = record {
  protocol = is.protocol;
  address = is.address;
  source_port = is.source_port;
  dest_port = is.dest_port;
  port = low;
  freed_protocol = is.freed_protocol;
  freed_port = is.freed_port;
  target_protocol = is.target_protocol;
  target_address = is.target_address;
  target_port = is.target_port;
}

with_freed : (n : Noted) (f : PortKey) → f.protocol < 2 ^ 8 → f.port < 2 ^ 16 → IsNoted n
    → IsNoted (record n { freed = f })
with_freed n f protocol low is = record {
  protocol = is.protocol;
  address = is.address;
  source_port = is.source_port;
  dest_port = is.dest_port;
  port = is.port;
  freed_protocol = protocol;
  freed_port = low;
  target_protocol = is.target_protocol;
  target_address = is.target_address;
  target_port = is.target_port;
}

with_word : (n : Noted) (x : ℕ) → IsNoted n → IsNoted (record n { word_or_reason = x })
with_word n x is = record {
  protocol = is.protocol;
  address = is.address;
  source_port = is.source_port;
  dest_port = is.dest_port;
  port = is.port;
  freed_protocol = is.freed_protocol;
  freed_port = is.freed_port;
  target_protocol = is.target_protocol;
  target_address = is.target_address;
  target_port = is.target_port;
}

module _ (s : Settings) (v : ℕ) (n : Noted) (is : IsNoted n) (es : Forwards) (all : AreMappings (MayMap s v) es) where
  there_noted : (slot : Slot) (idle : Bool) → slot_of n.source es ≡ Some slot
      → IsNoted (after_find n (found_there n.source n.time es slot idle).0).noted
  there_noted slot true at =
      let m = may_slot (MayMap s v) n.source slot es at all in with_freed n (port_of (n.source, slot)) m.1 m.2 is
  there_noted slot false at =
      let m = may_slot (MayMap s v) n.source slot es at all in
      mapped_noted (record n { port = slot.port }) n.class (with_port n slot.port m.2 is)

  found_noted : (a : Option Slot) (b : Option (Endpoint × Slot)) → slot_of n.source es ≡ a → first_idle n.time es ≡ b
      → IsNoted (after_find n (found n.source n.time es a b).0).noted
  found_noted (Some slot) b at first = there_noted slot (is_idle n.time (n.source, slot)) at
  found_noted None (Some gone) at first =
      let m = may_idle (MayMap s v) n.time gone es first all in with_freed n (port_of gone) m.1 m.2 is
  found_noted None None at first = is

  bound_noted : (a : Option Slot) → slot_of n.source es ≡ a
      → IsNoted (after_bind n (bound n.source n.port n.time es a).0).noted
  bound_noted (Some slot) at =
      let m = may_slot (MayMap s v) n.source slot es at all in
      with_freed (record n { port = slot.port }) (source_key n) is.protocol is.port (with_port n slot.port m.2 is)
  bound_noted None at = mapped_noted n n.class is

small_at : (r i : ℕ) (ps : List ℕ) → AreOfParity r ps → slice_index ps i < 2 ^ 16
small_at r zero [] small = omega arith
small_at r (suc i) [] small = omega arith
small_at r zero (p ∷ ps) small = small.0
small_at r (suc i) (p ∷ ps) small = small_at r i ps small.3

small_choice : (r draw : ℕ) (ps : List ℕ) (c : ℕ × List ℕ) → chosen draw ps ≡ Some c → AreOfParity r ps → c.0 < 2 ^ 16
small_choice r draw [] c is small = absurd (cc)
small_choice r draw (p ∷ ps) c is small =
    let at : ℕ = draw % length (p ∷ ps) in
    let same : (slice_index (p ∷ ps) at, remove (p ∷ ps) at) ≡ c = cc in
    subst (λ (c : ℕ × List ℕ). c.0 < 2 ^ 16) same (small_at r at (p ∷ ps) small)

small_even : (draw : ℕ) (ports : Ports) (a b : Option (ℕ × List ℕ)) → chosen draw ports.even ≡ a
    → chosen draw ports.odd ≡ b → AreOfParity 0 ports.even → AreOfParity 1 ports.odd → (p : ℕ)
    → (of_even ports a b).0 ≡ Some p → p < 2 ^ 16
small_even draw ports (Some c) b x y even odd p e =
    let l = small_choice 0 draw ports.even c x even in let q : c.0 ≡ p = cc in omega arith
small_even draw ports None (Some c) x y even odd p e =
    let l = small_choice 1 draw ports.odd c y odd in let q : c.0 ≡ p = cc in omega arith
small_even draw ports None None x y even odd p e = absurd (cc)

small_odd : (draw : ℕ) (ports : Ports) (a b : Option (ℕ × List ℕ)) → chosen draw ports.even ≡ a
    → chosen draw ports.odd ≡ b → AreOfParity 0 ports.even → AreOfParity 1 ports.odd → (p : ℕ)
    → (of_odd ports a b).0 ≡ Some p → p < 2 ^ 16
small_odd draw ports None (Some c) x y even odd p e =
    let l = small_choice 1 draw ports.odd c y odd in let q : c.0 ≡ p = cc in omega arith
small_odd draw ports (Some d) (Some c) x y even odd p e =
    let l = small_choice 1 draw ports.odd c y odd in let q : c.0 ≡ p = cc in omega arith
small_odd draw ports (Some c) None x y even odd p e =
    let l = small_choice 0 draw ports.even c x even in let q : c.0 ≡ p = cc in omega arith
small_odd draw ports None None x y even odd p e = absurd (cc)

small_of : (port draw : ℕ) (ports : Ports) → AreOfParity 0 ports.even → AreOfParity 1 ports.odd → (p : ℕ)
    → (reserved_of port draw ports).0 ≡ Some p → p < 2 ^ 16
small_of port draw ports even odd p = by (is_even port) refl
  where
    by : (b : Bool) → is_even port ≡ b → (reserved_of port draw ports).0 ≡ Some p → p < 2 ^ 16
    by true q = rw q (small_even draw ports (chosen draw ports.even) (chosen draw ports.odd) refl refl even odd p)
    by false q = rw q (small_odd draw ports (chosen draw ports.even) (chosen draw ports.odd) refl refl even odd p)

pub small_reserve : (protocol port draw : ℕ) (pool : PoolPorts) → ArePorts pool → (p : ℕ)
    → (reserve protocol port draw pool).0 ≡ Some p → p < 2 ^ 16
small_reserve protocol port draw pool small p = by (protocol == 6) (protocol == 17) refl refl
  where
    by : (b c : Bool) → (protocol == 6) ≡ b → (protocol == 17) ≡ c → (reserve protocol port draw pool).0 ≡ Some p
        → p < 2 ^ 16
    by true c x y = rw x (small_of port draw pool.tcp small.0 small.1 p)
    by false true x y = rw (x, y) (small_of port draw pool.udp small.2 small.3 p)
    by false false x y = rw (x, y) (λ e. absurd (cc))

reserved_noted : (n : Noted) (o : Option ℕ) → IsNoted n → ((p : ℕ) → o ≡ Some p → p < 2 ^ 16)
    → IsNoted (after_reserve n o).noted
reserved_noted n (Some p) is small = with_port n p (small p refl) is
reserved_noted n None is small = with_word n 8 is

plain_noted : (s : Settings) (p : Place) (x : NatValue) (n : Noted) (v : ℕ) → IsNoted n → Fits s v x
    → IsNoted (touched p x n).1.noted
plain_noted s HearsTime x n v is fits = is
plain_noted s FindsMapping (Dropped d) n v is fits = is
plain_noted s FindsMapping (Free pool) n v is fits = is
plain_noted s FindsMapping (Mapped es) n v is fits =
    found_noted s v n is es fits.2 (slot_of n.source es) (first_idle n.time es) refl refl
plain_noted s FindsMapping (Taken bs) n v is fits = is
plain_noted s UnbindsFreed (Dropped d) n v is fits = is
plain_noted s UnbindsFreed (Free pool) n v is fits = is
plain_noted s UnbindsFreed (Mapped es) n v is fits = is
plain_noted s UnbindsFreed (Taken bs) n v is fits = is
plain_noted s GivesBackFreed (Dropped d) n v is fits = is
plain_noted s GivesBackFreed (Free pool) n v is fits = is
plain_noted s GivesBackFreed (Mapped es) n v is fits = is
plain_noted s GivesBackFreed (Taken bs) n v is fits = is
plain_noted s DrawsWord x n v is fits = is
plain_noted s ReservesPort (Dropped d) n v is fits = is
plain_noted s ReservesPort (Free pool) n v is fits =
    reserved_noted n (reserve n.source.protocol n.source.port (drawn_word n) pool).0 is
    (small_reserve n.source.protocol n.source.port (drawn_word n) pool fits.3)
plain_noted s ReservesPort (Mapped es) n v is fits = is
plain_noted s ReservesPort (Taken bs) n v is fits = is
plain_noted s BindsPort (Dropped d) n v is fits = is
plain_noted s BindsPort (Free pool) n v is fits = is
plain_noted s BindsPort (Mapped es) n v is fits = is
plain_noted s BindsPort (Taken bs) n v is fits = is
plain_noted s FindsOrBinds (Dropped d) n v is fits = is
plain_noted s FindsOrBinds (Free pool) n v is fits = is
plain_noted s FindsOrBinds (Mapped es) n v is fits = bound_noted s v n is es fits.2 (slot_of n.source es) refl
plain_noted s FindsOrBinds (Taken bs) n v is fits = is
plain_noted s UnbindsLost (Dropped d) n v is fits = is
plain_noted s UnbindsLost (Free pool) n v is fits = is
plain_noted s UnbindsLost (Mapped es) n v is fits = is
plain_noted s UnbindsLost (Taken bs) n v is fits = is
plain_noted s GivesBackLost (Dropped d) n v is fits = is
plain_noted s GivesBackLost (Free pool) n v is fits = mapped_noted n n.class is
plain_noted s GivesBackLost (Mapped es) n v is fits = is
plain_noted s GivesBackLost (Taken bs) n v is fits = is
plain_noted s FindsEndpoint x n v is fits = is
plain_noted s AsksIfLives x n v is fits = is
plain_noted s CountsDrop (Dropped d) n v is fits = is
plain_noted s CountsDrop (Free pool) n v is fits = is
plain_noted s CountsDrop (Mapped es) n v is fits = is
plain_noted s CountsDrop (Taken bs) n v is fits = is
plain_noted s SendsOut x n v is fits = is
plain_noted s Ends x n v is fits = is
plain_noted s FindsPort x n v is fits = is

limited_noted : (s : Settings) (p : Place) (x : NatValue) (n : Noted) (v : ℕ) (r : NatValue × Goes) → IsNoted n
    → Fits s v x → Comes s.limit p x n r → IsNoted r.1.noted
limited_noted s p x n v r is fits (inl agrees) = rw agrees.same (plain_noted s p x n v is fits)
limited_noted s p x n v r is fits (inr (inl (inl up))) =
    let f : Fits s v (Mapped up.es) = subst (Fits s v) up.value fits in
    let m = may_slot (MayMap s v) up.gone.0 up.gone.1 up.es up.there f.2 in
    rw up.goes_on (with_freed n (port_of up.gone) m.1 m.2 is)
limited_noted s p x n v r is fits (inr (inl (inr full))) = rw full.goes_on (with_word n 10 is)
limited_noted s p x n v r is fits (inr (inr (inl refused))) =
    rw refused.goes_on
    (with_freed (record n { port = no_port }) (source_key n) is.protocol is.port (with_port n 0 (omega arith) is))
limited_noted s p x n v r is fits (inr (inr (inr late))) = rw late.goes_on (with_word n 10 is)

pub touched_noted : (s : Settings) (p : Place) (x : NatValue) (n : Noted) (v : ℕ) → IsNoted n → Fits s v x
    → IsNoted (touched_by s.limit p x n).1.noted
touched_noted s p x n v is fits =
    limited_noted s p x n v (touched_by s.limit p x n) is fits (touch_comes s v s.limit p x n fits)
