-- What a move leaves noted fits its fields.
use Rattle.std.proofs.Common.{◌≡◌, ℕ, ◌<◌, ◌≤◌, Bool, true, false, length, refl, arith, Option, Some, None}
use Rattle.nat_tables.specs.Forwards.{Forwards, is_idle, slot_of, first_idle, found_there, found, bound, lives, port_of}
use Rattle.nat_tables.specs.Forwards.{AreMappings, lives_at}
use Rattle.nat_tables.proofs.Keeping.{may_slot, may_idle}
use Rattle.nat_tables.specs.declared.entries.Endpoint.{Endpoint}
use Rattle.nat_tables.specs.declared.slot.Slot.{Slot}
use Rattle.balancer_box.specs.declared.place.Place.{Place}
use Rattle.balancer_box.specs.declared.place.Place.TheVariants.{HearsTime, FindsConnection, LowersIdle, RaisesLeast}
use Rattle.balancer_box.specs.declared.place.Place.TheVariants.{Connects, LowersSpare, ChecksConnection, CountsDrop}
use Rattle.balancer_box.specs.declared.place.Place.TheVariants.{SendsOut, LowersVain, Ends}
use Rattle.balancer_box.specs.Connections.{has_ended}
use Rattle.balancer_box.specs.declared.place.Class.{Class}
use Rattle.balancer_box.specs.declared.place.Class.TheVariants.{Client, Answer}
use Rattle.balancer_box.specs.declared.place.Noted.{Noted}
use Rattle.balancer_box.specs.declared.value.BalancerValue.{BalancerValue}
use Rattle.balancer_box.specs.declared.value.BalancerValue.TheVariants.{Dropped, Loaded, Connected}
use Rattle.balancer_box.specs.Loads.{least_loaded}
use Rattle.balancer_box.specs.Settings.{Settings}
use Rattle.balancer_box.specs.Balancer.{begins, goes_to, after_find, after_bind, after_check, touched}
use Rattle.balancer_box.specs.Balancer.{ends, after_idle, gives_way, met, met_there, met_by, new_slot, gives_up}
use Rattle.balancer_box.specs.Balancer.{connected_by, checked_there, checked_by, finds, connects, checks}
use Rattle.balancer_box.specs.Balancer.{after_time, told, MayConnect, Fits}
use Rattle.balancer_box.specs.Noting.{IsNoted}
use Rattle.balancer_box.proofs.LoadLemmas.{least_below}

module _ (backends : ℕ) where
  with_backend : (n : Noted) (b : ℕ) → b < backends → IsNoted backends n → IsNoted backends (record n { backend = b })
  with_backend n b low is =
      record { protocol = is.protocol; address = is.address; port = is.port; backend = low; spare = is.spare }

  with_spare : (n : Noted) (b : ℕ) → b < backends → IsNoted backends n → IsNoted backends (record n { spare = b })
  with_spare n b low is =
      record { protocol = is.protocol; address = is.address; port = is.port; backend = is.backend; spare = low }

  with_both : (n : Noted) (b c : ℕ) → b < backends → c < backends → IsNoted backends n
      → IsNoted backends (record n { backend = b; spare = c })
  with_both n b c low less is =
      record { protocol = is.protocol; address = is.address; port = is.port; backend = low; spare = less }

  with_reason : (n : Noted) (x : ℕ) → IsNoted backends n → IsNoted backends (record n { reason = x })
  with_reason n x is =
      record { protocol = is.protocol; address = is.address; port = is.port; backend = is.backend; spare = is.spare }

  with_time : (n : Noted) (x : ℕ) → IsNoted backends n → IsNoted backends (record n { time = x })
  with_time n x is =
      record { protocol = is.protocol; address = is.address; port = is.port; backend = is.backend; spare = is.spare }

  begins_noted : (n : Noted) (b : Bool) → IsNoted backends n → IsNoted backends (begins n b).noted
  begins_noted n true is = with_reason n 7 is
  begins_noted n false is = is

  goes_noted : (n : Noted) (r : Bool) (b : ℕ) → b < backends → IsNoted backends n
      → IsNoted backends (goes_to n r b).noted
  goes_noted n true b low is = with_both n b b low low is
  goes_noted n false b low is = with_backend n b low is

  check_noted : (n : Noted) (b : Bool) → IsNoted backends n → IsNoted backends (after_check n b).noted
  check_noted n true is = goes_noted n n.resets n.backend is.backend is
  check_noted n false is = with_reason n 7 is

module _ (s : Settings) (v : ℕ) (n : Noted) (is : IsNoted (length s.backends) n) (es : Forwards)
    (all : AreMappings (MayConnect s v) es) where
  there_noted : (slot : Slot) (idle : Bool) → slot_of n.client es ≡ Some slot
      → IsNoted (length s.backends) (after_find n (found_there n.client n.time es slot idle).0).noted
  there_noted slot true at =
      let m = may_slot (MayConnect s v) n.client slot es at all in with_spare (length s.backends) n slot.port m.2 is
  there_noted slot false at =
      let m = may_slot (MayConnect s v) n.client slot es at all in
      goes_noted (length s.backends) n n.resets slot.port m.2 is

  found_noted : (a : Option Slot) (b : Option (Endpoint × Slot)) → slot_of n.client es ≡ a → first_idle n.time es ≡ b
      → IsNoted (length s.backends) (after_find n (found n.client n.time es a b).0).noted
  found_noted (Some slot) b at first = there_noted slot (is_idle n.time (n.client, slot)) at
  found_noted None (Some gone) at first =
      let m = may_idle (MayConnect s v) n.time gone es first all in
      with_spare (length s.backends) n (port_of gone).port m.2 is
  found_noted None None at first = begins_noted (length s.backends) n n.resets is

  bound_noted : (a : Option Slot) → slot_of n.client es ≡ a
      → IsNoted (length s.backends) (after_bind n (bound n.client n.backend n.time es a).0).noted
  bound_noted (Some slot) at =
      let m = may_slot (MayConnect s v) n.client slot es at all in
      with_both (length s.backends) n slot.port n.backend m.2 is.backend is
  bound_noted None at = is

  idle_noted : (backend : ℕ) (b : Bool) → backend < length s.backends
      → IsNoted (length s.backends) (after_idle n backend b).noted
  idle_noted backend true low = begins_noted (length s.backends) n n.resets is
  idle_noted backend false low = with_spare (length s.backends) n backend low is

  port_low : (slot : Slot) → slot_of n.client es ≡ Some slot → slot.port < length s.backends
  port_low slot at = (may_slot (MayConnect s v) n.client slot es at all).2

  finds_noted : (c : Option ℕ) → IsNoted (length s.backends) (finds c n es).1.noted
  finds_noted None = found_noted (slot_of n.client es) (first_idle n.time es) refl refl
  finds_noted (Some seconds) = by (slot_of n.client es) (first_idle n.time es) refl refl
    where
      met_noted : (slot : Slot) (b : Bool) → slot_of n.client es ≡ Some slot
          → IsNoted (length s.backends) (met seconds n es slot b).1.noted
      met_noted slot true at = begins_noted (length s.backends) n n.resets is
      met_noted slot false at =
          goes_noted (length s.backends) n (ends seconds n slot) slot.port (port_low slot at) is

      at_slot : (slot : Slot) (b : Bool) → slot_of n.client es ≡ Some slot
          → IsNoted (length s.backends) (met_there seconds n es slot b).1.noted
      at_slot slot true at = idle_noted slot.port (has_ended slot.phase) (port_low slot at)
      at_slot slot false at = met_noted slot (gives_way n slot) at

      by : (o : Option Slot) (idle : Option (Endpoint × Slot)) → slot_of n.client es ≡ o → first_idle n.time es ≡ idle
          → IsNoted (length s.backends) (met_by seconds n es o idle).1.noted
      by (Some slot) idle at first = at_slot slot (is_idle n.time (n.client, slot)) at
      by None (Some e) at first =
          let m = may_idle (MayConnect s v) n.time e es first all in idle_noted e.1.port (has_ended e.1.phase) m.2
      by None None at first = begins_noted (length s.backends) n n.resets is

  connects_noted : (c : Option ℕ) → IsNoted (length s.backends) (connects c n es).1.noted
  connects_noted None = bound_noted (slot_of n.client es) refl
  connects_noted (Some seconds) = by (slot_of n.client es) refl
    where
      given_up : (b : Bool) (backend : ℕ) → backend < length s.backends
          → IsNoted (length s.backends) (gives_up n b backend).noted
      given_up true backend low = with_both (length s.backends) n backend n.backend low is.backend is
      given_up false backend low = with_both (length s.backends) n backend n.backend low is.backend is

      by : (o : Option Slot) → slot_of n.client es ≡ o
          → IsNoted (length s.backends) (connected_by seconds n es o).1.noted
      by (Some slot) at = given_up (ends seconds n slot) slot.port (port_low slot at)
      by None at = goes_noted (length s.backends) n (ends seconds n (new_slot n)) n.backend is.backend is

  checks_noted : (c : Option ℕ) → IsNoted (length s.backends) (checks c n es).1.noted
  checks_noted None = check_noted (length s.backends) n (lives n.client n.backend n.time es) is
  checks_noted (Some seconds) = by (slot_of n.client es)
    where
      at_slot : (slot : Slot) (b : Bool) → IsNoted (length s.backends) (checked_there seconds n es slot b).1.noted
      at_slot slot true = goes_noted (length s.backends) n (ends seconds n slot) n.backend is.backend is
      at_slot slot false = with_reason (length s.backends) n 7 is

      by : (o : Option Slot) → IsNoted (length s.backends) (checked_by seconds n es o).1.noted
      by (Some slot) = at_slot slot (lives_at n.client n.backend n.time (Some slot))
      by None = with_reason (length s.backends) n 7 is

pub touched_noted : (s : Settings) (p : Place) (x : BalancerValue) (n : Noted) (v : ℕ) → 1 ≤ length s.backends
    → IsNoted (length s.backends) n → Fits s v x → IsNoted (length s.backends) (touched s.closing p x n).1.noted
touched_noted s HearsTime x n v some is fits = is
touched_noted s FindsConnection (Dropped d) n v some is fits = is
touched_noted s FindsConnection (Loaded loads) n v some is fits = is
touched_noted s FindsConnection (Connected es) n v some is fits =
    finds_noted s v n is es fits.2 s.closing
touched_noted s LowersIdle (Dropped d) n v some is fits = is
touched_noted s LowersIdle (Loaded loads) n v some is fits = begins_noted (length s.backends) n n.resets is
touched_noted s LowersIdle (Connected es) n v some is fits = is
touched_noted s RaisesLeast (Dropped d) n v some is fits = is
touched_noted s RaisesLeast (Loaded loads) n v some is fits =
    let low = least_below loads (omega (arith, fits.1)) in
    with_backend (length s.backends) n (least_loaded loads) (omega (arith, low, fits.1)) is
touched_noted s RaisesLeast (Connected es) n v some is fits = is
touched_noted s Connects (Dropped d) n v some is fits = is
touched_noted s Connects (Loaded loads) n v some is fits = is
touched_noted s Connects (Connected es) n v some is fits = connects_noted s v n is es fits.2 s.closing
touched_noted s LowersVain (Dropped d) n v some is fits = is
touched_noted s LowersSpare (Dropped d) n v some is fits = is
touched_noted s LowersVain (Loaded loads) n v some is fits = with_spare (length s.backends) n n.backend is.backend is
touched_noted s LowersSpare (Loaded loads) n v some is fits = is
touched_noted s LowersVain (Connected es) n v some is fits = is
touched_noted s LowersSpare (Connected es) n v some is fits = is
touched_noted s ChecksConnection (Dropped d) n v some is fits = is
touched_noted s ChecksConnection (Loaded loads) n v some is fits = is
touched_noted s ChecksConnection (Connected es) n v some is fits =
    checks_noted s v n is es fits.2 s.closing
touched_noted s CountsDrop (Dropped d) n v some is fits = is
touched_noted s CountsDrop (Loaded loads) n v some is fits = is
touched_noted s CountsDrop (Connected es) n v some is fits = is
touched_noted s SendsOut x n v some is fits = is
touched_noted s Ends x n v some is fits = is

time_noted : (backends : ℕ) (n : Noted) (c : Class) → IsNoted backends n → IsNoted backends (after_time n c).noted
time_noted backends n Client is = is
time_noted backends n Answer is = is

pub told_noted : (backends : ℕ) (p : Place) (a : ℕ) (n : Noted) → IsNoted backends n
    → IsNoted backends (told p a n).noted
told_noted backends HearsTime a n is = time_noted backends (record n { time = a }) n.class (with_time backends n a is)
told_noted backends FindsConnection a n is = is
told_noted backends LowersIdle a n is = is
told_noted backends RaisesLeast a n is = is
told_noted backends Connects a n is = is
told_noted backends LowersVain a n is = is
told_noted backends LowersSpare a n is = is
told_noted backends ChecksConnection a n is = is
told_noted backends CountsDrop a n is = is
told_noted backends SendsOut a n is = is
told_noted backends Ends a n is = is
