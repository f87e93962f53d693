-- Each move brings a packet nearer to its end: which variable it touches, and how many moves are left.
use Rattle.std.specs.Prelude.{◌≡◌, ℕ, ◌+◌, ◌<◌, ◌≤◌, Bool, true, false, Option, Some, None, Result, Ok, Err, refl, []}
use Rattle.std.proofs.Common.{arith, ap}
use Rattle.packet_headers.specs.declared.flow.Flow.{Flow}
use Rattle.packet_headers.specs.declared.flow.NotFlow.{NotFlow}
use Rattle.plain_machine.specs.declared.local.Move.TheVariants.{Access, Read, Clock, Draw, Emit, End}
use Rattle.nat_tables.specs.declared.entries.Endpoint.{Endpoint}
use Rattle.nat_tables.specs.declared.slot.Slot.{Slot}
use Rattle.nat_tables.specs.declared.entries.Find.{Find}
use Rattle.nat_tables.specs.declared.entries.Find.TheVariants.{Live, Absent}
use Rattle.nat_tables.specs.declared.entries.Bind.{Bind}
use Rattle.nat_tables.specs.declared.entries.Bind.TheVariants.{Bound, Other}
use Rattle.nat_tables.specs.Forwards.{Forwards, is_idle, slot_of, first_idle, find_or_bind, lives_at}
use Rattle.balancer_box.specs.declared.place.Place.{Place}
use Rattle.balancer_box.specs.declared.place.Place.TheVariants.{HearsTime, FindsConnection, LowersIdle, RaisesLeast}
use Rattle.balancer_box.specs.declared.place.Place.TheVariants.{Connects, LowersSpare, ChecksConnection, CountsDrop}
use Rattle.balancer_box.specs.declared.place.Place.TheVariants.{SendsOut, LowersVain, Ends}
use Rattle.balancer_box.specs.declared.place.Class.{Class}
use Rattle.balancer_box.specs.declared.place.Class.TheVariants.{Client, Answer}
use Rattle.balancer_box.specs.declared.place.Tells.{Tells}
use Rattle.balancer_box.specs.declared.place.Noted.{Noted}
use Rattle.balancer_box.specs.declared.value.BalancerValue.{BalancerValue}
use Rattle.balancer_box.specs.declared.value.BalancerValue.TheVariants.{Dropped, Loaded, Connected}
use Rattle.balancer_box.specs.declared.place.Goes.{Goes}
use Rattle.balancer_box.specs.Connections.{find_connection, check_connection, has_ended}
use Rattle.balancer_box.specs.Places.{place_numbered}
use Rattle.balancer_box.specs.Settings.{Settings}
use Rattle.balancer_box.specs.Balancer.{table_of, next_move, moves_left, is_virtual, backend_at, begun_answer, begun}
use Rattle.balancer_box.specs.Balancer.{begins, goes_to, after_find, after_bind, after_check, touched, after_time, told}
use Rattle.balancer_box.specs.Balancer.{local_at, ends, after_idle, gives_way, met, met_there, met_by, new_slot}
use Rattle.balancer_box.specs.Balancer.{gives_up, connected_by, checked_there, checked_by, finds, connects, checks}
use Rattle.balancer_box.specs.Balancer.{tells_by}
use Rattle.balancer_box.specs.Noting.{place_again}

-- which variable is touched

abbrev pub var_of : Settings → Place → Noted → ℕ
var_of s HearsTime n = 0
var_of s FindsConnection n = table_of s n.client
var_of s LowersIdle n = 1
var_of s RaisesLeast n = 1
var_of s Connects n = table_of s n.client
var_of s LowersVain n = 1
var_of s LowersSpare n = 1
var_of s ChecksConnection n = table_of s n.client
var_of s CountsDrop n = 0
var_of s SendsOut n = 0
var_of s Ends n = 0

pub touches_it : (s : Settings) (p : Place) (n : Noted) (v : ℕ) → next_move s p n ≡ Access v → var_of s p n ≡ v
touches_it s HearsTime n v e = absurd (cc)
touches_it s FindsConnection n v e = cc
touches_it s LowersIdle n v e = cc
touches_it s RaisesLeast n v e = cc
touches_it s Connects n v e = cc
touches_it s LowersVain n v e = cc
touches_it s LowersSpare n v e = cc
touches_it s ChecksConnection n v e = cc
touches_it s CountsDrop n v e = cc
touches_it s SendsOut n v e = absurd (cc)
touches_it s Ends n v e = absurd (cc)

-- nothing is read
pub reads_none : (s : Settings) (p : Place) (n : Noted) (v : ℕ) → next_move s p n ≡ Read v → ⊥
reads_none s HearsTime n v e = absurd (cc)
reads_none s FindsConnection n v e = absurd (cc)
reads_none s LowersIdle n v e = absurd (cc)
reads_none s RaisesLeast n v e = absurd (cc)
reads_none s Connects n v e = absurd (cc)
reads_none s LowersVain n v e = absurd (cc)
reads_none s LowersSpare n v e = absurd (cc)
reads_none s ChecksConnection n v e = absurd (cc)
reads_none s CountsDrop n v e = absurd (cc)
reads_none s SendsOut n v e = absurd (cc)
reads_none s Ends n v e = absurd (cc)

pub draws_none : (s : Settings) (p : Place) (n : Noted) → next_move s p n ≡ Draw → ⊥
draws_none s HearsTime n e = absurd (cc)
draws_none s FindsConnection n e = absurd (cc)
draws_none s LowersIdle n e = absurd (cc)
draws_none s RaisesLeast n e = absurd (cc)
draws_none s Connects n e = absurd (cc)
draws_none s LowersVain n e = absurd (cc)
draws_none s LowersSpare n e = absurd (cc)
draws_none s ChecksConnection n e = absurd (cc)
draws_none s CountsDrop n e = absurd (cc)
draws_none s SendsOut n e = absurd (cc)
draws_none s Ends n e = absurd (cc)

pub below_all : (s : Settings) (p : Place) (n : Noted) → 1 ≤ s.shards → var_of s p n < 2 + s.shards
below_all s HearsTime n some = omega arith
below_all s FindsConnection n some = omega arith
below_all s LowersIdle n some = omega arith
below_all s RaisesLeast n some = omega arith
below_all s Connects n some = omega arith
below_all s LowersVain n some = omega arith
below_all s LowersSpare n some = omega arith
below_all s ChecksConnection n some = omega arith
below_all s CountsDrop n some = omega arith
below_all s SendsOut n some = omega arith
below_all s Ends n some = omega arith

-- Ranks fall

pub rank_at : (g : Goes) → moves_left (place_numbered (local_at g).at) ≡ moves_left g.place
rank_at g = ap moves_left (place_again g.place)

begins_falls : (n : Noted) (b : Bool) → moves_left (begins n b).place ≤ 5
begins_falls n true = omega arith
begins_falls n false = omega arith

goes_falls : (n : Noted) (b : Bool) (backend : ℕ) → moves_left (goes_to n b backend).place ≤ 2
goes_falls n true backend = omega arith
goes_falls n false backend = omega arith

find_falls : (n : Noted) (f : Find) → moves_left (after_find n f).place < 7
find_falls n (Live backend) = let a = goes_falls n n.resets backend in omega arith
find_falls n (Absent (Some idle)) = omega arith
find_falls n (Absent None) = let a = begins_falls n n.resets in omega arith

bind_falls : (n : Noted) (b : Bind) → moves_left (after_bind n b).place < 4
bind_falls n Bound = omega arith
bind_falls n (Other backend) = omega arith

check_falls : (n : Noted) (b : Bool) → moves_left (after_check n b).place < 3
check_falls n true = let a = goes_falls n n.resets n.backend in omega arith
check_falls n false = omega arith

idle_falls : (n : Noted) (backend : ℕ) (b : Bool) → moves_left (after_idle n backend b).place < 7
idle_falls n backend true = let a = begins_falls n n.resets in omega arith
idle_falls n backend false = omega arith

finds_falls : (c : Option ℕ) (n : Noted) (es : Forwards) → moves_left (finds c n es).1.place < 7
finds_falls None n es = find_falls n (find_connection n.resets n.client n.time es).0
finds_falls (Some seconds) n es = by (slot_of n.client es) (first_idle n.time es)
  where
    met_falls : (slot : Slot) (b : Bool) → moves_left (met seconds n es slot b).1.place < 7
    met_falls slot true = let a = begins_falls n n.resets in omega arith
    met_falls slot false = let a = goes_falls n (ends seconds n slot) slot.port in omega arith

    there_falls : (slot : Slot) (b : Bool) → moves_left (met_there seconds n es slot b).1.place < 7
    there_falls slot true = idle_falls n slot.port (has_ended slot.phase)
    there_falls slot false = met_falls slot (gives_way n slot)

    by : (o : Option Slot) (idle : Option (Endpoint × Slot)) → moves_left (met_by seconds n es o idle).1.place < 7
    by (Some slot) idle = there_falls slot (is_idle n.time (n.client, slot))
    by None (Some e) = idle_falls n e.1.port (has_ended e.1.phase)
    by None None = let a = begins_falls n n.resets in omega arith

connects_falls : (c : Option ℕ) (n : Noted) (es : Forwards) → moves_left (connects c n es).1.place < 4
connects_falls None n es = bind_falls n (find_or_bind n.client n.backend n.time es).0
connects_falls (Some seconds) n es = by (slot_of n.client es)
  where
    given_up : (b : Bool) (backend : ℕ) → moves_left (gives_up n b backend).place < 4
    given_up true backend = omega arith
    given_up false backend = omega arith

    by : (o : Option Slot) → moves_left (connected_by seconds n es o).1.place < 4
    by (Some slot) = given_up (ends seconds n slot) slot.port
    by None = let a = goes_falls n (ends seconds n (new_slot n)) n.backend in omega arith

checks_falls : (c : Option ℕ) (n : Noted) (es : Forwards) → moves_left (checks c n es).1.place < 3
checks_falls None n es = check_falls n (check_connection n.resets n.client n.backend n.time es).0
checks_falls (Some seconds) n es = by (slot_of n.client es)
  where
    there_falls : (slot : Slot) (b : Bool) → moves_left (checked_there seconds n es slot b).1.place < 3
    there_falls slot true = let a = goes_falls n (ends seconds n slot) n.backend in omega arith
    there_falls slot false = omega arith

    by : (o : Option Slot) → moves_left (checked_by seconds n es o).1.place < 3
    by (Some slot) = there_falls slot (lives_at n.client n.backend n.time (Some slot))
    by None = omega arith

pub touch_falls_at : (s : Settings) (p : Place) (x : BalancerValue) (n : Noted) (v : ℕ) → next_move s p n ≡ Access v
    → moves_left (touched s.closing p x n).1.place < moves_left p
touch_falls_at s HearsTime x n v e = absurd (cc)
touch_falls_at s FindsConnection (Dropped d) n v e = omega arith
touch_falls_at s FindsConnection (Loaded loads) n v e = omega arith
touch_falls_at s FindsConnection (Connected es) n v e = finds_falls s.closing n es
touch_falls_at s LowersIdle (Dropped d) n v e = omega arith
touch_falls_at s LowersIdle (Loaded loads) n v e = let a = begins_falls n n.resets in omega arith
touch_falls_at s LowersIdle (Connected es) n v e = omega arith
touch_falls_at s RaisesLeast (Dropped d) n v e = omega arith
touch_falls_at s RaisesLeast (Loaded loads) n v e = omega arith
touch_falls_at s RaisesLeast (Connected es) n v e = omega arith
touch_falls_at s Connects (Dropped d) n v e = omega arith
touch_falls_at s Connects (Loaded loads) n v e = omega arith
touch_falls_at s Connects (Connected es) n v e = connects_falls s.closing n es
touch_falls_at s LowersVain (Dropped d) n v e = omega arith
touch_falls_at s LowersSpare (Dropped d) n v e = omega arith
touch_falls_at s LowersVain (Loaded loads) n v e = omega arith
touch_falls_at s LowersSpare (Loaded loads) n v e = omega arith
touch_falls_at s LowersVain (Connected es) n v e = omega arith
touch_falls_at s LowersSpare (Connected es) n v e = omega arith
touch_falls_at s ChecksConnection (Dropped d) n v e = omega arith
touch_falls_at s ChecksConnection (Loaded loads) n v e = omega arith
touch_falls_at s ChecksConnection (Connected es) n v e = checks_falls s.closing n es
touch_falls_at s CountsDrop (Dropped d) n v e = omega arith
touch_falls_at s CountsDrop (Loaded loads) n v e = omega arith
touch_falls_at s CountsDrop (Connected es) n v e = omega arith
touch_falls_at s SendsOut x n v e = absurd (cc)
touch_falls_at s Ends x n v e = absurd (cc)

time_falls : (n : Noted) (c : Class) → moves_left (after_time n c).place < 8
time_falls n Client = omega arith
time_falls n Answer = omega arith

pub clock_falls_at : (s : Settings) (p : Place) (a : ℕ) (n : Noted) → next_move s p n ≡ Clock
    → moves_left (told p a n).place < moves_left p
clock_falls_at s HearsTime a n e = time_falls (record n { time = a }) n.class
clock_falls_at s FindsConnection a n e = absurd (cc)
clock_falls_at s LowersIdle a n e = absurd (cc)
clock_falls_at s RaisesLeast a n e = absurd (cc)
clock_falls_at s Connects a n e = absurd (cc)
clock_falls_at s LowersVain a n e = absurd (cc)
clock_falls_at s LowersSpare a n e = absurd (cc)
clock_falls_at s ChecksConnection a n e = absurd (cc)
clock_falls_at s CountsDrop a n e = absurd (cc)
clock_falls_at s SendsOut a n e = absurd (cc)
clock_falls_at s Ends a n e = absurd (cc)

pub emit_falls_at : (s : Settings) (p : Place) (n : Noted) → next_move s p n ≡ Emit → 0 < moves_left p
emit_falls_at s HearsTime n e = absurd (cc)
emit_falls_at s FindsConnection n e = absurd (cc)
emit_falls_at s LowersIdle n e = absurd (cc)
emit_falls_at s RaisesLeast n e = absurd (cc)
emit_falls_at s Connects n e = absurd (cc)
emit_falls_at s LowersVain n e = absurd (cc)
emit_falls_at s LowersSpare n e = absurd (cc)
emit_falls_at s ChecksConnection n e = absurd (cc)
emit_falls_at s CountsDrop n e = absurd (cc)
emit_falls_at s SendsOut n e = omega arith
emit_falls_at s Ends n e = absurd (cc)

pub ends_at : (s : Settings) (p : Place) (n : Noted) → moves_left p ≡ 0 → next_move s p n ≡ End
ends_at s HearsTime n e = absurd (omega arith)
ends_at s FindsConnection n e = absurd (omega arith)
ends_at s LowersIdle n e = absurd (omega arith)
ends_at s RaisesLeast n e = absurd (omega arith)
ends_at s Connects n e = absurd (omega arith)
ends_at s LowersVain n e = absurd (omega arith)
ends_at s LowersSpare n e = absurd (omega arith)
ends_at s ChecksConnection n e = absurd (omega arith)
ends_at s CountsDrop n e = absurd (omega arith)
ends_at s SendsOut n e = absurd (omega arith)
ends_at s Ends n e = refl

pub few_to_make : (s : Settings) (seen : Result Flow NotFlow) → moves_left (begun s seen).place ≤ 62
few_to_make s (Ok flow) = by (is_virtual s flow.dest flow.dest_port) refl
  where
    tells : Tells
    tells = tells_by s.closing flow.flags

    by_backend : (o : Option ℕ) → moves_left (begun_answer tells flow o).place ≤ 62
    by_backend (Some backend) = omega arith
    by_backend None = omega arith

    by : (b : Bool) → is_virtual s flow.dest flow.dest_port ≡ b → moves_left (begun s (Ok flow)).place ≤ 62
    by true q = rw q (omega arith)
    by false q = rw q (by_backend (backend_at s.backends flow.source flow.source_port))
few_to_make s (Err answer) = omega arith
