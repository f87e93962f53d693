-- Each move brings a packet nearer to its end: which variable it touches, and how many moves are left.
use Rattle.std.specs.Prelude.{◌≡◌, ℕ, ◌+◌, ◌-◌, ◌*◌, ◌<◌, ◌≤◌, Bool, true, false, [], Option, Some, None, Result, Ok}
use Rattle.std.specs.Prelude.{Err, refl}
use Rattle.std.proofs.Common.{arith, ap, inl, inr}
use Rattle.packet_headers.specs.declared.flow.Flow.{Flow}
use Rattle.packet_headers.specs.declared.flow.NotFlow.{NotFlow}
use Rattle.plain_machine.specs.declared.local.Move.TheVariants.{Access, Read, Clock, Draw, Emit, End}
use Rattle.nat_tables.specs.declared.entries.Endpoint.{Endpoint}
use Rattle.nat_tables.specs.declared.entries.Find.{Find}
use Rattle.nat_tables.specs.declared.entries.Find.TheVariants.{Live, Absent}
use Rattle.nat_tables.specs.declared.entries.Bind.{Bind}
use Rattle.nat_tables.specs.declared.entries.Bind.TheVariants.{Bound, Other}
use Rattle.nat_tables.specs.Ports.{reserve}
use Rattle.nat_tables.specs.Forwards.{find, find_or_bind, lives}
use Rattle.nat_tables.specs.Reverses.{endpoint_of}
use Rattle.nat_box.specs.declared.place.Place.{Place}
use Rattle.nat_box.specs.declared.place.Place.TheVariants.{HearsTime, FindsMapping, UnbindsFreed, GivesBackFreed}
use Rattle.nat_box.specs.declared.place.Place.TheVariants.{DrawsWord, ReservesPort, BindsPort, FindsOrBinds}
use Rattle.nat_box.specs.declared.place.Place.TheVariants.{UnbindsLost, GivesBackLost, FindsEndpoint, AsksIfLives}
use Rattle.nat_box.specs.declared.place.Place.TheVariants.{CountsDrop, SendsOut, Ends, FindsPort}
use Rattle.nat_box.specs.declared.place.Class.{Class}
use Rattle.nat_box.specs.declared.place.Class.TheVariants.{Outbound, Hairpin, Inbound, OutboundError}
use Rattle.nat_box.specs.declared.place.Noted.{Noted}
use Rattle.nat_box.specs.declared.seeing.Seen.{Seen}
use Rattle.nat_box.specs.declared.value.NatValue.{NatValue}
use Rattle.nat_box.specs.declared.value.NatValue.TheVariants.{Dropped, Free, Mapped, Taken}
use Rattle.nat_box.specs.Places.{place_numbered, source_key, dest_key, drawn_word}
use Rattle.nat_box.specs.declared.place.Goes.{Goes}
use Rattle.nat_box.specs.Settings.{Settings}
use Rattle.nat_box.specs.Nat.{forward_table, reverse_table, next_move, moves_left, flow_in, class_in, begun_by}
use Rattle.nat_box.specs.Nat.{live_port, after_port, begun, mapped, after_find, after_reserve, after_bind, touched}
use Rattle.nat_box.specs.Nat.{after_endpoint, looked_by, looked, after_time, told, local_at}
use Rattle.nat_box.specs.LimitLaws.{Comes}
use Rattle.nat_box.specs.Noting.{place_again}

-- which variable is touched, and which read

abbrev pub var_of : Settings → Place → Noted → ℕ
var_of s HearsTime n = 0
var_of s FindsMapping n = forward_table s n.source
var_of s UnbindsFreed n = reverse_table s n.freed
var_of s GivesBackFreed n = 1
var_of s DrawsWord n = 0
var_of s ReservesPort n = 1
var_of s BindsPort n = reverse_table s (source_key n)
var_of s FindsOrBinds n = forward_table s n.source
var_of s UnbindsLost n = reverse_table s n.freed
var_of s GivesBackLost n = 1
var_of s FindsEndpoint n = reverse_table s (dest_key n)
var_of s AsksIfLives n = forward_table s n.target
var_of s CountsDrop n = 0
var_of s SendsOut n = 0
var_of s Ends n = 0
var_of s FindsPort n = forward_table s n.source

pub touches_it : (s : Settings) (p : Place) (n : Noted) (v : ℕ) → next_move s p n ≡ Access v → var_of s p n ≡ v
touches_it s HearsTime n v e = absurd (cc)
touches_it s FindsMapping n v e = cc
touches_it s UnbindsFreed n v e = cc
touches_it s GivesBackFreed n v e = cc
touches_it s DrawsWord n v e = absurd (cc)
touches_it s ReservesPort n v e = cc
touches_it s BindsPort n v e = cc
touches_it s FindsOrBinds n v e = cc
touches_it s UnbindsLost n v e = cc
touches_it s GivesBackLost n v e = cc
touches_it s FindsEndpoint n v e = absurd (cc)
touches_it s AsksIfLives n v e = absurd (cc)
touches_it s CountsDrop n v e = cc
touches_it s SendsOut n v e = absurd (cc)
touches_it s Ends n v e = absurd (cc)
touches_it s FindsPort n v e = absurd (cc)

pub reads_it : (s : Settings) (p : Place) (n : Noted) (v : ℕ) → next_move s p n ≡ Read v → var_of s p n ≡ v
reads_it s HearsTime n v e = absurd (cc)
reads_it s FindsMapping n v e = absurd (cc)
reads_it s UnbindsFreed n v e = absurd (cc)
reads_it s GivesBackFreed n v e = absurd (cc)
reads_it s DrawsWord n v e = absurd (cc)
reads_it s ReservesPort n v e = absurd (cc)
reads_it s BindsPort n v e = absurd (cc)
reads_it s FindsOrBinds n v e = absurd (cc)
reads_it s UnbindsLost n v e = absurd (cc)
reads_it s GivesBackLost n v e = absurd (cc)
reads_it s FindsEndpoint n v e = cc
reads_it s AsksIfLives n v e = cc
reads_it s CountsDrop n v e = absurd (cc)
reads_it s SendsOut n v e = absurd (cc)
reads_it s Ends n v e = absurd (cc)
reads_it s FindsPort n v e = cc

pub below_all : (s : Settings) (p : Place) (n : Noted) → 1 ≤ s.shards → var_of s p n < 2 + 2 * s.shards
below_all s HearsTime n some = omega arith
below_all s FindsMapping n some = omega arith
below_all s UnbindsFreed n some = omega arith
below_all s GivesBackFreed n some = omega arith
below_all s DrawsWord n some = omega arith
below_all s ReservesPort n some = omega arith
below_all s BindsPort n some = omega arith
below_all s FindsOrBinds n some = omega arith
below_all s UnbindsLost n some = omega arith
below_all s GivesBackLost n some = omega arith
below_all s FindsEndpoint n some = omega arith
below_all s AsksIfLives n some = omega arith
below_all s CountsDrop n some = omega arith
below_all s SendsOut n some = omega arith
below_all s Ends n some = omega arith
below_all s FindsPort n some = omega arith

-- Ranks fall

pub rank_at : (g : Goes) → moves_left (place_numbered (local_at g).at) ≡ moves_left g.place
rank_at g = ap moves_left (place_again g.place)

mapped_falls : (n : Noted) (c : Class) → moves_left (mapped n c).place ≤ 3
mapped_falls n Outbound = omega arith
mapped_falls n Hairpin = omega arith
mapped_falls n Inbound = omega arith
mapped_falls n OutboundError = omega arith

find_falls : (n : Noted) (f : Find) → moves_left (after_find n f).place < 12
find_falls n (Live port) = let a = mapped_falls (record n { port = port }) n.class in omega arith
find_falls n (Absent (Some freed)) = omega arith
find_falls n (Absent None) = omega arith

reserve_falls : (n : Noted) (r : Option ℕ) → moves_left (after_reserve n r).place < 8
reserve_falls n (Some port) = omega arith
reserve_falls n None = omega arith

bind_falls : (n : Noted) (b : Bind) → moves_left (after_bind n b).place < 6
bind_falls n Bound = let a = mapped_falls n n.class in omega arith
bind_falls n (Other port) = omega arith

touch_falls_at : (s : Settings) (p : Place) (x : NatValue) (n : Noted) (v : ℕ) → next_move s p n ≡ Access v
    → moves_left (touched p x n).1.place < moves_left p
touch_falls_at s HearsTime x n v e = absurd (cc)
touch_falls_at s FindsMapping (Dropped d) n v e = omega arith
touch_falls_at s FindsMapping (Free pool) n v e = omega arith
touch_falls_at s FindsMapping (Mapped es) n v e = find_falls n (find n.source n.time es).0
touch_falls_at s FindsMapping (Taken bs) n v e = omega arith
touch_falls_at s UnbindsFreed (Dropped d) n v e = omega arith
touch_falls_at s UnbindsFreed (Free pool) n v e = omega arith
touch_falls_at s UnbindsFreed (Mapped es) n v e = omega arith
touch_falls_at s UnbindsFreed (Taken bs) n v e = omega arith
touch_falls_at s GivesBackFreed (Dropped d) n v e = omega arith
touch_falls_at s GivesBackFreed (Free pool) n v e = omega arith
touch_falls_at s GivesBackFreed (Mapped es) n v e = omega arith
touch_falls_at s GivesBackFreed (Taken bs) n v e = omega arith
touch_falls_at s DrawsWord x n v e = absurd (cc)
touch_falls_at s ReservesPort (Dropped d) n v e = omega arith
touch_falls_at s ReservesPort (Free pool) n v e =
    reserve_falls n (reserve n.source.protocol n.source.port (drawn_word n) pool).0
touch_falls_at s ReservesPort (Mapped es) n v e = omega arith
touch_falls_at s ReservesPort (Taken bs) n v e = omega arith
touch_falls_at s BindsPort (Dropped d) n v e = omega arith
touch_falls_at s BindsPort (Free pool) n v e = omega arith
touch_falls_at s BindsPort (Mapped es) n v e = omega arith
touch_falls_at s BindsPort (Taken bs) n v e = omega arith
touch_falls_at s FindsOrBinds (Dropped d) n v e = omega arith
touch_falls_at s FindsOrBinds (Free pool) n v e = omega arith
touch_falls_at s FindsOrBinds (Mapped es) n v e = bind_falls n (find_or_bind n.source n.port n.time es).0
touch_falls_at s FindsOrBinds (Taken bs) n v e = omega arith
touch_falls_at s UnbindsLost (Dropped d) n v e = omega arith
touch_falls_at s UnbindsLost (Free pool) n v e = omega arith
touch_falls_at s UnbindsLost (Mapped es) n v e = omega arith
touch_falls_at s UnbindsLost (Taken bs) n v e = omega arith
touch_falls_at s GivesBackLost (Dropped d) n v e = omega arith
touch_falls_at s GivesBackLost (Free pool) n v e = let a = mapped_falls n n.class in omega arith
touch_falls_at s GivesBackLost (Mapped es) n v e = omega arith
touch_falls_at s GivesBackLost (Taken bs) n v e = omega arith
touch_falls_at s FindsEndpoint x n v e = absurd (cc)
touch_falls_at s AsksIfLives x n v e = absurd (cc)
touch_falls_at s CountsDrop (Dropped d) n v e = omega arith
touch_falls_at s CountsDrop (Free pool) n v e = omega arith
touch_falls_at s CountsDrop (Mapped es) n v e = omega arith
touch_falls_at s CountsDrop (Taken bs) n v e = omega arith
touch_falls_at s SendsOut x n v e = absurd (cc)
touch_falls_at s Ends x n v e = absurd (cc)
touch_falls_at s FindsPort x n v e = absurd (cc)

-- by what comes of it where hosts have a limit
pub limited_falls : (s : Settings) (p : Place) (x : NatValue) (n : Noted) (v : ℕ) (r : NatValue × Goes)
    → next_move s p n ≡ Access v → Comes s.limit p x n r → moves_left r.1.place < moves_left p
limited_falls s p x n v r e (inl agrees) = rw agrees.same (touch_falls_at s p x n v e)
limited_falls s p x n v r e (inr (inl (inl up))) = rw (up.at, up.goes_on) (omega arith)
limited_falls s p x n v r e (inr (inl (inr full))) = rw (full.at, full.goes_on) (omega arith)
limited_falls s p x n v r e (inr (inr (inl refused))) = rw (refused.at, refused.goes_on) (omega arith)
limited_falls s p x n v r e (inr (inr (inr late))) = rw (late.at, late.goes_on) (omega arith)

endpoint_falls : (n : Noted) (o : Option Endpoint) → moves_left (after_endpoint n o).place < 3
endpoint_falls n (Some key) = omega arith
endpoint_falls n None = omega arith

lives_falls : (n : Noted) (b : Bool) → moves_left (looked_by n b).place < 2
lives_falls n true = omega arith
lives_falls n false = omega arith

port_falls : (n : Noted) (o : Option ℕ) → moves_left (after_port n o).place < 2
port_falls n (Some port) = omega arith
port_falls n None = omega arith

pub look_falls_at : (s : Settings) (p : Place) (x : NatValue) (n : Noted) (v : ℕ) → next_move s p n ≡ Read v
    → moves_left (looked p x n).place < moves_left p
look_falls_at s HearsTime x n v e = absurd (cc)
look_falls_at s FindsMapping x n v e = absurd (cc)
look_falls_at s UnbindsFreed x n v e = absurd (cc)
look_falls_at s GivesBackFreed x n v e = absurd (cc)
look_falls_at s DrawsWord x n v e = absurd (cc)
look_falls_at s ReservesPort x n v e = absurd (cc)
look_falls_at s BindsPort x n v e = absurd (cc)
look_falls_at s FindsOrBinds x n v e = absurd (cc)
look_falls_at s UnbindsLost x n v e = absurd (cc)
look_falls_at s GivesBackLost x n v e = absurd (cc)
look_falls_at s FindsEndpoint (Dropped d) n v e = omega arith
look_falls_at s FindsEndpoint (Free pool) n v e = omega arith
look_falls_at s FindsEndpoint (Mapped es) n v e = omega arith
look_falls_at s FindsEndpoint (Taken bs) n v e = endpoint_falls n (endpoint_of (dest_key n) bs)
look_falls_at s AsksIfLives (Dropped d) n v e = omega arith
look_falls_at s AsksIfLives (Free pool) n v e = omega arith
look_falls_at s AsksIfLives (Mapped es) n v e = lives_falls n (lives n.target n.dest_port n.time es)
look_falls_at s AsksIfLives (Taken bs) n v e = omega arith
look_falls_at s CountsDrop x n v e = absurd (cc)
look_falls_at s SendsOut x n v e = absurd (cc)
look_falls_at s Ends x n v e = absurd (cc)
look_falls_at s FindsPort (Dropped d) n v e = omega arith
look_falls_at s FindsPort (Free pool) n v e = omega arith
look_falls_at s FindsPort (Mapped es) n v e = port_falls n (live_port n.source n.time es)
look_falls_at s FindsPort (Taken bs) n v e = omega arith

time_falls : (n : Noted) (c : Class) → moves_left (after_time n c).place < 13
time_falls n Outbound = omega arith
time_falls n Hairpin = omega arith
time_falls n Inbound = omega arith
time_falls n OutboundError = omega arith

pub clock_falls_at : (s : Settings) (p : Place) (a : ℕ) (n : Noted) → next_move s p n ≡ Clock
    → moves_left (told p a n).place < moves_left p
clock_falls_at s HearsTime a n e = time_falls (record n { time = a }) n.class
clock_falls_at s FindsMapping a n e = absurd (cc)
clock_falls_at s UnbindsFreed a n e = absurd (cc)
clock_falls_at s GivesBackFreed a n e = absurd (cc)
clock_falls_at s DrawsWord a n e = absurd (cc)
clock_falls_at s ReservesPort a n e = absurd (cc)
clock_falls_at s BindsPort a n e = absurd (cc)
clock_falls_at s FindsOrBinds a n e = absurd (cc)
clock_falls_at s UnbindsLost a n e = absurd (cc)
clock_falls_at s GivesBackLost a n e = absurd (cc)
clock_falls_at s FindsEndpoint a n e = absurd (cc)
clock_falls_at s AsksIfLives a n e = absurd (cc)
clock_falls_at s CountsDrop a n e = absurd (cc)
clock_falls_at s SendsOut a n e = absurd (cc)
clock_falls_at s Ends a n e = absurd (cc)
clock_falls_at s FindsPort a n e = absurd (cc)

pub draw_falls_at : (s : Settings) (p : Place) (a : ℕ) (n : Noted) → next_move s p n ≡ Draw
    → moves_left (told p a n).place < moves_left p
draw_falls_at s HearsTime a n e = absurd (cc)
draw_falls_at s FindsMapping a n e = absurd (cc)
draw_falls_at s UnbindsFreed a n e = absurd (cc)
draw_falls_at s GivesBackFreed a n e = absurd (cc)
draw_falls_at s DrawsWord a n e = omega arith
draw_falls_at s ReservesPort a n e = absurd (cc)
draw_falls_at s BindsPort a n e = absurd (cc)
draw_falls_at s FindsOrBinds a n e = absurd (cc)
draw_falls_at s UnbindsLost a n e = absurd (cc)
draw_falls_at s GivesBackLost a n e = absurd (cc)
draw_falls_at s FindsEndpoint a n e = absurd (cc)
draw_falls_at s AsksIfLives a n e = absurd (cc)
draw_falls_at s CountsDrop a n e = absurd (cc)
draw_falls_at s SendsOut a n e = absurd (cc)
draw_falls_at s Ends a n e = absurd (cc)
draw_falls_at s FindsPort a n e = absurd (cc)

pub emit_falls_at : (s : Settings) (p : Place) (n : Noted) → next_move s p n ≡ Emit → 0 < moves_left p
emit_falls_at s HearsTime n e = absurd (cc)
emit_falls_at s FindsMapping n e = absurd (cc)
emit_falls_at s UnbindsFreed n e = absurd (cc)
emit_falls_at s GivesBackFreed n e = absurd (cc)
emit_falls_at s DrawsWord n e = absurd (cc)
emit_falls_at s ReservesPort n e = absurd (cc)
emit_falls_at s BindsPort n e = absurd (cc)
emit_falls_at s FindsOrBinds n e = absurd (cc)
emit_falls_at s UnbindsLost n e = absurd (cc)
emit_falls_at s GivesBackLost n e = absurd (cc)
emit_falls_at s FindsEndpoint n e = absurd (cc)
emit_falls_at s AsksIfLives n e = absurd (cc)
emit_falls_at s CountsDrop n e = absurd (cc)
emit_falls_at s SendsOut n e = omega arith
emit_falls_at s Ends n e = absurd (cc)
emit_falls_at s FindsPort n e = absurd (cc)

pub ends_at : (s : Settings) (p : Place) (n : Noted) → moves_left p ≡ 0 → next_move s p n ≡ End
ends_at s HearsTime n e = absurd (omega arith)
ends_at s FindsMapping n e = absurd (omega arith)
ends_at s UnbindsFreed n e = absurd (omega arith)
ends_at s GivesBackFreed n e = absurd (omega arith)
ends_at s DrawsWord n e = absurd (omega arith)
ends_at s ReservesPort n e = absurd (omega arith)
ends_at s BindsPort n e = absurd (omega arith)
ends_at s FindsOrBinds n e = absurd (omega arith)
ends_at s UnbindsLost n e = absurd (omega arith)
ends_at s GivesBackLost n e = absurd (omega arith)
ends_at s FindsEndpoint n e = absurd (omega arith)
ends_at s AsksIfLives n e = absurd (omega arith)
ends_at s CountsDrop n e = absurd (omega arith)
ends_at s SendsOut n e = absurd (omega arith)
ends_at s Ends n e = refl
ends_at s FindsPort n e = absurd (omega arith)

pub few_to_make : (s : Settings) (seen : Seen) → moves_left (begun s seen).place ≤ 62
few_to_make s seen = by (flow_in seen) (class_in s seen)
  where
    by : (r : Result Flow NotFlow) (o : Option Class) → moves_left (begun_by s r o).place ≤ 62
    by (Ok flow) (Some class) = omega arith
    by (Ok flow) None = omega arith
    by (Err answer) o = omega arith
