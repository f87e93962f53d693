-- The moves of a thread of the box.
use Rattle.std.proofs.Common.{◌≡◌, ℕ, ◌+◌, List, refl, sym, subst, Bool, true, false, Option, Some, None}
use Rattle.std.specs.Prelude.{slice_get}
use Rattle.plain_text.specs.declared.packet.Packet.{Packet}
use Rattle.packet_headers.specs.declared.flow.Flow.{Flow}
use Rattle.packet_headers.specs.declared.flow.NotFlow.{NotFlow}
use Rattle.std.specs.Prelude.{Result, Ok, Err}
use Rattle.plain_machine.specs.declared.local.Move.{Move}
use Rattle.plain_machine.specs.declared.local.Move.TheVariants.{Access, Read, Clock, Draw, Emit, End}
use Rattle.plain_machine.specs.Machine.{Hand, Thread, Effect, Takes, Touches, Looks, HearsClock, HearsDraw, Sends}
use Rattle.plain_machine.specs.Machine.{Ends as EndsIt, Moves, holding, sent_packet, take_move, hand_move, held_move}
use Rattle.nat_tables.specs.Forwards.{lives}
use Rattle.nat_tables.specs.Reverses.{endpoint_of}
use Rattle.nat_box.specs.Places.{place_numbered, noted, dest_key}
use Rattle.nat_box.specs.declared.place.Goes.{Goes}
use Rattle.nat_box.specs.Settings.{Settings}
use Rattle.nat_box.specs.Nat.{goes, next_move, seen_by, flow_in, class_in, begun_by, begun, touched_by}
use Rattle.nat_box.specs.Nat.{after_endpoint, looked_by, live_port, after_port, looked, after_time, told, local_at}
use Rattle.nat_box.specs.Nat.{nat_meaning, followed}
use Rattle.nat_box.specs.declared.seeing.Seen.{Seen}
use Rattle.nat_box.specs.Noting.{place_again}
use Rattle.nat_box.proofs.Effects.{HoldsNone, Touches as IsTouching}
use Rattle.nat_tables.specs.declared.entries.Endpoint.{Endpoint}
use Rattle.nat_box.specs.declared.place.Place.{Place}
use Rattle.nat_box.specs.declared.place.Place.TheVariants.{HearsTime, FindsMapping, UnbindsFreed, GivesBackFreed}
use Rattle.nat_box.specs.declared.place.Place.TheVariants.{DrawsWord, ReservesPort, BindsPort, FindsOrBinds}
use Rattle.nat_box.specs.declared.place.Place.TheVariants.{UnbindsLost, GivesBackLost, FindsEndpoint, AsksIfLives}
use Rattle.nat_box.specs.declared.place.Place.TheVariants.{CountsDrop, SendsOut, Ends, FindsPort}
use Rattle.nat_box.specs.declared.place.Class.{Class}
use Rattle.nat_box.specs.declared.place.Class.TheVariants.{Outbound, Hairpin, Inbound, OutboundError}
use Rattle.nat_box.specs.declared.place.Noted.{Noted}
use Rattle.nat_box.specs.declared.value.NatValue.{NatValue}
use Rattle.nat_box.specs.declared.value.NatValue.TheVariants.{Dropped, Free, Mapped, Taken}

-- no packet in hand has a port out
abbrev pub HandNone : Option Hand → Type 0
HandNone None = Unit {0}
HandNone (Some h) = HoldsNone (place_numbered h.place.at)

none_at : (p : Packet) (g : Goes) → HoldsNone g.place → HandNone (Some (record { packet = p; place = local_at g }))
none_at p g h = subst HoldsNone (sym (place_again g.place)) h

begun_none : (s : Settings) (seen : Seen) → HoldsNone (begun s seen).place
begun_none s seen = by (flow_in seen) (class_in s seen)
  where
    by : (r : Result Flow NotFlow) (o : Option Class) → HoldsNone (begun_by s r o).place
    by (Ok flow) (Some class) = tt
    by (Ok flow) None = tt
    by (Err answer) o = tt

time_none : (n : Noted) (c : Class) → HoldsNone (after_time n c).place
time_none n Outbound = tt
time_none n Hairpin = tt
time_none n Inbound = tt
time_none n OutboundError = tt

clock_none : (s : Settings) (p : Place) (n : Noted) (a : ℕ) → next_move s p n ≡ Clock
    → HoldsNone p × HoldsNone (told p a n).place
clock_none s HearsTime n a e = (tt, time_none (record n { time = a }) n.class)
clock_none s FindsMapping n a e = absurd (cc)
clock_none s UnbindsFreed n a e = absurd (cc)
clock_none s GivesBackFreed n a e = absurd (cc)
clock_none s DrawsWord n a e = absurd (cc)
clock_none s ReservesPort n a e = absurd (cc)
clock_none s BindsPort n a e = absurd (cc)
clock_none s FindsOrBinds n a e = absurd (cc)
clock_none s UnbindsLost n a e = absurd (cc)
clock_none s GivesBackLost n a e = absurd (cc)
clock_none s FindsEndpoint n a e = absurd (cc)
clock_none s AsksIfLives n a e = absurd (cc)
clock_none s CountsDrop n a e = absurd (cc)
clock_none s SendsOut n a e = absurd (cc)
clock_none s Ends n a e = absurd (cc)
clock_none s FindsPort n a e = absurd (cc)

draw_none : (s : Settings) (p : Place) (n : Noted) (a : ℕ) → next_move s p n ≡ Draw
    → HoldsNone p × HoldsNone (told p a n).place
draw_none s HearsTime n a e = absurd (cc)
draw_none s FindsMapping n a e = absurd (cc)
draw_none s UnbindsFreed n a e = absurd (cc)
draw_none s GivesBackFreed n a e = absurd (cc)
draw_none s DrawsWord n a e = (tt, tt)
draw_none s ReservesPort n a e = absurd (cc)
draw_none s BindsPort n a e = absurd (cc)
draw_none s FindsOrBinds n a e = absurd (cc)
draw_none s UnbindsLost n a e = absurd (cc)
draw_none s GivesBackLost n a e = absurd (cc)
draw_none s FindsEndpoint n a e = absurd (cc)
draw_none s AsksIfLives n a e = absurd (cc)
draw_none s CountsDrop n a e = absurd (cc)
draw_none s SendsOut n a e = absurd (cc)
draw_none s Ends n a e = absurd (cc)
draw_none s FindsPort n a e = absurd (cc)

emit_none : (s : Settings) (p : Place) (n : Noted) → next_move s p n ≡ Emit → HoldsNone p
emit_none s HearsTime n e = absurd (cc)
emit_none s FindsMapping n e = absurd (cc)
emit_none s UnbindsFreed n e = absurd (cc)
emit_none s GivesBackFreed n e = absurd (cc)
emit_none s DrawsWord n e = absurd (cc)
emit_none s ReservesPort n e = absurd (cc)
emit_none s BindsPort n e = absurd (cc)
emit_none s FindsOrBinds n e = absurd (cc)
emit_none s UnbindsLost n e = absurd (cc)
emit_none s GivesBackLost n e = absurd (cc)
emit_none s FindsEndpoint n e = absurd (cc)
emit_none s AsksIfLives n e = absurd (cc)
emit_none s CountsDrop n e = absurd (cc)
emit_none s SendsOut n e = tt
emit_none s Ends n e = absurd (cc)
emit_none s FindsPort n e = absurd (cc)

end_none : (s : Settings) (p : Place) (n : Noted) → next_move s p n ≡ End → HoldsNone p
end_none s HearsTime n e = absurd (cc)
end_none s FindsMapping n e = absurd (cc)
end_none s UnbindsFreed n e = absurd (cc)
end_none s GivesBackFreed n e = absurd (cc)
end_none s DrawsWord n e = absurd (cc)
end_none s ReservesPort n e = absurd (cc)
end_none s BindsPort n e = absurd (cc)
end_none s FindsOrBinds n e = absurd (cc)
end_none s UnbindsLost n e = absurd (cc)
end_none s GivesBackLost n e = absurd (cc)
end_none s FindsEndpoint n e = absurd (cc)
end_none s AsksIfLives n e = absurd (cc)
end_none s CountsDrop n e = absurd (cc)
end_none s SendsOut n e = absurd (cc)
end_none s Ends n e = tt
end_none s FindsPort n e = absurd (cc)

pub touching : (s : Settings) (p : Place) (n : Noted) (v : ℕ) → next_move s p n ≡ Access v → IsTouching p
touching s HearsTime n v e = absurd (cc)
touching s FindsMapping n v e = tt
touching s UnbindsFreed n v e = tt
touching s GivesBackFreed n v e = tt
touching s DrawsWord n v e = absurd (cc)
touching s ReservesPort n v e = tt
touching s BindsPort n v e = tt
touching s FindsOrBinds n v e = tt
touching s UnbindsLost n v e = tt
touching s GivesBackLost n v e = tt
touching s FindsEndpoint n v e = absurd (cc)
touching s AsksIfLives n v e = absurd (cc)
touching s CountsDrop n v e = tt
touching s SendsOut n v e = absurd (cc)
touching s Ends n v e = absurd (cc)
touching s FindsPort n v e = absurd (cc)

endpoint_none : (n : Noted) (o : Option Endpoint) → HoldsNone (after_endpoint n o).place
endpoint_none n (Some key) = tt
endpoint_none n None = tt

port_none : (n : Noted) (o : Option ℕ) → HoldsNone (after_port n o).place
port_none n (Some port) = tt
port_none n None = tt

lives_none : (n : Noted) (b : Bool) → HoldsNone (looked_by n b).place
lives_none n true = tt
lives_none n false = tt

look_none : (s : Settings) (p : Place) (x : NatValue) (n : Noted) (v : ℕ) → next_move s p n ≡ Read v
    → HoldsNone p × HoldsNone (looked p x n).place
look_none s HearsTime x n v e = absurd (cc)
look_none s FindsMapping x n v e = absurd (cc)
look_none s UnbindsFreed x n v e = absurd (cc)
look_none s GivesBackFreed x n v e = absurd (cc)
look_none s DrawsWord x n v e = absurd (cc)
look_none s ReservesPort x n v e = absurd (cc)
look_none s BindsPort x n v e = absurd (cc)
look_none s FindsOrBinds x n v e = absurd (cc)
look_none s UnbindsLost x n v e = absurd (cc)
look_none s GivesBackLost x n v e = absurd (cc)
look_none s FindsEndpoint (Dropped d) n v e = (tt, tt)
look_none s FindsEndpoint (Free pool) n v e = (tt, tt)
look_none s FindsEndpoint (Mapped es) n v e = (tt, tt)
look_none s FindsEndpoint (Taken bs) n v e = (tt, endpoint_none n (endpoint_of (dest_key n) bs))
look_none s AsksIfLives (Dropped d) n v e = (tt, tt)
look_none s AsksIfLives (Free pool) n v e = (tt, tt)
look_none s AsksIfLives (Mapped es) n v e = (tt, lives_none n (lives n.target n.dest_port n.time es))
look_none s AsksIfLives (Taken bs) n v e = (tt, tt)
look_none s CountsDrop x n v e = absurd (cc)
look_none s SendsOut x n v e = absurd (cc)
look_none s Ends x n v e = absurd (cc)
look_none s FindsPort (Dropped d) n v e = (tt, tt)
look_none s FindsPort (Free pool) n v e = (tt, tt)
look_none s FindsPort (Mapped es) n v e = (tt, port_none n (live_port n.source n.time es))
look_none s FindsPort (Taken bs) n v e = (tt, tt)

-- Of a touch: what it found, left and noted. Of each other move: that no port is out before it, and none after it.
abbrev pub Outcome : Settings → (ℕ → NatValue) → Option Hand → Option Hand → Effect NatValue → Type 0
Outcome s value before after (Touches v left) =
    (h : Hand) × (before ≡ Some h) × (next_move s (place_numbered h.place.at) (noted h.place) ≡ Access v)
    × (left ≡ followed s (noted h.place) (touched_by s.limit (place_numbered h.place.at) (value v) (noted h.place)).0)
    × (after
    ≡ Some
    (record {
      packet = h.packet;
      place = local_at (touched_by s.limit (place_numbered h.place.at) (value v) (noted h.place)).1;
    }))
Outcome s value before after Takes = HandNone before × HandNone after
Outcome s value before after (Looks v) = HandNone before × HandNone after
Outcome s value before after (HearsClock a) = HandNone before × HandNone after
Outcome s value before after (HearsDraw a) = HandNone before × HandNone after
Outcome s value before after (Sends p) = HandNone before × HandNone after
Outcome s value before after EndsIt = HandNone before × HandNone after

module _ (s : Settings) (packets : List Packet) (value : ℕ → NatValue) (taken : ℕ) (after : Thread)
    (d : Effect NatValue) where
  along : (before : Option Hand) (th : Thread) (u : Effect NatValue) → th ≡ after → u ≡ d
      → Outcome s value before th.hand u → Outcome s value before after.hand d
  along before th u q r h = subst (λ (x : Effect NatValue). Outcome s value before after.hand x) r
      (subst (λ (x : Thread). Outcome s value before x.hand u) q h)

  of_hand : (h : Hand) (a : Option ℕ) (w : Move) → next_move s (place_numbered h.place.at) (noted h.place) ≡ w
      → hand_move (nat_meaning s) value taken h a w ≡ Moves after d → Outcome s value (Some h) after.hand d
  of_hand h None (Access v) w e =
      along (Some h) (holding taken h.packet ((nat_meaning s).touch v (value v) h.place).1)
      (Touches v ((nat_meaning s).touch v (value v) h.place).0) (cc) (cc) (h, refl, w, refl, refl)
  of_hand h None (Read v) w e =
      let g : Goes = looked (place_numbered h.place.at) (value v) (noted h.place) in
      let n = look_none s (place_numbered h.place.at) (value v) (noted h.place) v w in
      along (Some h) (holding taken h.packet ((nat_meaning s).look v (value v) h.place)) (Looks v) (cc) (cc)
      (n.0, none_at h.packet g n.1)
  of_hand h (Some x) Clock w e =
      let n = clock_none s (place_numbered h.place.at) (noted h.place) x w in
      along (Some h) (holding taken h.packet ((nat_meaning s).told x h.place)) (HearsClock x) (cc) (cc)
      (n.0, none_at h.packet (told (place_numbered h.place.at) x (noted h.place)) n.1)
  of_hand h (Some x) Draw w e =
      let n = draw_none s (place_numbered h.place.at) (noted h.place) x w in
      along (Some h) (holding taken h.packet ((nat_meaning s).told x h.place)) (HearsDraw x) (cc) (cc)
      (n.0, none_at h.packet (told (place_numbered h.place.at) x (noted h.place)) n.1)
  of_hand h None Emit w e =
      along (Some h) (holding taken h.packet ((nat_meaning s).emitted h.place)) (Sends (sent_packet (nat_meaning s) h))
      (cc) (cc)
      (emit_none s (place_numbered h.place.at) (noted h.place) w, none_at h.packet (goes Ends (noted h.place)) tt)
  of_hand h None End w e = along (Some h) (record { taken = taken; hand = None }) EndsIt (cc) (cc)
      (end_none s (place_numbered h.place.at) (noted h.place) w, tt)
  of_hand h (Some x) (Access v) w e = absurd (cc)
  of_hand h (Some x) (Read v) w e = absurd (cc)
  of_hand h (Some x) Emit w e = absurd (cc)
  of_hand h (Some x) End w e = absurd (cc)
  of_hand h None Clock w e = absurd (cc)
  of_hand h None Draw w e = absurd (cc)

  of_none : (a : Option ℕ) (i : Option Packet) → take_move (nat_meaning s) taken a i ≡ Moves after d
      → Outcome s value None after.hand d
  of_none (Some a) i e = absurd (cc)
  of_none None None e = absurd (cc)
  of_none None (Some p) e =
      along None (holding (taken + 1) p ((nat_meaning s).begin p)) Takes (cc) (cc)
      (tt, none_at p (begun s (seen_by s p)) (begun_none s (seen_by s p)))

  pub outcome : (hand : Option Hand) (a : Option ℕ)
      → held_move (nat_meaning s) packets value taken a hand ≡ Moves after d → Outcome s value hand after.hand d
  outcome None a e = of_none a (slice_get packets taken) e
  outcome (Some h) a e = of_hand h a (next_move s (place_numbered h.place.at) (noted h.place)) refl e
