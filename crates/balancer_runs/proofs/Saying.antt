-- The phase of a connection is what both sides said of it since it began.
use Rattle.std.proofs.Common.{◌≡◌, ◌≢◌, ℕ, ◌+◌, ◌<◌, ◌≤◌, Bool, true, false, List, [], ◌∷◌, refl, sym, ap, ◌∙◌, subst}
use Rattle.std.proofs.Common.{◌⊎◌, inl, inr, arith, Option, Some, None}
use Rattle.std.specs.Prelude.{◌==◌, ◌&&◌, ◌||◌, not, nat_lt, if◌then◌else◌, bit_and, Result, Ok, Err}
use Rattle.std.proofs.lemmas.Bool.{eqb-true}
use Rattle.std.proofs.lemmas.Bool.Decides.{nat_tests}
use Rattle.plain_text.specs.declared.packet.Packet.{Packet}
use Rattle.packet_headers.specs.declared.flow.Flow.{Flow}
use Rattle.packet_headers.specs.declared.flow.NotFlow.{NotFlow}
use Rattle.packet_headers.specs.View.{viewed}
use Rattle.entry_order.specs.Log.{Entry, touches}
use Rattle.entry_order.specs.declared.what.What.{What}
use Rattle.entry_order.specs.declared.what.What.TheVariants.{Access, Read, Clock, Draw}
use Rattle.plain_machine.specs.Machine.{Hand, Thread, Effect, Takes, Touches, Looks, HearsClock, HearsDraw, Sends}
use Rattle.plain_machine.specs.Machine.{Ends as EndsIt}
use Rattle.plain_machine.specs.History.{Act, Took, Did, Emitted, Ended, Step, act_of, left_by_entry, left_by}
use Rattle.plain_machine.specs.History.{thread_after, value_after, IsHistory}
use Rattle.plain_machine.proofs.Histories.{is_eq}
use Rattle.plain_machine.proofs.Bounds.{values_fit}
use Rattle.nat_tables.specs.declared.entries.Endpoint.{Endpoint}
use Rattle.nat_tables.specs.declared.slot.Slot.{Slot}
use Rattle.nat_tables.specs.declared.phase.Phase.{Phase}
use Rattle.nat_tables.specs.Keys.{same_endpoint}
use Rattle.nat_tables.specs.Forwards.{Forwards, slot_of}
use Rattle.nat_tables.proofs.Counting.{same_is}
use Rattle.flow_boxes.specs.Flows.{HaveBytes, source_of, dest_of}
use Rattle.flow_boxes.proofs.Fitting.{same_self}
use Rattle.balancer_box.specs.declared.place.Class.{Class}
use Rattle.balancer_box.specs.declared.place.Class.TheVariants.{Client, Answer}
use Rattle.balancer_box.specs.declared.value.BalancerValue.{BalancerValue}
use Rattle.balancer_box.specs.declared.value.BalancerValue.TheVariants.{Dropped, Loaded, Connected}
use Rattle.balancer_box.specs.Places.{place_numbered}
use Rattle.balancer_box.specs.Settings.{Settings, AreSettings}
use Rattle.balancer_box.specs.Balancer.{is_virtual, backend_at, noted_by, balancer_meaning, fresh_value, Fits}
use Rattle.balancer_box.specs.Lawful.{balancer_lawful}
use Rattle.balancer_box.specs.Entries.{connections_in}
use Rattle.balancer_box.specs.Emissions.{trail_of}
use Rattle.balancer_box.proofs.Making.{Made, made}
use Rattle.balancer_runs.specs.Choosing.{loads_met}
use Rattle.flow_boxes.specs.Idle.{idle_after}
use Rattle.balancer_runs.specs.Idle.{IsLiveAt}
use Rattle.balancer_runs.specs.Staying.{Stays}
use Rattle.balancer_runs.specs.Following.{Follows, PhaseGoesOn, HadPhase, IsOfSide, IsFollowedOn}
use Rattle.balancer_runs.specs.Ending.{IsHeard}
use Rattle.balancer_runs.specs.Saying.{Said, phase_said, has_bit, with_segment, is_number, answers, said_with, said_by}
use Rattle.balancer_runs.specs.Saying.{said_in_hand, since, act_touches, said_after, said_of, PhasesAreSaid}
use Rattle.balancer_runs.proofs.Known.{both}
use Rattle.balancer_runs.proofs.Connections.{time_noted, in_table, connections_stay}
use Rattle.balancer_runs.proofs.Following.{sides_follow}
use Rattle.balancer_runs.proofs.Touching.{table_touched}
use Rattle.balancer_runs.proofs.Ending.{sides_are_heard}

-- What a segment makes of a phase that is what was said

is_set : (k : ℕ) → not (k == 0) ≡ true → k ≢ 0
is_set k q zero_is = let z : (k == 0) ≡ true = is_eq k 0 zero_is in absurd (cc (z, q))

is_clear : (k : ℕ) → not (k == 0) ≡ false → k ≡ 0
is_clear k q = by (k == 0) refl q
  where
    by : (b : Bool) → (k == 0) ≡ b → not b ≡ false → k ≡ 0
    by true e q = eqb-true _ _ e
    by false e q = absurd (cc)

abbrev these : Bool → Bool → Bool → Said
these r c v = record { reset = r; client_fin = c; server_fin = v }

-- with RST and FIN of a segment, or without
abbrev added : Class → Bool → Bool → Said → Said
added Client rst fin said =
    record { reset = said.reset || rst; client_fin = said.client_fin || fin; server_fin = said.server_fin }
added Answer rst fin said =
    record { reset = said.reset || rst; client_fin = said.client_fin; server_fin = said.server_fin || fin }

module _ (seconds flags : ℕ) (new : Phase) where
  goes_by : (side : Class) (r c v rst fin : Bool) → has_bit 4 flags ≡ rst → has_bit 1 flags ≡ fin
      → Follows seconds flags side (phase_said seconds (these r c v)) new
      → new ≡ phase_said seconds (added side rst fin (these r c v))
  goes_by Client true c v rst fin p q f = f.ended refl
  goes_by Client false c v true fin p q f = f.reset (is_set (bit_and flags 4) p)
  goes_by Client false true v false false p q f =
      f.stays (is_clear (bit_and flags 4) p) (is_clear (bit_and flags 1) q)
  goes_by Client false false v false false p q f =
      f.stays (is_clear (bit_and flags 4) p) (is_clear (bit_and flags 1) q)
  goes_by Client false false false false true p q f =
      f.first (is_clear (bit_and flags 4) p) (is_set (bit_and flags 1) q) refl
  goes_by Client false false true false true p q f =
      f.second (is_clear (bit_and flags 4) p) (is_set (bit_and flags 1) q) refl
  goes_by Client false true false false true p q f = f.again (is_clear (bit_and flags 4) p) refl
  goes_by Client false true true false true p q f = f.ended refl
  goes_by Answer true c v rst fin p q f = f.ended refl
  goes_by Answer false c v true fin p q f = f.reset (is_set (bit_and flags 4) p)
  goes_by Answer false c true false false p q f =
      f.stays (is_clear (bit_and flags 4) p) (is_clear (bit_and flags 1) q)
  goes_by Answer false c false false false p q f =
      f.stays (is_clear (bit_and flags 4) p) (is_clear (bit_and flags 1) q)
  goes_by Answer false false false false true p q f =
      f.first (is_clear (bit_and flags 4) p) (is_set (bit_and flags 1) q) refl
  goes_by Answer false true false false true p q f =
      f.second (is_clear (bit_and flags 4) p) (is_set (bit_and flags 1) q) refl
  goes_by Answer false false true false true p q f = f.again (is_clear (bit_and flags 4) p) refl
  goes_by Answer false true true false true p q f = f.ended refl

  added_is : (side : Class) (said : Said)
      → added side (has_bit 4 flags) (has_bit 1 flags) said ≡ with_segment side flags said
  added_is Client said = refl
  added_is Answer said = refl

  goes_on_said : (side : Class) (said : Said) → Follows seconds flags side (phase_said seconds said) new
      → new ≡ phase_said seconds (with_segment side flags said)
  goes_on_said side said f =
      goes_by side said.reset said.client_fin said.server_fin (has_bit 4 flags) (has_bit 1 flags) refl refl f
      ∙ ap (phase_said seconds) (added_is side said)

-- A touch of a variable, and each other step

untouched_by : (v : ℕ) (what : What) (left : Option BalancerValue) (x : BalancerValue) → touches v what ≡ false
    → left_by_entry v what left x ≡ x
untouched_by v (Access w place) (Some left) x q = rw q refl
untouched_by v (Access w place) None x q = refl
untouched_by v (Read w after) left x q = refl
untouched_by v (Clock a) left x q = refl
untouched_by v (Draw a) left x q = refl

untouched : (v : ℕ) (act : Act BalancerValue) (x : BalancerValue) → act_touches v act ≡ false → left_by v act x ≡ x
untouched v (Took k) x q = refl
untouched v (Did entry left) x q = untouched_by v entry.what left x q
untouched v (Emitted o) x q = refl
untouched v (Ended k) x q = refl

abbrev IsTouch : ℕ → Act BalancerValue → Type 0
IsTouch v act =
    (entry : Entry) × (left : Option BalancerValue) × (place : ℕ) × (act ≡ Did entry left)
    × (entry.what ≡ Access v place)

access_of : (v : ℕ) (what : What) → touches v what ≡ true → (place : ℕ) × (what ≡ Access v place)
access_of v (Access w place) q = (place, ap (λ (u : ℕ). Access u place) (eqb-true _ _ q))
access_of v (Read w after) q = absurd (cc)
access_of v (Clock a) q = absurd (cc)
access_of v (Draw a) q = absurd (cc)

touch_of : (v : ℕ) (act : Act BalancerValue) → act_touches v act ≡ true → IsTouch v act
touch_of v (Took k) q = absurd (cc)
touch_of v (Did entry left) q = let k = access_of v entry.what q in (entry, left, k.0, refl, k.1)
touch_of v (Emitted o) q = absurd (cc)
touch_of v (Ended k) q = absurd (cc)

-- a logged step is one of a packet in hand
hand_of : (s : Settings) (packets : List Packet) (t taken taken_then : ℕ) (value : ℕ → BalancerValue)
    (before after : Option Hand) (earlier : List (Step BalancerValue)) (entry : Entry) (left : Option BalancerValue)
    (d : Effect BalancerValue) → act_of t earlier taken_then d ≡ Did entry left
    → Made s packets taken value before after d → (h : Hand) × (before ≡ Some h)
hand_of s packets t taken tn value before after earlier entry left Takes e m = absurd (cc)
hand_of s packets t taken tn value before after earlier entry left (Touches w x) e m = (m.0, m.1)
hand_of s packets t taken tn value before after earlier entry left (Looks w) e m = absurd m
hand_of s packets t taken tn value before after earlier entry left (HearsClock a) e m = (m.0, m.1)
hand_of s packets t taken tn value before after earlier entry left (HearsDraw a) e m = absurd m
hand_of s packets t taken tn value before after earlier entry left (Sends q) e m = absurd (cc)
hand_of s packets t taken tn value before after earlier entry left EndsIt e m = absurd (cc)

is_table : (s : Settings) (v : ℕ) (x : BalancerValue) → Fits s v x → 2 ≤ v → (es : Forwards) × (x ≡ Connected es)
is_table s v (Dropped d) fits low = absurd (omega (arith, fits, low))
is_table s v (Loaded loads) fits low = let one = fits.0 in absurd (omega (arith, one, low))
is_table s v (Connected es) fits low = (es, refl)

-- what was said is the phase, where there is a connection
abbrev Agrees : ℕ → Option Slot → Said → Type 0
Agrees seconds o said = (slot : Slot) → o ≡ Some slot → slot.phase ≡ phase_said seconds said

had_same : (o : Option Slot) (a b : Phase) → HadPhase a o → HadPhase b o → a ≡ b
had_same None a b p q = p ∙ sym q
had_same (Some slot) a b p q = sym p ∙ q

had_since : (seconds : ℕ) (o : Option Slot) (said : Said) → Agrees seconds o said
    → HadPhase (phase_said seconds (since o said)) o
had_since seconds None said agrees = refl
had_since seconds (Some slot) said agrees = agrees slot refl

since_same : (seconds : ℕ) (o : Option Slot) (said : Said) (new : Slot) → Agrees seconds o said → o ≡ Some new
    → new.phase ≡ phase_said seconds (since o said)
since_same seconds None said new agrees is = absurd (cc)
since_same seconds (Some slot) said new agrees is = agrees new is

-- Of a step that touches the table

module _ (s : Settings) (threads : ℕ) (inputs : ℕ → List Packet) (x : Step BalancerValue)
    (earlier : List (Step BalancerValue)) (is : AreSettings s) (bytes : HaveBytes inputs)
    (run : IsHistory (balancer_meaning s) inputs threads (x ∷ earlier)) (v : ℕ) (low : v < 2 + s.shards)
    (client : Endpoint) (seconds : ℕ) (closing : s.closing ≡ Some seconds) (tcp : client.protocol ≡ 6)
    (touch : IsTouch v x.act) (h : Hand) (held : (thread_after earlier x.thread).hand ≡ Some h) (es : Forwards)
    (table : value_after (balancer_meaning s) earlier v ≡ Connected es) (flow : Flow)
    (seen : viewed h.packet.bytes h.packet.original ≡ Ok flow) (now : ℕ)
    (clock : (trail_of s x.thread earlier).clock ≡ Some now) (new : Slot)
    (there : slot_of client (connections_in (value_after (balancer_meaning s) (x ∷ earlier) v)) ≡ Some new)
    (said : Said) (had : HadPhase (phase_said seconds said) (slot_of client es)) where
  abbrev Heard : Class → Type 0
  Heard side =
      (IsHeard side now client (slot_of client es) → new.phase ≡ phase_said seconds (with_segment side flow.flags said))
      × ((IsHeard side now client (slot_of client es) → ⊥) → slot_of client es ≡ Some new)

  followed : (side : Class) (old : Phase) → PhaseGoesOn (Some seconds) client.protocol side flow.flags old new.phase
      → Follows seconds flow.flags side old new.phase
  followed side old (inl k) = absurd (k.0 tcp)
  followed side old (inr k) = k.1

  heard : (side : Class) → IsOfSide s client new.port flow side → Heard side
  heard side of =
      let k = sides_are_heard s threads inputs x earlier touch.0 touch.1 v touch.2 h es flow side client new is bytes
      run touch.3 touch.4 low held seen table there of in
      let one : k.0 ≡ now = (let both : Some k.0 ≡ Some now = sym k.2 ∙ clock in cc) in
      let old : k.1 ≡ phase_said seconds said =
      had_same (slot_of client es) k.1 (phase_said seconds said) k.3 had in (
        λ is_heard.
            let goes = k.4 (subst (λ (a : ℕ). IsHeard side a client (slot_of client es)) (sym one) is_heard) in
            let on : PhaseGoesOn (Some seconds) client.protocol side flow.flags k.1 new.phase =
            subst (λ (c : Option ℕ). PhaseGoesOn c client.protocol side flow.flags k.1 new.phase) closing goes in
            goes_on_said seconds flow.flags new.phase side said
            (subst (λ (p : Phase). Follows seconds flow.flags side p new.phase) old (followed side k.1 on)),
        λ no. k.5 (λ is_heard. no (subst (λ (a : ℕ). IsHeard side a client (slot_of client es)) one is_heard)),
      )

  -- a connection that the packet does not note was there
  abbrev Was : Type 0
  Was = slot_of client es ≡ Some new

  was_or : ((side : Class) → IsOfSide s client new.port flow side → Was) → Was
  was_or of_side = by (sides_follow s threads inputs x earlier v client new is bytes run low there)
    where
      by : (slot_of client (connections_in (value_after (balancer_meaning s) earlier v)) ≡ Some new)
          ⊎ ((g : Hand) × ((thread_after earlier x.thread).hand ≡ Some g)
          × IsFollowedOn s (connections_in (value_after (balancer_meaning s) earlier v)) client new g.packet) → Was
      by (inl was) = subst (λ (y : BalancerValue). slot_of client (connections_in y) ≡ Some new) table was
      by (inr (g, holds, (other, view, side, of, old, was, goes))) =
          let hands : Some g ≡ Some h = sym holds ∙ held in
          let same : g ≡ h = cc in
          let view_here : viewed h.packet.bytes h.packet.original ≡ Ok other =
          subst (λ (k : Hand). viewed k.packet.bytes k.packet.original ≡ Ok other) same view in
          let flows : Ok other ≡ Ok flow = sym view_here ∙ seen in
          let one : other ≡ flow = cc in
          of_side side (subst (λ (f : Flow). IsOfSide s client new.port f side) one of)

  -- its backend is the one that it had
  port_is : (slot : Slot) → slot_of client es ≡ Some slot → new.port ≡ slot.port
  port_is slot at =
      let was : slot_of client (connections_in (value_after (balancer_meaning s) earlier v)) ≡ Some slot =
      subst (λ (y : BalancerValue). slot_of client (connections_in y) ≡ Some slot) (sym table) at in
      let stays = connections_stay s threads inputs x earlier is bytes run v low client slot was in
      (subst (Stays s (trail_of s x.thread earlier).clock (thread_after earlier x.thread).hand client slot) there
      stays).0

  live_test : (slot : Slot) → IsLiveAt now client slot
      → nat_lt now (slot.last + idle_after client.protocol slot.phase) ≡ true
  live_test slot live = grind (arith, nat_tests)

  test_live : (slot : Slot) → nat_lt now (slot.last + idle_after client.protocol slot.phase) ≡ true
      → IsLiveAt now client slot
  test_live slot q = grind (arith, nat_tests)

  number_is : (o : Option ℕ) (number : ℕ) → is_number o number ≡ true → o ≡ Some number
  number_is None number q = absurd (cc)
  number_is (Some k) number q = ap Some (eqb-true _ _ q)

  is_this : (o : Option ℕ) (number : ℕ) → o ≡ Some number → is_number o number ≡ true
  is_this None number q = absurd (cc)
  is_this (Some k) number q = (let one : k ≡ number = cc in is_eq k number one)

  -- an answer that is heard
  of_answer : is_virtual s flow.dest flow.dest_port ≡ false → (o : Option Slot) → slot_of client es ≡ o
      → answers s client now flow o ≡ true → new.phase ≡ phase_said seconds (with_segment Answer flow.flags said)
  of_answer off None at q = absurd (cc)
  of_answer off (Some slot) at q =
      let numbers : Bool = is_number (backend_at s.backends flow.source flow.source_port) slot.port in
      let used : Bool = nat_lt now (slot.last + idle_after client.protocol slot.phase) in
      let k = both (same_endpoint client (dest_of flow)) (numbers && used) q in
      let m = both numbers used k.1 in
      let from = number_is (backend_at s.backends flow.source flow.source_port) slot.port m.0 in
      let of : IsOfSide s client new.port flow Answer =
      (off, from ∙ ap Some (sym (port_is slot at)), same_is client (dest_of flow) k.0) in
      let live : IsHeard Answer now client (slot_of client es) =
      subst (IsHeard Answer now client) (sym at) (test_live slot m.1) in
      (heard Answer of).0 live

  not_answer : (o : Option Slot) → slot_of client es ≡ o → answers s client now flow o ≡ false
      → IsOfSide s client new.port flow Answer → IsHeard Answer now client o → ⊥
  not_answer None at q of is_heard = is_heard
  not_answer (Some slot) at q of live =
      let a : same_endpoint client (dest_of flow) ≡ true =
      subst (λ (e : Endpoint). same_endpoint client e ≡ true) of.2 (same_self client) in
      let b = is_this (backend_at s.backends flow.source flow.source_port) slot.port
      (of.1 ∙ ap Some (port_is slot at)) in
      let c = live_test slot live in
      let t : answers s client now flow (Some slot) ≡ true = rw (a, b, c) refl in
      absurd (cc (t, q))

  abbrev IsSaid : Said → Type 0
  IsSaid after = new.phase ≡ phase_said seconds after

  unchanged : Was → IsSaid said
  unchanged was = had_same (slot_of client es) new.phase (phase_said seconds said)
      (subst (HadPhase new.phase) (sym was) refl) had

  says : IsSaid (said_with s client now flow (slot_of client es) said)
  says = by (is_virtual s flow.dest flow.dest_port) (same_endpoint client (source_of flow))
      (answers s client now flow (slot_of client es)) refl refl refl
    where
      by : (a b c : Bool) → is_virtual s flow.dest flow.dest_port ≡ a → same_endpoint client (source_of flow) ≡ b
          → answers s client now flow (slot_of client es) ≡ c
          → IsSaid (said_with s client now flow (slot_of client es) said)
      by true true c p q u =
          rw (p, q) ((heard Client (p, same_is client (source_of flow) q)).0 tt)
      by true false c p q u = rw (p, q) (unchanged (was_or of_side))
        where
          of_side : (side : Class) → IsOfSide s client new.port flow side → Was
          of_side Client of =
              let t : same_endpoint client (source_of flow) ≡ true =
              subst (λ (e : Endpoint). same_endpoint client e ≡ true) of.1 (same_self client) in
              absurd (cc (t, q))
          of_side Answer of = absurd (let off = of.0 in cc (off, p))
      by false b true p q u = rw (p, u) (of_answer p (slot_of client es) refl u)
      by false b false p q u = rw (p, u) (unchanged (was_or of_side))
        where
          of_side : (side : Class) → IsOfSide s client new.port flow side → Was
          of_side Client of = absurd (let on = of.0 in cc (on, p))
          of_side Answer of = (heard Answer of).1 (not_answer (slot_of client es) refl u of)

-- Each step

module _ (s : Settings) (threads : ℕ) (inputs : ℕ → List Packet) (x : Step BalancerValue)
    (earlier : List (Step BalancerValue)) (is : AreSettings s) (bytes : HaveBytes inputs)
    (run : IsHistory (balancer_meaning s) inputs threads (x ∷ earlier)) (v : ℕ) (low : v < 2 + s.shards)
    (client : Endpoint) (seconds : ℕ) (closing : s.closing ≡ Some seconds) (tcp : client.protocol ≡ 6)
    (said : Said) where
  abbrev value : ℕ → BalancerValue
  value = value_after (balancer_meaning s) earlier

  abbrev before : Option Slot
  before = slot_of client (connections_in (value v))

  abbrev clock_told : Option ℕ
  clock_told = (trail_of s x.thread earlier).clock

  module _ (agrees : Agrees seconds before said) (new : Slot)
      (there : slot_of client (connections_in (value_after (balancer_meaning s) (x ∷ earlier) v)) ≡ Some new) where
    -- of a frame that is no flow
    no_flow : (h : Hand) (why : NotFlow) → (thread_after earlier x.thread).hand ≡ Some h
        → viewed h.packet.bytes h.packet.original ≡ Err why → before ≡ Some new
    no_flow h why held seen = by (sides_follow s threads inputs x earlier v client new is bytes run low there)
      where
        by : (before ≡ Some new)
            ⊎ ((g : Hand) × ((thread_after earlier x.thread).hand ≡ Some g)
            × IsFollowedOn s (connections_in (value v)) client new g.packet) → before ≡ Some new
        by (inl was) = was
        by (inr (g, holds, (other, view, side, of, old, was, goes))) =
            let hands : Some g ≡ Some h = sym holds ∙ held in
            let same : g ≡ h = cc in
            let here : viewed h.packet.bytes h.packet.original ≡ Ok other =
            subst (λ (k : Hand). viewed k.packet.bytes k.packet.original ≡ Ok other) same view in
            let flows : Ok other ≡ Err why = sym here ∙ seen in
            absurd (cc)

    in_hand : (touch : IsTouch v x.act) (h : Hand) → (thread_after earlier x.thread).hand ≡ Some h
        → (es : Forwards) → value v ≡ Connected es → (now : ℕ) → clock_told ≡ Some now
        → new.phase ≡ phase_said seconds
        (said_by s client (Some now) (viewed h.packet.bytes h.packet.original) before (since before said))
    in_hand touch h held es table now clock = by (viewed h.packet.bytes h.packet.original) refl
      where
        by : (r : Result Flow NotFlow) → viewed h.packet.bytes h.packet.original ≡ r
            → new.phase ≡ phase_said seconds (said_by s client (Some now) r before (since before said))
        by (Err why) seen = since_same seconds before said new agrees (no_flow h why held seen)
        by (Ok flow) seen =
            let at : before ≡ slot_of client es = ap (λ (y : BalancerValue). slot_of client (connections_in y)) table in
            let had : HadPhase (phase_said seconds (since before said)) (slot_of client es) =
            subst (HadPhase (phase_said seconds (since before said))) at (had_since seconds before said agrees) in
            subst (λ (o : Option Slot).
            new.phase ≡ phase_said seconds (said_with s client now flow o (since before said))) (sym at)
            (says s threads inputs x earlier is bytes run v low client seconds closing tcp touch h held es table flow
            seen now clock new there (since before said) had)

    at_touch : IsTouch v x.act
        → new.phase ≡ phase_said seconds
        (said_in_hand s client clock_told (thread_after earlier x.thread).hand before (since before said))
    at_touch touch =
        let old : Thread = thread_after earlier x.thread in
        let m = made s (inputs x.thread) value old.taken x.after run.0.2 old.hand run.0.1 run.0.3 in
        let k = hand_of s (inputs x.thread) x.thread old.taken x.after.taken value old.hand x.after.hand earlier touch.0
        touch.1 run.0.2 (sym run.0.4 ∙ touch.3) m in
        let h : Hand = k.0 in
        let fits = values_fit (balancer_meaning s) (Fits s) (balancer_lawful s is) inputs threads in
        let high : 2 ≤ v =
        in_table s v (value_after (balancer_meaning s) (x ∷ earlier) v) client new (fits (x ∷ earlier) run v low)
        there in
        let e = is_table s v (value v) (fits earlier run.1 v low) high in
        let t = table_touched s threads inputs x earlier touch.0 touch.1 v touch.2 h e.0 is bytes run touch.3 touch.4
        low k.1 e.1 in
        let n = noted_by s h.place in
        let clock : clock_told ≡ Some n.time =
        time_noted s (trail_of s x.thread earlier) (loads_met s x.thread earlier) h.packet
        (place_numbered h.place.at) n v high t.move t.known in
        rw (k.1, clock) (in_hand touch h k.1 e.0 e.1 n.time clock)

    says_after : new.phase ≡ phase_said seconds (said_after s v client x earlier said)
    says_after = by (act_touches v x.act) refl
      where
        by : (b : Bool) → act_touches v x.act ≡ b
            → new.phase ≡ phase_said seconds
            (if b
            then said_in_hand s client clock_told (thread_after earlier x.thread).hand before (since before said)
            else said)
        by true q = at_touch (touch_of v x.act q)
        by false q =
            agrees new (subst (λ (y : BalancerValue). slot_of client (connections_in y) ≡ Some new)
            (untouched v x.act (value v) q) there)

no_fresh : (s : Settings) (v : ℕ) (client : Endpoint) (slot : Slot)
    → slot_of client (connections_in (fresh_value s v)) ≡ Some slot → ⊥
no_fresh s v client slot = by (v == 0) (v == 1) refl refl
  where
    by : (a b : Bool) → (v == 0) ≡ a → (v == 1) ≡ b → slot_of client (connections_in (fresh_value s v)) ≡ Some slot
        → ⊥
    by true b p q there = absurd (cc (rw p at there))
    by false true p q there = absurd (cc (rw (p, q) at there))
    by false false p q there = absurd (cc (rw (p, q) at there))

pub phases_are_said : PhasesAreSaid
phases_are_said s threads inputs [] v client slot seconds is bytes h low closing tcp there =
    absurd (no_fresh s v client slot there)
phases_are_said s threads inputs (x ∷ earlier) v client slot seconds is bytes h low closing tcp there =
    says_after s threads inputs x earlier is bytes h v low client seconds closing tcp (said_of s v client earlier)
    (λ old at. phases_are_said s threads inputs earlier v client old seconds is bytes h.1 low closing tcp at) slot there
