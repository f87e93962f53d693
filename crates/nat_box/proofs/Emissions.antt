-- What goes out is the translation of the packet in hand.
use Rattle.std.proofs.Common.{◌≡◌, ◌≢◌, ℕ, ◌+◌, ◌-◌, ◌≤◌, ◌*◌, ◌^◌, ◌<◌, Bool, true, false, List, [], ◌∷◌, refl, sym}
use Rattle.std.proofs.Common.{ap, ◌∙◌, subst, ◌⊎◌, inl, inr, arith, Option, Some, None}
use Rattle.std.specs.Prelude.{slice_get, if◌then◌else◌, Result, Ok, Err}
use Rattle.plain_text.specs.declared.packet.Packet.{Packet}
use Rattle.entry_order.proofs.Order.{is_or}
use Rattle.packet_headers.specs.declared.flow.Flow.{Flow}
use Rattle.packet_headers.specs.declared.flow.NotFlow.{NotFlow}
use Rattle.packet_headers.specs.Fields.{AreBytes}
use Rattle.plain_machine.specs.declared.local.Move.TheVariants.{Emit}
use Rattle.plain_machine.specs.Machine.{Hand, Effect, Takes, Touches, Looks, HearsClock, HearsDraw, Sends}
use Rattle.plain_machine.specs.Machine.{Ends as EndsIt}
use Rattle.plain_machine.specs.History.{Emitted, Step, act_of, emission_of, sent_of, thread_after, value_after}
use Rattle.plain_machine.specs.History.{IsHistory}
use Rattle.plain_machine.specs.declared.emission.Emission.{Emission}
use Rattle.plain_machine.proofs.Histories.{not_eq, is_eq}
use Rattle.plain_machine.proofs.Bounds.{values_fit}
use Rattle.nat_tables.specs.Forwards.{Forwards, slot_of, lives}
use Rattle.nat_tables.specs.Reverses.{Reverses, endpoint_of, AreBound}
use Rattle.nat_tables.specs.Keys.{same_port}
use Rattle.nat_tables.specs.declared.entries.Endpoint.{Endpoint}
use Rattle.nat_tables.specs.declared.entries.PortKey.{PortKey}
use Rattle.nat_tables.specs.declared.slot.Slot.{Slot}
use Rattle.nat_tables.specs.declared.phase.Segment.{Segment}
use Rattle.nat_box.specs.declared.place.Place.{Place}
use Rattle.nat_box.specs.declared.place.Place.TheVariants.{HearsTime, FindsMapping, UnbindsFreed, GivesBackFreed}
use Rattle.nat_box.specs.declared.place.Place.TheVariants.{DrawsWord, ReservesPort, BindsPort, FindsOrBinds}
use Rattle.nat_box.specs.declared.place.Place.TheVariants.{UnbindsLost, GivesBackLost, FindsEndpoint, AsksIfLives}
use Rattle.nat_box.specs.declared.place.Place.TheVariants.{CountsDrop, SendsOut, Ends, FindsPort}
use Rattle.nat_box.specs.declared.place.Class.{Class}
use Rattle.nat_box.specs.declared.place.Class.TheVariants.{Outbound, Hairpin, Inbound, OutboundError}
use Rattle.nat_box.specs.declared.place.Noted.{Noted}
use Rattle.nat_box.specs.declared.value.NatValue.{NatValue}
use Rattle.nat_box.specs.declared.value.NatValue.TheVariants.{Dropped, Free, Mapped, Taken}
use Rattle.flow_boxes.specs.Flows.{endpoint, source_of, HaveBytes}
use Rattle.nat_box.specs.Places.{place_numbered, noted, dest_key}
use Rattle.nat_box.specs.declared.place.Goes.{Goes}
use Rattle.flow_boxes.specs.Drops.{reason_of}
use Rattle.nat_box.specs.Settings.{Settings, AreSettings}
use Rattle.nat_box.specs.Nat.{goes, next_move, class_of_flow, class_of_error, flow_of_error, seen_by, flow_in, class_in}
use Rattle.nat_box.specs.Nat.{flow_seen, class_seen, noted_flow, nothing_noted, begun_by, live_slot, live_port}
use Rattle.nat_box.specs.Nat.{after_port, error_out, bytes_out, MayMap}
use Rattle.icmp_errors.specs.declared.error.IcmpError.{IcmpError}
use Rattle.nat_box.specs.declared.seeing.Seen.{Seen}
use Rattle.nat_box.specs.declared.seeing.Seen.TheVariants.{OfFlow, OfError, OfNeither}
use Rattle.nat_box.proofs.SeenAs.{flow_whole, error_not_outbound, error_not_hairpin, flow_not_error, same_flow}
use Rattle.nat_box.proofs.LivePorts.{live_is}
use Rattle.nat_tables.proofs.Keeping.{may_slot}
use Rattle.nat_tables.specs.Forwards.{AreMappings}
use Rattle.nat_box.specs.Nat.{begun, after_endpoint, looked_by, looked, after_time, told, frame_out, local_at}
use Rattle.nat_box.specs.Nat.{nat_meaning, MayBind, Fits, segment_told, followed, touched_by}
use Rattle.nat_box.specs.LimitLaws.{touch_comes}
use Rattle.nat_box.specs.Noting.{IsNoted, is_noted}
use Rattle.nat_box.specs.Ranks.{var_of, touches_it, reads_it, below_all}
use Rattle.nat_box.specs.Lawful.{nat_lawful}
use Rattle.nat_box.specs.Emissions.{Trail, no_trail, trail_by, trail_of, WasMapped, Lived, IsTranslated}
use Rattle.nat_box.specs.Emissions.{IsTranslationOf, EmissionsTranslate}
use Rattle.nat_box.proofs.Noting.{touched_noted}
use Rattle.flow_boxes.proofs.Fitting.{IsWhole}
use Rattle.flow_boxes.proofs.HeldInputs.{IsHeld, move_holds, run_holds}
use Rattle.nat_box.proofs.Making.{goes_on, comes_to, Made, made}
use Rattle.nat_box.proofs.Translations.{IsBase, IfOutward, IfInward, IfError, KnownAt, Known, known_on, after_touch}
use Rattle.nat_box.proofs.Translations.{followed_known, limited_known, after_look, look_known, after_clock, clock_known}
use Rattle.nat_box.proofs.Translations.{draw_known}

-- Numbers fit

told_noted : (place : Place) (a : ℕ) (n : Noted) → IsNoted n → IsNoted (told place a n).noted
told_noted HearsTime a n is = timed (record n { time = a }) n.class (record {
  protocol = is.protocol;
  address = is.address;
  source_port = is.source_port;
  dest_port = is.dest_port;
  port = is.port;
  freed_protocol = is.freed_protocol;
  freed_port = is.freed_port;
  target_protocol = is.target_protocol;
  target_address = is.target_address;
  target_port = is.target_port;
})
  where
    timed : (m : Noted) (c : Class) → IsNoted m → IsNoted (after_time m c).noted
    timed m Outbound is = is
    timed m Hairpin is = is
    timed m Inbound is = is
    timed m OutboundError is = is
told_noted FindsMapping a n is = is
told_noted UnbindsFreed a n is = is
told_noted GivesBackFreed a n is = is
told_noted DrawsWord a n is = record {
  protocol = is.protocol;
  address = is.address;
  source_port = is.source_port;
  dest_port = is.dest_port;
  port = is.port;
  freed_protocol = is.freed_protocol;
  freed_port = is.freed_port;
  target_protocol = is.target_protocol;
  target_address = is.target_address;
  target_port = is.target_port;
}
told_noted ReservesPort a n is = is
told_noted BindsPort a n is = is
told_noted FindsOrBinds a n is = is
told_noted UnbindsLost a n is = is
told_noted GivesBackLost a n is = is
told_noted FindsEndpoint a n is = is
told_noted AsksIfLives a n is = is
told_noted CountsDrop a n is = is
told_noted SendsOut a n is = is
told_noted Ends a n is = is
told_noted FindsPort a n is = is

pub worded : (n : Noted) (x : ℕ) → IsNoted n → IsNoted (record n { word_or_reason = x })
worded n x is = record {
  protocol = is.protocol;
  address = is.address;
  source_port = is.source_port;
  dest_port = is.dest_port;
  port = is.port;
  freed_protocol = is.freed_protocol;
  freed_port = is.freed_port;
  target_protocol = is.target_protocol;
  target_address = is.target_address;
  target_port = is.target_port;
}

pub targeted : (n : Noted) (key : Endpoint) → key.address < 2 ^ 32 → key.port < 2 ^ 16 → IsNoted n
    → IsNoted (record n { target = endpoint n.source.protocol key.address key.port })
targeted n key address port is = record {
  protocol = is.protocol;
  address = is.address;
  source_port = is.source_port;
  dest_port = is.dest_port;
  port = is.port;
  freed_protocol = is.freed_protocol;
  freed_port = is.freed_port;
  target_protocol = refl;
  target_address = address;
  target_port = port;
}

ported : (n : Noted) (port : ℕ) → port < 2 ^ 16 → IsNoted n → IsNoted (record n { port = port })
ported n port low is = record {
  protocol = is.protocol;
  address = is.address;
  source_port = is.source_port;
  dest_port = is.dest_port;
  port = low;
  freed_protocol = is.freed_protocol;
  freed_port = is.freed_port;
  target_protocol = is.target_protocol;
  target_address = is.target_address;
  target_port = is.target_port;
}

-- an endpoint that a reverse table has
small_endpoint : (s : Settings) (v : ℕ) (port : PortKey) (bs : Reverses) (key : Endpoint)
    → endpoint_of port bs ≡ Some key → AreBound (MayBind s v) bs → (key.address < 2 ^ 32) × (key.port < 2 ^ 16)
small_endpoint s v port [] key is all = absurd (cc)
small_endpoint s v port (b ∷ bs) key is all = by (same_port port b.0) is (λ h. small_endpoint s v port bs key h all.2)
  where
    by : (t : Bool) → (if t then Some b.1 else endpoint_of port bs) ≡ Some key
        → (endpoint_of port bs ≡ Some key → (key.address < 2 ^ 32) × (key.port < 2 ^ 16))
        → (key.address < 2 ^ 32) × (key.port < 2 ^ 16)
    by true is rest =
        let q : b.1 ≡ key = cc in
        subst (λ (k : Endpoint). (k.address < 2 ^ 32) × (k.port < 2 ^ 16)) q (all.0.1, all.0.2)
    by false is rest = rest is

endpoint_noted : (n : Noted) (o : Option Endpoint) → IsNoted n
    → ((key : Endpoint) → o ≡ Some key → (key.address < 2 ^ 32) × (key.port < 2 ^ 16))
    → IsNoted (after_endpoint n o).noted
endpoint_noted n (Some key) is small = let a = small key refl in targeted n key a.0 a.1 is
endpoint_noted n None is small = worded n 7 is

lives_noted : (n : Noted) (b : Bool) → IsNoted n → IsNoted (looked_by n b).noted
lives_noted n true is = is
lives_noted n false is = worded n 7 is

pub port_noted : (n : Noted) (o : Option ℕ) → IsNoted n → ((port : ℕ) → o ≡ Some port → port < 2 ^ 16)
    → IsNoted (after_port n o).noted
port_noted n (Some port) is small = ported n port (small port refl) is
port_noted n None is small = worded n 7 is

-- the port of a mapping of a forward table
pub small_live : (s : Settings) (v : ℕ) (key : Endpoint) (now : ℕ) (es : Forwards) → AreMappings (MayMap s v) es
    → (port : ℕ) → live_port key now es ≡ Some port → port < 2 ^ 16
small_live s v key now es all port = by (slot_of key es) refl
  where
    by : (o : Option Slot) → slot_of key es ≡ o → live_slot key now o ≡ Some port → port < 2 ^ 16
    by None q e = absurd (cc)
    by (Some slot) q e =
        let may = may_slot (MayMap s v) key slot es q all in
        subst (λ (n : ℕ). n < 2 ^ 16) (live_is now key slot port e).1 may.2

looked_noted : (s : Settings) (place : Place) (x : NatValue) (n : Noted) (v : ℕ) → IsNoted n → Fits s v x
    → IsNoted (looked place x n).noted
looked_noted s HearsTime x n v is fits = is
looked_noted s FindsMapping x n v is fits = is
looked_noted s UnbindsFreed x n v is fits = is
looked_noted s GivesBackFreed x n v is fits = is
looked_noted s DrawsWord x n v is fits = is
looked_noted s ReservesPort x n v is fits = is
looked_noted s BindsPort x n v is fits = is
looked_noted s FindsOrBinds x n v is fits = is
looked_noted s UnbindsLost x n v is fits = is
looked_noted s GivesBackLost x n v is fits = is
looked_noted s FindsEndpoint (Dropped d) n v is fits = is
looked_noted s FindsEndpoint (Free pool) n v is fits = is
looked_noted s FindsEndpoint (Mapped es) n v is fits = is
looked_noted s FindsEndpoint (Taken bs) n v is fits =
    endpoint_noted n (endpoint_of (dest_key n) bs) is (λ key h. small_endpoint s v (dest_key n) bs key h fits.1)
looked_noted s AsksIfLives (Dropped d) n v is fits = is
looked_noted s AsksIfLives (Free pool) n v is fits = is
looked_noted s AsksIfLives (Mapped es) n v is fits = lives_noted n (lives n.target n.dest_port n.time es) is
looked_noted s AsksIfLives (Taken bs) n v is fits = is
looked_noted s CountsDrop x n v is fits = is
looked_noted s SendsOut x n v is fits = is
looked_noted s Ends x n v is fits = is
looked_noted s FindsPort (Dropped d) n v is fits = is
looked_noted s FindsPort (Free pool) n v is fits = is
looked_noted s FindsPort (Mapped es) n v is fits =
    port_noted n (live_port n.source n.time es) is (small_live s v n.source n.time es fits.2)
looked_noted s FindsPort (Taken bs) n v is fits = is

-- The beginning

begun_noted : (segment : Segment) (flow : Flow) (class : Class) → IsWhole flow
    → IsNoted (noted_flow segment flow class)
begun_noted segment flow class w = record {
  protocol = w.protocol;
  address = w.source;
  source_port = w.source_port;
  dest_port = w.dest_port;
  port = omega arith;
  freed_protocol = omega arith;
  freed_port = omega arith;
  target_protocol = refl;
  target_address = omega arith;
  target_port = omega arith;
}

pub nothing_is_noted : (reason : ℕ) → IsNoted (nothing_noted reason)
nothing_is_noted reason = record {
  protocol = omega arith;
  address = omega arith;
  source_port = omega arith;
  dest_port = omega arith;
  port = omega arith;
  freed_protocol = omega arith;
  freed_port = omega arith;
  target_protocol = refl;
  target_address = omega arith;
  target_port = omega arith;
}

begun_known : (s : Settings) (p : Packet) → AreBytes p.bytes
    → Known s no_trail (Some (record { packet = p; place = local_at (begun s (seen_by s p)) }))
begun_known s p bytes = by (flow_seen s p) (class_seen s p) refl refl
  where
    by : (r : Result Flow NotFlow) (o : Option Class) → flow_seen s p ≡ r → class_seen s p ≡ o
        → Known s no_trail (Some (record { packet = p; place = local_at (begun_by s r o) }))
    by (Err answer) o is q =
        known_on s no_trail (record { packet = p; place = local_at (begun_by s (Err answer) o) })
        (begun_by s (Err answer) o) (nothing_is_noted (reason_of answer)) tt
    by (Ok flow) None is q =
        known_on s no_trail (record { packet = p; place = local_at (begun_by s (Ok flow) None) })
        (begun_by s (Ok flow) None) (nothing_is_noted 9) tt
    by (Ok flow) (Some class) is q =
        known_on s no_trail (record { packet = p; place = local_at (begun_by s (Ok flow) (Some class)) })
        (begun_by s (Ok flow) (Some class))
        (begun_noted (segment_told s.closing flow.flags) flow class (flow_whole s p flow is bytes))
        (record { flow = flow; seen = is; class = q; source = refl; dest_port = refl })

-- Each move

made_known : (s : Settings) (is : AreSettings s) (packets : List Packet) (t : ℕ) (earlier : List (Step NatValue))
    (taken taken_then : ℕ) (before after : Option Hand) (d : Effect NatValue)
    → ((k : ℕ) (p : Packet) → slice_get packets k ≡ Some p → AreBytes p.bytes)
    → ((v : ℕ) → v < 2 + 2 * s.shards → Fits s v (value_after (nat_meaning s) earlier v)) → (r : Trail)
    → Known s r before → Made s packets taken (value_after (nat_meaning s) earlier) before after d
    → Known s (trail_by earlier s (act_of t earlier taken_then d) r) after
made_known s is packets t earlier taken tn before after Takes bytes fits r k m =
    subst (Known s no_trail) (sym m.2) (begun_known s m.0 (bytes taken m.0 m.1))
made_known s is packets t earlier taken tn before after (Touches v left) bytes fits r k m =
    let h : Hand = m.0 in
    let place : Place = place_numbered h.place.at in
    let n : Noted = noted h.place in
    let x : NatValue = value_after (nat_meaning s) earlier v in
    let at : var_of s place n ≡ v = touches_it s place n v m.2 in
    let below : v < 2 + 2 * s.shards = subst (λ (u : ℕ). u < 2 + 2 * s.shards) at (below_all s place n is.some) in
    let known : KnownAt s r h.packet place n = subst (Known s r) m.1 k in
    let u : NatValue × Goes = touched_by s.limit place x n in
    let left : NatValue = followed s n u.0 in
    let next = followed_known s h.packet r n u.0 u.1.place u.1.noted
    (limited_known s h.packet r place x n v u m.2 known (touch_comes s v s.limit place x n (fits v below))) in
    let on : Known s (after_touch left r) (goes_on h u.1) =
    known_on s (after_touch left r) h u.1 (touched_noted s place x n v (is_noted h.place) (fits v below)) next in
    subst (λ (y : NatValue). Known s (after_touch y r) after) (sym m.3)
    (subst (Known s (after_touch left r)) (sym m.4) on)
made_known s is packets t earlier taken tn before after (Looks v) bytes fits r k m =
    let h : Hand = m.0 in
    let place : Place = place_numbered h.place.at in
    let n : Noted = noted h.place in
    let x : NatValue = value_after (nat_meaning s) earlier v in
    let at : var_of s place n ≡ v = reads_it s place n v m.2 in
    let below : v < 2 + 2 * s.shards = subst (λ (u : ℕ). u < 2 + 2 * s.shards) at (below_all s place n is.some) in
    let known : KnownAt s r h.packet place n = subst (Known s r) m.1 k in
    let next = look_known s h.packet r place x n v m.2 known in
    subst (Known s (after_look s h.packet x r)) (sym m.3) (known_on s (after_look s h.packet x r) h (looked place x n)
    (looked_noted s place x n v (is_noted h.place) (fits v below)) next)
made_known s is packets t earlier taken tn before after (HearsClock a) bytes fits r k m =
    let h : Hand = m.0 in
    let place : Place = place_numbered h.place.at in
    let n : Noted = noted h.place in
    let known : KnownAt s r h.packet place n = subst (Known s r) m.1 k in
    subst (Known s (after_clock s h.packet a r)) (sym m.3) (known_on s (after_clock s h.packet a r) h (told place a n)
    (told_noted place a n (is_noted h.place)) (clock_known s h.packet r place a n m.2 known))
made_known s is packets t earlier taken tn before after (HearsDraw a) bytes fits r k m =
    let h : Hand = m.0 in
    let place : Place = place_numbered h.place.at in
    let n : Noted = noted h.place in
    let known : KnownAt s r h.packet place n = subst (Known s r) m.1 k in
    subst (Known s r) (sym m.3) (known_on s r h (told place a n) (told_noted place a n (is_noted h.place))
    (draw_known s h.packet r place a n m.2 known))
made_known s is packets t earlier taken tn before after (Sends q) bytes fits r k m =
    subst (Known s r) (sym m.4) (known_on s r m.0 (goes Ends (noted m.0.place)) (is_noted m.0.place) tt)
made_known s is packets t earlier taken tn before after EndsIt bytes fits r k m = subst (Known s r) (sym m) tt

run_known : (s : Settings) (threads : ℕ) (inputs : ℕ → List Packet) (steps : List (Step NatValue)) → AreSettings s
    → HaveBytes inputs → IsHistory (nat_meaning s) inputs threads steps → (t : ℕ)
    → Known s (trail_of s t steps) (thread_after steps t).hand
run_known s threads inputs [] is bytes h t = tt
run_known s threads inputs (x ∷ earlier) is bytes h t =
    let m = made s (inputs x.thread) (value_after (nat_meaning s) earlier) (thread_after earlier x.thread).taken x.after
    h.0.2 (thread_after earlier x.thread).hand h.0.1 h.0.3 in
    let fits = values_fit (nat_meaning s) (Fits s) (nat_lawful s is) inputs threads earlier h.1 in
    let new = made_known s is (inputs x.thread) x.thread earlier (thread_after earlier x.thread).taken x.after.taken
    (thread_after earlier x.thread).hand x.after.hand h.0.2 (bytes x.thread) fits (trail_of s x.thread earlier)
    (run_known s threads inputs earlier is bytes h.1 x.thread) m in
    by (is_or x.thread t) new (run_known s threads inputs earlier is bytes h.1 t)
  where
    by : (x.thread ≡ t) ⊎ (x.thread ≢ t)
        → Known s (trail_by earlier s (act_of x.thread earlier x.after.taken h.0.2) (trail_of s x.thread earlier))
        x.after.hand → Known s (trail_of s t earlier) (thread_after earlier t).hand
        → Known s (trail_of s t (x ∷ earlier)) (thread_after (x ∷ earlier) t).hand
    by (inl e) new old =
        subst (λ (u : ℕ). Known s (trail_of s u (x ∷ earlier)) (thread_after (x ∷ earlier) u).hand) e
        (rw (is_eq x.thread x.thread refl, h.0.4) new)
    by (inr e) new old = rw (not_eq x.thread t e) old

-- What goes out

at_send : (s : Settings) (place : Place) (n : Noted) → next_move s place n ≡ Emit → place ≡ SendsOut
at_send s HearsTime n e = absurd (cc)
at_send s FindsMapping n e = absurd (cc)
at_send s UnbindsFreed n e = absurd (cc)
at_send s GivesBackFreed n e = absurd (cc)
at_send s DrawsWord n e = absurd (cc)
at_send s ReservesPort n e = absurd (cc)
at_send s BindsPort n e = absurd (cc)
at_send s FindsOrBinds n e = absurd (cc)
at_send s UnbindsLost n e = absurd (cc)
at_send s GivesBackLost n e = absurd (cc)
at_send s FindsEndpoint n e = absurd (cc)
at_send s AsksIfLives n e = absurd (cc)
at_send s CountsDrop n e = absurd (cc)
at_send s SendsOut n e = refl
at_send s Ends n e = absurd (cc)
at_send s FindsPort n e = absurd (cc)

translated : (s : Settings) (r : Trail) (bytes : List ℕ) (flow : Flow) (n : Noted) (c : Class)
    → class_of_flow s flow.source flow.dest ≡ Some c → n.source ≡ source_of flow → n.dest_port ≡ flow.dest_port
    → n.target.protocol ≡ n.source.protocol → IfOutward c (WasMapped r.forward n.source n.port)
    → IfInward c (Lived r n.target n.dest_port) → IsTranslated s bytes (OfFlow flow) r (frame_out s c bytes flow n) c
translated s r bytes flow n Outbound class source dest tp m l =
    (n.port, subst (λ (k : Endpoint). WasMapped r.forward k n.port) source m, refl)
translated s r bytes flow n Inbound class source dest tp m l =
    (n.target, tp ∙ ap (λ (k : Endpoint). k.protocol) source, subst (λ (d : ℕ). Lived r n.target d) dest l, refl)
translated s r bytes flow n Hairpin class source dest tp m l = (
  n.port,
  n.target,
  subst (λ (k : Endpoint). WasMapped r.forward k n.port) source m,
  tp ∙ ap (λ (k : Endpoint). k.protocol) source,
  subst (λ (d : ℕ). Lived r n.target d) dest l,
  refl,
)
translated s r bytes flow n OutboundError class source dest tp m l =
    absurd (flow_not_error s flow.source flow.dest class)

error_translated : (s : Settings) (r : Trail) (bytes : List ℕ) (error : IcmpError) (n : Noted) (c : Class)
    → class_of_error s error ≡ Some c → n.source ≡ source_of (flow_of_error error)
    → n.dest_port ≡ error.quoted_source_port → n.target.protocol ≡ n.source.protocol
    → IfInward c (Lived r n.target n.dest_port) → IfError c (Lived r n.source n.port)
    → IsTranslated s bytes (OfError error) r (error_out s c bytes error n) c
error_translated s r bytes error n Outbound class source dest tp l u = absurd (error_not_outbound s error class)
error_translated s r bytes error n Hairpin class source dest tp l u = absurd (error_not_hairpin s error class)
error_translated s r bytes error n Inbound class source dest tp l u =
    (n.target, tp ∙ ap (λ (k : Endpoint). k.protocol) source, subst (λ (d : ℕ). Lived r n.target d) dest l, refl)
error_translated s r bytes error n OutboundError class source dest tp l u =
    (n.port, subst (λ (k : Endpoint). Lived r k n.port) source u, refl)

seen_translated : (s : Settings) (r : Trail) (bytes : List ℕ) (n : Noted) (flow : Flow) (seen : Seen)
    → flow_in seen ≡ Ok flow → class_in s seen ≡ Some n.class → n.source ≡ source_of flow
    → n.dest_port ≡ flow.dest_port → n.target.protocol ≡ n.source.protocol
    → IfOutward n.class (WasMapped r.forward n.source n.port) → IfInward n.class (Lived r n.target n.dest_port)
    → IfError n.class (Lived r n.source n.port) → IsTranslated s bytes seen r (bytes_out s bytes n seen) n.class
seen_translated s r bytes n flow (OfFlow own) seen class source dest tp m l u =
    let same : flow ≡ own = sym (same_flow (Ok own) own flow refl seen) in
    translated s r bytes own n n.class class (source ∙ ap source_of same)
    (dest ∙ ap (λ (f : Flow). f.dest_port) same) tp m l
seen_translated s r bytes n flow (OfError error) seen class source dest tp m l u =
    let same : flow ≡ flow_of_error error =
    sym (same_flow (Ok (flow_of_error error)) (flow_of_error error) flow refl seen) in
    error_translated s r bytes error n n.class class (source ∙ ap source_of same)
    (dest ∙ ap (λ (f : Flow). f.dest_port) same) tp l u
seen_translated s r bytes n flow (OfNeither answer) seen class source dest tp m l u = absurd (cc)

send_translates : (s : Settings) (r : Trail) (h : Hand) → comes_to s h Emit → Known s r (Some h)
    → IsTranslationOf s r ((nat_meaning s).out h.packet h.place) (Some h.packet)
send_translates s r h at k =
    let n : Noted = noted h.place in
    let known : KnownAt s r h.packet SendsOut n =
    subst (λ (q : Place). KnownAt s r h.packet q n) (at_send s (place_numbered h.place.at) n at) k in
    let base : IsBase s h.packet n = known.0 in (
      n.class,
      base.class,
      seen_translated s r h.packet.bytes n base.flow (seen_by s h.packet) base.seen base.class base.source
          base.dest_port refl known.1 known.2 known.3,
    )

pub emissions_translate : EmissionsTranslate
emissions_translate s threads inputs x earlier o is bytes h sent =
    let old = thread_after earlier x.thread in
    let m =
    made s (inputs x.thread) (value_after (nat_meaning s) earlier) old.taken x.after h.0.2 old.hand h.0.1 h.0.3 in
    let held = move_holds (nat_meaning s) (inputs x.thread) (value_after (nat_meaning s) earlier) old.taken x.after
    h.0.2 old.hand h.0.1 (run_holds (nat_meaning s) threads inputs earlier h.1 x.thread) h.0.3 in
    by h.0.2 (sym h.0.4 ∙ sent) m (run_known s threads inputs earlier is bytes h.1 x.thread) held
  where
    r : Trail
    r = trail_of s x.thread earlier

    of_parts : (q : Packet) → act_of x.thread earlier x.after.taken (Sends q) ≡ Emitted o
        → (x.after.taken ≡ o.input) × (q ≡ o.packet)
    of_parts q e =
        let same : emission_of x.thread (sent_of earlier) x.after.taken q ≡ o = cc in
        (ap (λ (y : Emission). y.input) same, ap (λ (y : Emission). y.packet) same)

    by : (d : Effect NatValue) → act_of x.thread earlier x.after.taken d ≡ Emitted o
        → Made s (inputs x.thread) (thread_after earlier x.thread).taken (value_after (nat_meaning s) earlier)
        (thread_after earlier x.thread).hand x.after.hand d → Known s r (thread_after earlier x.thread).hand
        → IsHeld (inputs x.thread) x.after.taken x.after.hand
        → (1 ≤ o.input) × IsTranslationOf s r o.packet.bytes (slice_get (inputs x.thread) (o.input - 1))
    by Takes e m k held = absurd (cc)
    by (Touches v left) e m k held = absurd (cc)
    by (Looks v) e m k held = absurd (cc)
    by (HearsClock a) e m k held = absurd (cc)
    by (HearsDraw a) e m k held = absurd (cc)
    by EndsIt e m k held = absurd (cc)
    by (Sends q) e m k held =
        let parts = of_parts q e in
        let known : Known s r (Some m.0) = subst (Known s r) m.1 k in
        let a : IsTranslationOf s r ((nat_meaning s).out m.0.packet m.0.place) (Some m.0.packet) =
        send_translates s r m.0 m.2 known in
        let c : (nat_meaning s).out m.0.packet m.0.place ≡ o.packet.bytes =
        ap (λ (y : Packet). y.bytes) (sym m.3 ∙ parts.1) in
        let b : IsTranslationOf s r o.packet.bytes (Some m.0.packet) =
        subst (λ (y : List ℕ). IsTranslationOf s r y (Some m.0.packet)) c a in
        let taken : IsHeld (inputs x.thread) x.after.taken
        (Some (record { packet = m.0.packet; place = local_at (goes Ends (noted m.0.place)) })) =
        subst (IsHeld (inputs x.thread) x.after.taken) m.4 held in
        let input : slice_get (inputs x.thread) (o.input - 1) ≡ Some m.0.packet =
        subst (λ (n : ℕ). slice_get (inputs x.thread) (n - 1) ≡ Some m.0.packet) parts.0 taken.1 in
        (subst (λ (n : ℕ). 1 ≤ n) parts.0 taken.0, subst (IsTranslationOf s r o.packet.bytes) (sym input) b)
