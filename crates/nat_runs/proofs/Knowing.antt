-- What is known of a packet in hand, by where it is and by what its moves met.
use Rattle.std.proofs.Common.{◌≡◌, ◌≢◌, ℕ, ◌+◌, ◌*◌, ◌%◌, ◌^◌, ◌<◌, ◌≤◌, List, [], ◌∷◌, refl, sym, ap, ◌∙◌, subst, ◌⊎◌}
use Rattle.std.proofs.Common.{inl, inr, arith, Option, Some, None}
use Rattle.std.specs.Prelude.{Result, Ok, Err}
use Rattle.plain_text.specs.declared.packet.Packet.{Packet}
use Rattle.entry_order.proofs.Order.{is_or}
use Rattle.packet_headers.specs.declared.flow.Flow.{Flow}
use Rattle.packet_headers.specs.declared.flow.NotFlow.{NotFlow}
use Rattle.packet_headers.specs.declared.flow.NotFlow.TheVariants.{Short, NotIpv4, BadHeaderLength, Fragment}
use Rattle.packet_headers.specs.declared.flow.NotFlow.TheVariants.{OtherProtocol, BadTotalLength}
use Rattle.packet_headers.specs.Fields.{AreBytes}
use Rattle.plain_machine.specs.Machine.{Hand, Thread, Effect, Moves, held_move}
use Rattle.plain_machine.specs.History.{Step, act_of, thread_after, value_after, IsHistory}
use Rattle.plain_machine.proofs.Histories.{not_eq, is_eq}
use Rattle.plain_machine.proofs.Bounds.{values_fit}
use Rattle.nat_tables.specs.declared.entries.Endpoint.{Endpoint}
use Rattle.nat_tables.specs.declared.slot.Slot.{Slot}
use Rattle.nat_tables.specs.declared.phase.Segment.{Segment}
use Rattle.nat_box.specs.declared.place.Place.{Place}
use Rattle.nat_box.specs.declared.place.Place.TheVariants.{HearsTime, DrawsWord, ReservesPort, Ends}
use Rattle.nat_box.specs.declared.place.Class.{Class}
use Rattle.nat_box.specs.declared.place.Noted.{Noted}
use Rattle.nat_box.specs.declared.value.NatValue.{NatValue}
use Rattle.flow_boxes.specs.Flows.{endpoint, source_of}
use Rattle.nat_box.specs.Places.{noted, local_of, packed, packed_port, packed_segment}
use Rattle.nat_box.specs.Settings.{Settings, AreSettings}
use Rattle.nat_box.specs.Nat.{goes, flow_seen, class_seen, seen_by, noted_flow}
use Rattle.flow_boxes.specs.Drops.{reason_of}
use Rattle.nat_box.specs.Nat.{touched_by, begun_by, segment_told, followed, begun, looked, after_time, told, local_at}
use Rattle.nat_box.specs.Nat.{nat_meaning, Fits}
use Rattle.nat_box.specs.Noting.{class_again, packed_port_again, packed_segment_again, is_noted}
use Rattle.nat_box.specs.Ranks.{touches_it, reads_it}
use Rattle.nat_box.specs.Lawful.{nat_lawful}
use Rattle.nat_box.specs.Sentences.{IsMapping}
use Rattle.nat_box.proofs.Noting.{touched_noted}
use Rattle.nat_box.proofs.Making.{goes_on}
use Rattle.nat_runs.specs.Met.{Met, nothing_met, met_by_touch, met_by_read, met_by, met_of}
use Rattle.nat_box.proofs.SeenAs.{flow_whole}
use Rattle.nat_box.proofs.Emissions.{worded}
use Rattle.nat_runs.proofs.Within.{mapped_ports}
use Rattle.nat_runs.proofs.ThreadMoves.{touch_kind, look_kind, at_clock, at_draw, at, touched_below, read_below}
use Rattle.nat_runs.proofs.ThreadMoves.{by_move}
use Rattle.nat_runs.proofs.Known.{IsBase, IsWanting, KnownAt, Known, known_on, timed, time_noted, looked_noted}
use Rattle.nat_runs.proofs.KnownTouches.{base_on, time_known, touch_known, look_known}

-- The beginning

reason_low : (answer : NotFlow) → (1 ≤ reason_of answer) × (reason_of answer ≤ 10)
reason_low Short = (omega arith, omega arith)
reason_low NotIpv4 = (omega arith, omega arith)
reason_low BadHeaderLength = (omega arith, omega arith)
reason_low Fragment = (omega arith, omega arith)
reason_low OtherProtocol = (omega arith, omega arith)
reason_low BadTotalLength = (omega arith, omega arith)

module _ (s : Settings) (p : Packet) where
  -- the fields of a flow of bytes, as they are noted
  base_begun : (flow : Flow) (class : Class) → flow_seen s p ≡ Ok flow → class_seen s p ≡ Some class
      → IsBase s p (noted (local_of HearsTime (noted_flow (segment_told s.closing flow.flags) flow class)))
  base_begun flow class seen is = record {
    flow = flow;
    seen = seen;
    class = is ∙ ap Some (sym (class_again class));
    source = source;
    dest_port = dest_port;
    segment = segment;
  }
    where
      source : AreBytes p.bytes
          → endpoint (flow.protocol % 2 ^ 8) (flow.source % 2 ^ 32) (flow.source_port % 2 ^ 16) ≡ source_of flow
      source bytes =
          let w = flow_whole s p flow seen bytes in
          let a : flow.protocol < 2 ^ 8 = w.protocol in
          let b : flow.source < 2 ^ 32 = w.source in
          let c : flow.source_port < 2 ^ 16 = w.source_port in
          let d : flow.protocol % 2 ^ 8 ≡ flow.protocol = omega arith in
          let e : flow.source % 2 ^ 32 ≡ flow.source = omega arith in
          let f : flow.source_port % 2 ^ 16 ≡ flow.source_port = omega arith in
          λ i. endpoint (d i) (e i) (f i)

      told : Segment
      told = segment_told s.closing flow.flags

      low : AreBytes p.bytes → flow.dest_port < 2 ^ 16
      low bytes = (flow_whole s p flow seen bytes).dest_port

      dest_port : AreBytes p.bytes → packed_port (packed flow.dest_port told) ≡ flow.dest_port
      dest_port bytes = packed_port_again flow.dest_port told (low bytes)

      segment : AreBytes p.bytes → packed_segment (packed flow.dest_port told) ≡ told
      segment bytes = packed_segment_again flow.dest_port told (low bytes)

  begun_known : Known s nothing_met (Some (record { packet = p; place = local_at (begun s (seen_by s p)) }))
  begun_known = by (flow_seen s p) (class_seen s p) refl refl
    where
      by : (r : Result Flow NotFlow) (o : Option Class) → flow_seen s p ≡ r → class_seen s p ≡ o
          → Known s nothing_met (Some (record { packet = p; place = local_at (begun_by s r o) }))
      by (Err answer) o is q = let low = reason_low answer in (low.0, low.1, λ bytes. inl (answer, is, refl))
      by (Ok flow) None is q = (omega arith, omega arith, λ bytes. inr (inl (flow, is, q, refl)))
      by (Ok flow) (Some class) is q = base_begun flow class is q

-- Each move

module _ (s : Settings) (is : AreSettings s) (packets : List Packet) (value : ℕ → NatValue) (t : ℕ)
    (earlier : List (Step NatValue)) (taken taken_then : ℕ)
    (fits : (v : ℕ) → v < 2 + 2 * s.shards → Fits s v (value v))
    (ports : (v : ℕ) (e : Endpoint × Slot) → IsMapping s value v e → 1 ≤ e.1.port) (m : Met) where
  abbrev Keeps : Option Hand → Option Hand → Effect NatValue → Type 0
  Keeps before after d = Known s m before → Known s (met_by value (act_of t earlier taken_then d) m) after

  told_time : (h : Hand) (a : ℕ) (place : Place) → place ≡ HearsTime → KnownAt s m h.packet place (noted h.place)
      → Known s (record m { clock = Some a }) (goes_on h (told place a (noted h.place)))
  told_time h a place q k =
      let n : Noted = noted h.place in
      let o : Noted = record n { time = a } in
      let base : IsBase s h.packet n = subst (λ (z : Place). KnownAt s m h.packet z n) q k in
      subst (λ (z : Place). Known s (record m { clock = Some a }) (goes_on h (told z a n))) (sym q)
      (known_on s (record m { clock = Some a }) h (after_time o o.class)
      (time_noted o o.class (timed n a (is_noted h.place)))
      (time_known s h.packet (record m { clock = Some a }) o o.class refl
      (base_on s h.packet n o refl refl refl refl base) refl))

  told_word : (h : Hand) (a : ℕ) (place : Place) → place ≡ DrawsWord → KnownAt s m h.packet place (noted h.place)
      → Known s m (goes_on h (told place a (noted h.place)))
  told_word h a place q k =
      let n : Noted = noted h.place in
      let o : Noted = record n { word_or_reason = a } in
      let on : IsWanting s m h.packet n = subst (λ (z : Place). KnownAt s m h.packet z n) q k in
      subst (λ (z : Place). Known s m (goes_on h (told z a n))) (sym q)
      (known_on s m h (goes ReservesPort o) (worded n a (is_noted h.place))
      ((base_on s h.packet n o refl refl refl refl on.0.0, on.0.1, on.0.2), on.1))

  pub move_keeps : (after : Thread) (d : Effect NatValue) (hand : Option Hand) (a : Option ℕ)
      → held_move (nat_meaning s) packets value taken a hand ≡ Moves after d → Keeps hand after.hand d
  move_keeps after d hand a e =
      by_move s packets value taken Keeps (λ p input k. begun_known s p)
      (λ h v w k.
      let below = touched_below s is h v w in
      let r = touched_by s.limit (at h) (value v) (noted h.place) in
      known_on s (met_by_touch value (value v) (Some (followed s (noted h.place) r.0)) m) h r.1
      (touched_noted s (at h) (value v) (noted h.place) v (is_noted h.place) (fits v below))
      (touch_known s h.packet value fits ports m v (at h) (value v) (noted h.place) s.limit refl refl below
      (touch_kind s is.some (noted h.place) v (value v) (fits v below) (at h) w)
      (touches_it s (at h) (noted h.place) v w) k))
      (λ h v w k.
      let below = read_below s is h v w in
      let kind = look_kind s is.some (noted h.place) v (value v) (fits v below) (at h) w in
      known_on s (met_by_read value (value v) m) h (looked (at h) (value v) (noted h.place))
      (looked_noted s v (at h) (value v) (noted h.place) kind (fits v below) (is_noted h.place))
      (look_known s h.packet value fits ports m v (at h) (value v) (noted h.place) refl kind below
      (reads_it s (at h) (noted h.place) v w) k))
      (λ h x w k. told_time h x (at h) (at_clock s (at h) (noted h.place) w) k)
      (λ h x w k. told_word h x (at h) (at_draw s (at h) (noted h.place) w) k)
      (λ h w k. known_on s m h (goes Ends (noted h.place)) (is_noted h.place) tt) (λ h w k. tt) after d hand a e

pub run_known : (s : Settings) (threads : ℕ) (inputs : ℕ → List Packet) (steps : List (Step NatValue)) → AreSettings s
    → IsHistory (nat_meaning s) inputs threads steps → (t : ℕ)
    → Known s (met_of s t steps) (thread_after steps t).hand
run_known s threads inputs [] is h t = tt
run_known s threads inputs (x ∷ earlier) is h t =
    let fits = values_fit (nat_meaning s) (Fits s) (nat_lawful s is) inputs threads earlier h.1 in
    let new = move_keeps s is (inputs x.thread) (value_after (nat_meaning s) earlier) x.thread earlier
    (thread_after earlier x.thread).taken x.after.taken fits
    (mapped_ports s threads inputs earlier is h.1) (met_of s x.thread earlier) x.after h.0.2
    (thread_after earlier x.thread).hand h.0.1 h.0.3 (run_known s threads inputs earlier is h.1 x.thread) in
    by (is_or x.thread t) new (run_known s threads inputs earlier is h.1 t)
  where
    by : (x.thread ≡ t) ⊎ (x.thread ≢ t)
        → Known s (met_by (value_after (nat_meaning s) earlier) (act_of x.thread earlier x.after.taken h.0.2)
        (met_of s x.thread earlier)) x.after.hand → Known s (met_of s t earlier) (thread_after earlier t).hand
        → Known s (met_of s t (x ∷ earlier)) (thread_after (x ∷ earlier) t).hand
    by (inl e) new old =
        subst (λ (u : ℕ). Known s (met_of s u (x ∷ earlier)) (thread_after (x ∷ earlier) u).hand) e
        (rw (is_eq x.thread x.thread refl, h.0.4) new)
    by (inr e) new old = rw (not_eq x.thread t e) old
