-- The phase of a mapping after a step is the one that it had, or the one after the packet in hand.
use Rattle.std.proofs.Common.{◌≡◌, ◌≢◌, ℕ, ◌+◌, ◌-◌, ◌*◌, ◌<◌, Bool, true, false, List, [], ◌∷◌, ◌++◌, refl, sym, ap}
use Rattle.std.proofs.Common.{◌∙◌, subst, ◌⊎◌, inl, inr, arith, ◌≤◌, ◌/◌, ◌%◌, ◌^◌, Option, Some, None}
use Rattle.std.specs.Prelude.{cond, nat_eq, ◌==◌, if◌then◌else◌, bit_and}
use Rattle.std.specs.Int.Bits.{and_zero_r}
use Rattle.std.proofs.lemmas.Nat.{and_block}
use Rattle.std.proofs.lemmas.Bool.{eqb-true, cases_eq}
use Rattle.std.proofs.lemmas.Bool.Decides.{nat_tests}
use Rattle.plain_text.specs.declared.packet.Packet.{Packet}
use Rattle.entry_order.proofs.Order.{is_or}
use Rattle.packet_headers.specs.Fields.{AreBytes}
use Rattle.plain_machine.specs.declared.local.Move.TheVariants.{Access}
use Rattle.plain_machine.specs.Machine.{Hand, Thread, Effect, Moves, held_move}
use Rattle.plain_machine.specs.History.{Act, Step, act_of, left_by, thread_after, value_after}
use Rattle.plain_machine.proofs.Histories.{not_eq, is_eq}
use Rattle.plain_machine.proofs.Bounds.{values_fit}
use Rattle.nat_tables.specs.declared.entries.Endpoint.{Endpoint}
use Rattle.nat_tables.specs.declared.slot.Slot.{Slot}
use Rattle.nat_tables.specs.declared.phase.Phase.{Phase}
use Rattle.nat_tables.specs.declared.phase.Phase.TheVariants.{Plain, Opening, Established, Closing, EndedByClient}
use Rattle.nat_tables.specs.declared.phase.Phase.TheVariants.{EndedByServer, Kept}
use Rattle.nat_tables.specs.declared.phase.Segment.{Segment}
use Rattle.nat_tables.specs.declared.phase.Segment.TheVariants.{Silent, Opens, Carries, Closes}
use Rattle.nat_tables.specs.Keys.{same_endpoint}
use Rattle.nat_tables.specs.Phases.{phase_after}
use Rattle.nat_tables.specs.Forwards.{Forwards, slot_of, is_idle, first_idle, refreshed, refresh, marked, mark}
use Rattle.nat_tables.specs.Forwards.{found_there, found, bound, Misses, AreMappings}
use Rattle.nat_tables.specs.declared.entries.Find.{Find}
use Rattle.nat_tables.specs.declared.entries.Bind.{Bind}
use Rattle.nat_tables.specs.Hosts.{find_within, bind_within}
use Rattle.nat_tables.proofs.Counting.{same_is}
use Rattle.flow_boxes.proofs.Fitting.{same_self}
use Rattle.flow_boxes.proofs.HeldInputs.{IsHeld, run_holds}
use Rattle.nat_box.specs.declared.place.Place.{Place}
use Rattle.nat_box.specs.declared.place.Noted.{Noted}
use Rattle.nat_box.specs.declared.value.NatValue.{NatValue}
use Rattle.nat_box.specs.declared.value.NatValue.TheVariants.{Mapped}
use Rattle.nat_box.specs.Places.{noted}
use Rattle.nat_box.specs.Settings.{Settings, AreSettings}
use Rattle.nat_box.specs.Nat.{segment_of, segment_told, touched_by, followed_by, followed, nat_meaning, MayMap, Fits}
use Rattle.nat_box.specs.Lawful.{nat_lawful}
use Rattle.nat_box.specs.Sentences.{Has, mappings_in}
use Rattle.nat_box.proofs.Making.{comes_to}
use Rattle.nat_runs.specs.Met.{Met, met_of}
use Rattle.nat_runs.specs.Following.{IsSet, IsClear, IsOpening, IsEnded, Follows, PhaseGoesOn, HadPhase, IsFollowedOn}
use Rattle.nat_runs.specs.Following.{HostsFollow}
use Rattle.nat_runs.proofs.Within.{by_find, by_bind}
use Rattle.nat_runs.proofs.TableEntries.{missed, not_there, without_was, without_idle_was}
use Rattle.nat_runs.proofs.ThreadMoves.{TouchKind, finds, unbinds_freed, gives_freed, reserves, binds, finds_or_binds}
use Rattle.nat_runs.proofs.ThreadMoves.{unbinds_lost, gives_lost, counts, touch_kind, at, touched_below, by_move}
use Rattle.nat_runs.proofs.Known.{outward_flow, IsOnWay, KnownAt, Known}
use Rattle.nat_runs.proofs.Knowing.{run_known}

-- Before the segment is noted: an entry was there, or it is of the packet's endpoint and has the phase of its mapping.

abbrev IsOld : Endpoint → Forwards → Endpoint × Slot → Type 0
IsOld key es e = Has es e ⊎ ((key ≡ e.0) × HadPhase (Mapped es) e.0 e.1.phase)

-- it has the phase of the mapping that was there
abbrev WasThere : Endpoint → Forwards → Endpoint × Slot → Type 0
WasThere key es e = Has es e ⊎ ((key ≡ e.0) × (old : Slot) × Has es (e.0, old) × (old.phase ≡ e.1.phase))

as_old : (key : Endpoint) (es : Forwards) (e : Endpoint × Slot) → WasThere key es e → IsOld key es e
as_old key es e (inl k) = inl k
as_old key es e (inr k) = inr (k.0, inl (k.1, k.2, k.3))

refresh_old : (key : Endpoint) (now : ℕ) (es : Forwards) (e : Endpoint × Slot) → Has (refresh key now es) e
    → WasThere key es e
refresh_old key now [] e h = absurd h
refresh_old key now (x ∷ es) e h = by (same_endpoint key x.0) refl h (refresh_old key now es e)
  where
    on : WasThere key es e → WasThere key (x ∷ es) e
    on (inl k) = inl (inr k)
    on (inr k) = inr (k.0, k.1, inr k.2, k.3)

    by : (b : Bool) → same_endpoint key x.0 ≡ b
        → Has (if b then (x.0, refreshed now x.1) ∷ es else x ∷ refresh key now es) e
        → (Has (refresh key now es) e → WasThere key es e) → WasThere key (x ∷ es) e
    by true q (inl p) rest = inr (
      same_is key x.0 q ∙ ap (λ (z : Endpoint × Slot). z.0) p,
      x.1,
      inl (ap (λ (z : Endpoint × Slot). (z.0, x.1)) p),
      ap (λ (z : Endpoint × Slot). z.1.phase) p,
    )
    by true q (inr h) rest = inl (inr h)
    by false q (inl p) rest = inl (inl p)
    by false q (inr h) rest = on (rest h)

append_old : (key : Endpoint) (slot : Slot) (es : Forwards) (e : Endpoint × Slot) → slot.phase ≡ Plain
    → Has (es ++ (key, slot) ∷ []) e → Has es e ⊎ ((key ≡ e.0) × (e.1.phase ≡ Plain))
append_old key slot [] e plain (inl p) =
    inr (ap (λ (z : Endpoint × Slot). z.0) p, ap (λ (z : Endpoint × Slot). z.1.phase) (sym p) ∙ plain)
append_old key slot [] e plain (inr h) = absurd h
append_old key slot (x ∷ es) e plain (inl p) = inl (inl p)
append_old key slot (x ∷ es) e plain (inr h) = on (append_old key slot es e plain h)
  where
    on : Has es e ⊎ ((key ≡ e.0) × (e.1.phase ≡ Plain)) → Has (x ∷ es) e ⊎ ((key ≡ e.0) × (e.1.phase ≡ Plain))
    on (inl k) = inl (inr k)
    on (inr k) = inr k

there_old : (key : Endpoint) (now : ℕ) (es : Forwards) (slot : Slot) (idle : Bool) (e : Endpoint × Slot)
    → Has (found_there key now es slot idle).1 e → IsOld key es e
there_old key now es slot true e h = inl (without_was key es e h)
there_old key now es slot false e h = as_old key es e (refresh_old key now es e h)

found_old : (key : Endpoint) (now : ℕ) (es : Forwards) (a : Option Slot) (b : Option (Endpoint × Slot))
    (e : Endpoint × Slot) → Has (found key now es a b).1 e → IsOld key es e
found_old key now es (Some slot) b e h = there_old key now es slot (is_idle now (key, slot)) e h
found_old key now es None (Some gone) e h = inl (without_idle_was now es e h)
found_old key now es None None e h = inl h

bound_old : (key : Endpoint) (port now : ℕ) (es : Forwards) (a : Option Slot) (e : Endpoint × Slot)
    → slot_of key es ≡ a → Has (bound key port now es a).1 e → IsOld key es e
bound_old key port now es (Some slot) e at h = as_old key es e (refresh_old key now es e h)
bound_old key port now es None e at h =
    on (append_old key (record { port = port; last = now; phase = Plain }) es e refl h)
  where
    on : Has es e ⊎ ((key ≡ e.0) × (e.1.phase ≡ Plain)) → IsOld key es e
    on (inl k) = inl k
    on (inr k) = inr (
      k.0,
      inr (subst (λ (own : Endpoint). (old : Slot) → Has es (own, old) → ⊥) k.0 (not_there key es at), k.1),
    )

-- After it was noted: an entry is of another endpoint and was there, or it has the phase after the segment.

abbrev IsMarked : Endpoint → ℕ → Segment → Forwards → Endpoint × Slot → Type 0
IsMarked own seconds segment es e =
    (Has es e × (own ≡ e.0 → ⊥))
    ⊎ ((own ≡ e.0) × (old : Slot) × Has es (e.0, old) × (e.1.phase ≡ phase_after seconds segment old.phase))

module _ (May : Endpoint → Slot → Type 0) (own : Endpoint) (seconds : ℕ) (segment : Segment) where
  is_marked : (es : Forwards) (e : Endpoint × Slot) → AreMappings May (mark own seconds segment es)
      → Has (mark own seconds segment es) e → IsMarked own seconds segment es e
  is_marked [] e all h = absurd h
  is_marked (x ∷ es) e all h = by (same_endpoint own x.0) refl all h (is_marked es e)
    where
      on : IsMarked own seconds segment es e → IsMarked own seconds segment (x ∷ es) e
      on (inl k) = inl (inr k.0, k.1)
      on (inr k) = inr (k.0, k.1, inr k.2, k.3)

      other : own ≡ x.0 → Misses es x.0 → Has es e → own ≡ e.0 → ⊥
      other q misses h same =
          let here : same_endpoint e.0 x.0 ≡ false = missed es x.0 e misses h in
          let there : same_endpoint e.0 x.0 ≡ true =
          subst (λ (k : Endpoint). same_endpoint e.0 k ≡ true) (sym same ∙ q) (same_self e.0) in
          absurd (cc)

      by : (b : Bool) → same_endpoint own x.0 ≡ b
          → AreMappings May (if b then (x.0, marked seconds segment x.1) ∷ es else x ∷ mark own seconds segment es)
          → Has (if b then (x.0, marked seconds segment x.1) ∷ es else x ∷ mark own seconds segment es) e
          → (AreMappings May (mark own seconds segment es) → Has (mark own seconds segment es) e
          → IsMarked own seconds segment es e) → IsMarked own seconds segment (x ∷ es) e
      by true q all (inl p) rest = inr (
        same_is own x.0 q ∙ ap (λ (z : Endpoint × Slot). z.0) p,
        x.1,
        inl (ap (λ (z : Endpoint × Slot). (z.0, x.1)) p),
        ap (λ (z : Endpoint × Slot). z.1.phase) (sym p),
      )
      by true q all (inr h) rest = inl (inr h, other (same_is own x.0 q) all.1 h)
      by false q all (inl p) rest = inl (
        inl p,
        λ same.
            let there : same_endpoint own x.0 ≡ true =
            subst (λ (k : Endpoint). same_endpoint own k ≡ true) (same ∙ ap (λ (z : Endpoint × Slot). z.0) (sym p))
            (same_self own) in
            absurd (cc),
      )
      by false q all (inr h) rest = on (rest all.2 h)

-- Both together

abbrev phase_by : Option ℕ → ℕ → Segment → Phase → Phase
phase_by None protocol segment phase = phase
phase_by (Some seconds) protocol segment phase = if protocol == 6 then phase_after seconds segment phase else phase

-- and by the control bits

five_is : (flags : ℕ) → bit_and flags 5 ≡ bit_and flags 4 + bit_and flags 1
five_is flags =
    let whole : flags ≡ flags / 4 * 2 ^ 2 + flags % 4 = omega arith in
    let low : flags % 4 < 2 ^ 2 = omega arith in
    let five = and_block 2 (flags / 4) 1 (flags % 4) 1 low (omega arith) in
    let four = and_block 2 (flags / 4) 1 (flags % 4) 0 low (omega arith) in
    let one = and_block 2 (flags / 4) 0 (flags % 4) 1 low (omega arith) in
    let none = and_zero_r (flags % 4) in
    let nothing = and_zero_r (flags / 4) in
    let a : bit_and flags 5 ≡ bit_and (flags / 4) 1 * 2 ^ 2 + bit_and (flags % 4) 1 =
    ap (λ (n : ℕ). bit_and n 5) whole ∙ five in
    let b : bit_and flags 4 ≡ bit_and (flags / 4) 1 * 2 ^ 2 + bit_and (flags % 4) 0 =
    ap (λ (n : ℕ). bit_and n 4) whole ∙ four in
    let c : bit_and flags 1 ≡ bit_and (flags / 4) 0 * 2 ^ 2 + bit_and (flags % 4) 1 =
    ap (λ (n : ℕ). bit_and n 1) whole ∙ one in
    omega (arith, a, b, c, none, nothing)

is_zero : (a : ℕ) → a ≡ 0 → (a == 0) ≡ true
is_zero a q = grind (arith, nat_tests)

is_some : (a : ℕ) → 1 ≤ a → (a == 0) ≡ false
is_some a q = grind (arith, nat_tests)

closes : (flags : ℕ) → IsSet 1 flags ⊎ IsSet 4 flags → segment_of flags ≡ Closes
closes flags (inl set) = let f = five_is flags in rw (is_some (bit_and flags 5) (omega (arith, f, set))) refl
closes flags (inr set) = let f = five_is flags in rw (is_some (bit_and flags 5) (omega (arith, f, set))) refl

module _ (flags : ℕ) (fin : IsClear 1 flags) (rst : IsClear 4 flags) where
  goes_on : (bit_and flags 5 == 0) ≡ true
  goes_on = let f = five_is flags in is_zero (bit_and flags 5) (omega (arith, f, fin, rst))

  opens : IsSet 2 flags → IsClear 16 flags → segment_of flags ≡ Opens
  opens syn ack = rw (goes_on, is_some (bit_and flags 2) syn, is_zero (bit_and flags 16) ack) refl

  carries : IsClear 2 flags → IsSet 16 flags → segment_of flags ≡ Carries
  carries syn ack = rw (goes_on, is_zero (bit_and flags 2) syn, is_some (bit_and flags 16) ack) refl

  silent : (IsClear 2 flags × IsClear 16 flags) ⊎ (IsSet 2 flags × IsSet 16 flags) → segment_of flags ≡ Silent
  silent (inl (syn, ack)) = rw (goes_on, is_zero (bit_and flags 2) syn, is_zero (bit_and flags 16) ack) refl
  silent (inr (syn, ack)) = rw (goes_on, is_some (bit_and flags 2) syn, is_some (bit_and flags 16) ack) refl

  begins_none : IsClear 2 flags ⊎ IsSet 16 flags → (segment_of flags ≡ Carries) ⊎ (segment_of flags ≡ Silent)
  begins_none told = by (cases_eq (bit_and flags 2) 0) (cases_eq (bit_and flags 16) 0) told
    where
      some : (a : ℕ) → a ≢ 0 → 1 ≤ a
      some a apart = omega (arith, apart)

      by : (bit_and flags 2 ≡ 0) ⊎ (bit_and flags 2 ≢ 0) → (bit_and flags 16 ≡ 0) ⊎ (bit_and flags 16 ≢ 0)
          → IsClear 2 flags ⊎ IsSet 16 flags → (segment_of flags ≡ Carries) ⊎ (segment_of flags ≡ Silent)
      by (inl syn) (inl ack) told = inr (silent (inl (syn, ack)))
      by (inl syn) (inr ack) told = inl (carries syn (some (bit_and flags 16) ack))
      by (inr syn) (inr ack) told = inr (silent (inr (some (bit_and flags 2) syn, some (bit_and flags 16) ack)))
      by (inr syn) (inl ack) (inl clear) = absurd (syn clear)
      by (inr syn) (inl ack) (inr set) = absurd (omega (arith, ack, set))

-- the phases after each kind of segment

closed : (seconds : ℕ) (old : Phase) → old ≢ Kept → phase_after seconds Closes old ≡ Closing seconds
closed seconds Plain other = refl
closed seconds (Opening o) other = refl
closed seconds Established other = refl
closed seconds (Closing o) other = refl
closed seconds EndedByClient other = refl
closed seconds EndedByServer other = refl
closed seconds Kept other = absurd (other refl)

opened : (seconds : ℕ) (old : Phase) → old ≢ Kept → phase_after seconds Opens old ≡ Opening seconds
opened seconds Plain other = refl
opened seconds (Opening o) other = refl
opened seconds Established other = refl
opened seconds (Closing o) other = refl
opened seconds EndedByClient other = refl
opened seconds EndedByServer other = refl
opened seconds Kept other = absurd (other refl)

ended_stays : (seconds : ℕ) (segment : Segment) (old : Phase) → (segment ≡ Carries) ⊎ (segment ≡ Silent) → IsEnded old
    → phase_after seconds segment old ≡ Closing seconds
ended_stays seconds segment Plain told ended = absurd ended
ended_stays seconds segment (Opening o) told ended = absurd ended
ended_stays seconds segment Established told ended = absurd ended
ended_stays seconds segment (Closing o) (inl q) ended = rw q refl
ended_stays seconds segment (Closing o) (inr q) ended = rw q refl
ended_stays seconds segment EndedByClient (inl q) ended = rw q refl
ended_stays seconds segment EndedByClient (inr q) ended = rw q refl
ended_stays seconds segment EndedByServer (inl q) ended = rw q refl
ended_stays seconds segment EndedByServer (inr q) ended = rw q refl
ended_stays seconds segment Kept told ended = absurd ended

established_by : (seconds : ℕ) (old : Phase) → IsOpening old ⊎ (old ≡ Established)
    → phase_after seconds Carries old ≡ Established
established_by seconds old (inr q) = rw q refl
established_by seconds Plain (inl opening) = refl
established_by seconds (Opening o) (inl opening) = refl
established_by seconds Established (inl opening) = absurd opening
established_by seconds (Closing o) (inl opening) = absurd opening
established_by seconds EndedByClient (inl opening) = absurd opening
established_by seconds EndedByServer (inl opening) = absurd opening
established_by seconds Kept (inl opening) = absurd opening

opening_stays : (seconds : ℕ) (old : Phase) → IsOpening old → phase_after seconds Silent old ≡ Opening seconds
opening_stays seconds Plain opening = refl
opening_stays seconds (Opening o) opening = refl
opening_stays seconds Established opening = absurd opening
opening_stays seconds (Closing o) opening = absurd opening
opening_stays seconds EndedByClient opening = absurd opening
opening_stays seconds EndedByServer opening = absurd opening
opening_stays seconds Kept opening = absurd opening

established_stays : (seconds : ℕ) (segment : Segment) (old : Phase) → (segment ≡ Carries) ⊎ (segment ≡ Silent)
    → old ≡ Established → phase_after seconds segment old ≡ Established
established_stays seconds segment old (inl told) q = rw (told, q) refl
established_stays seconds segment old (inr told) q = rw (told, q) refl

after_bits : (seconds flags : ℕ) (old : Phase) → old ≢ Kept
    → Follows seconds flags old (phase_after seconds (segment_of flags) old)
after_bits seconds flags old other = record {
  ended = λ bits. rw (closes flags bits) (closed seconds old other);
  begun = λ fin rst syn ack. rw (opens flags fin rst syn ack) (opened seconds old other);
  stays_ended = λ fin rst told ended.
      ended_stays seconds (segment_of flags) old (begins_none flags fin rst told) ended;
  established = λ fin rst syn ack on. rw (carries flags fin rst syn ack) (established_by seconds old on);
  stays_established = λ fin rst told on.
      established_stays seconds (segment_of flags) old (begins_none flags fin rst told) on;
  stays_opening = λ fin rst both opening. rw (silent flags fin rst both) (opening_stays seconds old opening);
}

kept_or : (phase : Phase) → (phase ≡ Kept) ⊎ (phase ≢ Kept)
kept_or Plain = inr (λ q. absurd (cc))
kept_or (Opening o) = inr (λ q. absurd (cc))
kept_or Established = inr (λ q. absurd (cc))
kept_or (Closing o) = inr (λ q. absurd (cc))
kept_or EndedByClient = inr (λ q. absurd (cc))
kept_or EndedByServer = inr (λ q. absurd (cc))
kept_or Kept = inl refl

kept_after : (seconds : ℕ) (segment : Segment) → phase_after seconds segment Kept ≡ Kept
kept_after seconds Silent = refl
kept_after seconds Opens = refl
kept_after seconds Carries = refl
kept_after seconds Closes = refl

by_bits : (c : Option ℕ) (protocol flags : ℕ) (old : Phase)
    → PhaseGoesOn c protocol flags old (phase_by c protocol (segment_told c flags) old)
by_bits None protocol flags old = refl
by_bits (Some seconds) protocol flags old = by (protocol == 6) refl (kept_or old)
  where
    by : (b : Bool) → (protocol == 6) ≡ b → (old ≡ Kept) ⊎ (old ≢ Kept)
        → PhaseGoesOn (Some seconds) protocol flags old
        (if b then phase_after seconds (segment_of flags) old else old)
    by false q kept = inl ((λ same. grind (arith, nat_tests)), refl)
    by true q (inl kept) =
        inr (eqb-true _ _ q, inl (kept, rw kept (kept_after seconds (segment_of flags))))
    by true q (inr other) = inr (eqb-true _ _ q, inr (other, after_bits seconds flags old other))

abbrev IsNow : Option ℕ → Noted → Forwards → Endpoint × Slot → Type 0
IsNow c n es e =
    Has es e
    ⊎ ((n.source ≡ e.0) × (old : Phase) × HadPhase (Mapped es) e.0 old
    × (e.1.phase ≡ phase_by c n.source.protocol n.segment old))

followed_now : (May : Endpoint → Slot → Type 0) (c : Option ℕ) (n : Noted) (es after : Forwards) (e : Endpoint × Slot)
    → AreMappings May (followed_by c n after) → ((x : Endpoint × Slot) → Has after x → IsOld n.source es x)
    → Has (followed_by c n after) e → IsNow c n es e
followed_now May None n es after e all old h = on (old e h)
  where
    on : IsOld n.source es e → IsNow None n es e
    on (inl k) = inl k
    on (inr (k, had)) = inr (k, e.1.phase, had, refl)
followed_now May (Some seconds) n es after e all old h = by (n.source.protocol == 6) refl all h
  where
    by : (b : Bool) → (n.source.protocol == 6) ≡ b
        → AreMappings May (if b then mark n.source seconds n.segment after else after)
        → Has (if b then mark n.source seconds n.segment after else after) e → IsNow (Some seconds) n es e
    by false q all h = on (old e h)
      where
        on : IsOld n.source es e → IsNow (Some seconds) n es e
        on (inl k) = inl k
        on (inr (k, had)) = inr (k, e.1.phase, had, rw q refl)
    by true q all h = on (is_marked May n.source seconds n.segment after e all h)
      where
        apart : (n.source ≡ e.0 → ⊥) → IsOld n.source es e → IsNow (Some seconds) n es e
        apart other (inl k) = inl k
        apart other (inr k) = absurd (other k.0)

        had_of : (slot : Slot) → IsOld n.source es (e.0, slot) → HadPhase (Mapped es) e.0 slot.phase
        had_of slot (inl k) = inl (slot, k, refl)
        had_of slot (inr k) = k.1

        on : IsMarked n.source seconds n.segment after e → IsNow (Some seconds) n es e
        on (inl k) = apart k.1 (old e k.0)
        on (inr (k, slot, there, phase)) = inr (k, slot.phase, had_of slot (old (e.0, slot) there), rw q phase)

-- Of a touch

module _ (s : Settings) (m : Met) (p : Packet) (e : Endpoint × Slot) where
  abbrev Now : NatValue → Type 0
  Now x = Has (mappings_in x) e ⊎ (AreBytes p.bytes → IsFollowedOn s x e.0 e.1.phase p)

  now_of : (n : Noted) (es : Forwards) → IsOnWay s m p n → IsNow s.closing n es e → Now (Mapped es)
  now_of n es k (inl h) = inl h
  now_of n es k (inr (q, old, had, phase)) =
      inr (λ bytes. (
        k.0.flow,
        (outward_flow s p n k.0 k.2).0,
        sym (k.0.source bytes) ∙ q,
        old,
        had,
        subst (λ (new : Phase). PhaseGoesOn s.closing e.0.protocol k.0.flow.flags old new)
            (sym (phase
            ∙ ap (λ (g : Segment). phase_by s.closing n.source.protocol g old) (k.0.segment bytes)
            ∙ ap (λ (key : Endpoint). phase_by s.closing key.protocol (segment_told s.closing k.0.flow.flags) old) q))
            (by_bits s.closing e.0.protocol k.0.flow.flags old),
      ))

  touch_now : (v : ℕ) (place : Place) (x : NatValue) (n : Noted) (limit : Option ℕ) → TouchKind place x
      → Fits s v (followed s n (touched_by limit place x n).0) → KnownAt s m p place n
      → Has (mappings_in (followed s n (touched_by limit place x n).0)) e → Now x
  touch_now v _ _ n None (finds es) fits k h =
      let a : Option Slot = slot_of n.source es in
      let b : Option (Endpoint × Slot) = first_idle n.time es in
      now_of n es k (followed_now (MayMap s v) s.closing n es (found n.source n.time es a b).1 e fits.2
      (λ x there. found_old n.source n.time es a b x there) h)
  touch_now v _ _ n (Some most) (finds es) fits k h =
      let a : Option Slot = slot_of n.source es in
      let b : Option (Endpoint × Slot) = first_idle n.time es in
      now_of n es k (followed_now (MayMap s v) s.closing n es (find_within most n.source n.time es).1 e fits.2
      (by_find most n.source n.time es
      (λ (r : Find × Forwards). (x : Endpoint × Slot) → Has r.1 x → IsOld n.source es x)
      (λ x there. found_old n.source n.time es a b x there)
      (λ gone none q x there. inl (without_was gone.0 es x there)) (λ none full x there. inl there)) h)
  touch_now v _ _ n None (unbinds_freed bs) fits k h = absurd h
  touch_now v _ _ n (Some most) (unbinds_freed bs) fits k h = absurd h
  touch_now v _ _ n None (gives_freed pool) fits k h = absurd h
  touch_now v _ _ n (Some most) (gives_freed pool) fits k h = absurd h
  touch_now v _ _ n None (reserves pool) fits k h = absurd h
  touch_now v _ _ n (Some most) (reserves pool) fits k h = absurd h
  touch_now v _ _ n None (binds bs) fits k h = absurd h
  touch_now v _ _ n (Some most) (binds bs) fits k h = absurd h
  touch_now v _ _ n None (finds_or_binds es) fits k h =
      let a : Option Slot = slot_of n.source es in
      now_of n es k (followed_now (MayMap s v) s.closing n es (bound n.source n.port n.time es a).1 e fits.2
      (λ x there. bound_old n.source n.port n.time es a x refl there) h)
  touch_now v _ _ n (Some most) (finds_or_binds es) fits k h =
      let a : Option Slot = slot_of n.source es in
      now_of n es k (followed_now (MayMap s v) s.closing n es (bind_within most n.source n.port n.time es).1 e fits.2
      (by_bind most n.source n.time es n.port
      (λ (r : Option Bind × Forwards). (x : Endpoint × Slot) → Has r.1 x → IsOld n.source es x)
      (λ x there. bound_old n.source n.port n.time es a x refl there) (λ none full x there. inl there)) h)
  touch_now v _ _ n None (unbinds_lost bs) fits k h = absurd h
  touch_now v _ _ n (Some most) (unbinds_lost bs) fits k h = absurd h
  touch_now v _ _ n None (gives_lost pool) fits k h = absurd h
  touch_now v _ _ n (Some most) (gives_lost pool) fits k h = absurd h
  touch_now v _ _ n None (counts d) fits k h = absurd h
  touch_now v _ _ n (Some most) (counts d) fits k h = absurd h

-- Of a step

module _ (s : Settings) (is : AreSettings s) (packets : List Packet) (value : ℕ → NatValue) (t : ℕ)
    (earlier : List (Step NatValue)) (taken taken_then : ℕ)
    (fits : (v : ℕ) → v < 2 + 2 * s.shards → Fits s v (value v)) (m : Met) (v : ℕ) (e : Endpoint × Slot) where
  abbrev IsFollowed : Option Hand → Type 0
  IsFollowed before =
      Has (mappings_in (value v)) e
      ⊎ ((h : Hand) × (before ≡ Some h)
      × (AreBytes h.packet.bytes → IsFollowedOn s (value v) e.0 e.1.phase h.packet))

  abbrev Keeps : Option Hand → Option Hand → Effect NatValue → Type 0
  Keeps before after d =
      Known s m before → Has (mappings_in (left_by v (act_of t earlier taken_then d) (value v))) e → IsFollowed before

  at_touch : (h : Hand) (w : ℕ) → comes_to s h (Access w) → Known s m (Some h)
      → Has (mappings_in (cond (nat_eq w v)
      (followed s (noted h.place) (touched_by s.limit (at h) (value w) (noted h.place)).0) (value v))) e
      → IsFollowed (Some h)
  at_touch h w move k there = by (is_or w v)
    where
      left : NatValue
      left = followed s (noted h.place) (touched_by s.limit (at h) (value w) (noted h.place)).0

      as_hand : Now s m h.packet e (value w) → w ≡ v → IsFollowed (Some h)
      as_hand (inl a) q = inl (subst (λ (u : ℕ). Has (mappings_in (value u)) e) q a)
      as_hand (inr a) q = inr (
        h,
        refl,
        subst (λ (u : ℕ). AreBytes h.packet.bytes → IsFollowedOn s (value u) e.0 e.1.phase h.packet) q a,
      )

      by : (w ≡ v) ⊎ (w ≢ v) → IsFollowed (Some h)
      by (inl q) =
          let below = touched_below s is h w move in
          let kind = touch_kind s is.some (noted h.place) w (value w) (fits w below) (at h) move in
          let now : Has (mappings_in left) e =
          subst (λ (b : Bool). Has (mappings_in (cond b left (value v))) e) (is_eq w v q) there in
          let fit : Fits s w left = (nat_lawful s is).touch_fits w (value w) h.place move (fits w below) in
          as_hand (touch_now s m h.packet e w (at h) (value w) (noted h.place) s.limit kind fit k now) q
      by (inr q) = inl (subst (λ (b : Bool). Has (mappings_in (cond b left (value v))) e) (not_eq w v q) there)

  move_follows : (after : Thread) (d : Effect NatValue) (hand : Option Hand) (a : Option ℕ)
      → held_move (nat_meaning s) packets value taken a hand ≡ Moves after d → Keeps hand after.hand d
  move_follows after d hand a move =
      by_move s packets value taken Keeps (λ p input k h. inl h) (λ h w c k there. at_touch h w c k there)
      (λ h w c k there. inl there) (λ h x c k there. inl there) (λ h x c k there. inl there)
      (λ h c k there. inl there) (λ h c k there. inl there) after d hand a move

pub hosts_follow : HostsFollow
hosts_follow s threads inputs x earlier v key slot is bytes h there =
    let fits = values_fit (nat_meaning s) (Fits s) (nat_lawful s is) inputs threads earlier h.1 in
    let m : Met = met_of s x.thread earlier in
    let value : ℕ → NatValue = value_after (nat_meaning s) earlier in
    let left : Has (mappings_in (left_by v (act_of x.thread earlier x.after.taken h.0.2) (value v))) (key, slot) =
    subst (λ (y : Act NatValue). Has (mappings_in (left_by v y (value v))) (key, slot)) h.0.4 there in
    by (move_follows s is (inputs x.thread) value x.thread earlier old.taken x.after.taken fits m v (key, slot) x.after
    h.0.2 old.hand h.0.1 h.0.3 (run_known s threads inputs earlier is h.1 x.thread) left)
  where
    old : Thread
    old = thread_after earlier x.thread

    by : Has (mappings_in (value_after (nat_meaning s) earlier v)) (key, slot)
        ⊎ ((g : Hand) × (old.hand ≡ Some g)
        × (AreBytes g.packet.bytes
        → IsFollowedOn s (value_after (nat_meaning s) earlier v) key slot.phase g.packet))
        → Has (mappings_in (value_after (nat_meaning s) earlier v)) (key, slot)
        ⊎ ((g : Hand) × (old.hand ≡ Some g)
        × IsFollowedOn s (value_after (nat_meaning s) earlier v) key slot.phase g.packet)
    by (inl a) = inl a
    by (inr a) =
        let held : IsHeld (inputs x.thread) old.taken (Some a.0) =
        subst (IsHeld (inputs x.thread) old.taken) a.1
        (run_holds (nat_meaning s) threads inputs earlier h.1 x.thread) in
        inr (a.0, a.1, a.2 (bytes x.thread (old.taken - 1) a.0.packet held.1))
