-- Each event keeps what holds of a world.
use Rattle.std.proofs.Common.{◌≡◌, ℕ, ◌+◌, ◌≤◌, ◌≢◌, Bool, true, false, List, [], ◌∷◌, ◌++◌, length, refl, sym, ap, ◌∙◌}
use Rattle.std.proofs.Common.{subst, inl, inr, ◌⊎◌, arith, Option, Some, None}
use Rattle.std.specs.Prelude.{◌↔◌}
use Rattle.plain_text.specs.declared.limit.Limit.{Limit}
use Rattle.entry_order.specs.Log.{Entry, IsLog, IsIn, IsClosed, Keeps, PrecedesOutput}
use Rattle.entry_order.specs.Closed.{IsClosedOver, IsMissing}
use Rattle.entry_order.proofs.Order.{is_or, precedes_in}
use Rattle.entry_order.proofs.ClosedParts.{Or, in_or}
use Rattle.entry_order.proofs.KeptEntries.{in_left, in_right, in_either, kept, kept_in, in_kept, kept_log, apart}
use Rattle.plain_machine.specs.History.{Step, log_of, IsHistory}
use Rattle.plain_machine.specs.Agree.{IsEarlier, SendsAfter}
use Rattle.plain_machine.proofs.Histories.{history_log, earlier_refl, earlier_trans, earlier_history, earlier_log}
use Rattle.plain_machine.proofs.Recoveries.{later_log}
use Rattle.recovery_world.specs.declared.event.Event.{Event}
use Rattle.recovery_world.specs.declared.event.Event.TheVariants as event
use Rattle.plain_text.specs.declared.kind.Kind.{Kind}
use Rattle.plain_text.specs.declared.kind.Kind.TheVariants as kind
use Rattle.recovery_world.specs.declared.event.Outcome.{Outcome}
use Rattle.recovery_world.specs.World.{Setting, Sent, Ended as EndedEpoch, World, opening, inputs_fed}
use Rattle.recovery_world.specs.Events.{IsKnown, IsPartOf, MayGo, Releases, IsAmong, HasNumber, HasArrived, OnStep}
use Rattle.recovery_world.specs.Events.{OnLog, OnOut, OnLate, OnCut, OnStore, Recovers, entries_of_line, ended_now}
use Rattle.recovery_world.specs.Events.{fed_after, after_feed, On}
use Rattle.recovery_world.specs.Limits.{OnWithin}
use Rattle.recovery_world.specs.Strategies.{Strategy, Follows, Ends, Halts, Goes as GoesOn}
use Rattle.recovery_world.specs.Many.{goes_on, OnAny, Single, Several, Stops, SingleStops, SeveralStops}
use Rattle.recovery_world.specs.Files.{Performs, Rests as NoMore, Goes as Writes}
use Rattle.recovery_world.specs.Finish.{Reached, Opens, Goes}
use Rattle.recovery_world.proofs.FromPlainMachine.{history_more}
use Rattle.recovery_world.proofs.FromPlainMachine.{next_past}
use Rattle.recovery_laws.specs.Sound.{IsKept, times, IsEachOnce, Firm, NoneDue, Sound}
use Rattle.recovery_laws.proofs.Worlds.{LineOf, line_of, step_sound, fed_later}
use Rattle.recovery_laws.proofs.Sets.{predecessors, predecessors_closed, outside, outside_in, in_outside, among_either}
use Rattle.recovery_laws.proofs.Sets.{parts_go, parts_stay, times_both, times_parts, times_there, times_one}

earlier_start : {V : Type 0} (steps : List (Step V)) → IsEarlier [] steps
earlier_start [] = refl
earlier_start (x ∷ steps) = inr (earlier_start steps)

-- what is left of a list has none twice where the list has none
pub part_in : (xs part : List Entry) → IsPartOf xs part → (e : Entry) → IsIn e part → IsIn e xs
part_in [] part p e i = subst (λ (l : List Entry). IsIn e l) p i
part_in (x ∷ xs) part (inr p) e i = inr (part_in xs part p e i)
part_in (x ∷ xs) part (inl (rest, is, p)) e i =
    go (subst (λ (l : List Entry). IsIn e l) is i) (λ j. part_in xs rest p e j)
  where
    go : (x ≡ e) ⊎ IsIn e rest → (IsIn e rest → IsIn e xs) → (x ≡ e) ⊎ IsIn e xs
    go (inl same) older = inl same
    go (inr j) older = inr (older j)

part_once : (xs part : List Entry) → IsPartOf xs part → IsEachOnce xs → IsEachOnce part
part_once [] part p h = subst (λ (l : List Entry). IsEachOnce l) (sym p) tt
part_once (x ∷ xs) part (inr p) h = part_once xs part p h.1
part_once (x ∷ xs) part (inl (rest, is, p)) h =
    subst (λ (l : List Entry). IsEachOnce l) (sym is) ((λ i. h.0 (part_in xs rest p x i)), part_once xs rest p h.1)

-- At the opening.
pub opening_sound : {V : Type 0} (s : Setting V) → Sound s (opening V)
opening_sound s = record {
  firm = record {
    fed = omega arith;
    legal = tt;
    stored = refl;
    copied = λ copy e. absurd (cc);
    down = λ e. refl;
    more = [];
    to_come = λ e. ((λ h. absurd h), (λ h. h.0));
    log = tt;
    known = [];
    closed = λ e f he hf n. hf;
    here = λ e h. h;
    follows = λ e h. h;
    only = λ e h. inl h;
    origin = [];
    origin_is = tt;
    made = λ e h. h;
    held = λ e h. h;
    held_once = tt;
    held_on = λ e h. h;
    released = λ o h. absurd h;
    sent = λ o h. absurd h;
    once = λ t j. omega arith;
  };
  waits = λ o h may. h;
}

module _ {V : Type 0} (s : Setting V) (w : World V) (h : Firm s w) where
  -- an output of the past for which nothing is missing, where these entries are held and those stored, stays
  due_kept : (held : List Entry) (stored : List (Step V)) (o : Sent) → SendsAfter w.past o.emission o.after
      → ((e : Entry) → IsMissing (log_of w.past) (log_of stored) held o.emission.thread o.after e → ⊥)
      → (before : List Entry)
      × ((e : Entry) → IsIn e before ↔ PrecedesOutput (log_of w.past) o.emission.thread o.after e)
      × ((e : Entry) → IsIn e before → IsIn e held ⊎ IsIn e (log_of stored))
  due_kept held stored o sends due = (p.0, p.1, known)
    where
      p : (before : List Entry)
          × ((e : Entry) → IsIn e before ↔ PrecedesOutput (log_of w.past) o.emission.thread o.after e)
      p = predecessors (log_of w.past) o.emission.thread o.after
          (history_log s.meaning (inputs_fed s w.fed) s.threads w.past h.legal)

      known : (e : Entry) → IsIn e p.0 → IsIn e held ⊎ IsIn e (log_of stored)
      known e i = go (in_or e held) (in_or e (log_of stored))
        where
          go : Or (IsIn e held) → Or (IsIn e (log_of stored)) → IsIn e held ⊎ IsIn e (log_of stored)
          go (inl a) b = inl a
          go (inr a) (inl b) = inr b
          go (inr a) (inr b) = absurd (due e (record { precedes = (p.1 e).0 i; not_held = a; not_stored = b }))

  in_past : (before : List Entry) (t n : ℕ) → ((e : Entry) → IsIn e before ↔ PrecedesOutput (log_of w.past) t n e)
      → (e : Entry) → IsIn e before → IsIn e (log_of w.past)
  in_past before t n p e i = pick ((p e).0 i)
    where
      pick : PrecedesOutput (log_of w.past) t n e → IsIn e (log_of w.past)
      pick (g, here, th, q, inl same) = subst (λ (z : Entry). IsIn z (log_of w.past)) (sym same) here
      pick (g, here, th, q, inr r) = precedes_in (log_of w.past) e g r

  -- What an event may change, while the past and what is followed stay.
  pub like : (fed clock drawn epoch moves bytes : ℕ) (up : Bool) (stored : List (Step V))
      (copy : Option (List (Step V))) (held : List Entry) (waiting released : List Sent) (ended : List EndedEpoch)
      → (w.fed ≤ fed) × (fed ≤ length s.packets) → IsEarlier stored w.past
      → ((c : List (Step V)) → copy ≡ Some c → IsEarlier stored c × IsEarlier c w.past) → (up ≡ false → copy ≡ None)
      → Keeps (h.more ++ log_of w.past) held → IsEachOnce held → ((e : Entry) → IsIn e w.followed → IsIn e held)
      → ((e : Entry) → IsIn e (log_of w.stored) → IsIn e (log_of stored))
      → ((e : Entry) → IsKnown w e → IsIn e held ⊎ IsIn e (log_of stored))
      → ((o : Sent) → IsAmong o released
      → IsAmong o w.released
      ⊎ (SendsAfter w.past o.emission o.after
      × ((e : Entry) → IsMissing (log_of w.past) (log_of stored) held o.emission.thread o.after e → ⊥)))
      → ((o : Sent) → IsAmong o waiting → SendsAfter w.past o.emission o.after)
      → ((t j : ℕ) → times t j released + times t j waiting ≤ 1)
      → Firm s (record w {
        fed = fed;
        clock = clock;
        drawn = drawn;
        epoch = epoch;
        moves = moves;
        bytes = bytes;
        up = up;
        stored = stored;
        copy = copy;
        held = held;
        waiting = waiting;
        released = released;
        ended = ended;
      })
  like fed clock drawn epoch moves bytes up stored copy held waiting released ended fed_on a b d held_in held_once
      held_on stored_on grows rel sent once = record {
        fed = fed_on.1;
        legal = on w.past h.legal;
        stored = a;
        copied = b;
        down = d;
        more = h.more;
        to_come = h.to_come;
        log = h.log;
        known = h.known;
        closed = h.closed;
        here = h.here;
        follows = h.follows;
        only = λ e i. still_only e (h.only e i);
        origin = h.origin;
        origin_is = on h.origin h.origin_is;
        made = h.made;
        held = held_in;
        held_once = held_once;
        held_on = held_on;
        released = λ o i. keep o (rel o i);
        sent = sent;
        once = once;
      }
    where
      still_only : (e : Entry) → IsIn e w.followed ⊎ IsIn e (log_of w.stored)
          → IsIn e w.followed ⊎ IsIn e (log_of stored)
      still_only e (inl i) = inl i
      still_only e (inr i) = inr (stored_on e i)

      on : (xs : List (Step V)) → IsHistory s.meaning (inputs_fed s w.fed) s.threads xs
          → IsHistory s.meaning (inputs_fed s fed) s.threads xs
      on xs k = history_more s.meaning (inputs_fed s w.fed) (inputs_fed s fed) s.threads
          (λ t i q e. fed_later s w.fed fed t i q fed_on.0 e) xs k

      keep : (o : Sent)
          → IsAmong o w.released
          ⊎ (SendsAfter w.past o.emission o.after
          × ((e : Entry) → IsMissing (log_of w.past) (log_of stored) held o.emission.thread o.after e → ⊥))
          → IsKept s (record w {
            fed = fed;
            clock = clock;
            drawn = drawn;
            epoch = epoch;
            moves = moves;
            bytes = bytes;
            up = up;
            stored = stored;
            copy = copy;
            held = held;
            waiting = waiting;
            released = released;
            ended = ended;
          }) (h.more ++ log_of w.past) o
      keep o (inl i) = let k = h.released o i in record {
        run = k.run;
        history = on k.run k.history;
        sends = k.sends;
        before = k.before;
        precedes = k.precedes;
        of_run = k.of_run;
        closed_there = k.closed_there;
        known = λ e j. grows e (k.known e j);
        closed_here = k.closed_here;
      }
      keep o (inr (sends, due)) = record {
        run = w.past;
        history = on w.past h.legal;
        sends = sends;
        before = p.0;
        precedes = λ e i. (p.1 e).1 i;
        of_run = λ e i. in_past p.0 o.emission.thread o.after p.1 e i;
        closed_there = λ e f he hf n.
            (p.1 e).1 (predecessors_closed (log_of w.past) o.emission.thread o.after e f he ((p.1 f).0 hf) n);
        known = p.2;
        closed_here = λ e f he hf n. (p.1 e).1 (predecessors_closed (log_of w.past) o.emission.thread o.after e f
            (next_past h.more (log_of w.past) e f h.log he (in_past p.0 o.emission.thread o.after p.1 f hf) n)
            ((p.1 f).0 hf) n);
      }
        where
          p : (before : List Entry)
              × ((e : Entry) → IsIn e before ↔ PrecedesOutput (log_of w.past) o.emission.thread o.after e)
              × ((e : Entry) → IsIn e before → IsIn e held ⊎ IsIn e (log_of stored))
          p = due_kept held stored o sends due

  fed_same : (w.fed ≤ w.fed) × (w.fed ≤ length s.packets)
  fed_same = (omega arith, h.fed)

  fed_more : (n : ℕ) → (w.fed ≤ fed_after s w n) × (fed_after s w n ≤ length s.packets)
  fed_more n = let k : w.fed ≤ length s.packets = h.fed in (omega arith, omega arith)

  -- where more is held or stored, and what is due then is released
  released_sound : (stored : List (Step V)) (copy : Option (List (Step V))) (held : List Entry)
      → IsEarlier stored w.past → ((c : List (Step V)) → copy ≡ Some c → IsEarlier stored c × IsEarlier c w.past)
      → (w.up ≡ false → copy ≡ None) → Keeps (h.more ++ log_of w.past) held → IsEachOnce held
      → ((e : Entry) → IsIn e w.followed → IsIn e held)
      → ((e : Entry) → IsIn e (log_of w.stored) → IsIn e (log_of stored))
      → ((e : Entry) → IsKnown w e → IsIn e held ⊎ IsIn e (log_of stored)) → (freed : List Sent) (new : World V)
      → Releases (record w { stored = stored; copy = copy; held = held }) freed new → Sound s new
  released_sound stored copy held a b d held_in held_once held_on stored_on grows freed new r =
      subst (λ (z : World V). Sound s z) (sym r.new_is) (record {
        firm = like w.fed w.clock w.drawn w.epoch w.moves w.bytes w.up stored copy held r.stay (w.released ++ freed)
            w.ended fed_same a b d held_in held_once held_on stored_on grows rel
            (λ o i. h.sent o (parts_stay (MayGo one) w.waiting freed r.stay r.parts o i).0)
            (λ t j.
            let k = h.once t j in
            let x = times_parts t j (MayGo one) w.waiting freed r.stay r.parts in
            let y = times_both t j w.released freed in omega (arith, k, x, y));
        waits = λ o i may. (parts_stay (MayGo one) w.waiting freed r.stay r.parts o i).1 may;
      })
    where
      one : World V
      one = record w { stored = stored; copy = copy; held = held }

      rel : (o : Sent) → IsAmong o (w.released ++ freed)
          → IsAmong o w.released
          ⊎ (SendsAfter w.past o.emission o.after
          × ((e : Entry) → IsMissing (log_of w.past) (log_of stored) held o.emission.thread o.after e → ⊥))
      rel o i = go (among_either o w.released freed i)
        where
          go : IsAmong o w.released ⊎ IsAmong o freed
              → IsAmong o w.released
              ⊎ (SendsAfter w.past o.emission o.after
              × ((e : Entry) → IsMissing (log_of w.past) (log_of stored) held o.emission.thread o.after e → ⊥))
          go (inl k) = inl k
          go (inr k) = let p = parts_go (MayGo one) w.waiting freed r.stay r.parts o k in inr (h.sent o p.0, p.1)

  log_sound : NoneDue w → (t n : ℕ) (to : Outcome) (freed : List Sent) (new : World V) → OnLog w t n to freed new
      → Sound s new
  log_sound waits t n to freed new (inl (none, is, f, same)) =
      subst (λ (z : World V). Sound s z) (sym same) (record { firm = h; waits = waits })
  log_sound waits t n to freed new (inr (inl (e, of, known, is, f, same))) =
      subst (λ (z : World V). Sound s z) (sym same) (record { firm = h; waits = waits })
  log_sound waits t n to freed new (inr (inr (e, of, fresh, is, r))) =
      released_sound w.stored w.copy (e ∷ w.held) h.stored h.copied h.down keeps ((λ i. fresh (inl i)), h.held_once)
      (λ g i. inr (h.held_on g i)) (λ g k. k) (λ g k. grow g k) freed new r
    where
      keeps : (g : Entry) → IsIn g (e ∷ w.held) → IsIn g (h.more ++ log_of w.past)
      keeps g (inl same) =
          subst (λ (z : Entry). IsIn z (h.more ++ log_of w.past)) same (in_right e h.more (log_of w.past) of.0)
      keeps g (inr i) = h.held g i

      grow : (g : Entry) → IsKnown w g → IsIn g (e ∷ w.held) ⊎ IsIn g (log_of w.stored)
      grow g (inl k) = inl (inr k)
      grow g (inr k) = inr k

  store_sound : NoneDue w → (to : Outcome) (freed : List Sent) (new : World V) → OnStore w to freed new → Sound s new
  store_sound waits to freed new (inl (none, is, f, same)) =
      subst (λ (z : World V). Sound s z) (sym same) (record { firm = h; waits = waits })
  store_sound waits to freed new (inr (copy, some, is, r)) =
      released_sound copy None w.held (h.copied copy some).1 (λ c e. absurd (cc)) (λ e. refl) h.held h.held_once
      h.held_on (λ g k. earlier_log w.stored copy g (h.copied copy some).0 k) grow freed new r
    where
      grow : (g : Entry) → IsKnown w g → IsIn g w.held ⊎ IsIn g (log_of copy)
      grow g (inl k) = inl k
      grow g (inr k) = inr (earlier_log w.stored copy g (h.copied copy some).0 k)

  -- nothing arrived of that number
  not_there : (t j : ℕ) → (HasArrived w t j → ⊥) → times t j w.released + times t j w.waiting ≡ 0
  not_there t j never = go (is_or (times t j w.released) 0) (is_or (times t j w.waiting) 0)
    where
      go : (times t j w.released ≡ 0) ⊎ (times t j w.released ≢ 0)
          → (times t j w.waiting ≡ 0) ⊎ (times t j w.waiting ≢ 0) → times t j w.released + times t j w.waiting ≡ 0
      go (inl a) (inl b) = omega arith
      go (inr a) b = let r = times_there t j w.released (omega (arith, a)) in absurd (never (r.0, r.1, inl r.2))
      go (inl a) (inr b) = let r = times_there t j w.waiting (omega (arith, b)) in absurd (never (r.0, r.1, inr r.2))

  -- one more of that number, where none was there
  one_more : (t j u i : ℕ) (o : Sent) → HasNumber t j o → times t j w.released + times t j w.waiting ≡ 0
      → times u i (o ∷ []) + (times u i w.released + times u i w.waiting) ≤ 1
  one_more t j u i o n none = go (is_or u t) (is_or i j)
    where
      k : times u i w.released + times u i w.waiting ≤ 1
      k = h.once u i

      zero_if : (o.emission.thread ≡ u → ⊥) ⊎ (o.emission.number ≡ i → ⊥) → times u i (o ∷ []) ≡ 0
      zero_if a = pick (is_or (times u i (o ∷ [])) 0)
        where
          pick : (times u i (o ∷ []) ≡ 0) ⊎ (times u i (o ∷ []) ≢ 0) → times u i (o ∷ []) ≡ 0
          pick (inl z) = z
          pick (inr z) = let r = times_there u i (o ∷ []) (omega (arith, z)) in bad r.0 r.1 r.2 a
            where
              bad : (x : Sent) → HasNumber u i x → IsAmong x (o ∷ [])
                  → (o.emission.thread ≡ u → ⊥) ⊎ (o.emission.number ≡ i → ⊥) → times u i (o ∷ []) ≡ 0
              bad x q (inl same) (inl never) = absurd (never (ap (λ (y : Sent). y.emission.thread) same ∙ q.0))
              bad x q (inl same) (inr never) = absurd (never (ap (λ (y : Sent). y.emission.number) same ∙ q.1))
              bad x q (inr there) b = absurd there

      go : (u ≡ t) ⊎ (u ≢ t) → (i ≡ j) ⊎ (i ≢ j) → times u i (o ∷ []) + (times u i w.released + times u i w.waiting) ≤ 1
      go (inl a) (inl b) =
          let z : times u i w.released + times u i w.waiting ≡ 0 =
          subst (λ (x : ℕ). times x i w.released + times x i w.waiting ≡ 0) (sym a)
          (subst (λ (x : ℕ). times t x w.released + times t x w.waiting ≡ 0) (sym b) none) in
          let y = times_one u i o in omega (arith, z, y)
      go (inr a) b = let z = zero_if (inl (λ q. a (sym q ∙ n.0))) in omega (arith, z, k)
      go (inl a) (inr b) = let z = zero_if (inr (λ q. b (sym q ∙ n.1))) in omega (arith, z, k)

  out_sound : NoneDue w → (t j : ℕ) (to : Outcome) (new : World V) → OnOut w t j to new → Sound s new
  out_sound waits t j to new (inl (none, is, same)) =
      subst (λ (z : World V). Sound s z) (sym same) (record { firm = h; waits = waits })
  out_sound waits t j to new (inr (inl (o, of, there, is, same))) =
      subst (λ (z : World V). Sound s z) (sym same) (record { firm = h; waits = waits })
  out_sound waits t j to new (inr (inr (inl (o, of, never, may, is, same)))) =
      subst (λ (z : World V). Sound s z) (sym same) (record {
        firm = like w.fed w.clock w.drawn w.epoch w.moves w.bytes w.up w.stored w.copy w.held w.waiting
            (w.released ++ o ∷ []) w.ended fed_same h.stored h.copied h.down h.held h.held_once h.held_on (λ e k. k)
            (λ e k. k) rel h.sent once;
        waits = waits;
      })
    where
      rel : (x : Sent) → IsAmong x (w.released ++ o ∷ [])
          → IsAmong x w.released
          ⊎ (SendsAfter w.past x.emission x.after
          × ((e : Entry) → IsMissing (log_of w.past) (log_of w.stored) w.held x.emission.thread x.after e → ⊥))
      rel x i = go (among_either x w.released (o ∷ []) i)
        where
          go : IsAmong x w.released ⊎ IsAmong x (o ∷ [])
              → IsAmong x w.released
              ⊎ (SendsAfter w.past x.emission x.after
              × ((e : Entry) → IsMissing (log_of w.past) (log_of w.stored) w.held x.emission.thread x.after e → ⊥))
          go (inl k) = inl k
          go (inr (inl q)) = inr (subst (λ (y : Sent).
              SendsAfter w.past y.emission y.after
              × ((e : Entry) → IsMissing (log_of w.past) (log_of w.stored) w.held y.emission.thread y.after e → ⊥)) q
              (of.0, may))
          go (inr (inr k)) = absurd k

      once : (u i : ℕ) → times u i (w.released ++ o ∷ []) + times u i w.waiting ≤ 1
      once u i =
          let a = one_more t j u i o of.1 (not_there t j never) in
          let b = times_both u i w.released (o ∷ []) in omega (arith, a, b)
  out_sound waits t j to new (inr (inr (inr (o, of, never, e, first, is, same)))) =
      subst (λ (z : World V). Sound s z) (sym same) (record {
        firm = like w.fed w.clock w.drawn w.epoch w.moves w.bytes w.up w.stored w.copy w.held (w.waiting ++ o ∷ [])
            w.released w.ended fed_same h.stored h.copied h.down h.held h.held_once h.held_on (λ g k. k) (λ g k. k)
            (λ x i. inl i) sent once;
        waits = λ x i may. wait x i may;
      })
    where
      sent : (x : Sent) → IsAmong x (w.waiting ++ o ∷ []) → SendsAfter w.past x.emission x.after
      sent x i = go (among_either x w.waiting (o ∷ []) i)
        where
          go : IsAmong x w.waiting ⊎ IsAmong x (o ∷ []) → SendsAfter w.past x.emission x.after
          go (inl k) = h.sent x k
          go (inr (inl q)) = subst (λ (y : Sent). SendsAfter w.past y.emission y.after) q of.0
          go (inr (inr k)) = absurd k

      wait : (x : Sent) → IsAmong x (w.waiting ++ o ∷ []) → MayGo w x → ⊥
      wait x i may = go (among_either x w.waiting (o ∷ []) i)
        where
          go : IsAmong x w.waiting ⊎ IsAmong x (o ∷ []) → ⊥
          go (inl k) = waits x k may
          go (inr (inl q)) = subst (λ (y : Sent). MayGo w y) (sym q) may e first.missing
          go (inr (inr k)) = k

      once : (u i : ℕ) → times u i w.released + times u i (w.waiting ++ o ∷ []) ≤ 1
      once u i =
          let a = one_more t j u i o of.1 (not_there t j never) in
          let b = times_both u i w.waiting (o ∷ []) in omega (arith, a, b)

  -- the entries of the line, in the order of the line or as the definition has them
  pub line_entries : (e : Entry) → IsIn e (entries_of_line w) → IsIn e (h.more ++ log_of w.past)
  line_entries e i = go (in_either e w.followed (log_of w.past) i) (in_or e (log_of w.past))
    where
      go : IsIn e w.followed ⊎ IsIn e (log_of w.past) → Or (IsIn e (log_of w.past)) → IsIn e (h.more ++ log_of w.past)
      go (inr k) b = in_right e h.more (log_of w.past) k
      go (inl k) (inl old) = in_right e h.more (log_of w.past) old
      go (inl k) (inr new) = in_left e h.more (log_of w.past) ((h.to_come e).1 (k, new))

  pub entries_line : (e : Entry) → IsIn e (h.more ++ log_of w.past) → IsIn e (entries_of_line w)
  entries_line e i = go (in_either e h.more (log_of w.past) i)
    where
      go : IsIn e h.more ⊎ IsIn e (log_of w.past) → IsIn e (entries_of_line w)
      go (inl k) = in_left e w.followed (log_of w.past) ((h.to_come e).0 k).0
      go (inr k) = in_right e w.followed (log_of w.past) k

  -- A recovery.
  pub recovers_sound : w.up ≡ false → (new : World V) → Recovers w new → Sound s new
  recovers_sound down new r =
      subst (λ (z : World V). Sound s z) (sym r.new_is) (at (line_of s w h h.more h.log (λ e i. i)))
    where
      at : LineOf s w h h.more → Sound s (record w {
        held = r.part;
        followed = r.part;
        waiting = [];
        epoch = w.epoch + 1;
        past = w.stored;
        up = true;
        ended = ended_now w ∷ w.ended;
      })
      at l = record {
        firm = record {
          fed = h.fed;
          legal = earlier_history s.meaning (inputs_fed s w.fed) s.threads w.stored w.past h.stored h.legal;
          stored = earlier_refl w.stored;
          copied = λ c e. absurd (let none : w.copy ≡ None = h.down down in cc);
          down = λ e. absurd (cc);
          more = kept r.part later.0;
          to_come = λ e. (there e, back e);
          log = kept_log r.part later.0 (log_of w.stored) good over;
          known = r.part ++ log_of w.stored;
          closed = closed;
          here = λ e i. here e (in_either e r.part (log_of w.stored) i);
          follows = λ e i. in_left e r.part (log_of w.stored) i;
          only = λ e i. in_either e r.part (log_of w.stored) i;
          origin = l.line;
          origin_is = l.history;
          made = λ e i. made e (in_either e r.part (log_of w.stored) i);
          held = λ e i. here e (inl i);
          held_once = part_once w.held r.part r.part_of h.held_once;
          held_on = λ e i. i;
          released = λ o i. keep o (h.released o i);
          sent = λ o i. absurd i;
          once = λ t j. let k = h.once t j in omega (arith, k);
        };
        waits = λ o i may. i;
      }
        where
          later : (later : List Entry) × (log_of l.line ≡ later ++ log_of w.stored)
          later = later_log w.stored l.line (earlier_trans w.stored w.past l.line h.stored l.base)

          -- the entries of the line in its two forms
          same : h.more ++ log_of w.past ≡ later.0 ++ log_of w.stored
          same = sym l.log_is ∙ later.1

          to_later : (e : Entry) → IsIn e (h.more ++ log_of w.past) → IsIn e (later.0 ++ log_of w.stored)
          to_later e i = subst (λ (x : List Entry). IsIn e x) same i

          from_later : (e : Entry) → IsIn e (later.0 ++ log_of w.stored) → IsIn e (h.more ++ log_of w.past)
          from_later e i = subst (λ (x : List Entry). IsIn e x) (sym same) i

          good : IsLog (later.0 ++ log_of w.stored)
          good = subst (λ (x : List Entry). IsLog x) same h.log

          over : IsClosedOver (later.0 ++ log_of w.stored) (log_of w.stored) r.part
          over e f he hf n = r.closed.closed e f (entries_line e (from_later e he)) hf n

          part_later : (e : Entry) → IsIn e r.part → IsIn e later.0 ⊎ IsIn e (log_of w.stored)
          part_later e i = in_either e later.0 (log_of w.stored) (to_later e (h.held e (r.closed.within e i)))

          there : (e : Entry) → IsIn e (kept r.part later.0) → IsIn e r.part × (IsIn e (log_of w.stored) → ⊥)
          there e i = let k = kept_in r.part later.0 e i in (k.1, λ old. apart later.0 (log_of w.stored) e good k.0 old)

          back : (e : Entry) → IsIn e r.part × (IsIn e (log_of w.stored) → ⊥) → IsIn e (kept r.part later.0)
          back e k = go (part_later e k.0)
            where
              go : IsIn e later.0 ⊎ IsIn e (log_of w.stored) → IsIn e (kept r.part later.0)
              go (inl i) = in_kept r.part later.0 e i k.0
              go (inr i) = absurd (k.1 i)

          here : (e : Entry) → IsIn e r.part ⊎ IsIn e (log_of w.stored)
              → IsIn e (kept r.part later.0 ++ log_of w.stored)
          here e (inr i) = in_right e (kept r.part later.0) (log_of w.stored) i
          here e (inl i) = go (part_later e i)
            where
              go : IsIn e later.0 ⊎ IsIn e (log_of w.stored) → IsIn e (kept r.part later.0 ++ log_of w.stored)
              go (inl k) = in_left e (kept r.part later.0) (log_of w.stored) (in_kept r.part later.0 e k i)
              go (inr k) = in_right e (kept r.part later.0) (log_of w.stored) k

          of_line : (e : Entry) → IsIn e (kept r.part later.0 ++ log_of w.stored) → IsIn e (later.0 ++ log_of w.stored)
          of_line e i = go (in_either e (kept r.part later.0) (log_of w.stored) i)
            where
              go : IsIn e (kept r.part later.0) ⊎ IsIn e (log_of w.stored) → IsIn e (later.0 ++ log_of w.stored)
              go (inl k) = in_left e later.0 (log_of w.stored) (kept_in r.part later.0 e k).0
              go (inr k) = in_right e later.0 (log_of w.stored) k

          closed : IsClosed (kept r.part later.0 ++ log_of w.stored) (r.part ++ log_of w.stored)
          closed e f he hf n = go (in_either f r.part (log_of w.stored) hf)
            where
              both : IsIn e r.part ⊎ IsIn e (log_of w.stored) → IsIn e (r.part ++ log_of w.stored)
              both (inl k) = in_left e r.part (log_of w.stored) k
              both (inr k) = in_right e r.part (log_of w.stored) k

              go : IsIn f r.part ⊎ IsIn f (log_of w.stored) → IsIn e (r.part ++ log_of w.stored)
              go (inl k) = both (over e f (of_line e he) k n)
              go (inr k) =
                  in_right e r.part (log_of w.stored) (next_past later.0 (log_of w.stored) e f good (of_line e he) k n)

          made : (e : Entry) → IsIn e r.part ⊎ IsIn e (log_of w.stored) → IsIn e (log_of l.line)
          made e (inl i) = subst (λ (x : List Entry). IsIn e x) (sym l.log_is) (h.held e (r.closed.within e i))
          made e (inr i) = subst (λ (x : List Entry). IsIn e x) (sym later.1) (in_right e later.0 (log_of w.stored) i)

          keep : (o : Sent) → IsKept s w (h.more ++ log_of w.past) o → IsKept s (record w {
            held = r.part;
            followed = r.part;
            waiting = [];
            epoch = w.epoch + 1;
            past = w.stored;
            up = true;
            ended = ended_now w ∷ w.ended;
          }) (kept r.part later.0 ++ log_of w.stored) o
          keep o k = record {
            run = k.run;
            history = k.history;
            sends = k.sends;
            before = k.before;
            precedes = k.precedes;
            of_run = k.of_run;
            closed_there = k.closed_there;
            known = λ e i. known e i (in_or e (log_of w.stored));
            closed_here = λ e f he hf n. k.closed_here e f (from_later e (of_line e he)) hf n;
          }
            where
              only_held : (e : Entry) → IsIn e (outside (log_of w.stored) k.before) → IsIn e w.held
              only_held e i = let x = outside_in (log_of w.stored) k.before e i in pick x.1 (k.known e x.0)
                where
                  pick : (IsIn e (log_of w.stored) → ⊥) → IsKnown w e → IsIn e w.held
                  pick never (inl j) = j
                  pick never (inr j) = absurd (never j)

              shut : IsClosedOver (entries_of_line w) (log_of w.stored) (outside (log_of w.stored) k.before)
              shut e f he hf n =
                  pick (k.closed_here e f (line_entries e he) (outside_in (log_of w.stored) k.before f hf).0 n)
                  (in_or e (log_of w.stored))
                where
                  pick : IsIn e k.before → Or (IsIn e (log_of w.stored))
                      → IsIn e (outside (log_of w.stored) k.before) ⊎ IsIn e (log_of w.stored)
                  pick i (inl old) = inr old
                  pick i (inr new) = inl (in_outside (log_of w.stored) k.before e i new)

              known : (e : Entry) → IsIn e k.before → Or (IsIn e (log_of w.stored))
                  → IsIn e r.part ⊎ IsIn e (log_of w.stored)
              known e i (inl old) = inr old
              known e i (inr new) = inl (r.closed.greatest (outside (log_of w.stored) k.before) only_held shut e
                  (in_outside (log_of w.stored) k.before e i new))

  still : NoneDue w → (new : World V) → new ≡ w → Sound s new
  still waits new same = subst (λ (z : World V). Sound s z) (sym same) (record { firm = h; waits = waits })

  late_sound : NoneDue w → (epoch : ℕ) (k : Kind) (t n : ℕ) (to : Outcome) (freed : List Sent) (new : World V)
      → OnLate w epoch k t n to freed new → Sound s new
  late_sound waits epoch kind.Log t n to freed new (inl (q, a)) = log_sound waits t n to freed new a
  late_sound waits epoch kind.Out t n to freed new (inl (q, a)) = out_sound waits t n to new a.0
  late_sound waits epoch k t n to freed new (inr (inl a)) = still waits new a.4
  late_sound waits epoch k t n to freed new (inr (inr a)) = still waits new a.4

  cut_sound : NoneDue w → (k : Kind) (t n len : ℕ) (to : Outcome) (freed : List Sent) (new : World V)
      → OnCut s w k t n len to freed new → Sound s new
  cut_sound waits k t n len to freed new (inl a) = still waits new a.3
  cut_sound waits k t n len to freed new (inr (inl a)) = still waits new a.5
  cut_sound waits kind.Log t n len to freed new (inr (inr (whole, is, long, a))) = log_sound waits t n to freed new a
  cut_sound waits kind.Out t n len to freed new (inr (inr (whole, is, long, a))) = out_sound waits t n to new a.0

  -- Each event keeps it.
  pub event_sound : NoneDue w → (ev : Event) (to : Outcome) (freed : List Sent) (new : World V) → On s w ev to freed new
      → Sound s new
  event_sound waits (event.Feed n) to freed new (a, b, same) = subst (λ (z : World V). Sound s z) (sym same) (record {
    firm = like (fed_after s w n) (after_feed s w n).clock w.drawn w.epoch w.moves w.bytes w.up w.stored w.copy w.held
        w.waiting w.released w.ended (fed_more n) h.stored h.copied h.down h.held h.held_once h.held_on (λ e k. k)
        (λ e k. k) (λ o i. inl i) h.sent h.once;
    waits = waits;
  })
  event_sound waits (event.Time n) to freed new (a, b, same) = subst (λ (z : World V). Sound s z) (sym same) (record {
    firm =
        like w.fed n w.drawn w.epoch w.moves w.bytes w.up w.stored w.copy w.held w.waiting w.released w.ended fed_same
        h.stored h.copied h.down h.held h.held_once h.held_on (λ e k. k) (λ e k. k) (λ o i. inl i) h.sent h.once;
    waits = waits;
  })
  event_sound waits (event.Step t given) to freed new (k, b) = go k
    where
      go : OnStep s w t given to new → Sound s new
      go (inl a) = still waits new a.2
      go (inr (inl a)) = still waits new a.3
      go (inr (inr (inl a))) = still waits new a.4
      go (inr (inr (inr (inl a)))) = still waits new a.3
      go (inr (inr (inr (inr a)))) = step_sound s w h waits t given to new a.2
  event_sound waits (event.Log t n) to freed new (inl a) = still waits new a.3
  event_sound waits (event.Log t n) to freed new (inr a) = log_sound waits t n to freed new a.1
  event_sound waits (event.Out t j) to freed new (inl a) = still waits new a.3
  event_sound waits (event.Out t j) to freed new (inr a) = out_sound waits t j to new a.1.0
  event_sound waits (event.Late epoch k t n) to freed new (inl a) = still waits new a.3
  event_sound waits (event.Late epoch k t n) to freed new (inr a) = late_sound waits epoch k t n to freed new a.1
  event_sound waits (event.Cut k t n len) to freed new (inl a) = still waits new a.3
  event_sound waits (event.Cut k t n len) to freed new (inr a) = cut_sound waits k t n len to freed new a.1
  event_sound waits event.Snap to freed new (inl a, b) = still waits new a.2
  event_sound waits event.Snap to freed new (inr a, b) = subst (λ (z : World V). Sound s z) (sym a.2) (record {
    firm = like w.fed w.clock w.drawn w.epoch w.moves w.bytes w.up w.stored (Some w.past) w.held w.waiting w.released
        w.ended fed_same h.stored
        (λ c e.
        let k : w.past ≡ c = cc in (
          subst (λ (x : List (Step V)). IsEarlier w.stored x) k h.stored,
          subst (λ (x : List (Step V)). IsEarlier x w.past) k (earlier_refl w.past),
        )) (λ e. absurd (let u : w.up ≡ true = a.0 in cc)) h.held h.held_once h.held_on (λ e k. k) (λ e k. k)
        (λ o i. inl i) h.sent h.once;
    waits = waits;
  })
  event_sound waits event.Store to freed new k = store_sound waits to freed new k
  event_sound waits event.Crash to freed new (inl a, b) = still waits new a.2
  event_sound waits event.Crash to freed new (inr a, b) = subst (λ (z : World V). Sound s z) (sym a.2) (record {
    firm = like w.fed w.clock w.drawn w.epoch w.moves w.bytes false w.stored None w.held w.waiting w.released w.ended
        fed_same h.stored (λ c e. absurd (cc)) (λ e. refl) h.held h.held_once h.held_on (λ e k. k) (λ e k. k)
        (λ o i. inl i) h.sent h.once;
    waits = waits;
  })
  event_sound waits event.Recover to freed new (inl a, b) = still waits new a.2
  event_sound waits event.Recover to freed new (inr a, b) = recovers_sound a.0 new a.1
  event_sound waits (event.Show v) to freed new a = still waits new a.2
  event_sound waits event.Settle to freed new a = absurd a
  event_sound waits (event.Flow n) to freed new a = still waits new a.3
  event_sound waits (event.Auto seed n) to freed new a = absurd a

pub within_sound : {V : Type 0} (s : Setting V) (w : World V) (ev : Event) (to : Outcome) (freed : List Sent)
    (new : World V) → Sound s w → OnWithin s w ev to freed new → Sound s new
within_sound s w ev to freed new h on = event_sound s w h.firm h.waits ev to freed new on.0

-- Whatever a strategy chooses keeps it.
pub follows_sound : {Q V : Type 0} (s : Setting V) (next : Strategy Q V) (q : Q) (w new : World V) (end : Option Limit)
    → Sound s w → Follows s next q w end new → Sound s new
follows_sound s next q w new end h (Ends p same none) = h
follows_sound s next q w new end h (Halts p same c limit some passes) = h
follows_sound s next q w new end h (GoesOn {mid = mid} p same c to freed some on rest) =
    follows_sound s next (c.leads_to to) mid new end (within_sound s w c.event to freed mid h on) rest

pub any_sound : {V : Type 0} (s : Setting V) (w : World V) → Sound s w → (ev : Event) (to : Outcome) (freed : List Sent)
    (new : World V) → OnAny s w ev to freed new → Sound s new
any_sound s w h ev to freed new (Single e o f n on) = within_sound s w ev to freed new h on
any_sound s w h ev to freed new (Several e q o n at f is) = follows_sound s (goes_on s) q w new None h f

-- So does an event that stops at a limit.
pub stops_sound : {V : Type 0} (s : Setting V) (w : World V) → Sound s w → (ev : Event) (limit : Limit) (new : World V)
    → Stops s w ev limit new → Sound s new
stops_sound s w h ev limit new (SingleStops e l passes) = h
stops_sound s w h ev limit new (SeveralStops e q l n at f) = follows_sound s (goes_on s) q w new (Some limit) h f

pub performs_sound : {V : Type 0} (s : Setting V) (w new : World V) (events : List Event) (lines : List ℕ) → Sound s w
    → Performs s w events lines new → Sound s new
performs_sound s w new events lines h (NoMore same) = h
performs_sound s w new events lines h (Writes {mid = mid} ev to freed on rest) =
    performs_sound s mid new _ _ (any_sound s w h ev to freed mid on) rest

-- Whatever the events, it holds.
pub reached_sound : {V : Type 0} (s : Setting V) (w : World V) → Reached s w → Sound s w
reached_sound {V} s w Opens = opening_sound s
reached_sound s w (Goes {w = before} ev to freed r on) =
    let k = reached_sound s before r in event_sound s before k.firm k.waits ev to freed w on
