-- Each event that is not one of several comes to something, in every sound world.
use Rattle.std.proofs.Common.{◌≡◌, ℕ, zero, suc, ◌+◌, ◌-◌, ◌*◌, ◌≤◌, ◌<◌, ◌≢◌, Bool, true, false, List, [], ◌∷◌, ◌++◌}
use Rattle.std.proofs.Common.{length, refl, sym, ap, ◌∙◌, subst, inl, inr, ◌⊎◌, arith, Option, Some, None}
use Rattle.std.specs.Prelude.{Ok, slice_get, nat_lt, min, ◌↔◌}
use Rattle.std.proofs.lemmas.Bool.{cases_lt}
use Rattle.std.proofs.lemmas.Bool.Decides.{nat_tests}
use Rattle.plain_text.specs.declared.packet.Packet.{Packet}
use Rattle.random_words.specs.Words.{word_of}
use Rattle.entry_order.specs.declared.what.What.{What}
use Rattle.entry_order.specs.declared.what.What.TheVariants as what
use Rattle.entry_order.specs.Log.{Entry, entries, places, IsLog, IsIn, PrecedesOrIs, PrecedesOutput}
use Rattle.entry_order.specs.Closed.{IsNoLater, IsFirstMissing, IsDue}
use Rattle.entry_order.specs.Stamps.{IsStamp, IsCount}
use Rattle.entry_order.proofs.Order.{is_or, number_within, entry_there}
use Rattle.entry_order.proofs.ClosedParts.{Or, in_or, entry_or as entry_is}
use Rattle.entry_order.proofs.Joins.{stamp_there}
use Rattle.entry_order.proofs.Missing.{output_in}
use Rattle.entry_order.proofs.NoLater.{no_later_trans, later_or}
use Rattle.plain_machine.specs.declared.local.Move.{Move}
use Rattle.plain_machine.specs.declared.local.Move.TheVariants.{Access, Read, Clock, Draw, Emit, End}
use Rattle.plain_machine.specs.Machine.{Hand, Thread, Effect, Takes, Touches, Looks, HearsClock, HearsDraw, Sends, Ends}
use Rattle.plain_machine.specs.Machine.{Moves, holding, sent_packet, thread_move}
use Rattle.plain_machine.specs.History.{Step, log_of, sent_of, outputs, entry_of, step_of, thread_after, value_after}
use Rattle.plain_machine.specs.History.{plain_move}
use Rattle.plain_machine.proofs.Histories.{history_log}
use Rattle.recovery_world.specs.declared.event.Event.{Event}
use Rattle.recovery_world.specs.declared.event.Event.TheVariants as event
use Rattle.plain_text.specs.declared.kind.Kind.{Kind}
use Rattle.plain_text.specs.declared.kind.Kind.TheVariants as kind
use Rattle.recovery_world.specs.declared.event.Outcome.{Outcome}
use Rattle.recovery_world.specs.declared.event.Outcome.TheVariants as outcome
use Rattle.recovery_world.specs.World.{Setting, Sent, Ended as EndedEpoch, World, inputs_fed}
use Rattle.recovery_world.specs.Turns.{IsReadToCome, IsTouchToCome, Awaits, HasTurn, HandHasTurn, TellsClock, TellsDraw}
use Rattle.recovery_world.specs.Frames.{IsThreadCount, HasComponent, HasOutputComponent}
use Rattle.recovery_world.specs.Many.{Steps, begins}
use Rattle.recovery_world.specs.Events.{move_outcome, bytes_sent, Tells, TellsHand, MakesMove, OnStep, IsKnown, Parts}
use Rattle.recovery_world.specs.Events.{Releases, IsEntryOf, OnLog, HasNumber, IsOutputOf, IsAmong, HasArrived, OnOut}
use Rattle.recovery_world.specs.Events.{count_of, Arrives, WasSent, OnLate, IsFrameLength, HasNone, OnCut, OnSnap}
use Rattle.recovery_world.specs.Events.{OnStore, OnCrash, IsPartOf, Recovers, OnRecover, OnShow, fed_after, after_feed}
use Rattle.recovery_world.specs.Events.{On}
use Rattle.recovery_laws.specs.Sound.{times, Sound}
use Rattle.recovery_laws.proofs.Sets.{predecessors, times_there}
use Rattle.recovery_laws.proofs.AcceptedRuns.{among_times}
use Rattle.recovery_laws.proofs.Finishes.{sent_there, recovers_there, sends_thread}
use Rattle.recovery_laws.proofs.Settlings.{number_high}

-- Searching

find : (P : Entry → Type 0) → ((e : Entry) → Or (P e)) → (xs : List Entry)
    → ((e : Entry) × IsIn e xs × P e) ⊎ ((e : Entry) → IsIn e xs → P e → ⊥)
find P dec [] = inr (λ e i p. i)
find P dec (x ∷ xs) = go (dec x) (find P dec xs)
  where
    go : Or (P x) → ((e : Entry) × IsIn e xs × P e) ⊎ ((e : Entry) → IsIn e xs → P e → ⊥)
        → ((e : Entry) × IsIn e (x ∷ xs) × P e) ⊎ ((e : Entry) → IsIn e (x ∷ xs) → P e → ⊥)
    go (inl p) b = inl (x, inl refl, p)
    go (inr n) (inl (e, i, p)) = inl (e, inr i, p)
    go (inr n) (inr none) = inr never
      where
        never : (e : Entry) → (x ≡ e) ⊎ IsIn e xs → P e → ⊥
        never e (inl same) p = n (subst P (sym same) p)
        never e (inr i) p = none e i p

least : (P : Entry → Type 0) → ((e : Entry) → Or (P e)) → (xs : List Entry)
    → ((e : Entry) × IsIn e xs × P e × ((f : Entry) → IsIn f xs → P f → IsNoLater e f))
    ⊎ ((e : Entry) → IsIn e xs → P e → ⊥)
least P dec [] = inr (λ e i p. i)
least P dec (x ∷ xs) = go (dec x) (least P dec xs)
  where
    go : Or (P x)
        → ((e : Entry) × IsIn e xs × P e × ((f : Entry) → IsIn f xs → P f → IsNoLater e f))
        ⊎ ((e : Entry) → IsIn e xs → P e → ⊥)
        → ((e : Entry) × IsIn e (x ∷ xs) × P e × ((f : Entry) → IsIn f (x ∷ xs) → P f → IsNoLater e f))
        ⊎ ((e : Entry) → IsIn e (x ∷ xs) → P e → ⊥)
    go (inl p) (inr none) = inl (x, inl refl, p, first)
      where
        first : (f : Entry) → (x ≡ f) ⊎ IsIn f xs → P f → IsNoLater x f
        first f (inl same) q = subst (λ (z : Entry). IsNoLater x z) same (inr (refl, omega arith))
        first f (inr i) q = absurd (none f i q)
    go (inl p) (inl (e, i, q, low)) = either (later_or x e)
      where
        either : IsNoLater x e ⊎ IsNoLater e x
            → ((e : Entry) × IsIn e (x ∷ xs) × P e × ((f : Entry) → IsIn f (x ∷ xs) → P f → IsNoLater e f))
            ⊎ ((e : Entry) → IsIn e (x ∷ xs) → P e → ⊥)
        either (inl a) = inl (x, inl refl, p, first)
          where
            first : (f : Entry) → (x ≡ f) ⊎ IsIn f xs → P f → IsNoLater x f
            first f (inl same) r = subst (λ (z : Entry). IsNoLater x z) same (inr (refl, omega arith))
            first f (inr j) r = no_later_trans x e f a (low f j r)
        either (inr a) = inl (e, inr i, q, first)
          where
            first : (f : Entry) → (x ≡ f) ⊎ IsIn f xs → P f → IsNoLater e f
            first f (inl same) r = subst (λ (z : Entry). IsNoLater e z) same a
            first f (inr j) r = low f j r
    go (inr n) (inl (e, i, q, low)) = inl (e, inr i, q, first)
      where
        first : (f : Entry) → (x ≡ f) ⊎ IsIn f xs → P f → IsNoLater e f
        first f (inl same) r = absurd (n (subst P (sym same) r))
        first f (inr j) r = low f j r
    go (inr n) (inr none) = inr never
      where
        never : (e : Entry) → (x ≡ e) ⊎ IsIn e xs → P e → ⊥
        never e (inl same) p = n (subst P (sym same) p)
        never e (inr i) p = none e i p

or_both : {A B : Type 0} → Or A → Or B → Or (A × B)
or_both (inl a) (inl b) = inl (a, b)
or_both (inl a) (inr b) = inr (λ k. b k.1)
or_both (inr a) b = inr (λ k. a k.0)

or_not : {A : Type 0} → Or A → Or (A → ⊥)
or_not (inl a) = inr (λ k. k a)
or_not (inr a) = inl a

nat_or : (a b : ℕ) → Or (a ≡ b)
nat_or a b = go (is_or a b)
  where
    go : (a ≡ b) ⊎ (a ≢ b) → Or (a ≡ b)
    go (inl k) = inl k
    go (inr k) = inr (λ e. k e)

what_is : (e : Entry) (w : What) → Or (e.what ≡ w)
what_is e w = go (entry_is e (record { thread = e.thread; number = e.number; what = w }))
  where
    go : Or (e ≡ record { thread = e.thread; number = e.number; what = w }) → Or (e.what ≡ w)
    go (inl k) = inl (ap (λ (z : Entry). z.what) k)
    go (inr k) = inr (λ q.
        k (ap (λ (x : What). let z : Entry = record { thread = e.thread; number = e.number; what = x } in z) q))

count_there : (P : Entry → Type 0) → ((e : Entry) → Or (P e)) → (xs : List Entry) → (n : ℕ) × IsCount P xs n
count_there P dec [] = (0, refl)
count_there P dec (x ∷ xs) = go (dec x) (count_there P dec xs)
  where
    go : Or (P x) → (n : ℕ) × IsCount P xs n → (n : ℕ) × IsCount P (x ∷ xs) n
    go (inl p) r = (r.0 + 1, inl (p, r.0, refl, r.1))
    go (inr n) r = (r.0, inr (n, r.1))

threads_there : (P : ℕ → Type 0) → ((u : ℕ) → Or (P u)) → (n : ℕ) → (k : ℕ) × IsThreadCount P n k
threads_there P dec zero = (0, refl)
threads_there P dec (suc n) = go (dec n) (threads_there P dec n)
  where
    go : Or (P n) → (k : ℕ) × IsThreadCount P n k → (k : ℕ) × IsThreadCount P (suc n) k
    go (inl p) r = (r.0 + 1, inl (p, r.0, refl, r.1))
    go (inr q) r = (r.0, inr (q, r.1))

parts_there : (P : Sent → Type 0) → ((o : Sent) → Or (P o)) → (xs : List Sent)
    → (go : List Sent) × (stay : List Sent) × Parts P xs go stay
parts_there P dec [] = ([], [], (refl, refl))
parts_there P dec (x ∷ xs) = pick (dec x) (parts_there P dec xs)
  where
    pick : Or (P x) → ((go : List Sent) × (stay : List Sent) × Parts P xs go stay)
        → (go : List Sent) × (stay : List Sent) × Parts P (x ∷ xs) go stay
    pick (inl p) r = (x ∷ r.0, r.1, inl (p, r.0, refl, r.2))
    pick (inr n) r = (r.0, x ∷ r.1, inr (n, r.1, refl, r.2))

part_short : (xs p : List Entry) → IsPartOf xs p → length p ≤ length xs
part_short [] p a = let k : length p ≡ 0 = ap (λ (l : List Entry). length l) a in omega arith
part_short (x ∷ xs) p (inl (r, is, a)) =
    let k : length p ≡ length (x ∷ r) = ap (λ (l : List Entry). length l) is in
    let q = part_short xs r a in omega (arith, k, q)
part_short (x ∷ xs) p (inr a) = let q = part_short xs p a in omega (arith, q)

-- What comes to be

module _ {V : Type 0} (s : Setting V) (w : World V) (h : Sound s w) where
  good : IsLog (log_of w.past)
  good = history_log s.meaning (inputs_fed s w.fed) s.threads w.past h.firm.legal

  -- what is missing for an output, or that it is due, where these entries are held and those stored
  missing_or : (held : List Entry) (stored : List (Step V)) (o : Sent)
      → ((e : Entry) × IsFirstMissing (log_of w.past) (log_of stored) held o.emission.thread o.after e)
      ⊎ IsDue (log_of w.past) (log_of stored) held o.emission.thread o.after
  missing_or held stored o = go (least (λ e. (IsIn e held → ⊥) × (IsIn e (log_of stored) → ⊥)) lost_or p.0)
    where
      p : (before : List Entry)
          × ((e : Entry) → IsIn e before ↔ PrecedesOutput (log_of w.past) o.emission.thread o.after e)
      p = predecessors (log_of w.past) o.emission.thread o.after good

      lost_or : (e : Entry) → Or ((IsIn e held → ⊥) × (IsIn e (log_of stored) → ⊥))
      lost_or e = or_both (or_not (in_or e held)) (or_not (in_or e (log_of stored)))

      go : ((e : Entry) × IsIn e p.0 × ((IsIn e held → ⊥) × (IsIn e (log_of stored) → ⊥))
          × ((f : Entry) → IsIn f p.0 → ((IsIn f held → ⊥) × (IsIn f (log_of stored) → ⊥)) → IsNoLater e f))
          ⊎ ((e : Entry) → IsIn e p.0 → ((IsIn e held → ⊥) × (IsIn e (log_of stored) → ⊥)) → ⊥)
          → ((e : Entry) × IsFirstMissing (log_of w.past) (log_of stored) held o.emission.thread o.after e)
          ⊎ IsDue (log_of w.past) (log_of stored) held o.emission.thread o.after
      go (inl (e, i, q, first)) = inl (
        e,
        record {
          missing = record { precedes = (p.1 e).0 i; not_held = q.0; not_stored = q.1 };
          first = λ f m. first f ((p.1 f).1 m.precedes) (m.not_held, m.not_stored);
        },
      )
      go (inr none) = inr (λ e m. none e ((p.1 e).1 m.precedes) (m.not_held, m.not_stored))

  -- Steps

  awaits_or : (t : ℕ) (next : Move)
      → ((e : Entry) × Awaits w.followed (log_of w.past) t next e) ⊎ HasTurn w.followed (log_of w.past) t next
  awaits_or t (Access v) = own (in_or (entry_of t (log_of w.past) (what.Read v (places v (log_of w.past)))) w.followed)
    where
      reads_or : (e : Entry) → Or ((e.what ≡ what.Read v (places v (log_of w.past))) × (IsIn e (log_of w.past) → ⊥))
      reads_or e = or_both (what_is e (what.Read v (places v (log_of w.past)))) (or_not (in_or e (log_of w.past)))

      touch_or : (e : Entry)
          → Or ((e.what ≡ what.Access v (places v (log_of w.past) + 1))
          × ((e.thread ≡ t) × (e.number ≡ entries t (log_of w.past) + 1) → ⊥))
      touch_or e = or_both (what_is e (what.Access v (places v (log_of w.past) + 1)))
          (or_not (or_both (nat_or e.thread t) (nat_or e.number (entries t (log_of w.past) + 1))))

      own : Or (IsIn (entry_of t (log_of w.past) (what.Read v (places v (log_of w.past)))) w.followed)
          → ((e : Entry) × Awaits w.followed (log_of w.past) t (Access v) e)
          ⊎ HasTurn w.followed (log_of w.past) t (Access v)
      own (inl mine) = inr (λ e a. a.not_own_read mine)
      own (inr not) = go (least (λ e. (e.what ≡ what.Read v (places v (log_of w.past))) × (IsIn e (log_of w.past) → ⊥))
          reads_or w.followed)
          (find (λ e.
          (e.what ≡ what.Access v (places v (log_of w.past) + 1))
          × ((e.thread ≡ t) × (e.number ≡ entries t (log_of w.past) + 1) → ⊥)) touch_or w.followed)
        where
          go : ((e : Entry)
              × IsIn e w.followed
              × ((e.what ≡ what.Read v (places v (log_of w.past))) × (IsIn e (log_of w.past) → ⊥))
              × ((f : Entry) → IsIn f w.followed
              → (f.what ≡ what.Read v (places v (log_of w.past))) × (IsIn f (log_of w.past) → ⊥) → IsNoLater e f))
              ⊎ ((e : Entry) → IsIn e w.followed
              → (e.what ≡ what.Read v (places v (log_of w.past))) × (IsIn e (log_of w.past) → ⊥) → ⊥)
              → ((e : Entry) × IsIn e w.followed × ((e.what ≡ what.Access v (places v (log_of w.past) + 1))
              × ((e.thread ≡ t) × (e.number ≡ entries t (log_of w.past) + 1) → ⊥)))
              ⊎ ((e : Entry) → IsIn e w.followed
              → (e.what ≡ what.Access v (places v (log_of w.past) + 1))
              × ((e.thread ≡ t) × (e.number ≡ entries t (log_of w.past) + 1) → ⊥) → ⊥)
              → ((e : Entry) × Awaits w.followed (log_of w.past) t (Access v) e)
              ⊎ HasTurn w.followed (log_of w.past) t (Access v)
          go (inl (e, i, q, first)) b =
              inl (e, record { not_own_read = not; which = inl (refl, (i, q.0, q.1), λ f r. first f r.0 (r.1, r.2)) })
          go (inr none) (inl (e, i, q)) =
              inl (e, record { not_own_read = not; which = inr ((λ k f r. none f r.0 (r.1, r.2)), (i, q.0), q.1) })
          go (inr none) (inr never) = inr (λ e a. out e a.which)
            where
              out : (e : Entry)
                  → ((false ≡ false)
                  × IsReadToCome w.followed (log_of w.past) v e
                  × ((f : Entry) → IsReadToCome w.followed (log_of w.past) v f → IsNoLater e f))
                  ⊎ ((false ≡ false → (f : Entry) → IsReadToCome w.followed (log_of w.past) v f → ⊥)
                  × IsTouchToCome w.followed (log_of w.past) v e
                  × ((e.thread ≡ t) × (e.number ≡ entries t (log_of w.past) + 1) → ⊥)) → ⊥
              out e (inl k) = none e k.1.0 (k.1.1, k.1.2)
              out e (inr k) = never e k.1.0 (k.1.1, k.2)
  awaits_or t (Read v) = own (in_or (entry_of t (log_of w.past) (what.Read v (places v (log_of w.past)))) w.followed)
    where
      touch_or : (e : Entry)
          → Or ((e.what ≡ what.Access v (places v (log_of w.past) + 1))
          × ((e.thread ≡ t) × (e.number ≡ entries t (log_of w.past) + 1) → ⊥))
      touch_or e = or_both (what_is e (what.Access v (places v (log_of w.past) + 1)))
          (or_not (or_both (nat_or e.thread t) (nat_or e.number (entries t (log_of w.past) + 1))))

      own : Or (IsIn (entry_of t (log_of w.past) (what.Read v (places v (log_of w.past)))) w.followed)
          → ((e : Entry) × Awaits w.followed (log_of w.past) t (Read v) e)
          ⊎ HasTurn w.followed (log_of w.past) t (Read v)
      own (inl mine) = inr (λ e a. a.not_own_read mine)
      own (inr not) = go (find (λ e.
          (e.what ≡ what.Access v (places v (log_of w.past) + 1))
          × ((e.thread ≡ t) × (e.number ≡ entries t (log_of w.past) + 1) → ⊥)) touch_or w.followed)
        where
          go : ((e : Entry) × IsIn e w.followed × ((e.what ≡ what.Access v (places v (log_of w.past) + 1))
              × ((e.thread ≡ t) × (e.number ≡ entries t (log_of w.past) + 1) → ⊥)))
              ⊎ ((e : Entry) → IsIn e w.followed
              → (e.what ≡ what.Access v (places v (log_of w.past) + 1))
              × ((e.thread ≡ t) × (e.number ≡ entries t (log_of w.past) + 1) → ⊥) → ⊥)
              → ((e : Entry) × Awaits w.followed (log_of w.past) t (Read v) e)
              ⊎ HasTurn w.followed (log_of w.past) t (Read v)
          go (inl (e, i, q)) = inl (
            e,
            record { not_own_read = not; which = inr ((λ k. let z : true ≡ false = k in absurd (cc)), (i, q.0), q.1) },
          )
          go (inr never) = inr (λ e a. out e a.which)
            where
              out : (e : Entry)
                  → ((true ≡ false)
                  × IsReadToCome w.followed (log_of w.past) v e
                  × ((f : Entry) → IsReadToCome w.followed (log_of w.past) v f → IsNoLater e f))
                  ⊎ ((true ≡ false → (f : Entry) → IsReadToCome w.followed (log_of w.past) v f → ⊥)
                  × IsTouchToCome w.followed (log_of w.past) v e
                  × ((e.thread ≡ t) × (e.number ≡ entries t (log_of w.past) + 1) → ⊥)) → ⊥
              out e (inl k) = let z : true ≡ false = k.0 in cc
              out e (inr k) = never e k.1.0 (k.1.1, k.2)
  awaits_or t Clock = inr (λ e a. a)
  awaits_or t Draw = inr (λ e a. a)
  awaits_or t Emit = inr (λ e a. a)
  awaits_or t End = inr (λ e a. a)

  -- a followed clock, and a followed draw, of this entry
  clock_or : (t : ℕ) (e : Entry) → Or ((b : ℕ) × (e ≡ entry_of t (log_of w.past) (what.Clock b)))
  clock_or t e = go e.what refl
    where
      no : (x : What) → e.what ≡ x → ((b : ℕ) → x ≡ what.Clock b → ⊥)
          → Or ((b : ℕ) × (e ≡ entry_of t (log_of w.past) (what.Clock b)))
      no x is never = inr (λ k. never k.0 (sym is ∙ ap (λ (z : Entry). z.what) k.1))

      go : (x : What) → e.what ≡ x → Or ((b : ℕ) × (e ≡ entry_of t (log_of w.past) (what.Clock b)))
      go (what.Access v p) is = no (what.Access v p) is (λ b q. cc)
      go (what.Read v p) is = no (what.Read v p) is (λ b q. cc)
      go (what.Draw a) is = no (what.Draw a) is (λ b q. cc)
      go (what.Clock a) is = at (entry_is e (entry_of t (log_of w.past) (what.Clock a)))
        where
          at : Or (e ≡ entry_of t (log_of w.past) (what.Clock a))
              → Or ((b : ℕ) × (e ≡ entry_of t (log_of w.past) (what.Clock b)))
          at (inl k) = inl (a, k)
          at (inr k) = inr (λ r.
              let q : what.Clock a ≡ what.Clock r.0 = sym is ∙ ap (λ (z : Entry). z.what) r.1 in
              let n : r.0 ≡ a = cc in k (subst (λ (i : ℕ). e ≡ entry_of t (log_of w.past) (what.Clock i)) n r.1))

  draw_or : (t : ℕ) (e : Entry) → Or ((b : ℕ) × (e ≡ entry_of t (log_of w.past) (what.Draw b)))
  draw_or t e = go e.what refl
    where
      no : (x : What) → e.what ≡ x → ((b : ℕ) → x ≡ what.Draw b → ⊥)
          → Or ((b : ℕ) × (e ≡ entry_of t (log_of w.past) (what.Draw b)))
      no x is never = inr (λ k. never k.0 (sym is ∙ ap (λ (z : Entry). z.what) k.1))

      go : (x : What) → e.what ≡ x → Or ((b : ℕ) × (e ≡ entry_of t (log_of w.past) (what.Draw b)))
      go (what.Access v p) is = no (what.Access v p) is (λ b q. cc)
      go (what.Read v p) is = no (what.Read v p) is (λ b q. cc)
      go (what.Clock a) is = no (what.Clock a) is (λ b q. cc)
      go (what.Draw a) is = at (entry_is e (entry_of t (log_of w.past) (what.Draw a)))
        where
          at : Or (e ≡ entry_of t (log_of w.past) (what.Draw a))
              → Or ((b : ℕ) × (e ≡ entry_of t (log_of w.past) (what.Draw b)))
          at (inl k) = inl (a, k)
          at (inr k) = inr (λ r.
              let q : what.Draw a ≡ what.Draw r.0 = sym is ∙ ap (λ (z : Entry). z.what) r.1 in
              let n : r.0 ≡ a = cc in k (subst (λ (i : ℕ). e ≡ entry_of t (log_of w.past) (what.Draw i)) n r.1))

  clock_told : (t : ℕ) (given : Option ℕ) → (a : ℕ) × TellsClock w.followed (log_of w.past) t given w.clock a
  clock_told t given =
      go (find (λ e. (b : ℕ) × (e ≡ entry_of t (log_of w.past) (what.Clock b))) (clock_or t) w.followed) given refl
    where
      go : ((e : Entry) × IsIn e w.followed × ((b : ℕ) × (e ≡ entry_of t (log_of w.past) (what.Clock b))))
          ⊎ ((e : Entry) → IsIn e w.followed → (b : ℕ) × (e ≡ entry_of t (log_of w.past) (what.Clock b)) → ⊥)
          → (g : Option ℕ) → given ≡ g → (a : ℕ) × TellsClock w.followed (log_of w.past) t given w.clock a
      go (inl (e, i, k)) g is = (k.0, inl (subst (λ (z : Entry). IsIn z w.followed) k.1 i))
      go (inr none) (Some a) is =
          (a, inr ((λ b i. none (entry_of t (log_of w.past) (what.Clock b)) i (b, refl)), inl is))
      go (inr none) None is =
          (w.clock, inr ((λ b i. none (entry_of t (log_of w.past) (what.Clock b)) i (b, refl)), inr (is, refl)))

  draw_told : (t : ℕ) (given : Option ℕ)
      → (a : ℕ) × (drawn : ℕ) × TellsDraw w.followed (log_of w.past) t given (word_of s.seed) w.drawn a drawn
  draw_told t given =
      go (find (λ e. (b : ℕ) × (e ≡ entry_of t (log_of w.past) (what.Draw b))) (draw_or t) w.followed) given refl
    where
      go : ((e : Entry) × IsIn e w.followed × ((b : ℕ) × (e ≡ entry_of t (log_of w.past) (what.Draw b))))
          ⊎ ((e : Entry) → IsIn e w.followed → (b : ℕ) × (e ≡ entry_of t (log_of w.past) (what.Draw b)) → ⊥)
          → (g : Option ℕ) → given ≡ g
          → (a : ℕ) × (drawn : ℕ) × TellsDraw w.followed (log_of w.past) t given (word_of s.seed) w.drawn a drawn
      go (inl (e, i, k)) g is = (k.0, w.drawn, inl (subst (λ (z : Entry). IsIn z w.followed) k.1 i, refl))
      go (inr none) (Some a) is =
          (a, w.drawn, inr ((λ b i. none (entry_of t (log_of w.past) (what.Draw b)) i (b, refl)), inl (is, refl)))
      go (inr none) None is = (
        word_of s.seed w.drawn,
        w.drawn + 1,
        inr ((λ b i. none (entry_of t (log_of w.past) (what.Draw b)) i (b, refl)), inr (is, refl, refl)),
      )

  -- a move that the machine makes
  makes : (t : ℕ) (given answer : Option ℕ) (drawn : ℕ) (after : Thread) (d : Effect V) → t < s.threads
      → thread_move s.meaning (inputs_fed s w.fed t) (value_after s.meaning w.past) (thread_after w.past t) answer
      ≡ Moves after d → HandHasTurn s.meaning w.followed (log_of w.past) t (thread_after w.past t).hand
      → TellsHand s w t given answer drawn (thread_after w.past t).hand
      → (to : Outcome) × (new : World V) × MakesMove s w t given to new
  makes t given answer drawn after d low moves turn tells = (
    move_outcome step.act,
    record w { past = step ∷ w.past; drawn = drawn; moves = w.moves + 1; bytes = w.bytes + bytes_sent step.act },
    record {
      turn = turn;
      answer = answer;
      drawn = drawn;
      tells = tells;
      step = step;
      moves = played;
      to_is = refl;
      new_is = refl;
    },
  )
    where
      step : Step V
      step = step_of t w.past after d

      played : plain_move s.meaning (inputs_fed s w.fed) s.threads w.past (record { thread = t; answer = answer })
          ≡ Ok (step ∷ w.past)
      played = let b : nat_lt t s.threads ≡ true = grind (arith, nat_tests) in rw b (rw moves refl)

  by_move : (t : ℕ) (given : Option ℕ) (k : Hand) (n : Move) → t < s.threads → w.up ≡ true
      → (thread_after w.past t).hand ≡ Some k → s.meaning.next k.place ≡ n → HasTurn w.followed (log_of w.past) t n
      → (to : Outcome) × (new : World V) × MakesMove s w t given to new
  by_move t given k n low up hand is turn = go n is turn
    where
      turned : (n : Move) → s.meaning.next k.place ≡ n → HasTurn w.followed (log_of w.past) t n
          → HandHasTurn s.meaning w.followed (log_of w.past) t (thread_after w.past t).hand
      turned n is turn = subst (λ (o : Option Hand). HandHasTurn s.meaning w.followed (log_of w.past) t o) (sym hand)
          (subst (λ (m : Move). HasTurn w.followed (log_of w.past) t m) (sym is) turn)

      told : (n : Move) → s.meaning.next k.place ≡ n → (answer : Option ℕ) (drawn : ℕ)
          → Tells s w t given answer drawn n → TellsHand s w t given answer drawn (thread_after w.past t).hand
      told n is answer drawn tells = subst (λ (o : Option Hand). TellsHand s w t given answer drawn o) (sym hand)
          (subst (λ (m : Move). Tells s w t given answer drawn m) (sym is) tells)

      taken : ℕ
      taken = (thread_after w.past t).taken

      go : (n : Move) → s.meaning.next k.place ≡ n → HasTurn w.followed (log_of w.past) t n
          → (to : Outcome) × (new : World V) × MakesMove s w t given to new
      go (Access v) is turn = makes t given None w.drawn
          (holding taken k.packet (s.meaning.touch v (value_after s.meaning w.past v) k.place).1)
          (Touches v (s.meaning.touch v (value_after s.meaning w.past v) k.place).0) low (rw hand (rw is refl))
          (turned (Access v) is turn) (told (Access v) is None w.drawn (refl, refl))
      go (Read v) is turn = makes t given None w.drawn
          (holding taken k.packet (s.meaning.look v (value_after s.meaning w.past v) k.place)) (Looks v) low
          (rw hand (rw is refl)) (turned (Read v) is turn) (told (Read v) is None w.drawn (refl, refl))
      go Clock is turn =
          let c = clock_told t given in
          makes t given (Some c.0) w.drawn (holding taken k.packet (s.meaning.told c.0 k.place)) (HearsClock c.0) low
          (rw hand (rw is refl)) (turned Clock is turn) (told Clock is (Some c.0) w.drawn (c.0, refl, refl, c.1))
      go Draw is turn =
          let c = draw_told t given in
          makes t given (Some c.0) c.1 (holding taken k.packet (s.meaning.told c.0 k.place)) (HearsDraw c.0) low
          (rw hand (rw is refl)) (turned Draw is turn) (told Draw is (Some c.0) c.1 (c.0, refl, c.2))
      go Emit is turn = makes t given None w.drawn (holding taken k.packet (s.meaning.emitted k.place))
          (Sends (sent_packet s.meaning k)) low (rw hand (rw is refl)) (turned Emit is turn)
          (told Emit is None w.drawn (refl, refl))
      go End is turn = makes t given None w.drawn (record { taken = taken; hand = None }) Ends low
          (rw hand (rw is refl)) (turned End is turn) (told End is None w.drawn (refl, refl))

  step_there : (t : ℕ) (given : Option ℕ) → (to : Outcome) × (new : World V) × OnStep s w t given to new
  step_there t given = go (cases_lt t s.threads) w.up refl (thread_after w.past t).hand refl
    where
      held : (k : Hand) → t < s.threads → w.up ≡ true → (thread_after w.past t).hand ≡ Some k
          → ((e : Entry) × Awaits w.followed (log_of w.past) t (s.meaning.next k.place) e)
          ⊎ HasTurn w.followed (log_of w.past) t (s.meaning.next k.place)
          → (to : Outcome) × (new : World V) × OnStep s w t given to new
      held k low up hand (inl (e, a)) = (
        outcome.Waits e.thread e.number,
        w,
        inr (inr (inr (inl (low, up, record { hand = k; hand_is = hand; entry = e; awaits = a; to_is = refl }, refl)))),
      )
      held k low up hand (inr turn) =
          let r = by_move t given k (s.meaning.next k.place) low up hand refl turn in
          (r.0, r.1, inr (inr (inr (inr (low, up, r.2)))))

      free : t < s.threads → w.up ≡ true → (thread_after w.past t).hand ≡ None → (i : Option Packet)
          → slice_get (inputs_fed s w.fed t) (thread_after w.past t).taken ≡ i
          → (to : Outcome) × (new : World V) × OnStep s w t given to new
      free low up hand None at = (outcome.Idle, w, inr (inr (inl (low, up, (hand, at), refl, refl))))
      free low up hand (Some p) at =
          let r = makes t given None w.drawn (holding ((thread_after w.past t).taken + 1) p (s.meaning.begin p)) Takes
          low (rw hand (rw at refl))
          (subst (λ (o : Option Hand). HandHasTurn s.meaning w.followed (log_of w.past) t o) (sym hand) tt)
          (subst (λ (o : Option Hand). TellsHand s w t given None w.drawn o) (sym hand) (refl, refl)) in
          (r.0, r.1, inr (inr (inr (inr (low, up, r.2)))))

      go : (t < s.threads) ⊎ (s.threads ≤ t) → (b : Bool) → w.up ≡ b → (o : Option Hand)
          → (thread_after w.past t).hand ≡ o → (to : Outcome) × (new : World V) × OnStep s w t given to new
      go (inr high) b up o hand = (outcome.Nothing, w, inl (high, refl, refl))
      go (inl low) false up o hand = (outcome.Down, w, inr (inl (low, up, refl, refl)))
      go (inl low) true up None hand =
          free low up hand (slice_get (inputs_fed s w.fed t) (thread_after w.past t).taken) refl
      go (inl low) true up (Some k) hand = held k low up hand (awaits_or t (s.meaning.next k.place))

  -- Arrivals

  entry_or : (t n : ℕ) → ((e : Entry) × IsEntryOf w t n e) ⊎ ((e : Entry) → IsEntryOf w t n e → ⊥)
  entry_or t n = go (cases_lt n 1) (cases_lt (entries t (log_of w.past)) n)
    where
      go : (n < 1) ⊎ (1 ≤ n) → (entries t (log_of w.past) < n) ⊎ (n ≤ entries t (log_of w.past))
          → ((e : Entry) × IsEntryOf w t n e) ⊎ ((e : Entry) → IsEntryOf w t n e → ⊥)
      go (inl a) b = inr (λ e i. let k = number_within (log_of w.past) e good i.0 in omega (arith, a, k, i.2))
      go (inr a) (inl b) = inr (λ e i.
          let k = number_within (log_of w.past) e good i.0 in
          let u : entries e.thread (log_of w.past) ≡ entries t (log_of w.past) =
          ap (λ (z : ℕ). entries z (log_of w.past)) i.1 in
          omega (arith, b, k, u, i.2))
      go (inr a) (inr b) = let r = entry_there (log_of w.past) t n good a b in inl (r.0, (r.1, r.2, r.3))

  output_or : (t j : ℕ) → ((o : Sent) × IsOutputOf w t j o) ⊎ ((o : Sent) → IsOutputOf w t j o → ⊥)
  output_or t j = go (cases_lt j 1) (cases_lt (outputs t (sent_of w.past)) j)
    where
      go : (j < 1) ⊎ (1 ≤ j) → (outputs t (sent_of w.past) < j) ⊎ (j ≤ outputs t (sent_of w.past))
          → ((o : Sent) × IsOutputOf w t j o) ⊎ ((o : Sent) → IsOutputOf w t j o → ⊥)
      go (inl a) b = inr (λ o i.
          let k = sends_thread s.meaning (inputs_fed s w.fed) s.threads w.past o.emission o.after h.firm.legal i.0 in
          omega (arith, a, k.1, i.1.1))
      go (inr a) (inl b) = inr (λ o i.
          let k = number_high s.meaning (inputs_fed s w.fed) s.threads w.past o.emission o.after h.firm.legal i.0 in
          let u : outputs o.emission.thread (sent_of w.past) ≡ outputs t (sent_of w.past) =
          ap (λ (z : ℕ). outputs z (sent_of w.past)) i.1.0 in
          omega (arith, b, k, u, i.1.1))
      go (inr a) (inr b) =
          let r = sent_there s.meaning (inputs_fed s w.fed) s.threads t j w.past h.firm.legal a b in
          inl (record { emission = r.0; after = r.1 }, (r.2, (r.3, r.4)))

  known_or : (e : Entry) → Or (IsKnown w e)
  known_or e = go (in_or e w.held) (in_or e (log_of w.stored))
    where
      go : Or (IsIn e w.held) → Or (IsIn e (log_of w.stored)) → Or (IsKnown w e)
      go (inl a) b = inl (inl a)
      go (inr a) (inl b) = inl (inr b)
      go (inr a) (inr b) = inr never
        where
          never : IsKnown w e → ⊥
          never (inl k) = a k
          never (inr k) = b k

  due_or : (held : List Entry) (stored : List (Step V)) (o : Sent)
      → Or (IsDue (log_of w.past) (log_of stored) held o.emission.thread o.after)
  due_or held stored o = go (missing_or held stored o)
    where
      go : ((e : Entry) × IsFirstMissing (log_of w.past) (log_of stored) held o.emission.thread o.after e)
          ⊎ IsDue (log_of w.past) (log_of stored) held o.emission.thread o.after
          → Or (IsDue (log_of w.past) (log_of stored) held o.emission.thread o.after)
      go (inl m) = inr (λ k. k m.0 m.1.missing)
      go (inr k) = inl k

  releases_there : (stored : List (Step V)) (copy : Option (List (Step V))) (held : List Entry)
      → (freed : List Sent)
      × (new : World V)
      × Releases (record w { stored = stored; copy = copy; held = held }) freed new
  releases_there stored copy held =
      let r = parts_there (λ o. IsDue (log_of w.past) (log_of stored) held o.emission.thread o.after)
      (due_or held stored) w.waiting in (
        r.0,
        record w { stored = stored; copy = copy; held = held; waiting = r.1; released = w.released ++ r.0 },
        record { stay = r.1; parts = r.2; new_is = refl },
      )

  log_there : (t n : ℕ) → (to : Outcome) × (freed : List Sent) × (new : World V) × OnLog w t n to freed new
  log_there t n = go (entry_or t n)
    where
      at : (e : Entry) → IsEntryOf w t n e → Or (IsKnown w e)
          → (to : Outcome) × (freed : List Sent) × (new : World V) × OnLog w t n to freed new
      at e of (inl k) = (outcome.Known, [], w, inr (inl (e, of, k, refl, refl, refl)))
      at e of (inr k) =
          let r = releases_there w.stored w.copy (e ∷ w.held) in
          (outcome.New, r.0, r.1, inr (inr (e, of, k, refl, r.2)))

      go : ((e : Entry) × IsEntryOf w t n e) ⊎ ((e : Entry) → IsEntryOf w t n e → ⊥)
          → (to : Outcome) × (freed : List Sent) × (new : World V) × OnLog w t n to freed new
      go (inr none) = (outcome.Nothing, [], w, inl (none, refl, refl, refl))
      go (inl r) = at r.0 r.1 (known_or r.0)

  arrived_or : (t j : ℕ) → Or (HasArrived w t j)
  arrived_or t j = go (is_or (times t j w.released) 0) (is_or (times t j w.waiting) 0)
    where
      none : (xs : List Sent) (o : Sent) → times t j xs ≡ 0 → HasNumber t j o → IsAmong o xs → ⊥
      none xs o z n i =
          let k = among_times o xs i in
          let a : times o.emission.thread o.emission.number xs ≡ times t o.emission.number xs =
          ap (λ (u : ℕ). times u o.emission.number xs) n.0 in
          let b : times t o.emission.number xs ≡ times t j xs = ap (λ (u : ℕ). times t u xs) n.1 in
          omega (arith, k, a, b, z)

      go : (times t j w.released ≡ 0) ⊎ (times t j w.released ≢ 0)
          → (times t j w.waiting ≡ 0) ⊎ (times t j w.waiting ≢ 0) → Or (HasArrived w t j)
      go (inr a) b = let r = times_there t j w.released (omega (arith, a)) in inl (r.0, r.1, inl r.2)
      go (inl a) (inr b) = let r = times_there t j w.waiting (omega (arith, b)) in inl (r.0, r.1, inr r.2)
      go (inl a) (inl b) = inr never
        where
          never : HasArrived w t j → ⊥
          never (o, n, inl i) = none w.released o a n i
          never (o, n, inr i) = none w.waiting o b n i

  out_there : (t j : ℕ) → (to : Outcome) × (new : World V) × OnOut w t j to new
  out_there t j = go (output_or t j)
    where
      at : (o : Sent) → IsOutputOf w t j o → Or (HasArrived w t j)
          → ((e : Entry) × IsFirstMissing (log_of w.past) (log_of w.stored) w.held o.emission.thread o.after e)
          ⊎ IsDue (log_of w.past) (log_of w.stored) w.held o.emission.thread o.after
          → (to : Outcome) × (new : World V) × OnOut w t j to new
      at o of (inl k) m = (outcome.Again, w, inr (inl (o, of, k, refl, refl)))
      at o of (inr k) (inr due) =
          (outcome.Released, record w { released = w.released ++ o ∷ [] }, inr (inr (inl (o, of, k, due, refl, refl))))
      at o of (inr k) (inl (e, m)) = (
        outcome.Waits e.thread e.number,
        record w { waiting = w.waiting ++ o ∷ [] },
        inr (inr (inr (o, of, k, e, m, refl, refl))),
      )

      go : ((o : Sent) × IsOutputOf w t j o) ⊎ ((o : Sent) → IsOutputOf w t j o → ⊥)
          → (to : Outcome) × (new : World V) × OnOut w t j to new
      go (inr none) = (outcome.Nothing, w, inl (none, refl, refl))
      go (inl r) = at r.0 r.1 (arrived_or t j) (missing_or w.held w.stored r.0)

  arrives_there : (k : Kind) (t n : ℕ)
      → (to : Outcome) × (freed : List Sent) × (new : World V) × Arrives w k t n to freed new
  arrives_there kind.Log t n = log_there t n
  arrives_there kind.Out t n = let r = out_there t n in (r.0, [], r.1, (r.2, refl))

  sent_or : (epoch : ℕ) (k : Kind) (t n : ℕ) → Or (WasSent w epoch k t n)
  sent_or epoch k t n = go (or_both (or_le 1 epoch) (or_both (or_le (epoch + 1) w.epoch) (or_le 1 n)))
      (slice_get w.ended (w.epoch - epoch - 1)) refl
    where
      or_le : (a b : ℕ) → Or (a ≤ b)
      or_le a b = at (cases_lt b a)
        where
          at : (b < a) ⊎ (a ≤ b) → Or (a ≤ b)
          at (inl k) = inr (λ q. omega (arith, k, q))
          at (inr k) = inl k

      go : Or ((1 ≤ epoch) × ((epoch + 1 ≤ w.epoch) × (1 ≤ n))) → (o : Option EndedEpoch)
          → slice_get w.ended (w.epoch - epoch - 1) ≡ o → Or (WasSent w epoch k t n)
      go (inr a) o at = inr (λ x. a (x.1.0, (omega (arith, x.1.1), x.2)))
      go (inl a) None at = inr (λ x. let q : slice_get w.ended (w.epoch - epoch - 1) ≡ Some x.0 = x.1.2 in cc)
      go (inl a) (Some e) at = counted (or_le n (count_of k e t))
        where
          counted : Or (n ≤ count_of k e t) → Or (WasSent w epoch k t n)
          counted (inl c) = inl (e, (a.0, omega (arith, a.1.0), at), a.1.1, c)
          counted (inr c) = inr (λ x.
              let q : Some x.0 ≡ Some e = sym x.1.2 ∙ at in
              let z : x.0 ≡ e = cc in c (subst (λ (y : EndedEpoch). n ≤ count_of k y t) z x.3))

  late_there : (epoch : ℕ) (k : Kind) (t n : ℕ)
      → (to : Outcome) × (freed : List Sent) × (new : World V) × OnLate w epoch k t n to freed new
  late_there epoch k t n = go (nat_or epoch w.epoch) (sent_or epoch k t n)
    where
      go : Or (epoch ≡ w.epoch) → Or (WasSent w epoch k t n)
          → (to : Outcome) × (freed : List Sent) × (new : World V) × OnLate w epoch k t n to freed new
      go (inl same) b = let r = arrives_there k t n in (r.0, r.1, r.2, inl (same, r.3))
      go (inr other) (inl b) = (outcome.Old, [], w, inr (inl (other, b, refl, refl, refl)))
      go (inr other) (inr b) = (outcome.Nothing, [], w, inr (inr (other, b, refl, refl, refl)))

  component_or : (e : Entry) → IsIn e (log_of w.past) → (u : ℕ) → Or (HasComponent (log_of w.past) e u)
  component_or e here u = let st = stamp_there (log_of w.past) e good here in go st.0 st.1 (st.1.reached u)
    where
      go : (st : ℕ → ℕ) → IsStamp (log_of w.past) e st
          → (st u ≡ 0)
          ⊎ ((f : Entry) × IsIn f (log_of w.past) × (f.thread ≡ u) × (f.number ≡ st u)
          × PrecedesOrIs (log_of w.past) f e) → Or (HasComponent (log_of w.past) e u)
      go st is (inr (f, i, th, n, p)) = inl (f, i, th, p)
      go st is (inl z) = inr (λ x.
          let a = is.above x.0 x.1 x.3 in
          let n = number_within (log_of w.past) x.0 good x.1 in
          let q : st x.0.thread ≡ st u = ap (λ (i : ℕ). st i) x.2 in omega (arith, a, n, q, z))

  output_component_or : (t n u : ℕ) → Or (HasOutputComponent (log_of w.past) t n u)
  output_component_or t n u =
      let p = predecessors (log_of w.past) t n good in
      go p.0 p.1 (find (λ f. f.thread ≡ u) (λ f. nat_or f.thread u) p.0)
    where
      go : (before : List Entry) → ((e : Entry) → IsIn e before ↔ PrecedesOutput (log_of w.past) t n e)
          → ((e : Entry) × IsIn e before × (e.thread ≡ u)) ⊎ ((e : Entry) → IsIn e before → e.thread ≡ u → ⊥)
          → Or (HasOutputComponent (log_of w.past) t n u)
      go before p (inl (e, i, th)) = let q = (p e).0 i in inl (e, output_in (log_of w.past) t n e q, th, q)
      go before p (inr none) = inr (λ x. none x.0 ((p x.0).1 x.3) x.2)

  frame_or : (k : Kind) (t n : ℕ) → ((whole : ℕ) × IsFrameLength s w k t n whole) ⊎ HasNone w k t n
  frame_or kind.Log t n = go (entry_or t n)
    where
      go : ((e : Entry) × IsEntryOf w t n e) ⊎ ((e : Entry) → IsEntryOf w t n e → ⊥)
          → ((whole : ℕ) × IsFrameLength s w kind.Log t n whole) ⊎ HasNone w kind.Log t n
      go (inr none) = inr none
      go (inl r) =
          let c = threads_there (λ u. HasComponent (log_of w.past) r.0 u) (component_or r.0 r.1.0) s.threads in
          inl (39 + 8 * c.0, (r.0, r.1, (c.0, c.1, refl)))
  frame_or kind.Out t n = go (output_or t n)
    where
      go : ((o : Sent) × IsOutputOf w t n o) ⊎ ((o : Sent) → IsOutputOf w t n o → ⊥)
          → ((whole : ℕ) × IsFrameLength s w kind.Out t n whole) ⊎ HasNone w kind.Out t n
      go (inr none) = inr none
      go (inl r) =
          let c = threads_there (λ u. HasOutputComponent (log_of w.past) r.0.emission.thread r.0.after u)
          (output_component_or r.0.emission.thread r.0.after) s.threads in
          inl (47 + 8 * c.0 + length r.0.emission.packet.bytes, (r.0, r.1, (c.0, c.1, refl)))

  cut_there : (k : Kind) (t n len : ℕ)
      → (to : Outcome) × (freed : List Sent) × (new : World V) × OnCut s w k t n len to freed new
  cut_there k t n len = go (frame_or k t n)
    where
      at : (whole : ℕ) → IsFrameLength s w k t n whole → (len < whole) ⊎ (whole ≤ len)
          → (to : Outcome) × (freed : List Sent) × (new : World V) × OnCut s w k t n len to freed new
      at whole is (inl short) = (outcome.Short, [], w, inr (inl (whole, is, short, refl, refl, refl)))
      at whole is (inr long) = let r = arrives_there k t n in (r.0, r.1, r.2, inr (inr (whole, is, long, r.3)))

      go : ((whole : ℕ) × IsFrameLength s w k t n whole) ⊎ HasNone w k t n
          → (to : Outcome) × (freed : List Sent) × (new : World V) × OnCut s w k t n len to freed new
      go (inr none) = (outcome.Nothing, [], w, inl (none, refl, refl, refl))
      go (inl r) = at r.0 r.1 (cases_lt len r.0)

  -- Snapshots, crashes and recoveries

  store_there : (to : Outcome) × (freed : List Sent) × (new : World V) × OnStore w to freed new
  store_there = go w.copy refl
    where
      go : (c : Option (List (Step V))) → w.copy ≡ c
          → (to : Outcome) × (freed : List Sent) × (new : World V) × OnStore w to freed new
      go None is = (outcome.Nothing, [], w, inl (is, refl, refl, refl))
      go (Some copy) is =
          let r = releases_there copy None w.held in
          (outcome.Covers (length (log_of copy)), r.0, r.1, inr (copy, is, refl, r.2))

  snap_there : (to : Outcome) × (new : World V) × OnSnap w to new
  snap_there = go w.up refl
    where
      go : (b : Bool) → w.up ≡ b → (to : Outcome) × (new : World V) × OnSnap w to new
      go false is = (outcome.Down, w, inl (is, refl, refl))
      go true is = (outcome.Copied (length (log_of w.past)), record w { copy = Some w.past }, inr (is, refl, refl))

  crash_there : (to : Outcome) × (new : World V) × OnCrash w to new
  crash_there = go w.up refl
    where
      go : (b : Bool) → w.up ≡ b → (to : Outcome) × (new : World V) × OnCrash w to new
      go false is = (outcome.Down, w, inl (is, refl, refl))
      go true is = (outcome.Crashed, record w { up = false; copy = None }, inr (is, refl, refl))

  -- a recovery has its outcome: how many entries it keeps, and how many it drops
  pub recovery_there : w.up ≡ false → (new : World V) → Recovers w new → (to : Outcome) × OnRecover w to new
  recovery_there down new r =
      (outcome.Recovered new.epoch keeps.0 drops, inr (down, r, keeps.0, drops, refl, keeps.1, lost))
    where
      keeps : (n : ℕ) × IsCount (λ e. IsIn e (log_of w.stored) → ⊥) new.held n
      keeps = count_there (λ e. IsIn e (log_of w.stored) → ⊥) (λ e. or_not (in_or e (log_of w.stored))) new.held

      drops : ℕ
      drops = length w.held - length new.held

      lost : length w.held ≡ length new.held + (length w.held - length new.held)
      lost =
          let k = part_short w.held r.part r.part_of in
          let q : length new.held ≡ length r.part = ap (λ (z : World V). length z.held) r.new_is in omega (arith, k, q)

  recover_there : (to : Outcome) × (new : World V) × OnRecover w to new
  recover_there = go w.up refl (recovers_there s w h.firm)
    where
      go : (b : Bool) → w.up ≡ b → (new : World V) × Recovers w new
          → (to : Outcome) × (new : World V) × OnRecover w to new
      go true is r = (outcome.Up, w, inl (is, refl, refl))
      go false is r = let k = recovery_there is r.0 r.1 in (k.0, r.0, k.1)

  show_there : (v : ℕ) → (to : Outcome) × OnShow s w v to
  show_there v = go (cases_lt v s.meaning.vars) w.up refl
    where
      go : (v < s.meaning.vars) ⊎ (s.meaning.vars ≤ v) → (b : Bool) → w.up ≡ b → (to : Outcome) × OnShow s w v to
      go (inr high) b is = (outcome.Nothing, inl (high, refl))
      go (inl low) false is = (outcome.Down, inr (inl (low, is, refl)))
      go (inl low) true is =
          (outcome.Shown (s.meaning.shown v (value_after s.meaning w.past v)), inr (inr (low, is, refl)))

  -- Each event
  pub on_there : (ev : Event) → begins s w ev ≡ None
      → (to : Outcome) × (freed : List Sent) × (new : World V) × On s w ev to freed new
  on_there (event.Feed n) alone = (outcome.Total (fed_after s w n), [], after_feed s w n, (refl, refl, refl))
  on_there (event.Time n) alone = (outcome.Set, [], record w { clock = n }, (refl, refl, refl))
  on_there (event.Step t given) alone = let r = step_there t given in (r.0, [], r.1, (r.2, refl))
  on_there (event.Log t n) alone = go (cases_lt t s.threads)
    where
      go : (t < s.threads) ⊎ (s.threads ≤ t)
          → (to : Outcome) × (freed : List Sent) × (new : World V) × On s w (event.Log t n) to freed new
      go (inr high) = (outcome.Nothing, [], w, inl (high, refl, refl, refl))
      go (inl low) = let r = log_there t n in (r.0, r.1, r.2, inr (low, r.3))
  on_there (event.Out t j) alone = go (cases_lt t s.threads)
    where
      go : (t < s.threads) ⊎ (s.threads ≤ t)
          → (to : Outcome) × (freed : List Sent) × (new : World V) × On s w (event.Out t j) to freed new
      go (inr high) = (outcome.Nothing, [], w, inl (high, refl, refl, refl))
      go (inl low) = let r = out_there t j in (r.0, [], r.1, inr (low, (r.2, refl)))
  on_there (event.Late epoch k t n) alone = go (cases_lt t s.threads)
    where
      go : (t < s.threads) ⊎ (s.threads ≤ t)
          → (to : Outcome) × (freed : List Sent) × (new : World V) × On s w (event.Late epoch k t n) to freed new
      go (inr high) = (outcome.Nothing, [], w, inl (high, refl, refl, refl))
      go (inl low) = let r = late_there epoch k t n in (r.0, r.1, r.2, inr (low, r.3))
  on_there (event.Cut k t n len) alone = go (cases_lt t s.threads)
    where
      go : (t < s.threads) ⊎ (s.threads ≤ t)
          → (to : Outcome) × (freed : List Sent) × (new : World V) × On s w (event.Cut k t n len) to freed new
      go (inr high) = (outcome.Nothing, [], w, inl (high, refl, refl, refl))
      go (inl low) = let r = cut_there k t n len in (r.0, r.1, r.2, inr (low, r.3))
  on_there event.Snap alone = let r = snap_there in (r.0, [], r.1, (r.2, refl))
  on_there event.Store alone = store_there
  on_there event.Crash alone = let r = crash_there in (r.0, [], r.1, (r.2, refl))
  on_there event.Recover alone = let r = recover_there in (r.0, [], r.1, (r.2, refl))
  on_there (event.Show v) alone = let r = show_there v in (r.0, [], w, (r.1, refl, refl))
  on_there event.Settle alone = absurd (cc)
  on_there (event.Flow n) alone = go w.up refl
    where
      go : (b : Bool) → w.up ≡ b
          → (to : Outcome) × (freed : List Sent) × (new : World V) × On s w (event.Flow n) to freed new
      go false is = (outcome.Down, [], w, (is, refl, refl, refl))
      go true is =
          let q : begins s w (event.Flow n) ≡ Some (Steps (min n (length s.packets - w.fed)) 0 false) = rw is refl in
          absurd (cc)
  on_there (event.Auto seed n) alone = absurd (cc)
