-- What is at home, and what each thread has, at the end of a round.
use Rattle.std.proofs.Common.{◌≡◌, ℕ, zero, suc, ◌+◌, ◌-◌, ◌≤◌, ◌<◌, ◌≢◌, List, [], ◌∷◌, length, refl, sym, ap, ◌∙◌}
use Rattle.std.proofs.Common.{subst, inl, inr, ◌⊎◌, arith, Ok}
use Rattle.std.specs.Prelude.{slice_index, slice_index_or}
use Rattle.std.proofs.lemmas.Bool.{cases_lt}
use Rattle.plain_text.specs.declared.packet.Packet.{Packet}
use Rattle.entry_order.specs.declared.what.What.TheVariants.{Access, Read}
use Rattle.entry_order.specs.Log.{Entry, entries, places, IsLog, IsIn}
use Rattle.entry_order.specs.Stamps.{IsStamp, IsOutputStamp}
use Rattle.entry_order.proofs.Order.{is_or, place_within, number_within, same_place, same_number, entry_there}
use Rattle.entry_order.proofs.Joins.{stamp_there, stamp_unique, output_stamp_is, first_is_zero}
use Rattle.plain_machine.specs.declared.plain_move.PlainMove.{PlainMove}
use Rattle.plain_machine.specs.Program.{Meaning}
use Rattle.plain_machine.specs.Machine.{Thread}
use Rattle.plain_machine.specs.History.{Step, log_of, moves_of, value_after, thread_after, play}
use Rattle.plain_machine.proofs.Histories.{not_eq, is_eq, history_log}
use Rattle.plain_machine.proofs.Seats.{SameSeat}
use Rattle.plain_machine.proofs.PlayedLists.{play_history}
use Rattle.master_core.specs.declared.parts.VarPart.{VarPart}
use Rattle.master_core.specs.declared.parts.ThreadPart.{ThreadPart}
use Rattle.master_core.specs.Mastered.{Mastered}
use Rattle.master_core.specs.MasterStanding.{IsVariable, IsThread, Stands}
use Rattle.round_order.specs.Receipts.{Receipt, Receipts, InRound, Among, own, after, IsLogged, IsTouch, weight}
use Rattle.round_order.specs.Linked.{AreOwnMoves, IsKnown, IsJoinOf, IsLinked}
use Rattle.round_order.specs.Home.{IsHome, IsSeat, count}
use Rattle.round_order.specs.Woven.{IsOrder}
use Rattle.round_order.proofs.OwnReceipts.{seat_own, own_among, among_own}
use Rattle.round_order.proofs.WeightLemmas.{climbs}
use Rattle.round_order.proofs.LoggedMoves.{in_after, stamp_same}
use Rattle.round_order.proofs.OrderFronts.{Goes, IsLatest, touch_left, owned}
use Rattle.round_order.proofs.WovenSteps.{all_go, front_all}

-- how many moves a thread made hangs on its own
moves_own : {V : Type 0} (t : ℕ) (order : List (Receipt V)) (past : List (Step V))
    → moves_of t (after order past) ≡ moves_of t (after (own t order) past)
moves_own t [] past = refl
moves_own {V} t (r ∷ earlier) past = go (is_or r.step.thread t) (moves_own t earlier past)
  where
    go : (r.step.thread ≡ t) ⊎ (r.step.thread ≢ t)
        → moves_of t (after earlier past) ≡ moves_of t (after (own t earlier) past)
        → moves_of t (after (r ∷ earlier) past) ≡ moves_of t (after (own t (r ∷ earlier)) past)
    go (inl same) k = rw (is_eq r.step.thread t same) (rw (is_eq r.step.thread t same) (ap (λ n. n + 1) k))
    go (inr apart) k = rw (not_eq r.step.thread t apart) k

module _ {V : Type 0} (m : Meaning V) (inputs : ℕ → List Packet) (threads : ℕ) (moves : List PlainMove)
    (past : List (Step V)) (rs : Receipts V) (few : threads ≤ 16) (played : play m inputs threads moves ≡ Ok past)
    (linked : IsLinked m inputs threads past rs) (order : List (Receipt V)) (o : IsOrder rs order) where
  g : Goes m inputs threads moves past order
  g = all_go m inputs threads moves past rs few played linked order
      (front_all m inputs threads moves past rs few played linked order o)

  now : List (Step V)
  now = after order past

  good : IsLog (log_of (after order past))
  good = history_log m inputs threads (after order past) g.history

  in_order : (f : Receipt V) → InRound rs f → Among f order
  in_order f here =
      own_among order f.step.thread f (subst (λ (l : List (Receipt V)). Among f l) (sym (o.each f.step.thread)) here)

  in_round : (f : Receipt V) → Among f order → InRound rs f
  in_round f here = subst (λ (l : List (Receipt V)). Among f l) (o.each f.step.thread) (among_own order f here)

  -- what is known is in the log, with its stamp
  known_in : (d : Entry) (st : ℕ → ℕ) → IsKnown past rs d st
      → IsIn d (log_of (after order past)) × IsStamp (log_of (after order past)) d st
  known_in d st (inl (f, here, l, same)) =
      let k = g.stamps f d (in_order f here) l in
      (k.0, stamp_same (log_of (after order past)) d (λ u. slice_index f.stamp u) st same k.1)
  known_in d st (inr (old, is)) = g.opening d st old is

  in_known : (d : Entry) → IsIn d (log_of (after order past)) → (st : ℕ → ℕ) × IsKnown past rs d st
  in_known d here = go (in_after order past d here)
    where
      go : IsIn d (log_of past) ⊎ ((x : Receipt V) × Among x order × IsLogged x d) → (st : ℕ → ℕ) × IsKnown past rs d st
      go (inl old) =
          let k = stamp_there (log_of past) d
          (history_log m inputs threads past (play_history m inputs threads moves past played).0) old in
          (k.0, inr (old, k.1))
      go (inr (x, a, l)) = ((λ u. slice_index x.stamp u), inl (x, in_round x a, l, λ u. refl))

  -- the join of the stamps of one entry is its stamp
  one_join : (These : Entry → Type 0) (join : ℕ → ℕ) (e : Entry) → IsIn e (log_of (after order past)) → These e
      → ((d : Entry) → These d → IsIn d (log_of (after order past)) → d ≡ e) → IsJoinOf past rs These join
      → IsStamp (log_of (after order past)) e join
  one_join These join e here this single j =
      let k = in_known e here in
      let s = known_in e k.0 k.1 in
      stamp_same (log_of (after order past)) e k.0 join (λ u. same k.0 k.1 s.1 u (j.reached u)) s.1
    where
      same : (st : ℕ → ℕ) → IsKnown past rs e st → IsStamp (log_of (after order past)) e st → (u : ℕ)
          → (join u ≡ 0) ⊎ ((d : Entry) × (sd : ℕ → ℕ) × These d × IsKnown past rs d sd × (sd u ≡ join u))
          → st u ≡ join u
      same st known is u (inl z) = let low : st u ≤ join u = j.above e st this known u in omega arith
      same st known is u (inr (d, sd, these, kd, eq)) =
          let low : st u ≤ join u = j.above e st this known u in
          let k = known_in d sd kd in
          let one : d ≡ e = single d these k.0 in
          let two : sd u ≡ st u = stamp_unique (log_of (after order past)) e sd st
          (subst (λ (z : Entry). IsStamp (log_of (after order past)) z sd) one k.1) is u in
          omega arith

  -- a variable
  var_is : (v : ℕ) (x : VarPart V) → IsHome m past rs v x → IsVariable m (after order past) v x
  var_is v x home = let k = latest home.value (g.latest v) in record {
    value = k.1;
    places = k.0;
    touched = record {
      last = λ e here w. one_join (λ d. d.what ≡ Access v x.places) (λ u. slice_index x.stamp u) e here
          (w ∙ ap (λ n. Access v n) (sym k.0))
          (λ d these there. same_place (log_of (after order past)) d e v x.places good there here these
          (w ∙ ap (λ n. Access v n) (sym k.0))) home.stamp;
      none = λ z u. none (k.0 ∙ z) u (home.stamp.reached u);
    };
    looked = record {
      above = λ e st here w is u. above e st here (w ∙ ap (λ n. Read v n) (sym k.0)) is u;
      reached = λ u. reached u k.0 (home.readers.reached u);
    };
  }
    where
      latest : ((x.places ≡ places v (log_of past)) × (x.value ≡ value_after m past v))
          ⊎ ((f : Receipt V) × InRound rs f × IsTouch f v x.value × (f.place + 1 ≡ x.places)) → IsLatest m past order v
          → (x.places ≡ places v (log_of (after order past))) × (x.value ≡ value_after m (after order past) v)
      latest (inl (at, value)) (inl (never, same, is)) = (at ∙ sym same, value ∙ sym is)
      latest (inr (f, fi, ft, at)) (inl (never, same, is)) = absurd (never f x.value (in_order f fi) ft)
      latest (inl (at, value)) (inr (h, ha, ht, same, newest)) =
          let a : h.place < x.places = home.touches h _ (in_round h ha) ht in
          let b : places v (log_of past) ≤ h.place = (linked.touched h v _ (in_round h ha) ht).0 in absurd (omega arith)
      latest (inr (f, fi, ft, at)) (inr (h, ha, ht, same, newest)) = go (cases_lt h.place f.place)
        where
          go : (h.place < f.place) ⊎ (f.place ≤ h.place)
              → (x.places ≡ places v (log_of (after order past))) × (x.value ≡ value_after m (after order past) v)
          go (inl low) =
              let k : weight h < weight f =
              climbs m inputs threads past rs few linked (owned m inputs threads moves past rs few played linked)
              (f.place - (h.place + 1)) h f v _ x.value (in_round h ha) fi ht ft (omega arith) in
              let n : weight f ≤ weight h = newest f x.value (in_order f fi) ft in absurd (omega arith)
          go (inr high) =
              let a : h.place < x.places = home.touches h _ (in_round h ha) ht in
              let e : f.place ≡ h.place = omega (arith, at) in
              let one : f ≡ h = linked.once f h v x.value _ fi (in_round h ha) ft ht e in (
                omega (arith, same, at),
                touch_left h v x.value _ (subst (λ (z : Receipt V). IsTouch z v x.value) one ft) ht,
              )

      none : x.places ≡ 0 → (u : ℕ)
          → (slice_index x.stamp u ≡ 0)
          ⊎ ((d : Entry) × (st : ℕ → ℕ) × (d.what ≡ Access v x.places) × IsKnown past rs d st
          × (st u ≡ slice_index x.stamp u)) → slice_index x.stamp u ≡ 0
      none z u (inl h) = h
      none z u (inr (d, st, w, known, is)) =
          let k : (1 ≤ x.places) × (x.places ≤ places v (log_of (after order past))) =
          place_within (log_of (after order past)) d v x.places good (known_in d st known).0 w in
          absurd (omega arith)

      above : (e : Entry) (st : ℕ → ℕ) → IsIn e (log_of (after order past)) → e.what ≡ Read v x.places
          → IsStamp (log_of (after order past)) e st → (u : ℕ) → st u ≤ slice_index x.readers u
      above e st here w is u =
          let k = in_known e here in
          let low : k.0 u ≤ slice_index x.readers u = home.readers.above e k.0 w k.1 u in
          let same : st u ≡ k.0 u = stamp_unique (log_of (after order past)) e st k.0 is (known_in e k.0 k.1).1 u in
          omega arith

      reached : (u : ℕ) → x.places ≡ places v (log_of (after order past))
          → (slice_index x.readers u ≡ 0)
          ⊎ ((d : Entry) × (st : ℕ → ℕ) × (d.what ≡ Read v x.places) × IsKnown past rs d st
          × (st u ≡ slice_index x.readers u))
          → (slice_index x.readers u ≡ 0)
          ⊎ ((e : Entry) × (st : ℕ → ℕ) × IsIn e (log_of (after order past))
          × (e.what ≡ Read v (places v (log_of (after order past)))) × IsStamp (log_of (after order past)) e st
          × (st u ≡ slice_index x.readers u))
      reached u at (inl z) = inl z
      reached u at (inr (d, st, w, known, is)) =
          let k = known_in d st known in inr (d, st, k.0, w ∙ ap (λ n. Read v n) at, k.1, is)

  -- a thread
  thread_is : (t : ℕ) (part : ThreadPart) → IsSeat past rs t part → IsThread (after order past) t part
  thread_is t part seat = record {
    taken =
        seat.taken
        ∙ ap (λ (th : Thread). th.taken)
        (sym (same.thread ∙ ap (λ (l : List (Receipt V)). thread_after (after l past) t) (o.each t)));
    logged = seat.logged ∙ sym counted;
    outputs =
        seat.outputs
        ∙ sym (same.outputs
        ∙ ap (λ (l : List (Receipt V)).
        Rattle.plain_machine.specs.History.outputs t (Rattle.plain_machine.specs.History.sent_of (after l past)))
        (o.each t));
    hand =
        seat.hand
        ∙ ap (λ (th : Thread). Rattle.box_program.specs.Hands.local_in th.hand)
        (sym (same.thread ∙ ap (λ (l : List (Receipt V)). thread_after (after l past) t) (o.each t)));
    made =
        seat.made ∙ sym (moves_own t order past ∙ ap (λ (l : List (Receipt V)). moves_of t (after l past)) (o.each t));
    stamp = subst (λ (n : ℕ). IsOutputStamp (log_of (after order past)) t n (λ u. slice_index part.stamp u))
        (sym counted) (last (entries t (log_of (after (rs t) past))) (sym counted) seat.stamp);
  }
    where
      same : SameSeat t (after order past) (after (own t order) past)
      same = seat_own m inputs past t order
          (λ u. subst (λ (l : List (Receipt V)). AreOwnMoves m inputs past u l) (sym (o.each u)) (linked.alone u))

      counted : entries t (log_of (after order past)) ≡ entries t (log_of (after (rs t) past))
      counted = same.entries ∙ ap (λ (l : List (Receipt V)). entries t (log_of (after l past))) (o.each t)

      last : (n : ℕ) → n ≡ entries t (log_of (after order past))
          → IsJoinOf past rs (λ d. (d.thread ≡ t) × (d.number ≡ n)) (λ u. slice_index part.stamp u)
          → IsOutputStamp (log_of (after order past)) t n (λ u. slice_index part.stamp u)
      last zero at j =
          first_is_zero (log_of (after order past)) t (λ u. slice_index part.stamp u) good (λ u. none u (j.reached u))
        where
          none : (u : ℕ)
              → (slice_index part.stamp u ≡ 0)
              ⊎ ((d : Entry) × (st : ℕ → ℕ) × ((d.thread ≡ t) × (d.number ≡ 0)) × IsKnown past rs d st
              × (st u ≡ slice_index part.stamp u)) → slice_index part.stamp u ≡ 0
          none u (inl z) = z
          none u (inr (d, st, w, known, is)) =
              let k : (1 ≤ d.number) × (d.number ≤ entries d.thread (log_of (after order past))) =
              number_within (log_of (after order past)) d good (known_in d st known).0 in
              absurd (omega (arith, w.1))
      last (suc n) at j =
          let e = entry_there (log_of (after order past)) t (suc n) good (omega arith) (omega (arith, at)) in
          output_stamp_is (log_of (after order past)) t (suc n) e.0 (λ u. slice_index part.stamp u) good e.1 e.2 e.3
          (one_join (λ d. (d.thread ≡ t) × (d.number ≡ suc n)) (λ u. slice_index part.stamp u) e.0 e.1 (e.2, e.3)
          (λ d w there. same_number (log_of (after order past)) d e.0 good there e.1 (w.0 ∙ sym e.2) (w.1 ∙ sym e.3)) j)

  pub closes : (q : Mastered V) → length q.threads ≡ threads
      → ((v : ℕ) (d : VarPart V) → v < m.vars → IsHome m past rs v (slice_index_or q.vars v d))
      → ((t : ℕ) (d : ThreadPart) → t < threads → IsSeat past rs t (slice_index_or q.threads t d))
      → Stands m threads (after order past) q
  closes q count homes seats = record {
    log = good;
    var = λ v d low. var_is v (slice_index_or q.vars v d) (homes v d low);
    threads_are = count;
    thread = λ t d low. thread_is t (slice_index_or q.threads t d) (seats t d low);
  }
