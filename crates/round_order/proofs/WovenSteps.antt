-- Linked receipts, in an order in which the logged ones rise in weight, go on from the past as a legal list.
use Rattle.std.proofs.Common.{◌≡◌, ℕ, ◌+◌, ◌≤◌, ◌≢◌, List, [], ◌∷◌, ◌++◌, append_assoc, append-nil, refl, sym, ap, ◌∙◌}
use Rattle.std.proofs.Common.{subst, inl, inr, ◌⊎◌, arith, Some, None, Ok}
use Rattle.std.specs.Prelude.{slice_index}
use Rattle.plain_text.specs.declared.packet.Packet.{Packet}
use Rattle.entry_order.specs.declared.what.What.TheVariants.{Access, Read, Clock, Draw}
use Rattle.entry_order.specs.Log.{Entry, entries, places, IsLog, IsIn, IsNext}
use Rattle.entry_order.specs.Stamps.{IsStamp, IsJoinBefore, bumped}
use Rattle.entry_order.proofs.Order.{is_or, number_within}
use Rattle.entry_order.proofs.Joins.{stamp_there, stamp_unique, join_is_stamp}
use Rattle.plain_machine.specs.declared.plain_move.PlainMove.{PlainMove}
use Rattle.plain_machine.specs.Program.{Meaning}
use Rattle.plain_machine.specs.Machine.{Thread, Effect, Takes, Touches, Looks, HearsClock, HearsDraw, Sends, Ends}
use Rattle.plain_machine.specs.Machine.{Moves, thread_move}
use Rattle.plain_machine.specs.History.{Act, Took, Did, Ended, Step, log_more, log_of, entry_of, act_of, thread_after}
use Rattle.plain_machine.specs.History.{value_after, and_move, play, IsStep, IsHistory}
use Rattle.plain_machine.proofs.Histories.{not_eq, is_eq, history_log}
use Rattle.plain_machine.proofs.MoveLemmas.{IsOn, held_again}
use Rattle.plain_machine.proofs.Seats.{SameSeat}
use Rattle.plain_machine.proofs.PlayedLists.{play_append, play_history, step_is_move}
use Rattle.round_order.specs.Receipts.{Receipt, Receipts, InRound, moved, moves_in, Among, own, after, IsLogged}
use Rattle.round_order.specs.Receipts.{IsTouch, IsRead, act_at, weight}
use Rattle.round_order.specs.Linked.{IsOwnMove, AreOwnMoves, IsKnown, HasJoin, IsLinked}
use Rattle.round_order.specs.Woven.{IsOrder, GoesOn}
use Rattle.round_order.proofs.OwnReceipts.{among_own, own_among, own_first, seat_own, act_here}
use Rattle.round_order.proofs.WeightLemmas.{lighter, found_touch, found_read}
use Rattle.round_order.proofs.LoggedMoves.{touch_logged, read_logged, at_entry, on_touch, on_read, after_entries}
use Rattle.round_order.proofs.LoggedMoves.{in_after, step_stays, stamp_same}
use Rattle.round_order.proofs.OrderFronts.{IsFront, front_rest, IsLatest, Goes, owned, came, touch_beyond, read_beyond}
use Rattle.round_order.proofs.OrderFronts.{fits}

module _ {V : Type 0} (m : Meaning V) (inputs : ℕ → List Packet) (threads : ℕ) (moves : List PlainMove)
    (past : List (Step V)) (rs : Receipts V) (few : threads ≤ 16) (played : play m inputs threads moves ≡ Ok past)
    (linked : IsLinked m inputs threads past rs) where
  module _ (r : Receipt V) (earlier : List (Receipt V)) (s : IsFront m inputs past rs (r ∷ earlier))
      (g : Goes m inputs threads moves past earlier) where
    t : ℕ
    t = r.step.thread

    now : List (Step V)
    now = after earlier past

    mine : List (Step V)
    mine = after (own r.step.thread earlier) past

    inside : InRound rs r
    inside = s.within r (inl refl)

    good : IsLog (log_of (after earlier past))
    good = history_log m inputs threads (after earlier past) g.history

    seat : SameSeat r.step.thread (after earlier past) (after (own r.step.thread earlier) past)
    seat = seat_own m inputs past r.step.thread earlier (front_rest m inputs past rs r earlier s).alone

    alone : IsOwnMove m inputs (after (own r.step.thread earlier) past) r
    alone = own_first m inputs past r earlier (s.alone r.step.thread)

    new_entry : (e : Entry) → IsLogged r e → Among r earlier → ⊥
    new_entry e (left, is) among =
        let k : (e.thread ≡ r.step.thread)
        × (e.number ≡ entries r.step.thread (log_of (after (own r.step.thread earlier) past)) + 1) =
        at_entry r.step.thread r.step.after.taken r.place (after (own r.step.thread earlier) past) alone.0 e left
        (sym alone.2 ∙ is) in
        let n : (1 ≤ e.number) × (e.number ≤ entries e.thread (log_of (after earlier past))) =
        number_within (log_of (after earlier past)) e good (g.stamps r e among (left, is)).0 in
        let same : entries e.thread (log_of (after earlier past))
        ≡ entries r.step.thread (log_of (after earlier past)) =
        ap (λ (w : ℕ). entries w (log_of (after earlier past))) k.0 in
        omega (arith, seat.entries)

    touch_fits : (v : ℕ) (left : V) → IsTouch r v left
        → (places v (log_of (after earlier past)) ≡ r.place) × (value_after m (after earlier past) v ≡ r.found)
    touch_fits v left a =
        let l : IsLogged r a.0 = touch_logged r v left a in
        let h = linked.touched r v left inside a in
        fits m inputs threads moves past rs few played linked r earlier s (new_entry a.0 l) v a.0 l
        (λ y f among b far. touch_beyond m inputs threads moves past rs few played linked r earlier s (new_entry a.0 l)
        v left y f a among b far)
        (λ f fi ft at. found_touch m inputs threads past rs few linked
        (owned m inputs threads moves past rs few played linked) r f v left r.found inside a fi ft at) h.0 h.1
        (g.latest v)

    read_fits : (v : ℕ) → IsRead r v
        → (places v (log_of (after earlier past)) ≡ r.place) × (value_after m (after earlier past) v ≡ r.found)
    read_fits v a =
        let l : IsLogged r a.0 = read_logged r v a in
        let h = linked.looked r v inside a in
        fits m inputs threads moves past rs few played linked r earlier s (new_entry a.0 l) v a.0 l
        (λ y f among b far.
        read_beyond m inputs threads moves past rs few played linked r earlier s (new_entry a.0 l) v y f a among b far)
        (λ f fi ft at. found_read m inputs threads past rs few linked
        (owned m inputs threads moves past rs few played linked) r f v r.found inside a fi ft at) h.0 h.1 (g.latest v)

    -- the variable is as the move found it
    variable : (d : Effect V)
        → r.step.act ≡ act_at r.step.thread (after (own r.step.thread earlier) past) r.step.after.taken r.place d
        → (v : ℕ) → IsOn v d
        → (places v (log_of (after earlier past)) ≡ r.place) × (value_after m (after earlier past) v ≡ r.found)
    variable Takes is v on = absurd on
    variable (Touches u left) is v on = subst (λ (w : ℕ).
        (places w (log_of (after earlier past)) ≡ r.place) × (value_after m (after earlier past) w ≡ r.found)) on
        (touch_fits u left
        (on_touch r r.step.thread r.step.after.taken u (after (own r.step.thread earlier) past) left is))
    variable (Looks u) is v on = subst (λ (w : ℕ).
        (places w (log_of (after earlier past)) ≡ r.place) × (value_after m (after earlier past) w ≡ r.found)) on
        (read_fits u (on_read r r.step.thread r.step.after.taken u (after (own r.step.thread earlier) past) is))
    variable (HearsClock a) is v on = absurd on
    variable (HearsDraw a) is v on = absurd on
    variable (Sends p) is v on = absurd on
    variable Ends is v on = absurd on

    -- so it is a legal step
    legal_step : IsStep m inputs threads (after earlier past) r.step
    legal_step = (
      linked.below r inside,
      r.answer,
      alone.0,
      held_again m (inputs r.step.thread) (λ v. r.found) (value_after m (after earlier past))
          (thread_after (after earlier past) r.step.thread).taken r.answer
          (thread_after (after earlier past) r.step.thread).hand r.step.after alone.0
          (subst (λ (th : Thread).
          thread_move m (inputs r.step.thread) (λ v. r.found) th r.answer ≡ Moves r.step.after alone.0)
          (sym seat.thread) alone.1) (λ v on. sym (variable alone.0 alone.2 v on).1),
      alone.2
          ∙ act_here r.step.thread r.step.after.taken r.place (after (own r.step.thread earlier) past)
          (after earlier past) alone.0 seat (λ v on. (variable alone.0 alone.2 v on).0),
    )

    more : IsHistory m inputs threads (r.step ∷ after earlier past)
    more = (legal_step, g.history)

    good_more : IsLog (log_of (r.step ∷ after earlier past))
    good_more = history_log m inputs threads (r.step ∷ after earlier past) more

    -- the stamp of its entry is the noted one
    joins : (e : Entry) → (l : IsLogged r e) → (j : HasJoin past rs r e)
        → IsJoinBefore (log_of (after earlier past)) e j.join
    joins e l j = record {
      above = λ f st here next is u. above f st here next is u (in_after earlier past f here);
      reached = λ u. reached u (j.joins.reached u);
    }
      where
        above : (f : Entry) (st : ℕ → ℕ) → IsIn f (log_of (after earlier past)) → IsNext f e
            → IsStamp (log_of (after earlier past)) f st → (u : ℕ)
            → IsIn f (log_of past) ⊎ ((x : Receipt V) × Among x earlier × IsLogged x f) → st u ≤ j.join u
        above f st here next is u (inl old) =
            let k = stamp_there (log_of past) f
            (history_log m inputs threads past (play_history m inputs threads moves past played).0) old in
            let same : st u ≡ k.0 u =
            stamp_unique (log_of (after earlier past)) f st k.0 is (g.opening f k.0 old k.1).1 u in
            let low : k.0 u ≤ j.join u = j.joins.above f k.0 next (inr (old, k.1)) u in omega arith
        above f st here next is u (inr (x, among, xl)) =
            let same : st u ≡ slice_index x.stamp u = stamp_unique (log_of (after earlier past)) f st
            (λ w. slice_index x.stamp w) is (g.stamps x f among xl).1 u in
            let low : slice_index x.stamp u ≤ j.join u =
            j.joins.above f (λ w. slice_index x.stamp w) next (inl (x, s.within x (inr among), xl, λ w. refl)) u in
            omega arith

        reached : (u : ℕ)
            → (j.join u ≡ 0) ⊎ ((d : Entry) × (st : ℕ → ℕ) × IsNext d e × IsKnown past rs d st × (st u ≡ j.join u))
            → (j.join u ≡ 0)
            ⊎ ((f : Entry) × (st : ℕ → ℕ) × IsIn f (log_of (after earlier past)) × IsNext f e
            × IsStamp (log_of (after earlier past)) f st × (st u ≡ j.join u))
        reached u (inl z) = inl z
        reached u (inr (d, st, next, inl (f, fi, fd, same), is)) =
            let a : Among f earlier =
            came m inputs threads moves past rs few played linked r earlier e s l f d fi fd (lighter m inputs threads
            past rs few linked (owned m inputs threads moves past rs few played linked) f r d e fi inside fd l next) in
            let k = g.stamps f d a fd in
            inr (d, (λ w. slice_index f.stamp w), k.0, next, k.1, same u ∙ is)
        reached u (inr (d, st, next, inr (old, stamp), is)) =
            let k = g.opening d st old stamp in inr (d, st, k.0, next, k.1, is)

    new_stamp : (e : Entry) → IsLogged r e
        → IsIn e (log_of (r.step ∷ after earlier past))
        × IsStamp (log_of (r.step ∷ after earlier past)) e (λ u. slice_index r.stamp u)
    new_stamp e (left, is) =
        let j : HasJoin past rs r e = linked.joined r e inside (left, is) in
        let good_e : IsLog (e ∷ log_of (after earlier past)) =
        subst (λ (a : Act V). IsLog (log_more a (log_of (after earlier past)))) is good_more in
        subst (λ (a : Act V).
        IsIn e (log_more a (log_of (after earlier past)))
        × IsStamp (log_more a (log_of (after earlier past))) e (λ u. slice_index r.stamp u)) (sym is) (
          inl refl,
          stamp_same (e ∷ log_of (after earlier past)) e (bumped e j.join) (λ u. slice_index r.stamp u)
              (λ u. sym (j.stamp u))
              (join_is_stamp e (log_of (after earlier past)) j.join good_e (joins e (left, is) j)),
        )

    -- the newest touch after it

    keep : (v : ℕ) → ((x : V) → IsTouch r v x → ⊥)
        → places v (log_of (r.step ∷ after earlier past)) ≡ places v (log_of (after earlier past))
        → value_after m (r.step ∷ after earlier past) v ≡ value_after m (after earlier past) v
        → IsLatest m past earlier v → IsLatest m past (r ∷ earlier) v
    keep v not count value (inl (none, same, is)) = inl (each, count ∙ same, value ∙ is)
      where
        each : (f : Receipt V) (x : V) → Among f (r ∷ earlier) → IsTouch f v x → ⊥
        each f x (inl q) a = not x (subst (λ (z : Receipt V). IsTouch z v x) (sym q) a)
        each f x (inr q) a = none f x q a
    keep v not count value (inr (f, fa, ft, same, newest)) =
        inr (f, inr fa, subst (λ (x : V). IsTouch f v x) (sym value) ft, count ∙ same, each)
      where
        each : (h : Receipt V) (x : V) → Among h (r ∷ earlier) → IsTouch h v x → weight h ≤ weight f
        each h x (inl q) a = absurd (not x (subst (λ (z : Receipt V). IsTouch z v x) (sym q) a))
        each h x (inr q) a = newest h x q a

    take_new : (v : ℕ) (left : V) → IsTouch r v left
        → places v (log_of (r.step ∷ after earlier past)) ≡ places v (log_of (after earlier past)) + 1
        → value_after m (r.step ∷ after earlier past) v ≡ left → IsLatest m past (r ∷ earlier) v
    take_new v left a count value = inr (
      r,
      inl refl,
      subst (λ (x : V). IsTouch r v x) (sym value) a,
      (let k : places v (log_of (after earlier past)) ≡ r.place = (touch_fits v left a).0 in omega (arith, count)),
      each,
    )
      where
        each : (h : Receipt V) (x : V) → Among h (r ∷ earlier) → IsTouch h v x → weight h ≤ weight r
        each h x (inl q) b = let k : weight r ≡ weight h = ap (λ (z : Receipt V). weight z) q in omega arith
        each h x (inr q) b = s.sorted.0 a.0 b.0 h (touch_logged r v left a) q (touch_logged h v x b)

    latest_by : (d : Effect V)
        → r.step.act ≡ act_at r.step.thread (after (own r.step.thread earlier) past) r.step.after.taken r.place d
        → r.step.act ≡ act_of r.step.thread (after earlier past) r.step.after.taken d → (v : ℕ)
        → IsLatest m past (r ∷ earlier) v
    latest_by Takes at is v = keep v (λ x a. let k : Took r.step.after.taken ≡ Did a.0 (Some x) = sym is ∙ a.1 in cc)
        (rw is refl) (rw is refl) (g.latest v)
    latest_by (HearsClock c) at is v = keep v
        (λ x a.
        let k : Did (entry_of r.step.thread (log_of (after earlier past)) (Clock c)) None ≡ Did a.0 (Some x) =
        sym is ∙ a.1 in
        cc) (rw is refl) (rw is refl) (g.latest v)
    latest_by (HearsDraw c) at is v = keep v
        (λ x a.
        let k : Did (entry_of r.step.thread (log_of (after earlier past)) (Draw c)) None ≡ Did a.0 (Some x) =
        sym is ∙ a.1 in
        cc) (rw is refl) (rw is refl) (g.latest v)
    latest_by (Looks u) at is v = keep v
        (λ x a.
        let k : Did
        (entry_of r.step.thread (log_of (after earlier past)) (Read u (places u (log_of (after earlier past))))) None
        ≡ Did a.0 (Some x) =
        sym is ∙ a.1 in
        cc) (rw is refl) (rw is refl) (g.latest v)
    latest_by (Sends p) at is v = keep v
        (λ x a.
        let k : act_of r.step.thread (after earlier past) r.step.after.taken (Sends p) ≡ Did a.0 (Some x) =
        sym is ∙ a.1 in
        cc) (rw is refl) (rw is refl) (g.latest v)
    latest_by Ends at is v = keep v (λ x a. let k : Ended r.step.after.taken ≡ Did a.0 (Some x) = sym is ∙ a.1 in cc)
        (rw is refl) (rw is refl) (g.latest v)
    latest_by (Touches u left) at is v = go (is_or u v)
      where
        go : (u ≡ v) ⊎ (u ≢ v) → IsLatest m past (r ∷ earlier) v
        go (inl same) = take_new v left
            (subst (λ (w : ℕ). IsTouch r w left) same
            (on_touch r r.step.thread r.step.after.taken u (after (own r.step.thread earlier) past) left at))
            (rw is (rw (is_eq u v same) refl)) (rw is (rw (is_eq u v same) refl))
        go (inr apart) = keep v
            (λ x a.
            let k : Did (entry_of r.step.thread (log_of (after earlier past))
            (Access u (places u (log_of (after earlier past)) + 1))) (Some left)
            ≡ Did a.0 (Some x) =
            sym is ∙ a.1 in
            let e : entry_of r.step.thread (log_of (after earlier past))
            (Access u (places u (log_of (after earlier past)) + 1))
            ≡ a.0 = cc in
            let w : Access u (places u (log_of (after earlier past)) + 1) ≡ Access v (r.place + 1) =
            ap (λ (f : Entry). f.what) e ∙ a.2 in
            apart (cc)) (rw is (rw (not_eq u v apart) refl)) (rw is (rw (not_eq u v apart) refl)) (g.latest v)

    step_goes : Goes m inputs threads moves past (r ∷ earlier)
    unfolding legal_step
    step_goes = record {
      legal =
          ap (λ (l : List PlainMove). play m inputs threads l)
          (sym (append_assoc moves (moves_in earlier) (moved r ∷ [])))
          ∙ (play_append m inputs threads (Ok []) (moves ++ moves_in earlier) (moved r ∷ [])
          ∙ (ap (λ q. and_move m inputs threads q (moved r)) g.legal
          ∙ rw (step_is_move m inputs threads (after earlier past) r.step legal_step) refl));
      history = more;
      latest = latest_by alone.0 alone.2 legal_step.4;
      stamps = each;
      opening = λ e st here is.
          let k = g.opening e st here is in step_stays r.step (after earlier past) e st good_more k.0 k.1;
    }
      where
        each : (x : Receipt V) (e : Entry) → Among x (r ∷ earlier) → IsLogged x e
            → IsIn e (log_of (r.step ∷ after earlier past))
            × IsStamp (log_of (r.step ∷ after earlier past)) e (λ u. slice_index x.stamp u)
        each x e (inl q) l = subst (λ (z : Receipt V).
            IsIn e (log_of (r.step ∷ after earlier past))
            × IsStamp (log_of (r.step ∷ after earlier past)) e (λ u. slice_index z.stamp u)) q
            (new_stamp e (subst (λ (z : Receipt V). IsLogged z e) (sym q) l))
        each x e (inr q) l =
            let k = g.stamps x e q l in
            step_stays r.step (after earlier past) e (λ u. slice_index x.stamp u) good_more k.0 k.1

  pub all_go : (tail : List (Receipt V)) → IsFront m inputs past rs tail → Goes m inputs threads moves past tail
  all_go [] s = record {
    legal = ap (λ (l : List PlainMove). play m inputs threads l) (append-nil moves) ∙ played;
    history = (play_history m inputs threads moves past played).0;
    latest = λ v. inl ((λ g x a. absurd a), refl, refl);
    stamps = λ r e a. absurd a;
    opening = λ e st here is. (here, is);
  }
  all_go (r ∷ earlier) s = step_goes r earlier s (all_go earlier (front_rest m inputs past rs r earlier s))

  pub front_all : (order : List (Receipt V)) → IsOrder rs order → IsFront m inputs past rs order
  front_all order o = record {
    alone = λ u. subst (λ (l : List (Receipt V)). AreOwnMoves m inputs past u l) (sym (o.each u)) (linked.alone u);
    sorted = o.rising;
    within = λ x a. subst (λ (l : List (Receipt V)). Among x l) (o.each x.step.thread) (among_own order x a);
    complete = λ f d i l. inl (own_among order f.step.thread f
        (subst (λ (l : List (Receipt V)). Among f l) (sym (o.each f.step.thread)) i));
  }

  -- Linked receipts weave.
  pub weaves : (order : List (Receipt V)) → IsOrder rs order → GoesOn m inputs threads moves past order
  weaves order o =
      let g = all_go order (front_all order o) in
      record { legal = g.legal; entries_are = after_entries order past; stamps = g.stamps }
