-- What holds between any two moves of a round is kept by each kind of move.
use Rattle.std.proofs.Common.{◌≡◌, ℕ, ◌+◌, ◌≤◌, ◌≢◌, List, sym, ap, ◌∙◌, subst, inl, inr, arith, Some, None}
use Rattle.std.specs.Prelude.{slice_index}
use Rattle.plain_text.specs.declared.packet.Packet.{Packet}
use Rattle.entry_order.specs.declared.what.What.TheVariants.{Access, Read}
use Rattle.entry_order.specs.Log.{Entry, entries, IsNext}
use Rattle.plain_machine.specs.Program.{Meaning}
use Rattle.plain_machine.specs.History.{Did, Step, log_of}
use Rattle.master_core.specs.declared.parts.VarPart.{VarPart}
use Rattle.master_core.specs.declared.parts.ThreadPart.{ThreadPart}
use Rattle.round_order.specs.Receipts.{Receipt, Receipts, InRound, after, IsLogged, IsTouch, IsRead}
use Rattle.round_order.specs.Linked.{HasJoin}
use Rattle.round_order.specs.Home.{IsHome, count}
use Rattle.round_order.specs.Growth.{with_one, IsRound, IsNextOf, IsPrivate, Touches, Reads, IsKept}
use Rattle.round_order.proofs.LoggedMoves.{at_entry, touch_logged, read_logged, logged_once}
use Rattle.round_order.proofs.MoreReceipts.{touch_of, read_of, linked_more}
use Rattle.round_order.proofs.RoundCounts.{own_number, legal_at}
use Rattle.round_order.proofs.LastEntries.{own_top}
use Rattle.round_order.proofs.StampJoins.{hear_join, read_join, touch_join, within_more}
use Rattle.round_order.proofs.SeatLemmas.{number, one_or_none, seat_stays, seat_grows, held_grows}
use Rattle.round_order.proofs.TouchLemmas.{done_linked, home_done, home_other}
use Rattle.round_order.proofs.ReadLemmas.{read_linked, home_read}

module _ {V : Type 0} (m : Meaning V) (inputs : ℕ → List Packet) (threads : ℕ) (past : List (Step V)) (rs : Receipts V)
    (part : ThreadPart) (r : Receipt V) (round : IsRound m inputs threads past rs)
    (next : IsNextOf m inputs threads past rs part r) where
  top : slice_index part.stamp r.step.thread ≡ count past rs r.step.thread
  top = own_top m inputs threads past round.opening rs round.linked round.within r.step.thread
      (λ u. slice_index part.stamp u) next.seat.stamp

  -- no entry of the round comes after it in its thread
  last_of_thread : (q : Receipt V) (d e : Entry) → IsLogged r d → InRound rs q → IsLogged q e → d.thread ≡ e.thread
      → e.number ≡ d.number + 1 → ⊥
  last_of_thread q d e ld here le same more =
      let k = number m inputs threads past rs part r next d ld in
      let at = legal_at m inputs threads past round.opening rs round.linked q here in
      let a : e.thread ≡ q.step.thread =
      (at_entry q.step.thread q.step.after.taken q.place at.0 at.1.0 e le.0 (sym at.1.2 ∙ le.1)).0 in
      let of_t : q.step.thread ≡ r.step.thread = sym a ∙ (sym same ∙ k.0) in
      let n : e.number ≤ entries q.step.thread (log_of (after (rs q.step.thread) past)) =
      own_number m inputs past q.step.thread (rs q.step.thread) q e (round.linked.alone q.step.thread) here le in
      let c : entries q.step.thread (log_of (after (rs q.step.thread) past)) ≡ count past rs r.step.thread =
      ap (λ (u : ℕ). count past rs u) of_t in
      omega (arith, k.1, more)

  -- A move on no variable
  module _ (one : IsPrivate part r) where
    no_access : (e : Entry) (v s : ℕ) → IsLogged r e → e.what ≢ Access v s
    no_access e v s l w =
        let k = touch_of m inputs (after (rs r.step.thread) past) r e v s next.alone l w in one.no_touch v k.0 k.1

    no_look : (e : Entry) (v s : ℕ) → IsLogged r e → e.what ≢ Read v s
    no_look e v s l w = one.no_read v (read_of m inputs (after (rs r.step.thread) past) r e v s next.alone l w).0

    last : (q : Receipt V) (d e : Entry) → IsLogged r d → InRound rs q → IsLogged q e → IsNext d e → ⊥
    last q d e ld here le (inl h) = last_of_thread q d e ld here le h.0 h.1
    last q d e ld here le (inr (inl (v, s, a, b))) = no_access d v s ld a
    last q d e ld here le (inr (inr (inl (v, s, a, b)))) = no_access d v s ld a
    last q d e ld here le (inr (inr (inr (v, s, a, b)))) = no_look d v s ld a

    join : (e : Entry) → IsLogged r e → HasJoin past rs r e
    join e l = hear_join m inputs threads past round.opening rs round.linked round.within r.step.thread
        (λ u. slice_index part.stamp u) next.seat.stamp top r e (number m inputs threads past rs part r next e l).0
        (number m inputs threads past rs part r next e l).1 (λ v s. no_access e v s l) (λ v s. no_look e v s l)
        (one.stamp e l)

    pub private_moves : IsKept m inputs threads past rs part r (λ w. Unit {0})
    private_moves = record {
      round = record {
        opening = round.opening;
        linked = linked_more m inputs threads past rs round.linked r next.below next.alone
            (λ v left a. absurd (one.no_touch v left a)) (λ v a. absurd (one.no_read v a))
            (λ g v x y a here b at. one.no_touch v x a) last join;
        within = within_more m inputs threads past round.opening rs round.linked round.within r next.alone join one.none
            (one_or_none r);
      };
      seat = seat_grows m inputs threads past rs part r round next;
      held = held_grows m inputs threads past rs part r round next;
      seats = seat_stays m inputs threads past rs part r round next;
      homes = λ w z other home. home_other m inputs threads past round.opening rs round.linked r w z next.alone
          (one.no_touch w) (one.no_read w) home;
    }

  -- A touch
  module _ (v : ℕ) (x y : VarPart V) (home : IsHome m past rs v x) (t : Touches v part x y r) where
    touched : IsLogged r t.touch.0
    touched = touch_logged r v y.value t.touch

    touch_joins : HasJoin past rs r t.touch.0
    touch_joins = touch_join m inputs threads past round.opening rs round.linked round.within r.step.thread
        (λ u. slice_index part.stamp u) next.seat.stamp top r t.touch.0
        (number m inputs threads past rs part r next t.touch.0 touched).0
        (number m inputs threads past rs part r next t.touch.0 touched).1 v x.places (λ u. slice_index x.stamp u)
        (λ u. slice_index x.readers u) (t.touch.2 ∙ ap (λ (n : ℕ). Access v (n + 1)) t.place) home.stamp
        home.readers t.stamp

    no_read_of : (w : ℕ) → IsRead r w → ⊥
    no_read_of w a = let k : Did a.0 None ≡ Did t.touch.0 (Some y.value) = sym a.1 ∙ t.touch.1 in cc

    of_v : (w : ℕ) (z : V) → IsTouch r w z → w ≡ v
    of_v w z a =
        let e : a.0 ≡ t.touch.0 = logged_once r a.0 t.touch.0 (touch_logged r w z a) touched in
        let k : Access w (r.place + 1) ≡ Access v (r.place + 1) =
        sym a.2 ∙ (ap (λ (f : Entry). f.what) e ∙ t.touch.2) in
        cc

    pub touch_moves : IsKept m inputs threads past rs part r (λ w. w ≢ v) × IsHome m past (with_one rs r) v y
    touch_moves = (
      record {
        round = record {
          opening = round.opening;
          linked = done_linked m inputs threads past round.opening rs round.linked r v y.value x home t.touch t.found
              t.place next.below next.alone touch_joins;
          within = within_more m inputs threads past round.opening rs round.linked round.within r next.alone
              (λ e l. subst (λ (d : Entry). HasJoin past rs r d) (logged_once r t.touch.0 e touched l) touch_joins)
              (λ none u. absurd (none t.touch.0 touched)) (inl (t.touch.0, touched));
        };
        seat = seat_grows m inputs threads past rs part r round next;
        held = held_grows m inputs threads past rs part r round next;
        seats = seat_stays m inputs threads past rs part r round next;
        homes = λ w z apart old. home_other m inputs threads past round.opening rs round.linked r w z next.alone
            (λ left a. apart (of_v w left a)) (no_read_of w) old;
      },
      subst (λ (z : VarPart V). IsHome m past (with_one rs r) v z) (sym t.left) (home_done m inputs threads past
          round.opening rs round.linked r v y.value x home t.touch t.found t.place next.below next.alone),
    )

  -- A read
  module _ (v : ℕ) (x y : VarPart V) (home : IsHome m past rs v x) (t : Reads v part x y r) where
    looked : IsLogged r t.read.0
    looked = read_logged r v t.read

    read_joins : HasJoin past rs r t.read.0
    read_joins = read_join m inputs threads past round.opening rs round.linked round.within r.step.thread
        (λ u. slice_index part.stamp u) next.seat.stamp top r t.read.0
        (number m inputs threads past rs part r next t.read.0 looked).0
        (number m inputs threads past rs part r next t.read.0 looked).1 v x.places (λ u. slice_index x.stamp u)
        (t.read.2 ∙ ap (λ (n : ℕ). Read v n) t.place) home.stamp t.stamp

    no_touch_of : (w : ℕ) (z : V) → IsTouch r w z → ⊥
    no_touch_of w z a = let k : Did a.0 (Some z) ≡ Did t.read.0 None = sym a.1 ∙ t.read.1 in cc

    reads_v : (w : ℕ) → IsRead r w → w ≡ v
    reads_v w a =
        let e : a.0 ≡ t.read.0 = logged_once r a.0 t.read.0 (read_logged r w a) looked in
        let k : Read w r.place ≡ Read v r.place = sym a.2 ∙ (ap (λ (f : Entry). f.what) e ∙ t.read.2) in cc

    pub read_moves : IsKept m inputs threads past rs part r (λ w. w ≢ v) × IsHome m past (with_one rs r) v y
    read_moves = (
      record {
        round = record {
          opening = round.opening;
          linked = read_linked m inputs threads past rs round.linked r v x home t.read t.found t.place next.below
              next.alone read_joins;
          within = within_more m inputs threads past round.opening rs round.linked round.within r next.alone
              (λ e l. subst (λ (d : Entry). HasJoin past rs r d) (logged_once r t.read.0 e looked l) read_joins)
              (λ none u. absurd (none t.read.0 looked)) (inl (t.read.0, looked));
        };
        seat = seat_grows m inputs threads past rs part r round next;
        held = held_grows m inputs threads past rs part r round next;
        seats = seat_stays m inputs threads past rs part r round next;
        homes = λ w z apart old. home_other m inputs threads past round.opening rs round.linked r w z next.alone
            (no_touch_of w) (λ a. apart (reads_v w a)) old;
      },
      subst (λ (z : VarPart V). IsHome m past (with_one rs r) v z) (sym t.left) (home_read m inputs threads past rs
          round.linked r v x home t.read t.found t.place next.below next.alone y.readers t.readers),
    )
