-- A touch is done: the receipts stay linked, and what comes home is what it left.
use Rattle.std.proofs.Common.{◌≡◌, ℕ, ◌+◌, ◌≤◌, ◌<◌, List, ◌∷◌, refl, sym, ap, ◌∙◌, subst, inl, inr, ◌⊎◌, arith, Some}
use Rattle.std.proofs.Common.{None}
use Rattle.std.specs.Prelude.{slice_index, replicate}
use Rattle.plain_text.specs.declared.packet.Packet.{Packet}
use Rattle.entry_order.specs.declared.what.What.TheVariants.{Access, Read}
use Rattle.entry_order.specs.Log.{Entry, entries, places, IsLog, IsIn, IsNext}
use Rattle.entry_order.proofs.Order.{place_within, read_within}
use Rattle.plain_machine.specs.Program.{Meaning}
use Rattle.plain_machine.specs.History.{Did, Step, log_of, value_after}
use Rattle.master_core.specs.declared.parts.VarPart.{VarPart}
use Rattle.round_order.specs.Receipts.{Receipt, Receipts, InRound, after, IsLogged, IsTouch, IsRead}
use Rattle.round_order.specs.Linked.{IsOwnMove, HasFound, IsKnown, HasJoin, IsLinked}
use Rattle.round_order.specs.Home.{IsHome}
use Rattle.round_order.specs.Growth.{update}
use Rattle.round_order.proofs.LoggedMoves.{logged_once, touch_logged}
use Rattle.round_order.proofs.LoggedMoves.{at_entry}
use Rattle.round_order.proofs.RoundCounts.{own_number, legal_at}
use Rattle.round_order.proofs.MoreReceipts.{touch_of, read_of, in_more, in_old, in_new, join_stays, linked_more}

module _ {V : Type 0} (m : Meaning V) (inputs : ℕ → List Packet) (threads : ℕ) (past : List (Step V))
    (opening : IsLog (log_of past)) (rs : Receipts V) (linked : IsLinked m inputs threads past rs) where
  module _ (r : Receipt V) (v : ℕ) (left : V) (x : VarPart V) (home : IsHome m past rs v x) (touch : IsTouch r v left)
      (found : r.found ≡ x.value) (place : r.place ≡ x.places) (low : r.step.thread < threads)
      (alone : IsOwnMove m inputs (after (rs r.step.thread) past) r) where
    abbrev one : Receipts V
    one = update r.step.thread (r ∷ rs r.step.thread) rs

    of_one : (w : ℕ) (y : V) → IsTouch r w y → w ≡ v
    of_one w y a =
        let e : a.0 ≡ touch.0 = logged_once r a.0 touch.0 (touch_logged r w y a) (touch_logged r v left touch) in
        let k : Access w (r.place + 1) ≡ Access v (r.place + 1) = sym a.2 ∙ (ap (λ (f : Entry). f.what) e ∙ touch.2) in
        cc

    no_read : (w : ℕ) → IsRead r w → ⊥
    no_read w a = let k : Did a.0 None ≡ Did touch.0 (Some left) = sym a.1 ∙ touch.1 in cc

    finds : HasFound m past rs v r
    finds = go home.value
      where
        go : ((x.places ≡ places v (log_of past)) × (x.value ≡ value_after m past v))
            ⊎ ((f : Receipt V) × InRound rs f × IsTouch f v x.value × (f.place + 1 ≡ x.places)) → HasFound m past rs v r
        go (inl h) = inl (place ∙ h.0, found ∙ h.1)
        go (inr (f, here, a, at)) = inr (f, here, subst (λ (y : V). IsTouch f v y) (sym found) a, at ∙ sym place)

    -- none of the receipts so far comes after it
    none_after : (q : Receipt V) (d e : Entry) → IsLogged r d → InRound rs q → IsLogged q e → IsNext d e → ⊥
    none_after q d e ld here le (inl h) =
        let k : (d.thread ≡ r.step.thread)
        × (d.number ≡ entries r.step.thread (log_of (after (rs r.step.thread) past)) + 1) = at_entry r.step.thread
        r.step.after.taken r.place (after (rs r.step.thread) past) alone.0 d ld.0 (sym alone.2 ∙ ld.1) in
        let at : (mine : List (Step V)) × IsOwnMove m inputs mine q =
        legal_at m inputs threads past opening rs linked q here in
        let t : e.thread ≡ q.step.thread =
        (at_entry q.step.thread q.step.after.taken q.place at.0 at.1.0 e le.0 (sym at.1.2 ∙ le.1)).0 in
        let same : q.step.thread ≡ r.step.thread = sym t ∙ (sym h.0 ∙ k.0) in
        let n : e.number ≤ entries q.step.thread (log_of (after (rs q.step.thread) past)) =
        own_number m inputs past q.step.thread (rs q.step.thread) q e (linked.alone q.step.thread) here le in
        let c : entries q.step.thread (log_of (after (rs q.step.thread) past))
        ≡ entries r.step.thread (log_of (after (rs r.step.thread) past)) =
        ap (λ (u : ℕ). entries u (log_of (after (rs u) past))) same in
        omega (arith, h.1)
    none_after q d e ld here le (inr (inl (u, s, a, b))) =
        let same : d ≡ touch.0 = logged_once r d touch.0 ld (touch_logged r v left touch) in
        let k : Access u s ≡ Access v (r.place + 1) = sym a ∙ (ap (λ (f : Entry). f.what) same ∙ touch.2) in
        let w : u ≡ v = cc in let n : s ≡ r.place + 1 = cc in
        let at : (mine : List (Step V)) × IsOwnMove m inputs mine q =
        legal_at m inputs threads past opening rs linked q here in
        let tq = touch_of m inputs at.0 q e u (s + 1) at.1 le b in
        let less : q.place < x.places = home.touches q tq.0 here (subst (λ (z : ℕ). IsTouch q z tq.0) w tq.1) in
        omega (arith, tq.2)
    none_after q d e ld here le (inr (inr (inl (u, s, a, b)))) =
        let same : d ≡ touch.0 = logged_once r d touch.0 ld (touch_logged r v left touch) in
        let k : Access u s ≡ Access v (r.place + 1) = sym a ∙ (ap (λ (f : Entry). f.what) same ∙ touch.2) in
        let w : u ≡ v = cc in let n : s ≡ r.place + 1 = cc in
        let at : (mine : List (Step V)) × IsOwnMove m inputs mine q =
        legal_at m inputs threads past opening rs linked q here in
        let tq = read_of m inputs at.0 q e u s at.1 le b in
        let less : q.place ≤ x.places = home.reads q here (subst (λ (z : ℕ). IsRead q z) w tq.0) in
        omega (arith, tq.1)
    none_after q d e ld here le (inr (inr (inr (u, s, a, b)))) =
        let same : d ≡ touch.0 = logged_once r d touch.0 ld (touch_logged r v left touch) in
        let k : Read u s ≡ Access v (r.place + 1) = sym a ∙ (ap (λ (f : Entry). f.what) same ∙ touch.2) in cc

    -- with the touch the receipts are linked
    pub done_linked : HasJoin past rs r touch.0
        → IsLinked m inputs threads past (update r.step.thread (r ∷ rs r.step.thread) rs)
    done_linked join = linked_more m inputs threads past rs linked r low alone
        (λ w y a.
        let same : w ≡ v = of_one w y a in
        subst (λ (z : ℕ). (places z (log_of past) ≤ r.place) × HasFound m past rs z r) (sym same)
        (let f : places v (log_of past) ≤ x.places = home.from in (omega (arith, place), finds)))
        (λ w a. absurd (no_read w a))
        (λ g w y z a here b at.
        let same : w ≡ v = of_one w y a in
        let less : g.place < x.places = home.touches g z here (subst (λ (u : ℕ). IsTouch g u z) same b) in
        omega (arith, place)) none_after
        (λ e l.
        subst (λ (z : Entry). HasJoin past rs r z) (logged_once r touch.0 e (touch_logged r v left touch) l) join)

    -- and what is at home then
    pub home_done : IsHome m past (update r.step.thread (r ∷ rs r.step.thread) rs) v
        (record { value = left; places = x.places + 1; stamp = r.stamp; readers = replicate 16 0 })
    home_done = record {
      from = (let f : places v (log_of past) ≤ x.places = home.from in omega arith);
      value = inr (r, in_new m inputs threads past rs linked r, touch, ap (λ n. n + 1) place);
      touches = λ f y here a. touches f y a (in_more m inputs threads past rs linked r f here);
      reads = λ f here a. reads f a (in_more m inputs threads past rs linked r f here);
      stamp = record {
        above = λ d st w known u. stamp_above d st w u known;
        reached = λ u. inr (
          touch.0,
          (λ w. slice_index r.stamp w),
          touch.2 ∙ ap (λ n. Access v (n + 1)) place,
          inl (r, in_new m inputs threads past rs linked r, touch_logged r v left touch, λ w. refl),
          refl,
        );
      };
      readers =
          record { above = λ d st w known u. absurd (readers_above d st w known); reached = λ u. inl (zero_stamp u) };
    }
      where
        zero_stamp : (u : ℕ) → slice_index (replicate 16 0) u ≡ 0
        zero_stamp u = Rattle.master_core.proofs.Variables.zero_stamp u

        touches : (f : Receipt V) (y : V) → IsTouch f v y → (r ≡ f) ⊎ InRound rs f → f.place < x.places + 1
        touches f y a (inl e) = let k : r.place ≡ f.place = ap (λ (z : Receipt V). z.place) e in omega (arith, place)
        touches f y a (inr old) = let k : f.place < x.places = home.touches f y old a in omega arith

        reads : (f : Receipt V) → IsRead f v → (r ≡ f) ⊎ InRound rs f → f.place ≤ x.places + 1
        reads f a (inl e) = absurd (no_read v (subst (λ (z : Receipt V). IsRead z v) (sym e) a))
        reads f a (inr old) = let k : f.place ≤ x.places = home.reads f old a in omega arith

        past_none : (d : Entry) → IsIn d (log_of past) → d.what ≡ Access v (x.places + 1) → ⊥
        past_none d old w =
            let k : (1 ≤ x.places + 1) × (x.places + 1 ≤ places v (log_of past)) =
            place_within (log_of past) d v (x.places + 1) opening old w in
            let f : places v (log_of past) ≤ x.places = home.from in omega arith

        stamp_above : (d : Entry) (st : ℕ → ℕ) → d.what ≡ Access v (x.places + 1) → (u : ℕ)
            → IsKnown past (update r.step.thread (r ∷ rs r.step.thread) rs) d st → st u ≤ slice_index r.stamp u
        stamp_above d st w u (inr (old, is)) = absurd (past_none d old w)
        stamp_above d st w u (inl (f, here, l, same)) = go (in_more m inputs threads past rs linked r f here)
          where
            go : (r ≡ f) ⊎ InRound rs f → st u ≤ slice_index r.stamp u
            go (inl e) =
                let k : slice_index r.stamp u ≡ slice_index f.stamp u =
                ap (λ (z : Receipt V). slice_index z.stamp u) e in
                omega (arith, same u)
            go (inr old) =
                let at : (mine : List (Step V)) × IsOwnMove m inputs mine f =
                legal_at m inputs threads past opening rs linked f old in
                let tf = touch_of m inputs at.0 f d v (x.places + 1) at.1 l w in
                let less : f.place < x.places = home.touches f tf.0 old tf.1 in absurd (omega (arith, tf.2))

        readers_above : (d : Entry) (st : ℕ → ℕ) → d.what ≡ Read v (x.places + 1)
            → IsKnown past (update r.step.thread (r ∷ rs r.step.thread) rs) d st → ⊥
        readers_above d st w (inr (old, is)) =
            let k : x.places + 1 ≤ places v (log_of past) =
            read_within (log_of past) d v (x.places + 1) opening old w in
            let f : places v (log_of past) ≤ x.places = home.from in omega arith
        readers_above d st w (inl (f, here, l, same)) = go (in_more m inputs threads past rs linked r f here)
          where
            go : (r ≡ f) ⊎ InRound rs f → ⊥
            go (inl e) =
                let lr : IsLogged r d = subst (λ (z : Receipt V). IsLogged z d) (sym e) l in
                let k : Read v (x.places + 1) ≡ Access v (r.place + 1) =
                sym w
                ∙ (ap (λ (z : Entry). z.what) (logged_once r d touch.0 lr (touch_logged r v left touch)) ∙ touch.2) in
                cc
            go (inr old) =
                let at : (mine : List (Step V)) × IsOwnMove m inputs mine f =
                legal_at m inputs threads past opening rs linked f old in
                let rf = read_of m inputs at.0 f d v (x.places + 1) at.1 l w in
                let less : f.place ≤ x.places = home.reads f old rf.0 in omega (arith, rf.1)

  -- what is at home of a variable that the move is not of
  pub home_other : (r : Receipt V) (u : ℕ) (x : VarPart V) → IsOwnMove m inputs (after (rs r.step.thread) past) r
      → ((y : V) → IsTouch r u y → ⊥) → (IsRead r u → ⊥) → IsHome m past rs u x
      → IsHome m past (update r.step.thread (r ∷ rs r.step.thread) rs) u x
  home_other r u x alone no_touch no_look home = record {
    from = home.from;
    value = value home.value;
    touches = λ f y here a. touches f y a (in_more m inputs threads past rs linked r f here);
    reads = λ f here a. reads f a (in_more m inputs threads past rs linked r f here);
    stamp = join_stays m inputs threads past rs linked r (λ d. d.what ≡ Access u x.places) (λ w. slice_index x.stamp w)
        (λ d l w. let k = touch_of m inputs _ r d u x.places alone l w in no_touch k.0 k.1) home.stamp;
    readers = join_stays m inputs threads past rs linked r (λ d. d.what ≡ Read u x.places)
        (λ w. slice_index x.readers w) (λ d l w. no_look (read_of m inputs _ r d u x.places alone l w).0) home.readers;
  }
    where
      value : ((x.places ≡ places u (log_of past)) × (x.value ≡ value_after m past u))
          ⊎ ((f : Receipt V) × InRound rs f × IsTouch f u x.value × (f.place + 1 ≡ x.places))
          → ((x.places ≡ places u (log_of past)) × (x.value ≡ value_after m past u))
          ⊎ ((f : Receipt V) × InRound (update r.step.thread (r ∷ rs r.step.thread) rs) f × IsTouch f u x.value
          × (f.place + 1 ≡ x.places))
      value (inl h) = inl h
      value (inr (f, here, a, at)) = inr (f, in_old m inputs threads past rs linked r f here, a, at)

      touches : (f : Receipt V) (y : V) → IsTouch f u y → (r ≡ f) ⊎ InRound rs f → f.place < x.places
      touches f y a (inl e) = absurd (no_touch y (subst (λ (z : Receipt V). IsTouch z u y) (sym e) a))
      touches f y a (inr old) = home.touches f y old a

      reads : (f : Receipt V) → IsRead f u → (r ≡ f) ⊎ InRound rs f → f.place ≤ x.places
      reads f a (inl e) = absurd (no_look (subst (λ (z : Receipt V). IsRead z u) (sym e) a))
      reads f a (inr old) = home.reads f old a
