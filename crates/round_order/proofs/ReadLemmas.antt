-- A read is done: the receipts stay linked, and what comes home has one more reader.
use Rattle.std.proofs.Common.{◌≡◌, ℕ, ◌+◌, ◌≤◌, ◌<◌, List, ◌∷◌, refl, sym, ap, ◌∙◌, subst, inl, inr, ◌⊎◌, arith, Some}
use Rattle.std.proofs.Common.{None, max}
use Rattle.std.specs.Prelude.{slice_index}
use Rattle.plain_text.specs.declared.packet.Packet.{Packet}
use Rattle.entry_order.specs.declared.what.What.TheVariants.{Access, Read}
use Rattle.entry_order.specs.Log.{Entry, entries, places, IsNext}
use Rattle.plain_machine.specs.Program.{Meaning}
use Rattle.plain_machine.specs.History.{Did, Step, log_of, value_after}
use Rattle.master_core.specs.declared.parts.VarPart.{VarPart}
use Rattle.round_order.specs.Receipts.{Receipt, Receipts, InRound, after, IsLogged, IsTouch, IsRead}
use Rattle.round_order.specs.Linked.{IsOwnMove, HasFound, IsKnown, HasJoin, IsLinked}
use Rattle.round_order.specs.Home.{IsHome}
use Rattle.round_order.specs.Growth.{update}
use Rattle.round_order.proofs.LoggedMoves.{logged_once, read_logged}
use Rattle.round_order.proofs.LoggedMoves.{at_entry, own_at}
use Rattle.round_order.proofs.MoreReceipts.{touch_of, in_more, in_old, in_new, known_old, known_more, join_stays}
use Rattle.round_order.proofs.MoreReceipts.{linked_more}
use Rattle.round_order.proofs.RoundCounts.{own_number}
use Rattle.round_order.proofs.StampJoins.{max_is}

module _ {V : Type 0} (m : Meaning V) (inputs : ℕ → List Packet) (threads : ℕ) (past : List (Step V)) (rs : Receipts V)
    (linked : IsLinked m inputs threads past rs) (r : Receipt V) (v : ℕ) (x : VarPart V) (home : IsHome m past rs v x)
    (read : IsRead r v) (found : r.found ≡ x.value) (place : r.place ≡ x.places) (low : r.step.thread < threads)
    (alone : IsOwnMove m inputs (after (rs r.step.thread) past) r) where
  legal_at : (q : Receipt V) → InRound rs q → (mine : List (Step V)) × IsOwnMove m inputs mine q
  legal_at q here = (own_at m inputs past q.step.thread (rs q.step.thread) q (linked.alone q.step.thread) here).1

  no_touch : (w : ℕ) (y : V) → IsTouch r w y → ⊥
  no_touch w y a = let k : Did a.0 (Some y) ≡ Did read.0 None = sym a.1 ∙ read.1 in cc

  of_one : (w : ℕ) → IsRead r w → w ≡ v
  of_one w a =
      let e : a.0 ≡ read.0 = logged_once r a.0 read.0 (read_logged r w a) (read_logged r v read) in
      let k : Read w r.place ≡ Read v r.place = sym a.2 ∙ (ap (λ (f : Entry). f.what) e ∙ read.2) in cc

  finds : HasFound m past rs v r
  finds = go home.value
    where
      go : ((x.places ≡ places v (log_of past)) × (x.value ≡ value_after m past v))
          ⊎ ((f : Receipt V) × InRound rs f × IsTouch f v x.value × (f.place + 1 ≡ x.places)) → HasFound m past rs v r
      go (inl h) = inl (place ∙ h.0, found ∙ h.1)
      go (inr (f, here, a, at)) = inr (f, here, subst (λ (y : V). IsTouch f v y) (sym found) a, at ∙ sym place)

  what_is : (d : Entry) → IsLogged r d → d.what ≡ Read v r.place
  what_is d l = ap (λ (f : Entry). f.what) (logged_once r d read.0 l (read_logged r v read)) ∙ read.2

  none_after : (q : Receipt V) (d e : Entry) → IsLogged r d → InRound rs q → IsLogged q e → IsNext d e → ⊥
  none_after q d e ld here le (inl h) =
      let k : (d.thread ≡ r.step.thread)
      × (d.number ≡ entries r.step.thread (log_of (after (rs r.step.thread) past)) + 1) = at_entry r.step.thread
      r.step.after.taken r.place (after (rs r.step.thread) past) alone.0 d ld.0 (sym alone.2 ∙ ld.1) in
      let at : (mine : List (Step V)) × IsOwnMove m inputs mine q = legal_at q here in
      let t : e.thread ≡ q.step.thread =
      (at_entry q.step.thread q.step.after.taken q.place at.0 at.1.0 e le.0 (sym at.1.2 ∙ le.1)).0 in
      let same : q.step.thread ≡ r.step.thread = sym t ∙ (sym h.0 ∙ k.0) in
      let n : e.number ≤ entries q.step.thread (log_of (after (rs q.step.thread) past)) =
      own_number m inputs past q.step.thread (rs q.step.thread) q e (linked.alone q.step.thread) here le in
      let c : entries q.step.thread (log_of (after (rs q.step.thread) past))
      ≡ entries r.step.thread (log_of (after (rs r.step.thread) past)) =
      ap (λ (u : ℕ). entries u (log_of (after (rs u) past))) same in
      omega (arith, h.1)
  none_after q d e ld here le (inr (inl (u, s, a, b))) =
      let k : Access u s ≡ Read v r.place = sym a ∙ what_is d ld in cc
  none_after q d e ld here le (inr (inr (inl (u, s, a, b)))) =
      let k : Access u s ≡ Read v r.place = sym a ∙ what_is d ld in cc
  none_after q d e ld here le (inr (inr (inr (u, s, a, b)))) =
      let k : Read u s ≡ Read v r.place = sym a ∙ what_is d ld in
      let w : u ≡ v = cc in let n : s ≡ r.place = cc in
      let at : (mine : List (Step V)) × IsOwnMove m inputs mine q = legal_at q here in
      let tq = touch_of m inputs at.0 q e u (s + 1) at.1 le b in
      let less : q.place < x.places = home.touches q tq.0 here (subst (λ (z : ℕ). IsTouch q z tq.0) w tq.1) in
      omega (arith, tq.2)

  -- with the read the receipts are linked
  pub read_linked : HasJoin past rs r read.0
      → IsLinked m inputs threads past (update r.step.thread (r ∷ rs r.step.thread) rs)
  read_linked join = linked_more m inputs threads past rs linked r low alone (λ w y a. absurd (no_touch w y a))
      (λ w a.
      let same : w ≡ v = of_one w a in
      subst (λ (z : ℕ). (places z (log_of past) ≤ r.place) × HasFound m past rs z r) (sym same)
      (let f : places v (log_of past) ≤ x.places = home.from in (omega (arith, place), finds)))
      (λ g w y z a here b at. no_touch w y a) none_after
      (λ e l. subst (λ (z : Entry). HasJoin past rs r z) (logged_once r read.0 e (read_logged r v read) l) join)

  -- and what is at home then
  pub home_read : (readers : List ℕ)
      → ((u : ℕ) → slice_index readers u ≡ max (slice_index x.readers u) (slice_index r.stamp u))
      → IsHome m past (update r.step.thread (r ∷ rs r.step.thread) rs) v
      (record { value = x.value; places = x.places; stamp = x.stamp; readers = readers })
  home_read readers joined = record {
    from = home.from;
    value = value home.value;
    touches = λ f y here a. touches f y a (in_more m inputs threads past rs linked r f here);
    reads = λ f here a. reads f a (in_more m inputs threads past rs linked r f here);
    stamp = join_stays m inputs threads past rs linked r (λ d. d.what ≡ Access v x.places) (λ u. slice_index x.stamp u)
        (λ d l w. let k : Read v r.place ≡ Access v x.places = sym (what_is d l) ∙ w in cc) home.stamp;
    readers = record {
      above = λ d st w known u. above d st w u (known_more m inputs threads past rs linked r d st known);
      reached = λ u. reached u (max_is (slice_index x.readers u) (slice_index r.stamp u)) (home.readers.reached u);
    };
  }
    where
      value : ((x.places ≡ places v (log_of past)) × (x.value ≡ value_after m past v))
          ⊎ ((f : Receipt V) × InRound rs f × IsTouch f v x.value × (f.place + 1 ≡ x.places))
          → ((x.places ≡ places v (log_of past)) × (x.value ≡ value_after m past v))
          ⊎ ((f : Receipt V) × InRound (update r.step.thread (r ∷ rs r.step.thread) rs) f × IsTouch f v x.value
          × (f.place + 1 ≡ x.places))
      value (inl h) = inl h
      value (inr (f, here, a, at)) = inr (f, in_old m inputs threads past rs linked r f here, a, at)

      touches : (f : Receipt V) (y : V) → IsTouch f v y → (r ≡ f) ⊎ InRound rs f → f.place < x.places
      touches f y a (inl e) = absurd (no_touch v y (subst (λ (z : Receipt V). IsTouch z v y) (sym e) a))
      touches f y a (inr old) = home.touches f y old a

      reads : (f : Receipt V) → IsRead f v → (r ≡ f) ⊎ InRound rs f → f.place ≤ x.places
      reads f a (inl e) = let k : r.place ≡ f.place = ap (λ (z : Receipt V). z.place) e in omega (arith, place)
      reads f a (inr old) = home.reads f old a

      above : (d : Entry) (st : ℕ → ℕ) → d.what ≡ Read v x.places → (u : ℕ)
          → (IsLogged r d × ((w : ℕ) → slice_index r.stamp w ≡ st w)) ⊎ IsKnown past rs d st
          → st u ≤ slice_index readers u
      above d st w u (inl (l, same)) = omega (arith, same u, joined u)
      above d st w u (inr known) =
          let k : st u ≤ slice_index x.readers u = home.readers.above d st w known u in omega (arith, joined u)

      reached : (u : ℕ)
          → (max (slice_index x.readers u) (slice_index r.stamp u) ≡ slice_index x.readers u)
          ⊎ (max (slice_index x.readers u) (slice_index r.stamp u) ≡ slice_index r.stamp u)
          → (slice_index x.readers u ≡ 0)
          ⊎ ((d : Entry) × (st : ℕ → ℕ) × (d.what ≡ Read v x.places) × IsKnown past rs d st
          × (st u ≡ slice_index x.readers u))
          → (slice_index readers u ≡ 0)
          ⊎ ((d : Entry) × (st : ℕ → ℕ) × (d.what ≡ Read v x.places)
          × IsKnown past (update r.step.thread (r ∷ rs r.step.thread) rs) d st × (st u ≡ slice_index readers u))
      reached u (inl e) (inl z) = inl (joined u ∙ (e ∙ z))
      reached u (inl e) (inr (d, st, w, known, is)) =
          inr (d, st, w, known_old m inputs threads past rs linked r d st known, is ∙ sym (joined u ∙ e))
      reached u (inr e) old = inr (
        read.0,
        (λ w. slice_index r.stamp w),
        read.2 ∙ ap (λ n. Read v n) place,
        inl (r, in_new m inputs threads past rs linked r, read_logged r v read, λ w. refl),
        sym (joined u ∙ e),
      )
