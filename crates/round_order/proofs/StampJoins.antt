-- The stamp of a new entry is a join of what its thread has with what is at home.
use Rattle.std.proofs.Common.{◌≡◌, ℕ, ◌+◌, ◌≤◌, ◌<◌, ◌≢◌, le_refl, List, ◌∷◌, refl, sym, ap, ◌∙◌, subst, inl, inr, ◌⊎◌}
use Rattle.std.proofs.Common.{arith, max}
use Rattle.std.specs.Prelude.{slice_index}
use Rattle.std.proofs.lemmas.Bool.{cases_lt}
use Rattle.plain_text.specs.declared.packet.Packet.{Packet}
use Rattle.entry_order.specs.declared.what.What.TheVariants.{Access, Read}
use Rattle.entry_order.specs.Log.{Entry, entries, IsLog, IsNext}
use Rattle.entry_order.specs.Stamps.{bumped}
use Rattle.entry_order.proofs.Order.{is_or}
use Rattle.plain_machine.specs.Program.{Meaning}
use Rattle.plain_machine.specs.History.{Step, log_of}
use Rattle.plain_machine.proofs.Histories.{not_eq, is_eq}
use Rattle.round_order.specs.Receipts.{Receipt, Receipts, InRound, after, IsLogged}
use Rattle.round_order.specs.Linked.{IsOwnMove, IsKnown, IsJoinOf, HasJoin, IsLinked}
use Rattle.round_order.proofs.LoggedMoves.{at_entry}
use Rattle.round_order.proofs.MoreReceipts.{updated, not_updated, in_more}
use Rattle.round_order.specs.Home.{count}
use Rattle.round_order.specs.Growth.{AreWithin, update}
use Rattle.round_order.specs.Home.{IsEntryOf}
use Rattle.round_order.proofs.RoundCounts.{steps_grow, join_within}

-- the greater of two is one of them
pub max_is : (a b : ℕ) → (max a b ≡ a) ⊎ (max a b ≡ b)
max_is a b = go (cases_lt a b)
  where
    go : (a < b) ⊎ (b ≤ a) → (max a b ≡ a) ⊎ (max a b ≡ b)
    go (inl h) = inr (omega arith)
    go (inr h) = inl (omega arith)

-- the join of entries of two kinds
pub join_both : {V : Type 0} (past : List (Step V)) (rs : Receipts V) (These Those All : Entry → Type 0) (a b : ℕ → ℕ)
    → ((d : Entry) → All d → These d ⊎ Those d) → ((d : Entry) → These d → All d) → ((d : Entry) → Those d → All d)
    → IsJoinOf past rs These a → IsJoinOf past rs Those b → IsJoinOf past rs All (λ u. max (a u) (b u))
join_both {V} past rs These Those All a b split left right ja jb = record {
  above = λ d st all known u. above d st u known (split d all);
  reached = λ u. reached u (max_is (a u) (b u));
}
  where
    above : (d : Entry) (st : ℕ → ℕ) (u : ℕ) → IsKnown past rs d st → These d ⊎ Those d → st u ≤ max (a u) (b u)
    above d st u known (inl h) = let k : st u ≤ a u = ja.above d st h known u in omega arith
    above d st u known (inr h) = let k : st u ≤ b u = jb.above d st h known u in omega arith

    of_a : (u n : ℕ) → n ≡ a u
        → (a u ≡ 0) ⊎ ((d : Entry) × (st : ℕ → ℕ) × These d × IsKnown past rs d st × (st u ≡ a u))
        → (n ≡ 0) ⊎ ((d : Entry) × (st : ℕ → ℕ) × All d × IsKnown past rs d st × (st u ≡ n))
    of_a u n e (inl z) = inl (e ∙ z)
    of_a u n e (inr (d, st, h, known, is)) = inr (d, st, left d h, known, is ∙ sym e)

    of_b : (u n : ℕ) → n ≡ b u
        → (b u ≡ 0) ⊎ ((d : Entry) × (st : ℕ → ℕ) × Those d × IsKnown past rs d st × (st u ≡ b u))
        → (n ≡ 0) ⊎ ((d : Entry) × (st : ℕ → ℕ) × All d × IsKnown past rs d st × (st u ≡ n))
    of_b u n e (inl z) = inl (e ∙ z)
    of_b u n e (inr (d, st, h, known, is)) = inr (d, st, right d h, known, is ∙ sym e)

    reached : (u : ℕ) → (max (a u) (b u) ≡ a u) ⊎ (max (a u) (b u) ≡ b u)
        → (max (a u) (b u) ≡ 0) ⊎ ((d : Entry) × (st : ℕ → ℕ) × All d × IsKnown past rs d st × (st u ≡ max (a u) (b u)))
    reached u (inl e) = of_a u (max (a u) (b u)) e (ja.reached u)
    reached u (inr e) = of_b u (max (a u) (b u)) e (jb.reached u)

module _ {V : Type 0} (m : Meaning V) (inputs : ℕ → List Packet) (threads : ℕ) (past : List (Step V))
    (opening : IsLog (log_of past)) (rs : Receipts V) (linked : IsLinked m inputs threads past rs)
    (within : AreWithin past rs) (t : ℕ) (mine : ℕ → ℕ) (own : IsJoinOf past rs (IsEntryOf t (count past rs t)) mine)
    (top : mine t ≡ count past rs t) (r : Receipt V) (e : Entry) (of_t : e.thread ≡ t)
    (next : e.number ≡ count past rs t + 1) where
  has : (join : ℕ → ℕ) → IsJoinOf past rs (λ d. IsNext d e) join → mine t ≤ join t
      → ((u : ℕ) → slice_index r.stamp u ≡ bumped e join u) → HasJoin past rs r e
  has join joins low stamp = record {
    join = join;
    joins = joins;
    before = (let high : join t ≤ count past rs t =
        join_within m inputs threads past opening rs linked within (λ d. IsNext d e) join t joins in
        let same : join e.thread ≡ join t = ap join of_t in omega (arith, top, next));
    stamp = stamp;
  }

  -- a time or a word that was told joins nothing more
  pub hear_join : ((v s : ℕ) → e.what ≢ Access v s) → ((v s : ℕ) → e.what ≢ Read v s)
      → ((u : ℕ) → slice_index r.stamp u ≡ bumped e mine u) → HasJoin past rs r e
  hear_join no_touch no_read stamp = has mine
      (record { above = λ d st n known u. own.above d st (last d n) known u; reached = λ u. reached u (own.reached u) })
      (le_refl (mine t)) stamp
    where
      last : (d : Entry) → IsNext d e → IsEntryOf t (count past rs t) d
      last d (inl h) = (h.0 ∙ of_t, (let k = h.1 in omega (arith, next)))
      last d (inr (inl (v, s, a, b))) = absurd (no_touch v (s + 1) b)
      last d (inr (inr (inl (v, s, a, b)))) = absurd (no_read v s b)
      last d (inr (inr (inr (v, s, a, b)))) = absurd (no_touch v (s + 1) b)

      reached : (u : ℕ)
          → (mine u ≡ 0)
          ⊎ ((d : Entry) × (st : ℕ → ℕ) × IsEntryOf t (count past rs t) d × IsKnown past rs d st × (st u ≡ mine u))
          → (mine u ≡ 0) ⊎ ((d : Entry) × (st : ℕ → ℕ) × IsNext d e × IsKnown past rs d st × (st u ≡ mine u))
      reached u (inl z) = inl z
      reached u (inr (d, st, h, known, is)) =
          inr (d, st, inl (h.0 ∙ sym of_t, (let k = h.1 in omega (arith, next))), known, is)

  -- a read joins the stamp of the last touch
  pub read_join : (v p : ℕ) (b : ℕ → ℕ) → e.what ≡ Read v p → IsJoinOf past rs (λ d. d.what ≡ Access v p) b
      → ((u : ℕ) → slice_index r.stamp u ≡ bumped e (λ w. max (mine w) (b w)) u) → HasJoin past rs r e
  read_join v p b what jb stamp =
      has (λ w. max (mine w) (b w))
      (join_both past rs (IsEntryOf t (count past rs t)) (λ d. d.what ≡ Access v p) (λ d. IsNext d e) mine b split
      (λ d h. inl (h.0 ∙ sym of_t, (let k = h.1 in omega (arith, next)))) (λ d h. inr (inr (inl (v, p, h, what))))
      own jb) (omega arith) stamp
    where
      split : (d : Entry) → IsNext d e → IsEntryOf t (count past rs t) d ⊎ (d.what ≡ Access v p)
      split d (inl h) = inl (h.0 ∙ of_t, (let k = h.1 in omega (arith, next)))
      split d (inr (inl (w, s, a, c))) = let k : Read v p ≡ Access w (s + 1) = sym what ∙ c in absurd (cc)
      split d (inr (inr (inl (w, s, a, c)))) =
          let k : Read w s ≡ Read v p = sym c ∙ what in
          let x : w ≡ v = cc in let y : s ≡ p = cc in inr (a ∙ ap (λ n. Access n s) x ∙ ap (λ n. Access v n) y)
      split d (inr (inr (inr (w, s, a, c)))) = let k : Read v p ≡ Access w (s + 1) = sym what ∙ c in absurd (cc)

  -- a touch joins that and those of the reads since
  pub touch_join : (v p : ℕ) (b c : ℕ → ℕ) → e.what ≡ Access v (p + 1) → IsJoinOf past rs (λ d. d.what ≡ Access v p) b
      → IsJoinOf past rs (λ d. d.what ≡ Read v p) c
      → ((u : ℕ) → slice_index r.stamp u ≡ bumped e (λ w. max (max (mine w) (b w)) (c w)) u) → HasJoin past rs r e
  touch_join v p b c what jb jc stamp =
      has (λ w. max (max (mine w) (b w)) (c w))
      (join_both past rs (λ d. IsEntryOf t (count past rs t) d ⊎ (d.what ≡ Access v p)) (λ d. d.what ≡ Read v p)
      (λ d. IsNext d e) (λ w. max (mine w) (b w)) c split first (λ d h. inr (inr (inr (v, p, h, what))))
      (join_both past rs (IsEntryOf t (count past rs t)) (λ d. d.what ≡ Access v p)
      (λ d. IsEntryOf t (count past rs t) d ⊎ (d.what ≡ Access v p)) mine b (λ d h. h) (λ d h. inl h) (λ d h. inr h)
      own jb) jc) (omega arith) stamp
    where
      first : (d : Entry) → IsEntryOf t (count past rs t) d ⊎ (d.what ≡ Access v p) → IsNext d e
      first d (inl h) = inl (h.0 ∙ sym of_t, (let k = h.1 in omega (arith, next)))
      first d (inr h) = inr (inl (v, p, h, what))

      split : (d : Entry) → IsNext d e → (IsEntryOf t (count past rs t) d ⊎ (d.what ≡ Access v p)) ⊎ (d.what ≡ Read v p)
      split d (inl h) = inl (inl (h.0 ∙ of_t, (let k = h.1 in omega (arith, next))))
      split d (inr (inl (w, s, a, q))) =
          let k : Access w (s + 1) ≡ Access v (p + 1) = sym q ∙ what in
          let x : w ≡ v = cc in
          let y : s + 1 ≡ p + 1 = cc in
          let z : s ≡ p = omega arith in inl (inr (a ∙ ap (λ n. Access n s) x ∙ ap (λ n. Access v n) z))
      split d (inr (inr (inl (w, s, a, q)))) = let k : Access v (p + 1) ≡ Read w s = sym what ∙ q in absurd (cc)
      split d (inr (inr (inr (w, s, a, q)))) =
          let k : Access w (s + 1) ≡ Access v (p + 1) = sym q ∙ what in
          let x : w ≡ v = cc in
          let y : s + 1 ≡ p + 1 = cc in
          let z : s ≡ p = omega arith in inr (a ∙ ap (λ n. Read n s) x ∙ ap (λ n. Read v n) z)

-- no component is above the counts, with one more entry
pub within_more : {V : Type 0} (m : Meaning V) (inputs : ℕ → List Packet) (threads : ℕ) (past : List (Step V))
    (opening : IsLog (log_of past)) (rs : Receipts V) (linked : IsLinked m inputs threads past rs) → AreWithin past rs
    → (r : Receipt V) → IsOwnMove m inputs (after (rs r.step.thread) past) r
    → ((e : Entry) → IsLogged r e → HasJoin past rs r e)
    → (((e : Entry) → IsLogged r e → ⊥) → (u : ℕ) → slice_index r.stamp u ≡ 0)
    → ((e : Entry) × IsLogged r e) ⊎ ((e : Entry) → IsLogged r e → ⊥)
    → AreWithin past (update r.step.thread (r ∷ rs r.step.thread) rs)
within_more {V} m inputs threads past opening rs linked within r alone join nil logged q u here =
    go (in_more m inputs threads past rs linked r q here) (is_or u r.step.thread)
  where
    mine : entries r.step.thread (log_of (after (rs r.step.thread) past))
        ≤ count past (update r.step.thread (r ∷ rs r.step.thread) rs) r.step.thread
    mine = rw (updated r.step.thread (r ∷ rs r.step.thread) rs)
        (steps_grow r.step.thread r.step (after (rs r.step.thread) past))

    grown : (u ≡ r.step.thread) ⊎ (u ≢ r.step.thread)
        → count past rs u ≤ count past (update r.step.thread (r ∷ rs r.step.thread) rs) u
    grown (inl same) = subst
        (λ (w : ℕ). count past rs w ≤ count past (update r.step.thread (r ∷ rs r.step.thread) rs) w) (sym same) mine
    grown (inr apart) = rw (not_updated r.step.thread u (r ∷ rs r.step.thread) rs apart) (le_refl _)

    counted : (e : Entry) → IsLogged r e
        → e.number ≤ count past (update r.step.thread (r ∷ rs r.step.thread) rs) r.step.thread
    counted e (left, is) =
        let k : (e.thread ≡ r.step.thread)
        × (e.number ≡ entries r.step.thread (log_of (after (rs r.step.thread) past)) + 1) = at_entry r.step.thread
        r.step.after.taken r.place (after (rs r.step.thread) past) alone.0 e left (sym alone.2 ∙ is) in
        rw (updated r.step.thread (r ∷ rs r.step.thread) rs)
        (rw is (rw (is_eq e.thread r.step.thread k.0) (omega arith)))

    newest : ((e : Entry) × IsLogged r e) ⊎ ((e : Entry) → IsLogged r e → ⊥) → (u ≡ r.step.thread) ⊎ (u ≢ r.step.thread)
        → slice_index r.stamp u ≤ count past (update r.step.thread (r ∷ rs r.step.thread) rs) u
    newest (inr none) at = let z : slice_index r.stamp u ≡ 0 = nil none u in omega arith
    newest (inl (e, l)) (inl same) =
        let t : e.thread ≡ r.step.thread = (at_entry r.step.thread r.step.after.taken r.place
        (after (rs r.step.thread) past) alone.0 e l.0 (sym alone.2 ∙ l.1)).0 in
        let n : slice_index r.stamp u ≡ e.number = (join e l).stamp u ∙ rw (is_eq u e.thread (same ∙ sym t)) refl in
        let c : e.number ≤ count past (update r.step.thread (r ∷ rs r.step.thread) rs) u =
        subst (λ (w : ℕ). e.number ≤ count past (update r.step.thread (r ∷ rs r.step.thread) rs) w) (sym same)
        (counted e l) in
        omega arith
    newest (inl (e, l)) (inr apart) =
        let t : e.thread ≡ r.step.thread = (at_entry r.step.thread r.step.after.taken r.place
        (after (rs r.step.thread) past) alone.0 e l.0 (sym alone.2 ∙ l.1)).0 in
        let j : HasJoin past rs r e = join e l in
        let n : slice_index r.stamp u ≡ j.join u = j.stamp u ∙ rw (not_eq u e.thread (λ h. apart (h ∙ t))) refl in
        let c : j.join u ≤ count past rs u =
        join_within m inputs threads past opening rs linked within (λ d. IsNext d e) j.join u j.joins in
        let w : count past rs u ≤ count past (update r.step.thread (r ∷ rs r.step.thread) rs) u = grown (inr apart) in
        omega arith

    go : (r ≡ q) ⊎ InRound rs q → (u ≡ r.step.thread) ⊎ (u ≢ r.step.thread)
        → slice_index q.stamp u ≤ count past (update r.step.thread (r ∷ rs r.step.thread) rs) u
    go (inl e) at =
        subst (λ (z : Receipt V). slice_index z.stamp u ≤ count past (update r.step.thread (r ∷ rs r.step.thread) rs) u)
        e (newest logged at)
    go (inr old) at =
        let a : slice_index q.stamp u ≤ count past rs u = within q u old in let w = grown at in omega arith
