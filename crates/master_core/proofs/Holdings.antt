-- What holds of a log goes on to hold: after more entries, after covering, and of the closed part.
use Rattle.std.proofs.Common.{◌≡◌, ℕ, ◌≤◌, ◌<◌, ◌≢◌, ◌↔◌, Bool, true, false, cond, List, [], Some, None, length}
use Rattle.std.proofs.Common.{replicate, refl, sym, ap, ◌∙◌, subst, inl, inr, ◌⊎◌, arith, slice_index}
use Rattle.std.specs.Prelude.{nat_le}
use Rattle.std.proofs.lemmas.Bool.{cases_lt}
use Rattle.std.proofs.lemmas.Bool.Decides.{nat_tests}
use Rattle.entry_order.specs.Log.{Entry, PrecedesOrIs, entries, IsLog, IsIn, IsClosed}
use Rattle.entry_order.specs.Stamps.{IsStamp}
use Rattle.entry_order.specs.Closed.{IsClosedPart}
use Rattle.entry_order.proofs.Order.{is_or, number_within, entry_there, same_number, closed_down}
use Rattle.entry_order.proofs.Parts.{closed_part}
use Rattle.entry_order.proofs.Joins.{stamp_there, stamp_unique}
use Rattle.entry_order.proofs.ClosedParts.{in_or}
use Rattle.access_log.specs.declared.entry.StampedEntry.{StampedEntry}
use Rattle.access_log.specs.Held.{Lane, lane, fresh_lane, entry_at, IsFrontier, IsWithin}
use Rattle.access_log.specs.Lanes.{PutsEntry, CoversUpTo}
use Rattle.access_log.proofs.LaneLemmas.{lane_past, lane_of_replicate}
use Rattle.master_core.specs.Holding.{held_entries, HoldsOf}
use Rattle.master_core.specs.Stepping.{plain_entry}
use Rattle.master_core.proofs.HeldEntries.{held_at, at_held, held_named, held_in_log}
use Rattle.master_core.proofs.Frontiers.{frontier_of, frontier_is, frontiers_within, within_frontiers}
use Rattle.master_core.proofs.Frontiers.{frontiers_are_defined}

-- The closed part

-- what was closed is held as it was
abbrev pub IsClosedOf : List Lane → List Lane → Type 0
IsClosedOf held new =
    (t n : ℕ) (e : StampedEntry)
    → (entry_at (lane new t) n ≡ Some e) ↔ ((entry_at (lane held t) n ≡ Some e) × IsWithin held e.stamp)

-- a stamp for each entry of the log
chosen : (log : List Entry) → IsLog log → (e : Entry) → IsIn e log ⊎ (IsIn e log → ⊥) → ℕ → ℕ
chosen log good e (inl h) = (stamp_there log e good h).0
chosen log good e (inr h) = λ u. 0

chosen_is : (log : List Entry) (good : IsLog log) (e : Entry) (o : IsIn e log ⊎ (IsIn e log → ⊥)) → IsIn e log
    → IsStamp log e (chosen log good e o)
unfolding chosen
chosen_is log good e (inl h) here = (stamp_there log e good h).1
chosen_is log good e (inr h) here = absurd (h here)

stamp_in : (log : List Entry) → IsLog log → Entry → ℕ → ℕ
stamp_in log good e = chosen log good e (in_or e log)

stamp_in_is : (log : List Entry) (good : IsLog log) (e : Entry) → IsIn e log → IsStamp log e (stamp_in log good e)
unfolding stamp_in
stamp_in_is log good e here = chosen_is log good e (in_or e log) here

pub covered_within : (l : Lane) (f : ℕ) → IsFrontier l f → l.covered ≤ f
covered_within l f is = go (cases_lt f l.covered)
  where
    go : (f < l.covered) ⊎ (l.covered ≤ f) → l.covered ≤ f
    go (inl h) = absurd (is.ends (inl (omega arith)))
    go (inr h) = h

-- the stamp of a stored entry is within the frontiers
stored_within : (log stored : List Entry) (held : List Lane) (e : Entry) (s : ℕ → ℕ) → IsLog stored
    → IsClosed log stored → HoldsOf log stored held → IsStamp log e s → IsIn e stored → (u : ℕ)
    → s u ≤ frontier_of held u
stored_within log stored held e s good_stored closed holds st here u = go (st.reached u)
  where
    go : (s u ≡ 0) ⊎ ((f : Entry) × IsIn f log × (f.thread ≡ u) × (f.number ≡ s u) × PrecedesOrIs log f e)
        → s u ≤ frontier_of held u
    go (inl z) = omega arith
    go (inr (f, hf, t, n, p)) =
        let within = (number_within stored f good_stored (back p)).1 in
        let counted : f.number ≤ entries u stored = subst (λ (v : ℕ). f.number ≤ entries v stored) t within in
        let covered : (lane held u).covered ≡ entries u stored = holds.covered u in
        let known : (lane held u).covered ≤ frontier_of held u =
        covered_within (lane held u) (frontier_of held u) (frontier_is held u) in
        let number : f.number ≡ s u = n in
        omega arith
      where
        back : PrecedesOrIs log f e → IsIn f stored
        back (inl same) = subst (λ (g : Entry). IsIn g stored) (sym same) here
        back (inr q) = closed_down log stored f e closed q here

pub part_is_closed_part : (log stored : List Entry) (held new : List Lane) → IsLog log → IsLog stored
    → IsClosed log stored → ((e : Entry) → IsIn e stored → IsIn e log) → HoldsOf log stored held → IsClosedOf held new
    → IsClosedPart log stored (held_entries held) (held_entries new)
part_is_closed_part log stored held new good good_stored closed kept holds part =
    closed_part log stored (held_entries held) (held_entries new) (stamp_in log good) (frontier_of held) good
    (λ e h. held_in_log log stored held e holds h) closed kept (stamp_in_is log good)
    (frontiers_are_defined log stored held good good_stored kept holds) only each
  where
    -- the stamp of a held entry is its stamp in the log
    stamp_of : (t n : ℕ) (s : StampedEntry) (e : Entry) → entry_at (lane held t) n ≡ Some s → plain_entry s ≡ e
        → (u : ℕ) → slice_index s.stamp u ≡ stamp_in log good e u
    stamp_of t n s e q p u =
        let of = holds.of_log t n s q in
        let here = subst (λ (f : Entry). IsIn f log) p of.2 in
        stamp_unique log e (λ v. slice_index s.stamp v) (stamp_in log good e)
        (subst (λ (f : Entry). IsStamp log f (λ v. slice_index s.stamp v)) p of.3) (stamp_in_is log good e here) u

    only : (e : Entry) → IsIn e (held_entries new)
        → IsIn e (held_entries held) × (IsIn e stored ⊎ ((u : ℕ) → stamp_in log good e u ≤ frontier_of held u))
    only e h =
        let r = held_at new e h in
        let old = (part r.0 r.1 r.2).0 r.3 in (
          at_held held e r.0 r.1 r.2 old.0 r.4,
          inr (λ u. subst (λ (n : ℕ). n ≤ frontier_of held u) (stamp_of r.0 r.1 r.2 e old.0 r.4 u)
              (within_frontiers held r.2.stamp old.1 u)),
        )

    each : (e : Entry) → IsIn e (held_entries held)
        → IsIn e stored ⊎ ((u : ℕ) → stamp_in log good e u ≤ frontier_of held u) → IsIn e (held_entries new)
    each e h low =
        let r = held_at held e h in
        let within : (u : ℕ) → stamp_in log good e u ≤ frontier_of held u = below low in
        at_held new e r.0 r.1 r.2 ((part r.0 r.1 r.2).1 (
          r.3,
          frontiers_within held r.2.stamp
              (λ u. subst (λ (n : ℕ). n ≤ frontier_of held u) (sym (stamp_of r.0 r.1 r.2 e r.3 r.4 u)) (within u)),
        )) r.4
      where
        below : IsIn e stored ⊎ ((u : ℕ) → stamp_in log good e u ≤ frontier_of held u) → (u : ℕ)
            → stamp_in log good e u ≤ frontier_of held u
        below (inl here) = stored_within log stored held e (stamp_in log good e) good_stored closed holds
            (stamp_in_is log good e (kept e here)) here
        below (inr k) = k

pub part_holds : (log stored : List Entry) (held new : List Lane) → HoldsOf log stored held → IsClosedOf held new
    → ((t : ℕ) → (lane new t).covered ≡ (lane held t).covered) → HoldsOf log stored new
part_holds log stored held new holds part same =
    record { covered = λ t. same t ∙ holds.covered t; of_log = λ t n e q. holds.of_log t n e ((part t n e).0 q).0 }

-- Covering

uncovered : (old new : Lane) (count n : ℕ) (s : StampedEntry) → CoversUpTo old new count → entry_at new n ≡ Some s
    → (count < n) × (entry_at old n ≡ Some s)
uncovered old new count n s covers q = go (cases_lt count n)
  where
    go : (count < n) ⊎ (n ≤ count) → (count < n) × (entry_at old n ≡ Some s)
    go (inl past) =
        let above : nat_le n count ≡ false = grind (arith, nat_tests) in
        (past, sym (ap (λ (b : Bool). cond b None (entry_at old n)) above) ∙ sym (covers.held n) ∙ q)
    go (inr up) =
        let within : nat_le n count ≡ true = grind (arith, nat_tests) in
        let none : entry_at new n ≡ None = covers.held n ∙ ap (λ (b : Bool). cond b None (entry_at old n)) within in
        absurd (cc)

still_there : (old new : Lane) (count n : ℕ) (s : StampedEntry) → CoversUpTo old new count → count < n
    → entry_at old n ≡ Some s → entry_at new n ≡ Some s
still_there old new count n s covers past q =
    let above : nat_le n count ≡ false = grind (arith, nat_tests) in
    covers.held n ∙ ap (λ (b : Bool). cond b None (entry_at old n)) above ∙ q

pub covering_holds : (log stored later : List Entry) (held new : List Lane) → HoldsOf log stored held
    → ((t : ℕ) → CoversUpTo (lane held t) (lane new t) (entries t later)) → HoldsOf log later new
covering_holds log stored later held new holds covers = record {
  covered = λ t. (covers t).covered;
  of_log = λ t n e q. holds.of_log t n e (uncovered (lane held t) (lane new t) (entries t later) n e (covers t) q).1;
}

covers_fresh : CoversUpTo fresh_lane fresh_lane 0
covers_fresh = record { covered = refl; held = λ n. same n (nat_le n 0) }
  where
    same : (n : ℕ) (b : Bool) → entry_at fresh_lane n ≡ cond b None (entry_at fresh_lane n)
    same n true = refl
    same n false = refl

pub covers_each : (later : List Entry) (held new : List Lane) (counts : List ℕ) → length new ≡ length held
    → ((t : ℕ) → length held ≤ t → entries t later ≡ 0)
    → ((t : ℕ) → t < length held → slice_index counts t ≡ entries t later)
    → ((t : ℕ) → t < length held → CoversUpTo (lane held t) (lane new t) (slice_index counts t)) → (t : ℕ)
    → CoversUpTo (lane held t) (lane new t) (entries t later)
covers_each later held new counts same none are covers t = go (cases_lt t (length held))
  where
    go : (t < length held) ⊎ (length held ≤ t) → CoversUpTo (lane held t) (lane new t) (entries t later)
    go (inl low) = subst (λ (n : ℕ). CoversUpTo (lane held t) (lane new t) n) (are t low) (covers t low)
    go (inr past) = rw (lane_past held t past, lane_past new t (omega arith), none t past) covers_fresh

pub covering_keeps : (log stored later : List Entry) (held new : List Lane) (e : Entry) → IsLog log → IsLog later
    → ((f : Entry) → IsIn f later → IsIn f log) → HoldsOf log stored held
    → ((t : ℕ) → CoversUpTo (lane held t) (lane new t) (entries t later))
    → IsIn e (held_entries new) ↔ (IsIn e (held_entries held) × (IsIn e later → ⊥))
covering_keeps log stored later held new e good good_later kept holds covers = (out, back)
  where
    out : IsIn e (held_entries new) → IsIn e (held_entries held) × (IsIn e later → ⊥)
    out h =
        let r = held_named log later new e (covering_holds log stored later held new holds covers) h in
        let old = uncovered (lane held e.thread) (lane new e.thread) (entries e.thread later) e.number r.0
        (covers e.thread) r.1 in (
          at_held held e e.thread e.number r.0 old.1 r.2,
          λ here. let within = number_within later e good_later here in omega (arith, old.0, within),
        )

    back : IsIn e (held_entries held) × (IsIn e later → ⊥) → IsIn e (held_entries new)
    back (h, apart) = go (cases_lt (entries e.thread later) e.number)
      where
        go : (entries e.thread later < e.number) ⊎ (e.number ≤ entries e.thread later) → IsIn e (held_entries new)
        go (inl past) =
            let r = held_named log stored held e holds h in
            at_held new e e.thread e.number r.0
            (still_there (lane held e.thread) (lane new e.thread) (entries e.thread later) e.number r.0
            (covers e.thread) past r.1) r.2
        go (inr up) =
            let here = held_in_log log stored held e holds h in
            let within = number_within log e good here in
            let r = entry_there later e.thread e.number good_later within.0 up in
            absurd
            (apart (subst (λ (f : Entry). IsIn f later) (same_number log r.0 e good (kept r.0 r.1) here r.2 r.3) r.1))

-- One more

put_or : (held new : List Lane) (e : StampedEntry) (t n : ℕ) (s : StampedEntry)
    → PutsEntry (lane held e.thread) (lane new e.thread) e.number e
    → ((t : ℕ) → t ≢ e.thread → lane new t ≡ lane held t) → entry_at (lane new t) n ≡ Some s
    → ((e ≡ s) × (e.thread ≡ t) × (e.number ≡ n)) ⊎ (entry_at (lane held t) n ≡ Some s)
put_or held new e t n s puts others q = go (is_or t e.thread) (is_or n e.number)
  where
    go : (t ≡ e.thread) ⊎ (t ≢ e.thread) → (n ≡ e.number) ⊎ (n ≢ e.number)
        → ((e ≡ s) × (e.thread ≡ t) × (e.number ≡ n)) ⊎ (entry_at (lane held t) n ≡ Some s)
    go (inr apart) b = inr (ap (λ (l : Lane). entry_at l n) (sym (others t apart)) ∙ q)
    go (inl same) (inl at) =
        let there : entry_at (lane new e.thread) e.number ≡ Some s = rw (sym same, sym at) q in
        let both : Some e ≡ Some s = sym puts.put ∙ there in
        inl (cc, sym same, sym at)
    go (inl same) (inr apart) =
        let there : entry_at (lane new e.thread) n ≡ Some s = rw (sym same) q in
        let old : entry_at (lane held e.thread) n ≡ Some s = sym (puts.others n apart) ∙ there in
        inr (rw same old)

put_still : (held new : List Lane) (e : StampedEntry) (t n : ℕ) (s : StampedEntry)
    → PutsEntry (lane held e.thread) (lane new e.thread) e.number e
    → ((t : ℕ) → t ≢ e.thread → lane new t ≡ lane held t) → entry_at (lane held t) n ≡ Some s
    → ((e.thread ≡ t) × (e.number ≡ n)) ⊎ (entry_at (lane new t) n ≡ Some s)
put_still held new e t n s puts others q = go (is_or t e.thread) (is_or n e.number)
  where
    go : (t ≡ e.thread) ⊎ (t ≢ e.thread) → (n ≡ e.number) ⊎ (n ≢ e.number)
        → ((e.thread ≡ t) × (e.number ≡ n)) ⊎ (entry_at (lane new t) n ≡ Some s)
    go (inr apart) b = inr (ap (λ (l : Lane). entry_at l n) (others t apart) ∙ q)
    go (inl same) (inl at) = inl (sym same, sym at)
    go (inl same) (inr apart) =
        let there : entry_at (lane held e.thread) n ≡ Some s = rw (sym same) q in
        let new_too : entry_at (lane new e.thread) n ≡ Some s = puts.others n apart ∙ there in
        inr (rw same new_too)

pub one_more_holds : (log stored : List Entry) (held new : List Lane) (e : StampedEntry) → HoldsOf log stored held
    → IsIn (plain_entry e) log → IsStamp log (plain_entry e) (λ u. slice_index e.stamp u)
    → PutsEntry (lane held e.thread) (lane new e.thread) e.number e
    → ((t : ℕ) → t ≢ e.thread → lane new t ≡ lane held t) → HoldsOf log stored new
one_more_holds log stored held new e holds here st puts others = record {
  covered = λ t. covered t (is_or t e.thread);
  of_log = λ t n s q. of_log t n s (put_or held new e t n s puts others q);
}
  where
    covered : (t : ℕ) → (t ≡ e.thread) ⊎ (t ≢ e.thread) → (lane new t).covered ≡ entries t stored
    covered t (inl same) = rw same (puts.covered ∙ holds.covered e.thread)
    covered t (inr apart) = ap (λ (l : Lane). l.covered) (others t apart) ∙ holds.covered t

    of_log : (t n : ℕ) (s : StampedEntry)
        → ((e ≡ s) × (e.thread ≡ t) × (e.number ≡ n)) ⊎ (entry_at (lane held t) n ≡ Some s)
        → (s.thread ≡ t) × (s.number ≡ n) × IsIn (plain_entry s) log
        × IsStamp log (plain_entry s) (λ u. slice_index s.stamp u)
    of_log t n s (inl (same, thread, number)) =
        subst (λ (x : StampedEntry).
        (x.thread ≡ t) × (x.number ≡ n) × IsIn (plain_entry x) log
        × IsStamp log (plain_entry x) (λ u. slice_index x.stamp u)) same (thread, number, here, st)
    of_log t n s (inr old) = holds.of_log t n s old

pub one_more_held : (log stored : List Entry) (held new : List Lane) (e : StampedEntry) (f : Entry) → IsLog log
    → HoldsOf log stored held → IsIn (plain_entry e) log → PutsEntry (lane held e.thread) (lane new e.thread) e.number e
    → ((t : ℕ) → t ≢ e.thread → lane new t ≡ lane held t)
    → IsIn f (held_entries new) ↔ ((plain_entry e ≡ f) ⊎ IsIn f (held_entries held))
one_more_held log stored held new e f good holds here puts others = (out, back)
  where
    out : IsIn f (held_entries new) → (plain_entry e ≡ f) ⊎ IsIn f (held_entries held)
    out h = let r = held_at new f h in go r.0 r.1 r.2 r.4 (put_or held new e r.0 r.1 r.2 puts others r.3)
      where
        go : (t n : ℕ) (s : StampedEntry) → plain_entry s ≡ f
            → ((e ≡ s) × (e.thread ≡ t) × (e.number ≡ n)) ⊎ (entry_at (lane held t) n ≡ Some s)
            → (plain_entry e ≡ f) ⊎ IsIn f (held_entries held)
        go t n s p (inl same) = inl (ap plain_entry same.0 ∙ p)
        go t n s p (inr old) = inr (at_held held f t n s old p)

    back : (plain_entry e ≡ f) ⊎ IsIn f (held_entries held) → IsIn f (held_entries new)
    back (inl p) = at_held new f e.thread e.number e puts.put p
    back (inr h) =
        let r = held_named log stored held f holds h in
        go r.0 r.2 (put_still held new e f.thread f.number r.0 puts others r.1)
      where
        go : (s : StampedEntry) → plain_entry s ≡ f
            → ((e.thread ≡ f.thread) × (e.number ≡ f.number)) ⊎ (entry_at (lane new f.thread) f.number ≡ Some s)
            → IsIn f (held_entries new)
        go s p (inl same) =
            at_held new f e.thread e.number e puts.put
            (same_number log (plain_entry e) f good here (held_in_log log stored held f holds h) same.0 same.1)
        go s p (inr new_too) = at_held new f f.thread f.number s new_too p

-- Nothing

pub fresh_holds_none : (threads t n : ℕ) (s : StampedEntry)
    → entry_at (lane (replicate threads fresh_lane) t) n ≡ Some s → ⊥
fresh_holds_none threads t n s q = let none : entry_at fresh_lane n ≡ Some s = rw lane_of_replicate at q in cc

pub fresh_holds : (log : List Entry) (threads : ℕ) → HoldsOf log [] (replicate threads fresh_lane)
fresh_holds log threads = record {
  covered = λ t. ap (λ (l : Lane). l.covered) (lane_of_replicate threads t);
  of_log = λ t n e q. absurd (fresh_holds_none threads t n e q);
}
