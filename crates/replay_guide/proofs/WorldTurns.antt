-- The turn of a guide and that of the world that it guides are one.
use Rattle.std.proofs.Common.{◌≡◌, ℕ, ◌+◌, ◌<◌, ◌≤◌, ◌⊎◌, ◌↔◌, ◌++◌, Bool, false, List, Option, Some, None, IsSome}
use Rattle.std.proofs.Common.{slice_index, refl, sym, ap, ◌∙◌, subst, inl, inr, ⊎_elim, arith}
use Rattle.std.proofs.lemmas.Bool.{cases_lt}
use Rattle.entry_order.specs.declared.what.What.{What}
use Rattle.entry_order.specs.declared.what.What.TheVariants.{Access, Read}
use Rattle.entry_order.specs.Log.{Entry, entries, places, IsLog, IsIn, Keeps, PrecedesOrIs}
use Rattle.entry_order.specs.Stamps.{IsStamp}
use Rattle.entry_order.specs.Closed.{IsNoLater, IsClosedOver}
use Rattle.entry_order.proofs.Order.{number_within, place_within, entry_there, same_number, same_place}
use Rattle.entry_order.proofs.Joins.{stamp_there}
use Rattle.entry_order.proofs.ClosedParts.{in_or}
use Rattle.entry_order.proofs.KeptEntries.{in_left, in_right}
use Rattle.plain_machine.specs.History.{log_of, entry_of}
use Rattle.plain_machine.proofs.Histories.{history_log}
use Rattle.access_log.specs.declared.entry.StampedEntry.{StampedEntry}
use Rattle.access_log.specs.Held.{Lane, lane, entry_at, IsKnown}
use Rattle.master_core.specs.Holding.{held_entries, HoldsOf}
use Rattle.master_core.specs.Stamped.{IsReadersStamp}
use Rattle.master_core.specs.Stepping.{plain_entry}
use Rattle.master_core.proofs.HeldEntries.{held_named, at_held}
use Rattle.recovery_laws.specs.FromRecoveryWorld.{Setting, World, inputs_fed}
use Rattle.recovery_laws.specs.FromRecoveryWorld.{IsReadToCome, IsTouchToCome, IsAwaited}
use Rattle.recovery_laws.specs.Sound.{Sound}
use Rattle.replay_guide.specs.Following.{Follows, CanBeFollowed}
use Rattle.replay_guide.specs.Turns.{IsPendingRead, IsFirstPending, NoneIsPending, WaitsFor}
use Rattle.replay_guide.specs.Worlds.{Guides}

abbrev entry_as : ℕ → ℕ → What → Entry
entry_as t n what = record { thread = t; number = n; what = what }

module _ (line past followed : List Entry) (guide : List Lane) (good_line : IsLog line) (good : IsLog past)
    (keeps : Keeps line past) (of_line : Keeps line followed) (guides : Guides followed past guide) where
  pub next_not_made : (t : ℕ) (what : What) → IsIn (entry_of t past what) past → ⊥
  next_not_made t what h = let within = number_within past (entry_of t past what) good h in omega (arith, within.1)

  pub next_followed : (t : ℕ) (what : What)
      → IsIn (entry_of t past what) followed ↔ Follows guide t (entries t past + 1) what
  next_followed t what = guides (entry_of t past what) (next_not_made t what)

  touch_not_made : (e : Entry) (v : ℕ) → e.what ≡ Access v (places v past + 1) → IsIn e past → ⊥
  touch_not_made e v what h =
      let within = place_within past e v (places v past + 1) good h what in omega (arith, within.1)

  touch_from : (v u m : ℕ) → Follows guide u m (Access v (places v past + 1))
      → IsTouchToCome followed past v (entry_as u m (Access v (places v past + 1)))
  touch_from v u m follows =
      let e = entry_as u m (Access v (places v past + 1)) in ((guides e (touch_not_made e v refl)).1 follows, refl)

  touch_to : (v : ℕ) (e : Entry) → IsTouchToCome followed past v e
      → Follows guide e.thread e.number (Access v (places v past + 1))
  touch_to v e (here, what) =
      subst (λ (w : What). Follows guide e.thread e.number w) what ((guides e (touch_not_made e v what)).0 here)

  module _ (v : ℕ) (readers : List ℕ) (stamp : IsReadersStamp past v (λ x. slice_index readers x)) where
    pending_not_made : (u m : ℕ) → slice_index readers u < m → IsIn (entry_as u m (Read v (places v past))) past → ⊥
    pending_not_made u m above h =
        let e = entry_as u m (Read v (places v past)) in
        let s = stamp_there past e good h in
        let own : m ≤ s.0 u = s.1.above e h (inl refl) in
        let up : s.0 u ≤ slice_index readers u = stamp.above e s.0 h refl s.1 u in
        omega arith

    read_from : (u m : ℕ) → IsPendingRead guide v (places v past) readers u m
        → IsReadToCome followed past v (entry_as u m (Read v (places v past)))
    read_from u m pending =
        let e = entry_as u m (Read v (places v past)) in
        let new = pending_not_made u m pending.1 in
        ((guides e new).1 pending.0, refl, new)

    -- an entry up to which the readers came was made
    reached_made : (e : Entry) → IsIn e followed → e.number ≤ slice_index readers e.thread → IsIn e past
    reached_made e here low =
        let one = (number_within line e good_line (of_line e here)).0 in
        go one (stamp.reached e.thread)
      where
        made : 1 ≤ e.number → e.number ≤ entries e.thread past → IsIn e past
        made one up =
            let g = entry_there past e.thread e.number good one up in
            let same : g.0 ≡ e = same_number line g.0 e good_line (keeps g.0 g.1) (of_line e here) g.2 g.3 in
            subst (λ (f : Entry). IsIn f past) same g.1

        by_stamp : 1 ≤ e.number → (st : ℕ → ℕ) (f : Entry) → IsStamp past f st
            → st e.thread ≡ slice_index readers e.thread
            → (st e.thread ≡ 0)
            ⊎ ((g : Entry) × IsIn g past × (g.thread ≡ e.thread) × (g.number ≡ st e.thread) × PrecedesOrIs past g f)
            → IsIn e past
        by_stamp one st f is same (inl zero) = absurd (omega arith)
        by_stamp one st f is same (inr (g, at, thread, number, rest)) =
            let within = (number_within past g good at).1 in
            let up : g.number ≤ entries e.thread past = subst (λ (t : ℕ). g.number ≤ entries t past) thread within in
            made one (omega arith)

        go : 1 ≤ e.number
            → (slice_index readers e.thread ≡ 0)
            ⊎ ((f : Entry) × (st : ℕ → ℕ) × IsIn f past × (f.what ≡ Read v (places v past)) × IsStamp past f st
            × (st e.thread ≡ slice_index readers e.thread)) → IsIn e past
        go one (inl zero) = absurd (omega arith)
        go one (inr (f, st, at, what, is, same)) = by_stamp one st f is same (is.reached e.thread)

    read_to : (e : Entry) → IsReadToCome followed past v e
        → IsPendingRead guide v (places v past) readers e.thread e.number
    read_to e (here, what, new) = (
      subst (λ (w : What). Follows guide e.thread e.number w) what ((guides e new).0 here),
      ⊎_elim (λ (h : slice_index readers e.thread < e.number). h) (λ low. absurd (new (reached_made e here low)))
          (cases_lt (slice_index readers e.thread) e.number),
    )

    module _ (t : ℕ) (read : Bool) where
      abbrev Waits : ℕ → ℕ → Type 0
      Waits u m = WaitsFor guide t (entries t past + 1) v read (places v past) readers u m

      none_to : NoneIsPending guide v read (places v past) readers → read ≡ false → (f : Entry)
          → IsReadToCome followed past v f → ⊥
      none_to none is f to_come = none is f.thread f.number (read_to f to_come)

      none_from : (read ≡ false → (f : Entry) → IsReadToCome followed past v f → ⊥)
          → NoneIsPending guide v read (places v past) readers
      none_from none is u m pending = none is (entry_as u m (Read v (places v past))) (read_from u m pending)

      pub waits_awaited : (u m : ℕ) → Waits u m
          → (e : Entry) × IsAwaited followed past t v read e × (e.thread ≡ u) × (e.number ≡ m)
      waits_awaited u m w = go w.which
        where
          own : IsIn (entry_of t past (Read v (places v past))) followed → ⊥
          own h = w.not_own_read ((next_followed t (Read v (places v past))).0 h)

          go : ((read ≡ false) × IsFirstPending guide v (places v past) readers u m)
              ⊎ (NoneIsPending guide v read (places v past) readers
              × Follows guide u m (Access v (places v past + 1))
              × ((u ≡ t) × (m ≡ entries t past + 1) → ⊥))
              → (e : Entry) × IsAwaited followed past t v read e × (e.thread ≡ u) × (e.number ≡ m)
          go (inl (is, first)) = (
            entry_as u m (Read v (places v past)),
            record {
              not_own_read = own;
              which =
                  inl (is, read_from u m first.pending, λ f to_come. first.first f.thread f.number (read_to f to_come));
            },
            refl,
            refl,
          )
          go (inr (none, follows, other)) = (
            entry_as u m (Access v (places v past + 1)),
            record { not_own_read = own; which = inr (none_to none, touch_from v u m follows, other) },
            refl,
            refl,
          )

      pub awaited_waits : (e : Entry) → IsAwaited followed past t v read e → Waits e.thread e.number
      awaited_waits e a = record {
        not_own_read = λ h. a.not_own_read ((next_followed t (Read v (places v past))).1 h);
        which = go a.which;
      }
        where
          go : ((read ≡ false)
              × IsReadToCome followed past v e
              × ((f : Entry) → IsReadToCome followed past v f → IsNoLater e f))
              ⊎ ((read ≡ false → (f : Entry) → IsReadToCome followed past v f → ⊥)
              × IsTouchToCome followed past v e
              × ((e.thread ≡ t) × (e.number ≡ entries t past + 1) → ⊥))
              → ((read ≡ false) × IsFirstPending guide v (places v past) readers e.thread e.number)
              ⊎ (NoneIsPending guide v read (places v past) readers
              × Follows guide e.thread e.number (Access v (places v past + 1))
              × ((e.thread ≡ t) × (e.number ≡ entries t past + 1) → ⊥))
          go (inl (is, to_come, first)) = inl (
            is,
            record {
              pending = read_to e to_come;
              first = λ w k pending. first (entry_as w k (Read v (places v past))) (read_from w k pending);
            },
          )
          go (inr (none, to_come, other)) = inr (none_from none, touch_to v e to_come, other)

      pub waits_are_awaited : (u m : ℕ)
          → Waits u m ↔ ((e : Entry) × IsAwaited followed past t v read e × (e.thread ≡ u) × (e.number ≡ m))
      waits_are_awaited u m = (
        waits_awaited u m,
        λ r.
            let at : Waits r.0.thread r.0.number = awaited_waits r.0 r.1 in
            subst (λ (x : ℕ). Waits x m) r.2 (subst (λ (y : ℕ). Waits r.0.thread y) r.3 at),
      )

-- The log of a sound world keeps its past, and what is followed.
module _ {V : Type 0} (s : Setting V) (w : World V) (sound : Sound s w) where
  abbrev pub line_log : List Entry
  line_log = sound.firm.more ++ log_of w.past

  pub line_good : IsLog line_log
  line_good = sound.firm.log

  pub past_good : IsLog (log_of w.past)
  past_good = history_log s.meaning (inputs_fed s w.fed) s.threads w.past sound.firm.legal

  pub past_kept : Keeps line_log (log_of w.past)
  past_kept e h = in_right e sound.firm.more (log_of w.past) h

  pub followed_kept : Keeps line_log w.followed
  followed_kept e h = ⊎_elim (λ made. past_kept e made)
      (λ new. in_left e sound.firm.more (log_of w.past) ((sound.firm.to_come e).1 (h, new))) (in_or e (log_of w.past))

-- Held sets that are closed can be followed.
pub closed_can : (log stored : List Entry) (held : List Lane) → IsLog log → IsLog stored → HoldsOf log stored held
    → IsClosedOver log stored (held_entries held) → CanBeFollowed held
closed_can log stored held good stored_good holds closed =
    record { gapless = λ t n some. gap t n (entry_at (lane held t) (n + 1)) refl some; apart = apart }
  where
    known : (t n : ℕ) (g e : Entry) → g.thread ≡ t → g.number ≡ n → IsIn g (held_entries held) ⊎ IsIn g stored
        → IsKnown (lane held t) n
    known t n g e thread number (inl h) =
        let r = held_named log stored held g holds h in
        let there : entry_at (lane held t) n ≡ Some r.0 = subst (λ (u : ℕ). entry_at (lane held u) n ≡ Some r.0) thread
        (subst (λ (k : ℕ). entry_at (lane held g.thread) k ≡ Some r.0) number r.1) in
        inr (rw there refl)
    known t n g e thread number (inr h) =
        let within = (number_within stored g stored_good h).1 in
        let covered = holds.covered t in
        let up : g.number ≤ entries t stored = subst (λ (u : ℕ). g.number ≤ entries u stored) thread within in
        inl (omega arith)

    before : (t n : ℕ) (s : StampedEntry) → entry_at (lane held t) (n + 1) ≡ Some s → 1 ≤ n → IsKnown (lane held t) n
    before t n s here one =
        let of = holds.of_log t (n + 1) s here in
        let within = (number_within log (plain_entry s) good of.2).1 in
        let thread = of.0 in
        let number = of.1 in
        let up : s.number ≤ entries t log = subst (λ (u : ℕ). s.number ≤ entries u log) thread within in
        let g = entry_there log t n good one (omega arith) in
        let of_thread : g.0.thread ≡ s.thread = g.2 ∙ sym thread in
        let next : s.number ≡ g.0.number + 1 = omega (arith, g.3) in
        known t n g.0 g.0 g.2 g.3
        (closed g.0 (plain_entry s) g.1 (at_held held (plain_entry s) t (n + 1) s here refl) (inl (of_thread, next)))

    gap : (t n : ℕ) (o : Option StampedEntry) → entry_at (lane held t) (n + 1) ≡ o → IsSome o → IsKnown (lane held t) n
    gap t n None here some = absurd cc
    gap t n (Some s) here some =
        ⊎_elim (λ (h : 0 < n). before t n s here (omega arith)) (λ h. inl (omega arith)) (cases_lt 0 n)

    apart : (v place t n u m : ℕ) → Follows held t n (Access v place) → Follows held u m (Access v place)
        → (t ≡ u) × (n ≡ m)
    apart v place t n u m (a, at_a, what_a) (b, at_b, what_b) =
        let of_a = holds.of_log t n a at_a in
        let of_b = holds.of_log u m b at_b in
        let same : plain_entry a ≡ plain_entry b =
        same_place log (plain_entry a) (plain_entry b) v place good of_a.2 of_b.2 what_a what_b in (
          sym of_a.0 ∙ ap (λ (e : Entry). e.thread) same ∙ of_b.0,
          sym of_a.1 ∙ ap (λ (e : Entry). e.number) same ∙ of_b.1,
        )

-- what is held is what is followed under its own name
pub held_follows : (log stored : List Entry) (held guide : List Lane) (e : Entry) → HoldsOf log stored held
    → ((t : ℕ) → lane guide t ≡ lane held t) → IsIn e (held_entries held) ↔ Follows guide e.thread e.number e.what
held_follows log stored held guide e holds same = (to, from)
  where
    to : IsIn e (held_entries held) → Follows guide e.thread e.number e.what
    to h =
        let r = held_named log stored held e holds h in (
          r.0,
          subst (λ (l : Lane). entry_at l e.number ≡ Some r.0) (sym (same e.thread)) r.1,
          ap (λ (f : Entry). f.what) r.2,
        )

    named : (s : StampedEntry) → s.thread ≡ e.thread → s.number ≡ e.number → s.what ≡ e.what → plain_entry s ≡ e
    named s a b c = made s.thread e.thread s.number e.number s.what e.what a b c
      where
        made : (i j k l : ℕ) (p q : What) → i ≡ j → k ≡ l → p ≡ q → entry_as i k p ≡ entry_as j l q
        made i j k l p q a b c = rw (a, b, c) refl

    from : Follows guide e.thread e.number e.what → IsIn e (held_entries held)
    from (s, here, what) =
        let there : entry_at (lane held e.thread) e.number ≡ Some s =
        subst (λ (l : Lane). entry_at l e.number ≡ Some s) (same e.thread) here in
        let of = holds.of_log e.thread e.number s there in
        at_held held e e.thread e.number s there (named s of.0 of.1 what)
