-- What a sound world keeps, part by part.
use Rattle.std.proofs.Common.{◌≡◌, ℕ, ◌+◌, ◌≤◌, ◌<◌, ◌≢◌, Bool, true, false, cond, List, [], ◌∷◌, ◌++◌, refl, sym, ap}
use Rattle.std.proofs.Common.{◌∙◌, subst, inl, inr, ◌⊎◌, arith, Option}
use Rattle.std.specs.Prelude.{nat_eq}
use Rattle.entry_order.specs.Log.{Entry, entries, IsLog, IsIn, IsNext, Precedes, AtOnce, Through, PrecedesOrIs}
use Rattle.entry_order.specs.Log.{PrecedesOutput, IsClosed}
use Rattle.entry_order.proofs.Order.{is_or, number_within, entry_there, same_number}
use Rattle.entry_order.proofs.Positions.{not_precedes_itself}
use Rattle.entry_order.proofs.KeptEntries.{in_left, in_right, in_either, apart}
use Rattle.plain_machine.specs.declared.emission.Emission.{Emission}
use Rattle.plain_machine.specs.History.{Act, Took, Did, Emitted, Ended, Step, log_more, log_of}
use Rattle.plain_machine.specs.Agree.{SendsAfter}
use Rattle.plain_machine.proofs.Histories.{history_log}
use Rattle.plain_machine.proofs.LoggedEffects.{entry_thread}
use Rattle.recovery_world.specs.World.{Setting, Sent, World, inputs_fed, all_inputs}
use Rattle.recovery_world.specs.FromPlainMachine.{GoesBefore}
use Rattle.recovery_world.proofs.FromPlainMachine.{not_next}
use Rattle.recovery_world.proofs.FromPlainMachine.{next_past}
use Rattle.recovery_world.specs.declared.event.Outcome.{Outcome}
use Rattle.recovery_world.specs.Events.{IsKnown, IsAmong, MakesMove, OnStep}
use Rattle.recovery_world.specs.Finish.{IsToCome, IsLine}
use Rattle.recovery_laws.specs.Sound.{IsKept, Firm, Sound}
use Rattle.recovery_laws.specs.Facts.{SnapshotsStand, LineStands, ReleasedStands, WaitingStands}
use Rattle.recovery_laws.proofs.LedMoves.{led_log}
use Rattle.recovery_laws.proofs.Worlds.{line_of, known_here}
use Rattle.recovery_laws.proofs.Finishes.{of_line}
use Rattle.recovery_laws.proofs.Replays.{never_stuck}

pub snapshots_stand : {V : Type 0} (s : Setting V) (w : World V) → Sound s w → SnapshotsStand w
snapshots_stand s w h = record { stored = h.firm.stored; copied = h.firm.copied; down = h.firm.down }

pub waiting_stands : {V : Type 0} (s : Setting V) (w : World V) → Sound s w → WaitingStands w
waiting_stands s w h = record { sent = h.firm.sent; not_due = h.waits; once = h.firm.once }

-- a closed set that has an entry has all that precedes it
closed_back : (log set : List Entry) → IsClosed log set → (e f : Entry) → Precedes log e f → IsIn f set → IsIn e set
closed_back log set c e f (AtOnce he hf n) i = c e f he i n
closed_back log set c e f (Through {g = g} he n p) i = c e g he (closed_back log set c g f p i) n

-- a thread has made as many entries as when it sent an output, or more
more_entries : {V : Type 0} (t : ℕ) (a : Act V) (log : List Entry) → entries t log ≤ entries t (log_more a log)
more_entries t (Took k) log = omega arith
more_entries t (Did e left) log = go (nat_eq e.thread t)
  where
    go : (b : Bool) → entries t log ≤ cond b (entries t log + 1) (entries t log)
    go true = omega arith
    go false = omega arith
more_entries t (Emitted o) log = omega arith
more_entries t (Ended k) log = omega arith

pub sent_after : {V : Type 0} (steps : List (Step V)) (o : Emission) (n : ℕ) → SendsAfter steps o n
    → n ≤ entries o.thread (log_of steps)
sent_after [] o n h = absurd h
sent_after (x ∷ steps) o n (inl h) = let k = more_entries o.thread x.act (log_of steps) in omega (arith, k, h.1)
sent_after (x ∷ steps) o n (inr h) =
    let k = more_entries o.thread x.act (log_of steps) in let r = sent_after steps o n h in omega (arith, k, r)

module _ {V : Type 0} (s : Setting V) (w : World V) (h : Firm s w) (line : List (Step V)) (l : IsLine s w line) where
  -- an entry of a line is one of the log that stands for it
  pub from_line : (e : Entry) → IsIn e (log_of line) → IsIn e (h.more ++ log_of w.past)
  from_line e i = go (in_either e l.more (log_of w.past)
      (subst (λ (x : List Entry). IsIn e x) (led_log w.past l.more line l.led) i))
    where
      go : IsIn e l.more ⊎ IsIn e (log_of w.past) → IsIn e (h.more ++ log_of w.past)
      go (inl k) = in_left e h.more (log_of w.past) ((h.to_come e).1 ((l.to_come e).0 k))
      go (inr k) = in_right e h.more (log_of w.past) k

  pub line_stands : LineStands w line
  line_stands = record {
    keeps = λ e i. of_line s w h line l e (h.held e i);
    once = h.held_once;
    followed = h.held_on;
    closed = λ e f he hf n. h.only e (h.closed e f (from_line e he) (h.follows f hf) n);
    made = λ e i. made e (in_either e h.more (log_of w.past) (h.held e i));
  }
    where
      made : (e : Entry) → IsIn e h.more ⊎ IsIn e (log_of w.past) → IsIn e w.followed ⊎ IsIn e (log_of w.past)
      made e (inl i) = inl ((h.to_come e).0 i).0
      made e (inr i) = inr i

  pub released_stands : (o : Sent) → IsAmong o w.released → ReleasedStands w line o
  released_stands o i = record { reached = reached; known = known }
    where
      k : IsKept s w (h.more ++ log_of w.past) o
      k = h.released o i

      good : IsLog (log_of line)
      good = history_log s.meaning (all_inputs s) s.threads line l.history

      run_log : IsLog (log_of k.run)
      run_log = history_log s.meaning (inputs_fed s w.fed) s.threads k.run k.history

      -- the last entry before it
      last_there : o.after ≢ 0 → (g : Entry) × IsIn g k.before × (g.thread ≡ o.emission.thread) × (g.number ≡ o.after)
      last_there some =
          let g = entry_there (log_of k.run) o.emission.thread o.after run_log (omega (arith, some))
          (sent_after k.run o.emission o.after k.sends) in
          (g.0, k.precedes g.0 (g.0, g.1, g.2, g.3, inl refl), g.2, g.3)

      in_line : (g : Entry) → IsIn g k.before → IsIn g (log_of line)
      in_line g j = of_line s w h line l g (known_here s w h g (k.known g j))

      reached : o.after ≤ entries o.emission.thread (log_of line)
      reached = go (is_or o.after 0)
        where
          go : (o.after ≡ 0) ⊎ (o.after ≢ 0) → o.after ≤ entries o.emission.thread (log_of line)
          go (inl q) = omega (arith, q)
          go (inr some) =
              let g = last_there some in
              let n = number_within (log_of line) g.0 good (in_line g.0 g.1) in
              let u : entries g.0.thread (log_of line) ≡ entries o.emission.thread (log_of line) =
              ap (λ (t : ℕ). entries t (log_of line)) g.2 in
              omega (arith, n, u, g.3)

      known : (e : Entry) → PrecedesOutput (log_of line) o.emission.thread o.after e → IsKnown w e
      known e (last, here, th, n, q) = go (is_or o.after 0)
        where
          go : (o.after ≡ 0) ⊎ (o.after ≢ 0) → IsKnown w e
          go (inl z) = let low = number_within (log_of line) last good here in absurd (omega (arith, low, n, z))
          go (inr some) = at (last_there some)
            where
              at : (g : Entry) × IsIn g k.before × (g.thread ≡ o.emission.thread) × (g.number ≡ o.after) → IsKnown w e
              at (g, j, gt, gn) = k.known e (pick q)
                where
                  one : g ≡ last
                  one = same_number (log_of line) g last good (in_line g j) here (gt ∙ sym th) (gn ∙ sym n)

                  member : IsIn last k.before
                  member = subst (λ (z : Entry). IsIn z k.before) one j

                  closed : IsClosed (log_of line) k.before
                  closed a b ha hb x = k.closed_here a b (from_line a ha) hb x

                  pick : PrecedesOrIs (log_of line) e last → IsIn e k.before
                  pick (inl same) = subst (λ (z : Entry). IsIn z k.before) (sym same) member
                  pick (inr p) = closed_back (log_of line) k.before closed e last p member

-- The oldest of the entries to come has none of them as an immediate predecessor.
first_there : (more past : List Entry) → IsLog (more ++ past) → (f : Entry) → IsIn f more
    → (g : Entry) × IsIn g more × ((e : Entry) → IsIn e more → IsNext e g → ⊥)
first_there [] past good f i = absurd i
first_there (x ∷ []) past good f i = (x, inl refl, alone)
  where
    alone : (e : Entry) → IsIn e (x ∷ []) → IsNext e x → ⊥
    alone e (inl same) n = not_precedes_itself (x ∷ past) x good
        (AtOnce (inl refl) (inl refl) (subst (λ (z : Entry). IsNext z x) (sym same) n))
    alone e (inr i) n = i
first_there (x ∷ y ∷ more) past good f i = go (first_there (y ∷ more) past good.2 y (inl refl))
  where
    go : ((g : Entry) × IsIn g (y ∷ more) × ((e : Entry) → IsIn e (y ∷ more) → IsNext e g → ⊥))
        → (g : Entry) × IsIn g (x ∷ y ∷ more) × ((e : Entry) → IsIn e (x ∷ y ∷ more) → IsNext e g → ⊥)
    go (g, here, first) = (g, inr here, never)
      where
        never : (e : Entry) → IsIn e (x ∷ y ∷ more) → IsNext e g → ⊥
        never e (inr j) n = first e j n
        never e (inl same) n = apart (x ∷ []) (y ∷ more ++ past) e good (inl same)
            (next_past (x ∷ []) (y ∷ more ++ past) e g good (inl same) (in_left g (y ∷ more) past here) n)

-- While a followed entry is to come, there is one that no other to come precedes at once; and its thread makes a move.
pub to_come_first : {V : Type 0} (s : Setting V) (w : World V) → Sound s w → (f : Entry) → IsToCome w f
    → (g : Entry) × IsToCome w g × ((e : Entry) → IsToCome w e → IsNext e g → ⊥)
to_come_first s w h f come =
    let r = first_there h.firm.more (log_of w.past) h.firm.log f ((h.firm.to_come f).1 come) in
    (r.0, (h.firm.to_come r.0).0 r.1, λ e c n. r.2 e ((h.firm.to_come e).1 c) n)

-- an entry to come is of a thread that there is
pub to_come_thread : {V : Type 0} (s : Setting V) (w : World V) → Sound s w → (f : Entry) → IsToCome w f
    → f.thread < s.threads
to_come_thread s w h f come =
    let l = line_of s w h.firm h.firm.more h.firm.log (λ e i. i) in
    entry_thread s.meaning (inputs_fed s w.fed) s.threads l.line f l.history (subst (λ (x : List Entry). IsIn f x)
    (sym l.log_is) (in_left f h.firm.more (log_of w.past) ((h.firm.to_come f).1 come)))

pub followed_moves : {V : Type 0} (s : Setting V) (w : World V) (f : Entry) → Sound s w → IsToCome w f
    → ((g : Entry) → IsToCome w g → IsNext g f → ⊥) → w.up ≡ true → (given : Option ℕ) (to : Outcome) (new : World V)
    → OnStep s w f.thread given to new → MakesMove s w f.thread given to new
followed_moves s w f h come first up given to new on =
    never_stuck s w h.firm f come first up (to_come_thread s w h f come) given to new on

-- The first entry to come by weight, then thread, has none to come as an immediate predecessor; so its thread makes a
-- move.
pub lightest_moves : {V : Type 0} (s : Setting V) (w : World V) (line : List (Step V)) (f : Entry) → Sound s w
    → IsLine s w line → IsToCome w f → ((g : Entry) → IsToCome w g → (g ≡ f) ⊎ GoesBefore (log_of line) f g)
    → w.up ≡ true → (given : Option ℕ) (to : Outcome) (new : World V) → OnStep s w f.thread given to new
    → MakesMove s w f.thread given to new
lightest_moves s w line f h l come lightest up given to new on = followed_moves s w f h come first up given to new on
  where
    good : IsLog (log_of line)
    good = history_log s.meaning (all_inputs s) s.threads line l.history

    in_line : (g : Entry) → IsToCome w g → IsIn g (log_of line)
    in_line g c = of_line s w h.firm line l g (in_left g h.firm.more (log_of w.past) ((h.firm.to_come g).1 c))

    low : (g : Entry) → IsIn g (log_of line) → g.thread < s.threads
    low g i = entry_thread s.meaning (all_inputs s) s.threads line g l.history i

    first : (g : Entry) → IsToCome w g → IsNext g f → ⊥
    first g c n = go (lightest g c)
      where
        go : (g ≡ f) ⊎ GoesBefore (log_of line) f g → ⊥
        go (inl same) = not_precedes_itself (log_of line) f good
            (AtOnce (in_line f come) (in_line f come) (subst (λ (z : Entry). IsNext z f) same n))
        go (inr before) = not_next s.threads (log_of line) good low g f (in_line g c) (in_line f come) before n
