-- The master after a move stands for the history with it.
use Rattle.std.proofs.Common.{◌≡◌, ℕ, ◌+◌, ◌<◌, ◌≢◌, List, ◌∷◌, length-set, refl, sym, ap, ◌∙◌, subst, inl, inr, ◌⊎◌}
use Rattle.std.proofs.Common.{arith}
use Rattle.std.specs.Prelude.{slice_index, slice_index_or, slice_set}
use Rattle.std.proofs.lemmas.List.{get_or-set_same, get_or-set_other}
use Rattle.entry_order.specs.declared.what.What.{What}
use Rattle.entry_order.specs.declared.what.What.TheVariants.{Access, Read}
use Rattle.entry_order.specs.Log.{Entry, entries, places, IsLog}
use Rattle.entry_order.specs.Stamps.{IsStamp, bumped}
use Rattle.entry_order.proofs.Order.{is_or}
use Rattle.access_log.specs.declared.entry.StampedEntry.{StampedEntry}
use Rattle.plain_machine.specs.Program.{Meaning}
use Rattle.plain_machine.specs.Machine.{Thread, Effect}
use Rattle.plain_machine.specs.History.{Step, log_of, entry_of, step_of}
use Rattle.master_core.specs.declared.parts.VarPart.{VarPart}
use Rattle.master_core.specs.declared.parts.ThreadPart.{ThreadPart}
use Rattle.master_core.specs.Mastered.{Mastered}
use Rattle.master_core.specs.MasterStanding.{IsVariable, IsThread, Stands}
use Rattle.master_core.specs.Stepping.{plain_entry}
use Rattle.master_core.specs.Effects.{next_entry, HasStamp, before_touch, before_read}
use Rattle.master_core.proofs.EntryStamps.{touch_stamp, read_stamp, own_stamp, stamp_by}
use Rattle.master_core.proofs.Threads.{other_on}
use Rattle.master_core.proofs.Variables.{HasVariables, OnNone, touch_is_log, look_is_log, told_is_log}

-- a master stands on: its variables and the thread that moved are as the step says, and the other threads stay
pub stands_on : {V : Type 0} (m : Meaning V) (threads : ℕ) (steps : List (Step V)) (p : Mastered V) (t : ℕ)
    (after : Thread) (effect : Effect V) (vars : List (VarPart V)) (part : ThreadPart) → Stands m threads steps p
    → t < threads → IsLog (log_of (step_of t steps after effect ∷ steps))
    → HasVariables m (step_of t steps after effect ∷ steps) vars
    → IsThread (step_of t steps after effect ∷ steps) t part
    → Stands m threads (step_of t steps after effect ∷ steps)
    (record { vars = vars; threads = slice_set p.threads t part })
stands_on {V} m threads steps p t after effect vars part is below good has own = record {
  log = good;
  var = has;
  threads_are = simp length-set is.threads_are;
  thread = λ u d low. go u d low (is_or t u);
}
  where
    next : List (Step V)
    next = step_of t steps after effect ∷ steps

    go : (u : ℕ) (d : ThreadPart) → u < threads → (t ≡ u) ⊎ (t ≢ u)
        → IsThread next u (slice_index_or (slice_set p.threads t part) u d)
    go u d low (inl same) = subst (λ (w : ℕ). IsThread next w (slice_index_or (slice_set p.threads t part) w d)) same
        (subst (λ (x : ThreadPart). IsThread next t x)
        (sym (get_or-set_same p.threads t part d (omega (arith, is.threads_are)))) own)
    go u d low (inr apart) =
        subst (λ (x : ThreadPart). IsThread next u x) (sym (get_or-set_other p.threads t u part d (λ w. apart (sym w))))
        (other_on steps t u after effect (slice_index_or p.threads u d) apart good (is.thread u d low))

-- the entry of a log that a stamped entry is
entry_is : (log : List Entry) (t : ℕ) (part : ThreadPart) (what other : What) (e : StampedEntry)
    → e ≡ next_entry t part what e.stamp → part.counts.entries ≡ entries t log → what ≡ other
    → plain_entry e ≡ entry_of t log other
entry_is log t part what other e is count same =
    ap plain_entry is
    ∙ (ap (λ (n : ℕ). record { thread = t; number = n + 1; what = what }) count
    ∙ ap (λ (w : What). record { thread = t; number = entries t log + 1; what = w }) same)

-- its stamp, where it has this join
has_stamp : (log : List Entry) (e : StampedEntry) (x : Entry) (join : ℕ → ℕ) → plain_entry e ≡ x → HasStamp e join
    → IsStamp (x ∷ log) x (bumped x join) → IsStamp (x ∷ log) x (λ u. slice_index e.stamp u)
has_stamp log e x join is has st = stamp_by (x ∷ log) x (bumped x join) (λ u. slice_index e.stamp u) st
    (λ u. has u ∙ ap (λ (y : Entry). bumped y join u) is)

-- A logged move of a thread: the entry is the next one of the log, and has its stamp.
pub record Logs {V : Type 0} (steps : List (Step V)) (t : ℕ) (what : What) (e : StampedEntry) : Type 0 where
  pub entry : plain_entry e ≡ entry_of t (log_of steps) what
  pub stamp : IsStamp (entry_of t (log_of steps) what ∷ log_of steps) (entry_of t (log_of steps) what)
      (λ u. slice_index e.stamp u)

pub touch_logs : {V : Type 0} (m : Meaning V) (steps : List (Step V)) (t v : ℕ) (part : ThreadPart) (x : VarPart V)
    (e : StampedEntry) → IsLog (log_of steps) → IsThread steps t part → IsVariable m steps v x
    → e ≡ next_entry t part (Access v (x.places + 1)) e.stamp → HasStamp e (before_touch part x)
    → Logs steps t (Access v (places v (log_of steps) + 1)) e
touch_logs m steps t v part x e good th is entry has =
    let log = log_of steps in
    let same : plain_entry e ≡ entry_of t log (Access v (places v log + 1)) = entry_is log t part
    (Access v (x.places + 1)) (Access v (places v log + 1)) e entry th.logged (ap (λ n. Access v (n + 1)) is.places) in
    record {
      entry = same;
      stamp =
          has_stamp log e (entry_of t log (Access v (places v log + 1))) (before_touch part x) same has (touch_stamp log
          (entry_of t log (Access v (places v log + 1))) v (λ u. slice_index part.stamp u) (λ u. slice_index x.stamp u)
          (λ u. slice_index x.readers u) (touch_is_log log t v good) refl th.stamp is.touched is.looked);
    }

pub look_logs : {V : Type 0} (m : Meaning V) (steps : List (Step V)) (t v : ℕ) (part : ThreadPart) (x : VarPart V)
    (e : StampedEntry) → IsLog (log_of steps) → IsThread steps t part → IsVariable m steps v x
    → e ≡ next_entry t part (Read v x.places) e.stamp → HasStamp e (before_read part x)
    → Logs steps t (Read v (places v (log_of steps))) e
look_logs m steps t v part x e good th is entry has =
    let log = log_of steps in
    let same : plain_entry e ≡ entry_of t log (Read v (places v log)) =
    entry_is log t part (Read v x.places) (Read v (places v log)) e entry th.logged (ap (λ n. Read v n) is.places) in
    record {
      entry = same;
      stamp = has_stamp log e (entry_of t log (Read v (places v log))) (before_read part x) same has
          (read_stamp log (entry_of t log (Read v (places v log))) v (λ u. slice_index part.stamp u)
          (λ u. slice_index x.stamp u) (look_is_log log t v good) refl th.stamp is.touched);
    }

pub told_logs : {V : Type 0} (steps : List (Step V)) (t : ℕ) (what : What) (part : ThreadPart) (e : StampedEntry)
    → OnNone what → IsLog (log_of steps) → IsThread steps t part → e ≡ next_entry t part what e.stamp
    → HasStamp e (λ u. slice_index part.stamp u) → Logs steps t what e
told_logs steps t what part e none good th entry has =
    let log = log_of steps in
    let same : plain_entry e ≡ entry_of t log what = entry_is log t part what what e entry th.logged refl in
    record {
      entry = same;
      stamp = has_stamp log e (entry_of t log what) (λ u. slice_index part.stamp u) same has
          (own_stamp log (entry_of t log what) (λ u. slice_index part.stamp u) (told_is_log log t what none good) none.0
          none.1 th.stamp);
    }
