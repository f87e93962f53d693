-- The counts of entries of a master, by the log that it stands for.
use Rattle.std.proofs.Common.{◌≡◌, ℕ, zero, suc, ◌+◌, ◌≤◌, ◌<◌, List, [], ◌∷◌, length, refl, sym, ◌∙◌, inl, inr, ◌⊎◌}
use Rattle.std.proofs.Common.{arith}
use Rattle.std.specs.Prelude.{slice_index, sum}
use Rattle.std.proofs.lemmas.Bool.{cases_lt}
use Rattle.plain_text.specs.declared.packet.Packet.{Packet}
use Rattle.entry_order.specs.Log.{Entry, entries, IsIn}
use Rattle.entry_order.specs.Stamps.{sum_below}
use Rattle.entry_order.proofs.Weights.{sum_below_same, sum_below_more, sum_below_list}
use Rattle.plain_machine.specs.Program.{Meaning}
use Rattle.plain_machine.specs.History.{Step, log_of, IsHistory}
use Rattle.plain_machine.proofs.Histories.{is_eq, not_eq}
use Rattle.plain_machine.proofs.LoggedEffects.{entry_thread}
use Rattle.master_core.specs.Mastered.{Mastered}
use Rattle.master_core.specs.MasterStanding.{Stands}
use Rattle.master_core.specs.Deltas.{HasCounts}
use Rattle.master_core.proofs.FreshLemmas.{fresh_part}
use Rattle.master_core.proofs.Moments.{none_past_threads}

pub counted : {V : Type 0} (m : Meaning V) (inputs : ℕ → List Packet) (threads : ℕ) (steps : List (Step V))
    (p : Mastered V) (counts : List ℕ) → IsHistory m inputs threads steps → Stands m threads steps p
    → HasCounts p.threads counts → (t : ℕ) → slice_index counts t ≡ entries t (log_of steps)
counted m inputs threads steps p counts h is has t = go (cases_lt t threads)
  where
    go : (t < threads) ⊎ (threads ≤ t) → slice_index counts t ≡ entries t (log_of steps)
    go (inl low) = has.each t fresh_part (omega (arith, is.threads_are)) ∙ (is.thread t fresh_part low).logged
    go (inr past) = has.none t (omega (arith, is.threads_are)) ∙ sym (none_past_threads m inputs threads steps t h past)

none_sum : (n : ℕ) → sum_below n (λ t. entries t []) ≡ 0
none_sum zero = refl
none_sum (suc n) = let k : sum_below n (λ t. entries t []) ≡ 0 = none_sum n in omega arith

-- each entry is one of a thread
pub entries_sum : (n : ℕ) (log : List Entry) → ((e : Entry) → IsIn e log → e.thread < n)
    → sum_below n (λ t. entries t log) ≡ length log
entries_sum n [] low = none_sum n
entries_sum n (e ∷ log) low =
    let old : sum_below n (λ t. entries t log) ≡ length log = entries_sum n log (λ f i. low f (inr i)) in
    let one : sum_below n (λ t. entries t (e ∷ log)) ≡ sum_below n (λ t. entries t log) + 1 =
    sum_below_more n e.thread (λ t. entries t (e ∷ log)) (λ t. entries t log) (low e (inl refl))
    (rw (is_eq e.thread e.thread refl) refl) (λ u ne. rw (not_eq e.thread u (λ k. ne (sym k))) refl) in
    omega arith

pub counts_add_up : {V : Type 0} (m : Meaning V) (inputs : ℕ → List Packet) (threads : ℕ) (steps : List (Step V))
    (p : Mastered V) (counts : List ℕ) → IsHistory m inputs threads steps → Stands m threads steps p
    → HasCounts p.threads counts → threads ≤ length counts → sum counts ≡ length (log_of steps)
counts_add_up m inputs threads steps p counts h is has room =
    sym (sum_below_list counts)
    ∙ (sum_below_same (length counts) (λ u. slice_index counts u) (λ u. entries u (log_of steps))
    (λ u low. counted m inputs threads steps p counts h is has u)
    ∙ entries_sum (length counts) (log_of steps)
    (λ e i. let k : e.thread < threads = entry_thread m inputs threads steps e h i in omega arith))
