-- Stamps in the log of a run are those in the log of an earlier moment of it.
use Rattle.std.proofs.Common.{◌≡◌, ℕ, zero, suc, ◌<◌, ◌≤◌, List, inl, inr, ◌⊎◌, arith, subst}
use Rattle.std.proofs.lemmas.Bool.{cases_lt}
use Rattle.plain_text.specs.declared.packet.Packet.{Packet}
use Rattle.entry_order.specs.Log.{Entry, entries, IsLog, IsIn}
use Rattle.entry_order.specs.Stamps.{IsStamp, IsOutputStamp}
use Rattle.entry_order.proofs.Order.{number_within, entry_there}
use Rattle.entry_order.proofs.Joins.{output_stamp_is, output_stamp_of, zero_first, first_is_zero}
use Rattle.plain_machine.proofs.OneLine.{closed_stamp}
use Rattle.plain_machine.specs.Program.{Meaning}
use Rattle.plain_machine.specs.History.{Step, log_of, IsHistory}
use Rattle.plain_machine.specs.Agree.{IsEarlier}
use Rattle.plain_machine.proofs.Histories.{history_log, earlier_history, earlier_log}
use Rattle.master_core.proofs.Moments.{moment_closed}

module _ {V : Type 0} (m : Meaning V) (inputs : ℕ → List Packet) (threads : ℕ) (past stored : List (Step V))
    (legal : IsHistory m inputs threads past) (early : IsEarlier stored past) where
  stored_legal : IsHistory m inputs threads stored
  stored_legal = earlier_history m inputs threads stored past early legal

  stored_log : IsLog (log_of stored)
  stored_log = history_log m inputs threads stored stored_legal

  past_log : IsLog (log_of past)
  past_log = history_log m inputs threads past legal

  pub stamp_back : (e : Entry) (r : ℕ → ℕ) → IsIn e (log_of stored) → IsStamp (log_of past) e r
      → IsStamp (log_of stored) e r
  stamp_back e r i st =
      closed_stamp (log_of past) (log_of stored) (log_of stored) e r
      (moment_closed m inputs threads past stored legal early) (λ x k. earlier_log stored past x early k)
      (λ x y a b n. a) (λ x k. k) i st

  pub output_back : (t n : ℕ) (r : ℕ → ℕ) → n ≤ entries t (log_of stored) → IsOutputStamp (log_of past) t n r
      → IsOutputStamp (log_of stored) t n r
  output_back t zero r low st = first_is_zero (log_of stored) t r stored_log (zero_first (log_of past) t r past_log st)
  output_back t (suc n) r low st =
      let k = entry_there (log_of stored) t (suc n) stored_log (omega arith) low in
      output_stamp_is (log_of stored) t (suc n) k.0 r stored_log k.1 k.2 k.3 (stamp_back k.0 r k.1
      (output_stamp_of (log_of past) t (suc n) k.0 r past_log (earlier_log stored past k.0 early k.1) k.2 k.3 st))

  pub few_entries : (t : ℕ) → entries t (log_of stored) ≤ entries t (log_of past)
  few_entries t = go (cases_lt (entries t (log_of past)) (entries t (log_of stored)))
    where
      go : (entries t (log_of past) < entries t (log_of stored)) ⊎ (entries t (log_of stored) ≤ entries t (log_of past))
          → entries t (log_of stored) ≤ entries t (log_of past)
      go (inr low) = low
      go (inl high) =
          let g =
          entry_there (log_of stored) t (entries t (log_of stored)) stored_log (omega (arith, high)) (omega arith) in
          let k = (number_within (log_of past) g.0 past_log (earlier_log stored past g.0 early g.1)).1 in
          let most : g.0.number ≤ entries t (log_of past) =
          subst (λ (u : ℕ). g.0.number ≤ entries u (log_of past)) g.2 k in
          let is : g.0.number ≡ entries t (log_of stored) = g.3 in
          absurd (omega (arith, most, is, high))
