-- What was stored is an earlier moment of a history: its log is closed in the later one, and counts no more entries.
use Rattle.std.proofs.Common.{◌≡◌, ℕ, ◌≤◌, ◌<◌, List, [], ◌∷◌, ◌++◌, sym, subst, inl, inr, ◌⊎◌, arith, slice_index}
use Rattle.std.proofs.lemmas.Bool.{cases_lt}
use Rattle.plain_text.specs.declared.packet.Packet.{Packet}
use Rattle.entry_order.specs.Log.{Entry, entries, IsLog, IsIn, IsClosed}
use Rattle.entry_order.specs.Stamps.{IsStamp}
use Rattle.entry_order.proofs.Order.{entries_grow, next_stands, entry_there}
use Rattle.entry_order.proofs.KeptEntries.{in_right, before_past}
use Rattle.entry_order.proofs.Parts.{stamp_stays}
use Rattle.plain_machine.specs.Program.{Meaning}
use Rattle.plain_machine.specs.History.{Step, log_of, IsHistory}
use Rattle.plain_machine.specs.Agree.{IsEarlier}
use Rattle.plain_machine.proofs.Histories.{history_log, earlier_history, earlier_log}
use Rattle.plain_machine.proofs.Recoveries.{later_log}
use Rattle.plain_machine.proofs.LoggedEffects.{entry_thread}
use Rattle.access_log.specs.Held.{Lane}
use Rattle.master_core.specs.Holding.{HoldsOf}
use Rattle.master_core.specs.Stepping.{plain_entry}

-- Over a log that goes on from a past

closed_past : (later past : List Entry) → IsLog (later ++ past) → IsClosed (later ++ past) past
closed_past later past good e f he hf n =
    before_past later past e f good (next_stands (later ++ past) e f good he (in_right f later past hf) n) hf

entries_past : (t : ℕ) (later past : List Entry) → entries t past ≤ entries t (later ++ past)
entries_past t [] past = omega arith
entries_past t (x ∷ later) past =
    let older : entries t past ≤ entries t (later ++ past) = entries_past t later past in
    let more : entries t (later ++ past) ≤ entries t (x ∷ (later ++ past)) = entries_grow t x (later ++ past) in
    omega arith

stamp_past : (later past : List Entry) (e : Entry) (s : ℕ → ℕ) → IsLog (later ++ past) → IsIn e past → IsStamp past e s
    → IsStamp (later ++ past) e s
stamp_past [] past e s good here st = st
stamp_past (x ∷ later) past e s good here st =
    stamp_stays x (later ++ past) e s good (in_right e later past here) (stamp_past later past e s good.2 here st)

-- Over a history

pub moment_log : {V : Type 0} (m : Meaning V) (inputs : ℕ → List Packet) (threads : ℕ) (steps earlier : List (Step V))
    → IsHistory m inputs threads steps → IsEarlier earlier steps → IsLog (log_of earlier)
moment_log m inputs threads steps earlier h e =
    history_log m inputs threads earlier (earlier_history m inputs threads earlier steps e h)

pub moment_closed : {V : Type 0} (m : Meaning V) (inputs : ℕ → List Packet) (threads : ℕ)
    (steps earlier : List (Step V)) → IsHistory m inputs threads steps → IsEarlier earlier steps
    → IsClosed (log_of steps) (log_of earlier)
moment_closed m inputs threads steps earlier h e =
    let split = later_log earlier steps e in
    let good = subst (λ (l : List Entry). IsLog l) split.1 (history_log m inputs threads steps h) in
    subst (λ (l : List Entry). IsClosed l (log_of earlier)) (sym split.1) (closed_past split.0 (log_of earlier) good)

pub moment_entries : {V : Type 0} (t : ℕ) (steps earlier : List (Step V)) → IsEarlier earlier steps
    → entries t (log_of earlier) ≤ entries t (log_of steps)
moment_entries t steps earlier e =
    let split = later_log earlier steps e in
    subst (λ (l : List Entry). entries t (log_of earlier) ≤ entries t l) (sym split.1)
    (entries_past t split.0 (log_of earlier))

pub moment_stamp : {V : Type 0} (m : Meaning V) (inputs : ℕ → List Packet) (threads : ℕ) (steps earlier : List (Step V))
    (e : Entry) (s : ℕ → ℕ) → IsHistory m inputs threads steps → IsEarlier earlier steps → IsIn e (log_of earlier)
    → IsStamp (log_of earlier) e s → IsStamp (log_of steps) e s
moment_stamp m inputs threads steps earlier e s h before here st =
    let split = later_log earlier steps before in
    let good = subst (λ (l : List Entry). IsLog l) split.1 (history_log m inputs threads steps h) in
    subst (λ (l : List Entry). IsStamp l e s) (sym split.1) (stamp_past split.0 (log_of earlier) e s good here st)

-- no other thread has entries
pub none_past_threads : {V : Type 0} (m : Meaning V) (inputs : ℕ → List Packet) (threads : ℕ) (steps : List (Step V))
    (t : ℕ) → IsHistory m inputs threads steps → threads ≤ t → entries t (log_of steps) ≡ 0
none_past_threads m inputs threads steps t h past = go (cases_lt 0 (entries t (log_of steps)))
  where
    go : (0 < entries t (log_of steps)) ⊎ (entries t (log_of steps) ≤ 0) → entries t (log_of steps) ≡ 0
    go (inl some) =
        let r = entry_there (log_of steps) t 1 (history_log m inputs threads steps h) (omega arith) (omega arith) in
        let low : r.0.thread < threads = entry_thread m inputs threads steps r.0 h r.1 in
        let of : r.0.thread ≡ t = r.2 in
        absurd (omega arith)
    go (inr none) = omega arith

-- what is held of a log is held of it as it grows
pub holds_later : {V : Type 0} (m : Meaning V) (inputs : ℕ → List Packet) (threads : ℕ) (steps now : List (Step V))
    (stored : List Entry) (held : List Lane) → IsHistory m inputs threads steps → IsEarlier now steps
    → HoldsOf (log_of now) stored held → HoldsOf (log_of steps) stored held
holds_later m inputs threads steps now stored held h before holds = record {
  covered = holds.covered;
  of_log = λ t n e q.
      let of = holds.of_log t n e q in (
        of.0,
        of.1,
        earlier_log now steps (plain_entry e) before of.2,
        moment_stamp m inputs threads steps now (plain_entry e) (λ u. slice_index e.stamp u) h before of.2 of.3,
      );
}
