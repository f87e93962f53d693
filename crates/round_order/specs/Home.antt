-- What is at home of a variable while threads race, and what each thread has: the parts of a master, at the opening of
-- a round, as its receipts grow, and at its end.
use Rattle.std.specs.Prelude.{◌≡◌, ℕ, ◌+◌, ◌<◌, ◌≤◌, ◌⊎◌, List, length, slice_index, slice_index_or, Ok}
use Rattle.plain_text.specs.declared.packet.Packet.{Packet}
use Rattle.entry_order.specs.declared.what.What.TheVariants.{Access, Read}
use Rattle.entry_order.specs.Log.{Entry, entries, places}
use Rattle.box_program.specs.Hands.{local_in}
use Rattle.plain_machine.specs.declared.plain_move.PlainMove.{PlainMove}
use Rattle.plain_machine.specs.Program.{Meaning}
use Rattle.plain_machine.specs.History.{Step, log_of, sent_of, outputs, moves_of, value_after, thread_after, play}
use Rattle.master_core.specs.declared.parts.VarPart.{VarPart}
use Rattle.master_core.specs.declared.parts.ThreadPart.{ThreadPart}
use Rattle.master_core.specs.Mastered.{Mastered, moves_made}
use Rattle.master_core.specs.MasterStanding.{Stands}
use Rattle.round_order.specs.Receipts.{Receipt, Receipts, no_receipts, InRound, after, IsTouch, IsRead}
use Rattle.round_order.specs.Linked.{IsJoinOf, IsLinked}
use Rattle.round_order.specs.Woven.{IsOrder}

-- The value that the newest touch of the variable left, with the stamp of this touch, and the join of the stamps of the
-- reads since; where the round has no touch of it, the opening value and stamp.
pub record IsHome {V : Type 0} (m : Meaning V) (past : List (Step V)) (rs : Receipts V) (v : ℕ)
    (x : VarPart V) : Type 0 where
  pub from : places v (log_of past) ≤ x.places
  pub value :
      ((x.places ≡ places v (log_of past)) × (x.value ≡ value_after m past v))
      ⊎ ((f : Receipt V) × InRound rs f × IsTouch f v x.value × (f.place + 1 ≡ x.places))
  pub touches : (f : Receipt V) (y : V) → InRound rs f → IsTouch f v y → f.place < x.places
  pub reads : (f : Receipt V) → InRound rs f → IsRead f v → f.place ≤ x.places
  pub stamp : IsJoinOf past rs (λ d. d.what ≡ Access v x.places) (λ u. slice_index x.stamp u)
  pub readers : IsJoinOf past rs (λ d. d.what ≡ Read v x.places) (λ u. slice_index x.readers u)

-- how many entries a thread has by now, those before the round included
abbrev pub count : {V : Type 0} → List (Step V) → Receipts V → ℕ → ℕ
count past rs t = entries t (log_of (after (rs t) past))

-- entry n of thread t
abbrev pub IsEntryOf : ℕ → ℕ → Entry → Type 0
IsEntryOf t n d = (d.thread ≡ t) × (d.number ≡ n)

-- What a thread has: its counts, its packet in hand, and the stamp of its last entry.
pub record IsSeat {V : Type 0} (past : List (Step V)) (rs : Receipts V) (t : ℕ) (part : ThreadPart) : Type 0 where
  pub taken : part.counts.taken ≡ (thread_after (after (rs t) past) t).taken
  pub logged : part.counts.entries ≡ count past rs t
  pub outputs : part.counts.outputs ≡ outputs t (sent_of (after (rs t) past))
  pub hand : part.hand ≡ local_in (thread_after (after (rs t) past) t).hand
  pub made : moves_made part ≡ moves_of t (after (rs t) past)
  pub stamp : IsJoinOf past rs (IsEntryOf t (count past rs t)) (λ u. slice_index part.stamp u)

-- When a round begins, what is at home and what each thread has are the parts of its master.
abbrev pub Opening : Type 0 → Type 0
Opening X = (m : Meaning X) (threads : ℕ) (past : List (Step X)) (p : Mastered X) → Stands m threads past p
    → ((v : ℕ) (d : VarPart X) → v < m.vars → IsHome m past no_receipts v (slice_index_or p.vars v d))
    × ((t : ℕ) (d : ThreadPart) → t < threads → IsSeat past no_receipts t (slice_index_or p.threads t d))

-- At its end, what is at home and what each thread has make a master that stands for the woven list.
abbrev pub Closing : Type 0 → Type 0
Closing X =
    (m : Meaning X) (inputs : ℕ → List Packet) (threads : ℕ) (moves : List PlainMove) (past : List (Step X))
    (rs : Receipts X) (order : List (Receipt X)) (q : Mastered X) → threads ≤ 16 → play m inputs threads moves ≡ Ok past
    → IsLinked m inputs threads past rs → IsOrder rs order → length q.threads ≡ threads
    → ((v : ℕ) (d : VarPart X) → v < m.vars → IsHome m past rs v (slice_index_or q.vars v d))
    → ((t : ℕ) (d : ThreadPart) → t < threads → IsSeat past rs t (slice_index_or q.threads t d))
    → Stands m threads (after order past) q
