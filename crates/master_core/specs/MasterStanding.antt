-- Which runs of the plain machine a master stands for.
use Rattle.std.specs.Prelude.{◌≡◌, ℕ, ◌<◌, List, length, slice_index, slice_index_or, Ok}
use Rattle.plain_text.specs.declared.packet.Packet.{Packet}
use Rattle.entry_order.specs.Log.{entries, places, IsLog}
use Rattle.entry_order.specs.Stamps.{IsOutputStamp}
use Rattle.box_program.specs.Hands.{local_in}
use Rattle.plain_machine.specs.declared.plain_move.PlainMove.{PlainMove}
use Rattle.plain_machine.specs.Program.{Meaning}
use Rattle.plain_machine.specs.History.{Step, log_of, sent_of, outputs, moves_of, value_after, thread_after, play}
use Rattle.master_core.specs.declared.parts.VarPart.{VarPart}
use Rattle.master_core.specs.declared.parts.ThreadPart.{ThreadPart}
use Rattle.master_core.specs.Mastered.{Mastered, moves_made}
use Rattle.master_core.specs.Stamped.{IsTouchStamp, IsReadersStamp}

-- what the history tells of a variable: its value, how often it was touched, the stamp of its last touch, and the join
-- of those of the reads since
pub record IsVariable {V : Type 0} (m : Meaning V) (steps : List (Step V)) (v : ℕ) (part : VarPart V) : Type 0 where
  pub value : part.value ≡ value_after m steps v
  pub places : part.places ≡ places v (log_of steps)
  pub touched : IsTouchStamp (log_of steps) v (λ u. slice_index part.stamp u)
  pub looked : IsReadersStamp (log_of steps) v (λ u. slice_index part.readers u)

-- what the history tells of a thread: its counts, its packet in hand, and the stamp of what it sends out next
pub record IsThread {V : Type 0} (steps : List (Step V)) (t : ℕ) (part : ThreadPart) : Type 0 where
  pub taken : part.counts.taken ≡ (thread_after steps t).taken
  pub logged : part.counts.entries ≡ entries t (log_of steps)
  pub outputs : part.counts.outputs ≡ outputs t (sent_of steps)
  pub hand : part.hand ≡ local_in (thread_after steps t).hand
  pub made : moves_made part ≡ moves_of t steps
  pub stamp : IsOutputStamp (log_of steps) t (entries t (log_of steps)) (λ u. slice_index part.stamp u)

-- The master is where the machine with this number of threads is after this history, whose logged moves are a log.
pub record Stands {V : Type 0} (m : Meaning V) (threads : ℕ) (steps : List (Step V)) (p : Mastered V) : Type 0 where
  pub log : IsLog (log_of steps)
  pub var : (v : ℕ) (d : VarPart V) → v < m.vars → IsVariable m steps v (slice_index_or p.vars v d)
  pub threads_are : length p.threads ≡ threads
  pub thread : (t : ℕ) (d : ThreadPart) → t < threads → IsThread steps t (slice_index_or p.threads t d)

-- The master stands for a list of moves: it is where the machine is after them.
pub record StandsFor {V : Type 0} (m : Meaning V) (inputs : ℕ → List Packet) (threads : ℕ) (moves : List PlainMove)
    (p : Mastered V) : Type 0 where
  pub steps : List (Step V)
  pub legal : play m inputs threads moves ≡ Ok steps
  pub stands : Stands m threads steps p
