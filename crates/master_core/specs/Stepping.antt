-- What a thread of a master wants next, and what one call of it did.
use Rattle.std.specs.Prelude.{◌≡◌, ℕ, ◌+◌, List, ◌∷◌, slice_index, Option, Some, None, Ok}
use Rattle.plain_text.specs.declared.packet.Packet.{Packet}
use Rattle.entry_order.specs.Log.{Entry, entries, places}
use Rattle.entry_order.specs.Stamps.{IsStamp, IsOutputStamp}
use Rattle.access_log.specs.declared.entry.StampedEntry.{StampedEntry}
use Rattle.access_log.specs.declared.entry.Output.{Output}
use Rattle.plain_machine.specs.declared.emission.Emission.{Emission}
use Rattle.plain_machine.specs.declared.local.Local.{Local}
use Rattle.plain_machine.specs.declared.local.Move.{Move}
use Rattle.plain_machine.specs.declared.local.Move.TheVariants as move
use Rattle.plain_machine.specs.declared.plain_move.PlainMove.{PlainMove}
use Rattle.plain_machine.specs.Program.{Meaning}
use Rattle.plain_machine.specs.Machine.{Hand}
use Rattle.plain_machine.specs.History.{Took, Did, Emitted, Ended, Step, log_of, thread_after, plain_move}
use Rattle.master_core.specs.declared.step.Stepped.{Stepped}
use Rattle.master_core.specs.declared.step.Stepped.TheVariants as stepped
use Rattle.master_core.specs.declared.wants.Wants.{Wants}
use Rattle.master_core.specs.declared.wants.Wants.TheVariants as wants
use Rattle.master_core.specs.Mastered.{Mastered}
use Rattle.master_core.specs.MasterStanding.{Stands}

-- the program's next move with the packet in hand; none where there is none
abbrev pub next_with : {V : Type 0} → Meaning V → Option Local → Option Move
next_with m None = None
next_with m (Some place) = Some (m.next place)

-- what a thread wants that made this number of entries, after this log, where the program's next move is this
abbrev pub wanted_by : ℕ → List Entry → Move → Wants
wanted_by t log (move.Access v) = wants.Touch (entries t log + 1) v (places v log)
wanted_by t log (move.Read v) = wants.Read (entries t log + 1) v (places v log)
wanted_by t log move.Clock = wants.Clock (entries t log + 1)
wanted_by t log move.Draw = wants.Draw (entries t log + 1)
wanted_by t log move.Emit = wants.Emit
wanted_by t log move.End = wants.End

abbrev pub wanted_in : {V : Type 0} → Meaning V → ℕ → List Entry → ℕ → Option Hand → Wants
wanted_in m t log taken None = wants.Take (taken + 1)
wanted_in m t log taken (Some h) = wanted_by t log (m.next h.place)

-- what a thread wants after a history: its next input, or the program's next move with the packet in hand
abbrev pub wanted : {V : Type 0} → Meaning V → List (Step V) → ℕ → Wants
wanted m steps t = wanted_in m t (log_of steps) (thread_after steps t).taken (thread_after steps t).hand

-- the answer that a move is told, where this one is at hand: only a clock and a draw are told one
abbrev pub told_for : Move → ℕ → Option ℕ
told_for (move.Access v) answer = None
told_for (move.Read v) answer = None
told_for move.Clock answer = Some answer
told_for move.Draw answer = Some answer
told_for move.Emit answer = None
told_for move.End answer = None

abbrev pub told_in : {V : Type 0} → Meaning V → Option Hand → ℕ → Option ℕ
told_in m None answer = None
told_in m (Some h) answer = told_for (m.next h.place) answer

-- the plain move of a thread after a history, where this answer is at hand
abbrev pub move_of : {V : Type 0} → Meaning V → List (Step V) → ℕ → ℕ → PlainMove
move_of m steps t answer = record { thread = t; answer = told_in m (thread_after steps t).hand answer }

-- an entry without its stamp
abbrev pub plain_entry : StampedEntry → Entry
plain_entry e = record { thread = e.thread; number = e.number; what = e.what }

-- an output without its stamp
abbrev pub emission_of_output : Output → Emission
emission_of_output o = record { thread = o.thread; number = o.number; input = o.input; packet = o.packet }

-- A call made this plain move, which did so, and the master stands for the history with it.
pub record Makes {V : Type 0} (m : Meaning V) (inputs : ℕ → List Packet) (threads : ℕ) (steps : List (Step V))
    (plain : PlainMove) (p : Mastered V) (Does : Step V → Type 0) : Type 0 where
  pub step : Step V
  pub plain_is : plain_move m inputs threads steps plain ≡ Ok (step ∷ steps)
  pub stands : Stands m threads (step ∷ steps) p
  pub does : Does step

-- the entry is the step's, and has its stamp in the log with it
abbrev pub DidEntry : {V : Type 0} → List (Step V) → StampedEntry → Step V → Type 0
DidEntry {V} steps e step =
    ((left : Option V) × (step.act ≡ Did (plain_entry e) left))
    × IsStamp (log_of (step ∷ steps)) (plain_entry e) (λ u. slice_index e.stamp u)

-- the output is what the step sent out, and has the stamp of its predecessors
abbrev pub EmittedOutput : {V : Type 0} → List (Step V) → Output → Step V → Type 0
EmittedOutput steps o step =
    (step.act ≡ Emitted (emission_of_output o))
    × IsOutputStamp (log_of steps) o.thread (entries o.thread (log_of steps)) (λ u. slice_index o.stamp u)

-- What an answer shows of the step that was made after a history: what it logged or sent out, with its stamp.
abbrev pub Shows : {V : Type 0} → List (Step V) → Stepped → Step V → Type 0
Shows steps (stepped.Took k) step = step.act ≡ Took k
Shows steps (stepped.Did e) step = DidEntry steps e step
Shows steps (stepped.Emitted o) step = EmittedOutput steps o step
Shows steps (stepped.Ended k) step = step.act ≡ Ended k
Shows steps stepped.Idle step = ⊥
Shows steps (stepped.NotTurn u n) step = ⊥
Shows steps stepped.NoMemory step = ⊥

-- What a call answers of the move of a thread after a history: the move that it made, or that it made none.
abbrev pub Follows : {V : Type 0} → Meaning V → (ℕ → List Packet) → ℕ → List (Step V) → PlainMove → Stepped
    → Mastered V → Type 0
Follows m inputs threads steps plain (stepped.Took k) p =
    Makes m inputs threads steps plain p (λ step. step.act ≡ Took k)
Follows m inputs threads steps plain (stepped.Did e) p = Makes m inputs threads steps plain p (DidEntry steps e)
Follows m inputs threads steps plain (stepped.Emitted o) p =
    Makes m inputs threads steps plain p (EmittedOutput steps o)
Follows m inputs threads steps plain (stepped.Ended k) p =
    Makes m inputs threads steps plain p (λ step. step.act ≡ Ended k)
Follows m inputs threads steps plain stepped.Idle p = Unit {0}
Follows m inputs threads steps plain (stepped.NotTurn u n) p = Unit {0}
Follows m inputs threads steps plain stepped.NoMemory p = Unit {0}

-- the answers that come where no move was made
abbrev pub MadeNone : Stepped → Type 0
MadeNone (stepped.Took k) = ⊥
MadeNone (stepped.Did e) = ⊥
MadeNone (stepped.Emitted o) = ⊥
MadeNone (stepped.Ended k) = ⊥
MadeNone stepped.Idle = Unit {0}
MadeNone (stepped.NotTurn u n) = Unit {0}
MadeNone stepped.NoMemory = Unit {0}

-- and those that come where one was
abbrev pub MadeOne : Stepped → Type 0
MadeOne (stepped.Took k) = Unit {0}
MadeOne (stepped.Did e) = Unit {0}
MadeOne (stepped.Emitted o) = Unit {0}
MadeOne (stepped.Ended k) = Unit {0}
MadeOne stepped.Idle = ⊥
MadeOne (stepped.NotTurn u n) = ⊥
MadeOne stepped.NoMemory = ⊥
