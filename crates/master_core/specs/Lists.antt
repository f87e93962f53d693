-- The lists of moves that masters stand for.
use Rattle.std.specs.Prelude.{◌≡◌, ℕ, ◌≤◌, List, [], ◌∷◌, ◌++◌, length, Ok}
use Rattle.plain_text.specs.declared.packet.Packet.{Packet}
use Rattle.entry_order.specs.Log.{IsLog}
use Rattle.plain_machine.specs.declared.plain_move.PlainMove.{PlainMove}
use Rattle.plain_machine.specs.Program.{Meaning}
use Rattle.plain_machine.specs.History.{Step, log_of, moves_of, plain_move, play, IsHistory}
use Rattle.master_core.specs.declared.step.Stepped.{Stepped}
use Rattle.master_core.specs.Mastered.{Mastered}
use Rattle.master_core.specs.MasterStanding.{Stands, StandsFor}
use Rattle.master_core.specs.Stepping.{Follows, MadeOne}

-- a master that stands for no move stands for the empty list
abbrev pub StartsList : Type 0 → Type 0
StartsList X =
    (m : Meaning X) (inputs : ℕ → List Packet) (threads : ℕ) (p : Mastered X) → Stands m threads [] p
    → StandsFor m inputs threads [] p

-- where a master stood for a list, and stands for its history with one more move, it stands for the list with this move
abbrev pub GrowsList : Type 0 → Type 0
GrowsList X =
    (m : Meaning X) (inputs : ℕ → List Packet) (threads : ℕ) (moves : List PlainMove) (steps next : List (Step X))
    (plain : PlainMove) (p : Mastered X) → play m inputs threads moves ≡ Ok steps
    → plain_move m inputs threads steps plain ≡ Ok next → Stands m threads next p
    → StandsFor m inputs threads (moves ++ plain ∷ []) p

-- so it is after a call that made a move
abbrev pub FollowsList : Type 0 → Type 0
FollowsList X =
    (m : Meaning X) (inputs : ℕ → List Packet) (threads : ℕ) (moves : List PlainMove) (steps : List (Step X))
    (plain : PlainMove) (did : Stepped) (p : Mastered X) → play m inputs threads moves ≡ Ok steps
    → Follows m inputs threads steps plain did p → MadeOne did → StandsFor m inputs threads (moves ++ plain ∷ []) p

-- the steps of such a list are a history, and its logged moves a log
abbrev pub HasHistory : Type 0 → Type 0
HasHistory X = (m : Meaning X) (inputs : ℕ → List Packet) (threads : ℕ) (moves : List PlainMove) (p : Mastered X)
    → (stood : StandsFor m inputs threads moves p) → IsHistory m inputs threads stood.steps × IsLog (log_of stood.steps)

-- a thread made at most as many moves as there are steps
abbrev pub MovesWithin : Type 0 → Type 0
MovesWithin X = (t : ℕ) (steps : List (Step X)) → moves_of t steps ≤ length steps
