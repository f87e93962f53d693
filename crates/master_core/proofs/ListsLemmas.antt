-- The list of moves that a master stands for grows by each move that it makes.
use Rattle.std.proofs.Common.{◌≡◌, ℕ, ◌≤◌, List, [], ◌∷◌, ◌++◌, length, ap, ◌∙◌, refl, arith, Ok}
use Rattle.plain_text.specs.declared.packet.Packet.{Packet}
use Rattle.plain_machine.specs.declared.plain_move.PlainMove.{PlainMove}
use Rattle.plain_machine.specs.Program.{Meaning}
use Rattle.plain_machine.specs.History.{Step, moves_of, and_move, plain_move, play}
use Rattle.plain_machine.proofs.PlayedLists.{play_append}
use Rattle.plain_machine.proofs.Histories.{moves_step}
use Rattle.master_core.specs.declared.step.Stepped.{Stepped}
use Rattle.master_core.specs.declared.step.Stepped.TheVariants as stepped
use Rattle.master_core.specs.Mastered.{Mastered}
use Rattle.master_core.specs.MasterStanding.{Stands, StandsFor}
use Rattle.master_core.specs.Stepping.{Makes, Follows, MadeOne}

pub grown : {X : Type 0} (m : Meaning X) (inputs : ℕ → List Packet) (threads : ℕ) (moves : List PlainMove)
    (steps next : List (Step X)) (plain : PlainMove) (p : Mastered X) → play m inputs threads moves ≡ Ok steps
    → plain_move m inputs threads steps plain ≡ Ok next → Stands m threads next p
    → StandsFor m inputs threads (moves ++ plain ∷ []) p
grown m inputs threads moves steps next plain p e n stands = record {
  steps = next;
  legal =
      play_append m inputs threads (Ok []) moves (plain ∷ [])
      ∙ (ap (λ r. and_move m inputs threads r plain) e ∙ rw n refl);
  stands = stands;
}

made_grown : {X : Type 0} (m : Meaning X) (inputs : ℕ → List Packet) (threads : ℕ) (moves : List PlainMove)
    (steps : List (Step X)) (plain : PlainMove) (p : Mastered X) (Does : Step X → Type 0)
    → play m inputs threads moves ≡ Ok steps → Makes m inputs threads steps plain p Does
    → StandsFor m inputs threads (moves ++ plain ∷ []) p
made_grown m inputs threads moves steps plain p Does e h =
    grown m inputs threads moves steps (h.step ∷ steps) plain p e h.plain_is h.stands

pub followed_grown : {X : Type 0} (m : Meaning X) (inputs : ℕ → List Packet) (threads : ℕ) (moves : List PlainMove)
    (steps : List (Step X)) (plain : PlainMove) (did : Stepped) (p : Mastered X)
    → play m inputs threads moves ≡ Ok steps → Follows m inputs threads steps plain did p → MadeOne did
    → StandsFor m inputs threads (moves ++ plain ∷ []) p
followed_grown m inputs threads moves steps plain (stepped.Took k) p e h one =
    made_grown m inputs threads moves steps plain p _ e h
followed_grown m inputs threads moves steps plain (stepped.Did entry) p e h one =
    made_grown m inputs threads moves steps plain p _ e h
followed_grown m inputs threads moves steps plain (stepped.Emitted o) p e h one =
    made_grown m inputs threads moves steps plain p _ e h
followed_grown m inputs threads moves steps plain (stepped.Ended k) p e h one =
    made_grown m inputs threads moves steps plain p _ e h
followed_grown m inputs threads moves steps plain stepped.Idle p e h one = absurd one
followed_grown m inputs threads moves steps plain (stepped.NotTurn u n) p e h one = absurd one
followed_grown m inputs threads moves steps plain stepped.NoMemory p e h one = absurd one

pub moves_within : {X : Type 0} (t : ℕ) (steps : List (Step X)) → moves_of t steps ≤ length steps
moves_within t [] = omega arith
moves_within t (x ∷ steps) =
    let k : moves_of t steps ≤ length steps = moves_within t steps in omega (arith, moves_step t x steps)
