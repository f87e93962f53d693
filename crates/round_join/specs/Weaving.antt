-- The woven receipts of a round as the steps of a plan's round.
use Rattle.std.specs.Prelude.{◌≡◌, ℕ, ◌≤◌, List, [], ◌∷◌, ◌++◌, Ok}
use Rattle.plain_text.specs.declared.packet.Packet.{Packet}
use Rattle.plain_machine.specs.declared.plain_move.PlainMove.{PlainMove}
use Rattle.plain_machine.specs.Program.{Meaning}
use Rattle.plain_machine.specs.History.{Step, play}
use Rattle.plan_script.specs.Rounds.{AreWoven}
use Rattle.round_order.specs.Receipts.{Receipt, Receipts, after}
use Rattle.round_order.specs.Linked.{IsLinked}
use Rattle.round_order.specs.Woven.{IsWoven}

-- the steps of receipts, newest first
abbrev pub steps_in : {V : Type 0} → List (Receipt V) → List (Step V)
steps_in [] = []
steps_in (r ∷ earlier) = r.step ∷ steps_in earlier

-- The steps of linked receipts in the woven order stand as a plan's round has them, and lead to the history after them.
abbrev pub WovenSteps : Type 0 → Type 0
WovenSteps X =
    (m : Meaning X) (inputs : ℕ → List Packet) (threads : ℕ) (moves : List PlainMove) (past : List (Step X))
    (rs : Receipts X) (order : List (Receipt X)) → threads ≤ 16 → play m inputs threads moves ≡ Ok past
    → IsLinked m inputs threads past rs → IsWoven rs order
    → (after order past ≡ steps_in order ++ past) × AreWoven past (steps_in order)
