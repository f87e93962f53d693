-- A run of the plain machine stays one where its threads have more inputs.
use Rattle.std.proofs.Common.{◌≡◌, ℕ, List, [], ◌∷◌, Some}
use Rattle.std.specs.Prelude.{slice_get}
use Rattle.plain_machine.specs.FromPlainText.{Packet}
use Rattle.plain_machine.specs.Program.{Meaning}
use Rattle.plain_machine.specs.History.{Step, IsHistory}
use Rattle.plain_machine.proofs.QuietMoves.{more_inputs}

-- a history stays one where the threads have more inputs
pub history_more : {V : Type 0} (m : Meaning V) (inputs more : ℕ → List Packet) (threads : ℕ)
    → ((t k : ℕ) (p : Packet) → slice_get (inputs t) k ≡ Some p → slice_get (more t) k ≡ Some p) → (xs : List (Step V))
    → IsHistory m inputs threads xs → IsHistory m more threads xs
history_more m inputs more threads grow [] h = tt
history_more m inputs more threads grow (x ∷ xs) h =
    (more_inputs m inputs threads more grow x xs h.0, history_more m inputs more threads grow xs h.1)
