-- What the threads of a round did, as their calls answered it: the newest move of a thread stands first.
use Rattle.std.specs.Prelude.{◌≡◌, ℕ, List, [], ◌∷◌}
use Rattle.plain_text.specs.declared.packet.Packet.{Packet}
use Rattle.access_log.specs.Held.{Lane}
use Rattle.plain_machine.specs.Program.{Meaning}
use Rattle.master_core.specs.declared.parts.ThreadPart.{ThreadPart}
use Rattle.var_locks.specs.declared.view.Note.{Note}
use Rattle.var_locks.specs.Notes.{AreFed, answer_in}
use Rattle.var_locks.specs.Seats.{Seated}
use Rattle.round_events.specs.Done.{AreDone}
use Rattle.round_events.specs.Shown.{IsShown}
use Rattle.round_join.specs.declared.noting.Made.{Made}

-- the move is the one that the note of thread t tells of: what it was told, and what its call answered
pub record IsMadeBy {V : Type 0} (m : Meaning V) (t : ℕ) (n : Note V) (x : Made) : Type 0 where
  pub thread : x.thread ≡ t
  pub answer : x.answer ≡ answer_in n.trace
  pub shown : IsShown m t n x.stepped

-- each is the one that its note tells of
abbrev pub AreMadeBy : {V : Type 0} → Meaning V → ℕ → List (Note V) → List Made → Type 0
AreMadeBy m t [] [] = Unit {0}
AreMadeBy m t [] (x ∷ moves) = ⊥
AreMadeBy m t (n ∷ notes) [] = ⊥
AreMadeBy m t (n ∷ notes) (x ∷ moves) = IsMadeBy m t n x × AreMadeBy m t notes moves

-- The thread of a seat, which had this part at first, did these moves, with inputs of its own.
pub record Works {V : Type 0} (m : Meaning V) (guide : List Lane) (inputs : ℕ → List Packet) (first : ThreadPart)
    (x : Seated V) (moves : List Made) : Type 0 where
  pub done : AreDone m guide x.thread first x.notes x.part
  pub fed : AreFed (inputs x.thread) x.notes
  pub made : AreMadeBy m x.thread x.notes moves

-- those of all seats did, by their numbers
abbrev pub AllWork : {V : Type 0} → Meaning V → List Lane → (ℕ → List Packet) → List ThreadPart → List (Seated V)
    → List (List Made) → Type 0
AllWork m guide inputs [] [] [] = Unit {0}
AllWork m guide inputs [] [] (l ∷ lists) = ⊥
AllWork m guide inputs [] (x ∷ seats) lists = ⊥
AllWork m guide inputs (p ∷ parts) [] lists = ⊥
AllWork m guide inputs (p ∷ parts) (x ∷ seats) [] = ⊥
AllWork m guide inputs (p ∷ parts) (x ∷ seats) (l ∷ lists) =
    Works m guide inputs p x l × AllWork m guide inputs parts seats lists
