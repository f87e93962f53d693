-- Moves of a schedule in 8 bytes each: a thread, and where among the answers that stands which it is told.
use Rattle.std.specs.Prelude.{◌≡◌, ℕ, zero, suc, ◌+◌, ◌≤◌, List, [], ◌∷◌, ◌++◌, map, length, Option, Some, None}
use Rattle.std.specs.Prelude.{slice_get}
use Rattle.plain_machine.specs.declared.plain_move.PlainMove.{PlainMove}
use Rattle.plain_machine.specs.declared.schedule.PackedMove.{PackedMove}

-- the answer at a place, from 1; none at 0
abbrev pub answer_at : List ℕ → ℕ → Option ℕ
answer_at answers zero = None
answer_at answers (suc k) = slice_get answers k

abbrev pub unpacked : List ℕ → PackedMove → PlainMove
unpacked answers packed = record { thread = packed.thread; answer = answer_at answers packed.place }

-- the moves, with what they are told
abbrev pub moves_of : List ℕ → List PackedMove → List PlainMove
moves_of answers moves = map (unpacked answers) moves

-- the last place after a move
abbrev pub last_place : ℕ → ℕ → ℕ
last_place last zero = last
last_place last (suc k) = suc k

-- a place is none, or comes after the last one
abbrev pub ComesAfter : ℕ → ℕ → Type 0
ComesAfter last zero = Unit {0}
ComesAfter last (suc k) = last ≤ k

-- the places come one after another, after this last one, and there are so many answers at least
abbrev pub Rise : ℕ → List PackedMove → ℕ → Type 0
Rise last [] count = last ≤ count
Rise last (packed ∷ moves) count = ComesAfter last packed.place × Rise (last_place last packed.place) moves count

-- after an answer was put, if there is one, it stands at this place
abbrev pub IsPut : List ℕ → Option ℕ → ℕ → List ℕ → Type 0
IsPut before None place after = (place ≡ 0) × (after ≡ before)
IsPut before (Some answer) place after = (place ≡ length before + 1) × (after ≡ before ++ answer ∷ [])

-- how many answers stand before the place, of so many where it is none
abbrev pub count_before : ℕ → ℕ → ℕ
count_before most zero = most
count_before most (suc k) = k

-- how many answers stand before those of the moves, of so many where none of these is told something
abbrev pub answers_before : ℕ → List PackedMove → ℕ
answers_before most [] = most
answers_before most (packed ∷ moves) = count_before (answers_before most moves) packed.place
