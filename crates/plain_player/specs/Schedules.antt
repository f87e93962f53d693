-- Schedules read. Each line that counts says one move, in order; where a line says none, the first such line is the
-- fault.
use Rattle.std.specs.Prelude.{ℕ, ◌-◌, ◌<◌, ◌^◌, All, List, [], ◌∷◌, codes, Option, Some, None}
use Rattle.plain_text.specs.declared.fault.LineCause.{LineCause}
use Rattle.plain_text.specs.declared.fault.ReadError.{ReadError}
use Rattle.plain_text.specs.declared.limit.TheConstants.{MOST_EVENTS}
use Rattle.plain_text.specs.Grammar.{Place, Number, OneOf, PlacesSay, form_fault, range_fault, or_else}
use Rattle.plain_text.specs.LineFiles.{LineForm, IsFile}
use Rattle.plain_text.specs.LineFiles as files
use Rattle.plain_machine.specs.declared.plain_move.PlainMove.{PlainMove}

-- Of one line

-- what stands on a line `T`, and on a line `T = A`
abbrev pub quiet_places : List Place
quiet_places = Number 0 (2 ^ 32 - 1) ∷ []

abbrev pub told_places : List Place
told_places = Number 0 (2 ^ 32 - 1) ∷ OneOf (codes "=" ∷ []) ∷ Number 0 (2 ^ 64 - 1) ∷ []

-- a line with a second word is to tell an answer
abbrev pub places_for : List (List ℕ) → List Place
places_for [] = quiet_places
places_for (word ∷ []) = quiet_places
places_for (word ∷ next ∷ words) = told_places

-- the values at the places of a move's line; the sign `=` has the value 0
abbrev pub values_with : ℕ → Option ℕ → List ℕ
values_with thread None = thread ∷ []
values_with thread (Some answer) = thread ∷ 0 ∷ answer ∷ []

-- a line with these words says this move
abbrev pub SaysMove : List (List ℕ) → PlainMove → Type 0
SaysMove words plain = PlacesSay (places_for words) words (values_with plain.thread plain.answer)

-- the first fault of a line with these words
abbrev pub move_fault : List (List ℕ) → Option LineCause
move_fault words = or_else (form_fault (places_for words) words) (range_fault (places_for words) words)

-- Of a text

abbrev pub schedule_form : LineForm PlainMove
schedule_form = record { says = SaysMove; fault = move_fault; weight = λ plain. 1 }

-- a text is the schedule of these moves
abbrev pub IsSchedule : List ℕ → List PlainMove → Type 0
IsSchedule text moves = IsFile schedule_form text moves

-- the line with this number has this fault, and each line before it says a move
abbrev pub FirstFault : List ℕ → ℕ → LineCause → Type 0
FirstFault text number cause = files.FirstFault schedule_form text number cause

-- the moves of the first lines pass the limit, before any line with a fault
abbrev pub HasTooMany : List ℕ → Type 0
HasTooMany text = files.HasTooMany schedule_form MOST_EVENTS text

-- what an error says of a text
abbrev pub IsRefused : List ℕ → ReadError → Type 0
IsRefused text error = files.IsRefused schedule_form MOST_EVENTS text error

-- Written schedules

-- the answer, if there is one, is below 2^64
abbrev pub IsAnswer : Option ℕ → Type 0
IsAnswer None = Unit {0}
IsAnswer (Some answer) = answer < 2 ^ 64

-- the thread is below 2^32, and the answer below 2^64, so that they may stand in a schedule
abbrev pub FitsLine : PlainMove → Type 0
FitsLine plain = (plain.thread < 2 ^ 32) × IsAnswer plain.answer

abbrev pub FitLines : List PlainMove → Type 0
FitLines moves = All FitsLine moves
