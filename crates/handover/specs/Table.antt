-- The lines of an image's text, as a table: the first word of each form of line, what stands at the places after it,
-- and which forms may stand at which stage of the text.
use Rattle.std.specs.Prelude.{ℕ, ◌-◌, ◌^◌, Bool, true, false, List, [], ◌∷◌, codes, map, if◌then◌else◌}
use Rattle.plain_text.specs.Grammar.{Place, Number, OneOf, Row, free_row}
use Rattle.line_tables.specs.Tables.{has_third}
use Rattle.handover.specs.declared.form.Form.{Form}
use Rattle.handover.specs.declared.form.Form.TheVariants.{Heading, State, Ended, Released, Move, Told}
use Rattle.handover.specs.declared.line.ImageLine.{ImageLine}
use Rattle.handover.specs.declared.line.ImageLine.TheVariants as line
use Rattle.handover.specs.declared.stage.Stage.{Stage}
use Rattle.handover.specs.declared.stage.Stage.TheVariants as stage
use Rattle.handover.specs.declared.values.Part.{Part}
use Rattle.handover.specs.declared.values.Part.TheVariants.{One, Equals, Narrow, Wide}

-- Of one line

abbrev pub word_of : Form → List ℕ
word_of Heading = codes "handover"
word_of State = codes "state"
word_of Ended = codes "ended"
word_of Released = codes "released"
word_of Move = codes "move"
word_of Told = codes "move"

abbrev pub parts_of : Form → List Part
parts_of Heading = One ∷ []
-- packets fed, clock, words drawn, epoch, moves, bytes
parts_of State = Wide ∷ Wide ∷ Wide ∷ Narrow ∷ Wide ∷ Wide ∷ []
-- epoch, thread, entries, outputs
parts_of Ended = Narrow ∷ Narrow ∷ Wide ∷ Wide ∷ []
-- thread, number
parts_of Released = Narrow ∷ Wide ∷ []
-- thread, and what it is told
parts_of Move = Narrow ∷ []
parts_of Told = Narrow ∷ Equals ∷ Wide ∷ []

abbrev pub place_of : Part → Place
place_of One = OneOf (codes "1" ∷ [])
place_of Equals = OneOf (codes "=" ∷ [])
place_of Narrow = Number 0 (2 ^ 32 - 1)
place_of Wide = Number 0 (2 ^ 64 - 1)

abbrev pub row_of : Form → Row
row_of form = free_row (word_of form) (map place_of (parts_of form))

-- In which order they stand

-- a move with a third word is to be told an answer
abbrev pub move_form : Bool → Form
move_form third = if third then Told else Move

-- the forms of the lines that may stand at a stage, where the line has a third word or not
abbrev pub forms_at : Stage → Bool → List Form
forms_at stage.Heading third = Heading ∷ []
forms_at stage.State third = State ∷ []
forms_at stage.Ended third = Ended ∷ Released ∷ move_form third ∷ []
forms_at stage.Released third = Released ∷ move_form third ∷ []
forms_at stage.Moves third = move_form third ∷ []

-- the rows that judge a line with these words at a stage: a line out of the order has an unknown word
abbrev pub rows_at : Stage → List (List ℕ) → List Row
rows_at at words = map row_of (forms_at at (has_third words))

-- the stage behind a line
abbrev pub behind : ImageLine → Stage
behind line.Heading = stage.State
behind (line.State fed clock draws epoch moves bytes) = stage.Ended
behind (line.Ended ended) = stage.Ended
behind (line.Released thread number) = stage.Released
behind (line.Move plain) = stage.Moves

-- the heading and the counts have to stand
abbrev pub is_whole : Stage → Bool
is_whole stage.Heading = false
is_whole stage.State = false
is_whole stage.Ended = true
is_whole stage.Released = true
is_whole stage.Moves = true
