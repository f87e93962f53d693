-- Where things stand in the picture of a run. Time goes to the right, in columns; each thread has a lane, and below
-- them the output logger has one for the entries and one for the outputs.
use Rattle.std.specs.Prelude.{ℕ, ◌+◌, ◌-◌, ◌*◌, min, max, List, [], ◌∷◌, length}
use Rattle.svg_text.specs.declared.drawing.Point.{Point}
use Rattle.run_drawing.specs.declared.note.Note.{Note}

-- the left edge of a column; a picture has at most 10,000
abbrev pub left : ℕ → ℕ
left column = 120 + 24 * min column 10000

-- the upper edge of a lane; a picture has at most 100
abbrev pub top : ℕ → ℕ
top lane = 60 + 40 * min lane 100

-- a place in the cell of a column and a lane, so much from its upper left corner
abbrev pub in_cell : ℕ → ℕ → ℕ → ℕ → Point
in_cell column lane right down = record { x = left column + right; y = top lane + down }

-- the lanes of the output logger, behind those of the threads
abbrev pub entry_lane : ℕ → ℕ
entry_lane threads = threads

abbrev pub output_lane : ℕ → ℕ
output_lane threads = threads + 1

-- how many columns an event has, before which so many outputs were released: one for each move that is new, then one
-- for each output that it released, and at least one
abbrev pub width : ℕ → Note → ℕ
width before n = max 1 (length n.made + (n.released - before))

-- what arrived with an event stands after its moves: from here on, where the event begins in this column
abbrev pub arrivals : ℕ → Note → ℕ
arrivals column n = column + length n.made

-- and all of them
abbrev pub columns : ℕ → List Note → ℕ
columns before [] = 0
columns before (n ∷ later) = width before n + columns n.released later
