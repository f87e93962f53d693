-- How many moves each thread made, in an overview: the events are cut into at most 50 slices, and each thread has a bar
-- for each of them.
use Rattle.std.specs.Prelude.{ℕ, zero, suc, ◌+◌, ◌-◌, ◌/◌, nat_eq, nat_le, if◌then◌else◌, max, List, [], ◌∷◌, ◌++◌}
use Rattle.std.specs.Prelude.{drop, None, Some, codes, decimal, filter, map, length, take}
use Rattle.svg_text.specs.declared.class.Class.TheVariants as class
use Rattle.svg_text.specs.declared.drawing.Element.{Element}
use Rattle.svg_text.specs.declared.drawing.Shape.TheVariants as shape
use Rattle.run_drawing.specs.declared.note.Note.{Note}
use Rattle.run_drawing.specs.declared.samples.Slice.{Slice}
use Rattle.run_drawing.specs.Scales.{across, floor_of, tall}

-- Slices

-- how many of the moves that are noted behind an event are the thread's
abbrev pub moves_behind : ℕ → Note → ℕ
moves_behind t n = length (filter (λ u. nat_eq u t) n.movers)

-- and behind these events
abbrev pub moves_of : ℕ → List Note → ℕ
moves_of t [] = 0
moves_of t (n ∷ later) = moves_behind t n + moves_of t later

-- where a slice begins, how many events it has, and how many moves the thread made in it
abbrev pub slice_of : ℕ → ℕ → List Note → Slice
slice_of t first events = record { first = first; events = length events; moves = moves_of t events }

-- so many slices at most, of so many events each, from this place on
abbrev pub slices_from : ℕ → ℕ → ℕ → ℕ → List Note → List Slice
slices_from t every zero first notes = []
slices_from t every (suc many) first [] = []
slices_from t every (suc many) first (n ∷ later) =
    slice_of t first (take every (n ∷ later))
    ∷ slices_from t every many (first + every) (drop every (n ∷ later))

abbrev pub slices_of : ℕ → List Note → List Slice
slices_of t notes = slices_from t (length notes / 50 + 1) 50 0 notes

-- the moves of each slice
abbrev pub moves_in : List Slice → List ℕ
moves_in slices = map (λ (s : Slice). s.moves) slices

-- the most moves of a slice
abbrev pub most_in : ℕ → List Slice → ℕ
most_in most [] = most
most_in most (s ∷ slices) = most_in (max most s.moves) slices

-- of so many threads, from this one on
abbrev pub most_moves : ℕ → ℕ → ℕ → List Note → ℕ
most_moves most t zero notes = most
most_moves most t (suc rest) notes = most_moves (most_in most (slices_of t notes)) (t + 1) rest notes

-- Bars

abbrev pub bar_title : ℕ → ℕ → List ℕ
bar_title t moves = codes "thread " ++ decimal t ++ codes " moves " ++ decimal moves

-- as wide as the slice, and as tall as it has moves
abbrev pub bar_of : ℕ → ℕ → ℕ → Slice → Element
bar_of many most t s = record {
  class = class.Bar;
  title = Some (bar_title t s.moves);
  shape = shape.Rectangle (record { x = across many s.first; y = floor_of t - tall most s.moves })
      (across many (s.first + s.events) - across many s.first) (tall most s.moves);
}

abbrev pub bars_of : ℕ → ℕ → ℕ → List Slice → List Element
bars_of many most t [] = []
bars_of many most t (s ∷ slices) = bar_of many most t s ∷ bars_of many most t slices

abbrev pub word_at : ℕ → ℕ → List ℕ → Element
word_at x y words = record { class = class.Label; title = None; shape = shape.Words (record { x = x; y = y }) words }

abbrev pub number_element : ℕ → ℕ → ℕ → Element
number_element x y n =
    record { class = class.Note; title = None; shape = shape.Words (record { x = x; y = y }) (decimal n) }

-- a number at a place, the middle of it; it is left out where it has more than nine digits
abbrev pub number_at : ℕ → ℕ → ℕ → List Element
number_at x y n = if nat_le n 999999999 then number_element x y n ∷ [] else []

abbrev pub floor_line : ℕ → Element
floor_line t = record {
  class = class.Lane;
  title = None;
  shape = shape.Line (record { x = 120; y = floor_of t }) (record { x = 1120; y = floor_of t });
}

-- a thread, with its word, its bars, and the number of moves of the tallest bar that there can be
abbrev pub floor_elements : ℕ → ℕ → List Note → List Element
floor_elements most t notes =
    (word_at 10 (floor_of t) (codes "thread " ++ decimal t) ∷ floor_line t ∷ [])
    ++ number_at 100 (floor_of t - 22) most ++ bars_of (length notes) most t (slices_of t notes)

-- so many threads, from this one on
abbrev pub floors_from : ℕ → ℕ → ℕ → List Note → List Element
floors_from most t zero notes = []
floors_from most t (suc rest) notes = floor_elements most t notes ++ floors_from most (t + 1) rest notes

abbrev pub floors_of : ℕ → List Note → List Element
floors_of threads notes = floors_from (most_moves 0 0 threads notes) 0 threads notes
