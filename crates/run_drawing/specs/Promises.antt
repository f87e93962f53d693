-- What a picture shows of the moves and of the released outputs, in order; and how far its parts reach.
use Rattle.std.specs.Prelude.{ℕ, zero, suc, ◌+◌, ◌-◌, ◌*◌, ◌/◌, ◌||◌, max, min, Bool, true, false, List, []}
use Rattle.std.specs.Prelude.{◌∷◌, ◌++◌, filter, map, codes, decimal, length}
use Rattle.std.specs.Prelude.{Option, None, Some, take}
use Rattle.std.specs.List.{flat_map}
use Rattle.svg_text.specs.declared.class.Class.{Class}
use Rattle.svg_text.specs.declared.class.Class.TheVariants as class
use Rattle.svg_text.specs.declared.drawing.Element.{Element}
use Rattle.svg_text.specs.declared.drawing.Point.{Point}
use Rattle.svg_text.specs.declared.drawing.Shape.{Shape}
use Rattle.svg_text.specs.declared.drawing.Shape.TheVariants as shape
use Rattle.run_drawing.specs.declared.note.Note.{Note}
use Rattle.run_drawing.specs.declared.samples.Count.{Count}
use Rattle.run_drawing.specs.declared.samples.Count.TheVariants as count
use Rattle.run_drawing.specs.Marks.{move_title}
use Rattle.run_drawing.specs.Scales.{across, upwards}
use Rattle.run_drawing.specs.TimeChart.{first_time, latest}

-- the classes of the marks of moves
abbrev pub is_move : Class → Bool
is_move class.Take = true
is_move class.Touch = true
is_move class.Read = true
is_move class.Clock = true
is_move class.Draw = true
is_move class.Send = true
is_move class.End = true
is_move class.Again = true
is_move class.Lost = true
is_move _ = false

abbrev pub is_released : Class → Bool
is_released class.Released = true
is_released _ = false

-- what is shown of the marks of a class, in the order in which they are drawn
abbrev pub titles_where : (Class → Bool) → List Element → List (Option (List ℕ))
titles_where is elements = map (λ (e : Element). e.title) (filter (λ (e : Element). is e.class) elements)

-- the moves that were made, each with what it did and with the line of its event
abbrev pub move_titles : Note → List (Option (List ℕ))
move_titles n = map (λ m. Some (move_title n.line m)) n.made

-- so many releases, from this number on
abbrev pub numbered_releases : List ℕ → ℕ → ℕ → List (Option (List ℕ))
numbered_releases line number zero = []
numbered_releases line number (suc many) =
    Some (codes "released " ++ decimal number ++ codes "\n" ++ line) ∷ numbered_releases line (number + 1) many

-- the outputs that were released, each with its number and with the line of its event, where so many were released
-- before
abbrev pub release_titles : ℕ → List Note → List (Option (List ℕ))
release_titles before [] = []
release_titles before (n ∷ later) =
    numbered_releases n.line (before + 1) (n.released - before) ++ release_titles n.released later

-- what happened, in order: of each event first the moves that it made, and then the outputs that it released
abbrev pub happened : ℕ → List Note → List (Option (List ℕ))
happened before [] = []
happened before (n ∷ later) =
    (move_titles n ++ numbered_releases n.line (before + 1) (n.released - before)) ++ happened n.released later

abbrev pub is_move_or_release : Class → Bool
is_move_or_release c = is_move c || is_released c

-- how far points are to the right
abbrev pub furthest : List Point → ℕ
furthest [] = 0
furthest (p ∷ points) = max p.x (furthest points)

-- how far to the right a shape reaches: words by 8 units for each of their bytes, in a font of 12
abbrev pub reach : Shape → ℕ
reach (shape.Line from to) = max from.x to.x
reach (shape.Rectangle corner width height) = corner.x + width
reach (shape.Circle middle radius) = middle.x + radius
reach (shape.Polygon points) = furthest points
reach (shape.Polyline points) = furthest points
reach (shape.Words at words) = at.x + 8 * length words

-- the point that is least far to the right
abbrev pub nearest : List Point → ℕ
nearest [] = 0
nearest (p ∷ []) = p.x
nearest (p ∷ q ∷ points) = min p.x (nearest (q ∷ points))

-- the x of a shape: that of its middle; of words the one that they are set at
abbrev pub place_of : Shape → ℕ
place_of (shape.Line from to) = (from.x + to.x) / 2
place_of (shape.Rectangle corner width height) = corner.x + width / 2
place_of (shape.Circle middle radius) = middle.x
place_of (shape.Polygon points) = (nearest points + furthest points) / 2
place_of (shape.Polyline points) = (nearest points + furthest points) / 2
place_of (shape.Words at words) = at.x

-- all stands at a place but an arrow, which leads from one to another
abbrev pub is_placed : Class → Bool
is_placed class.Arrow = false
is_placed _ = true

-- the x of each mark, sign and number, in the order in which they are drawn
abbrev pub places : List Element → List ℕ
places elements = map (λ (e : Element). place_of e.shape) (filter (λ (e : Element). is_placed e.class) elements)

-- Charts by time

-- the x of each point of a curve
abbrev pub line_places : Shape → List ℕ
line_places (shape.Polyline points) = map (λ (p : Point). p.x) points
line_places _ = []

-- how high the last of points stands
abbrev pub last_height : List Point → Option ℕ
last_height [] = None
last_height (p ∷ []) = Some p.y
last_height (p ∷ q ∷ points) = last_height (q ∷ points)

-- how high a curve ends
abbrev pub end_of : Shape → Option ℕ
end_of (shape.Polyline points) = last_height points
end_of _ = None

-- the place of a count at a time
abbrev pub spot_at : ℕ → ℕ → ℕ → ℕ → Point
spot_at span most time number = record { x = across span time; y = upwards most number }

-- what is counted after an event
abbrev pub note_count : Count → Note → ℕ
note_count count.Fed n = n.fed
note_count count.Left n = n.released
note_count count.Held n = n.waiting

-- and after the last of some; this, where there is none
abbrev pub last_count : Count → ℕ → List Note → ℕ
last_count c before [] = before
last_count c before (n ∷ later) = last_count c (note_count c n) later

-- the time until which these events lead, since the first packet: the latest of the packets that came in
abbrev pub time_until : List ℕ → ℕ → List Note → ℕ
time_until times so [] = so
time_until times so (n ∷ later) = time_until times (latest (first_time times) so (take n.fed times)) later
