-- The chart of a long run: how many packets came in, how many outputs were released and how many wait, against the
-- number of events: at the opening, after 200 of the events at most, and after the last; and where an epoch began.
-- Scales tell the numbers.
use Rattle.std.specs.Prelude.{ℕ, ◌+◌, ◌/◌, ◌%◌, ◌==◌, ◌||◌, max, nat_eq, if◌then◌else◌, List, [], ◌∷◌, ◌++◌}
use Rattle.std.specs.Prelude.{None, Some, codes, decimal, length}
use Rattle.svg_text.specs.declared.class.Class.{Class}
use Rattle.svg_text.specs.declared.class.Class.TheVariants as class
use Rattle.svg_text.specs.declared.drawing.Element.{Element}
use Rattle.svg_text.specs.declared.drawing.Point.{Point}
use Rattle.svg_text.specs.declared.drawing.Shape.{Shape}
use Rattle.svg_text.specs.declared.drawing.Shape.TheVariants as shape
use Rattle.run_drawing.specs.declared.note.Note.{Note}
use Rattle.run_drawing.specs.declared.samples.Sample.{Sample}
use Rattle.run_drawing.specs.declared.samples.Count.{Count}
use Rattle.run_drawing.specs.declared.samples.Count.TheVariants as count
use Rattle.run_drawing.specs.Scales.{across, upwards}
use Rattle.run_drawing.specs.Slices.{number_at, word_at}

-- Samples

abbrev pub sample_of : ℕ → Note → Sample
sample_of i n =
    record { index = i; fed = n.fed; released = n.released; waiting = n.waiting; epoch = n.epoch }

-- before any event
abbrev pub first_sample : Sample
first_sample = record { index = 0; fed = 0; released = 0; waiting = 0; epoch = 1 }

-- after every so many events one, and one after the last of so many, where this number of them came before these
abbrev pub samples_from : ℕ → ℕ → ℕ → List Note → List Sample
samples_from every many i [] = []
samples_from every many i (n ∷ later) =
    (if nat_eq ((i + 1) % every) 0 || nat_eq (i + 1) many then sample_of (i + 1) n ∷ [] else [])
    ++ samples_from every many (i + 1) later

abbrev pub every_of : List Note → ℕ
every_of notes = length notes / 200 + 1

abbrev pub samples_of : List Note → List Sample
samples_of notes = first_sample ∷ samples_from (every_of notes) (length notes) 0 notes

-- the greatest count
abbrev pub most_from : ℕ → List Note → ℕ
most_from most [] = most
most_from most (n ∷ later) = most_from (max most (max (max n.fed n.released) n.waiting)) later

-- Curves

abbrev pub counted : Count → Sample → ℕ
counted count.Fed s = s.fed
counted count.Left s = s.released
counted count.Held s = s.waiting

abbrev pub point_at : Count → ℕ → ℕ → Sample → Point
point_at c many most s = record { x = across many s.index; y = upwards most (counted c s) }

abbrev pub points_from : Count → ℕ → ℕ → List Sample → List Point
points_from c many most [] = []
points_from c many most (s ∷ samples) = point_at c many most s ∷ points_from c many most samples

abbrev pub count_class : Count → Class
count_class count.Fed = class.Fed
count_class count.Left = class.Left
count_class count.Held = class.Held

abbrev pub curve : Count → ℕ → ℕ → List Sample → Element
curve c many most samples = record {
  class = count_class c;
  title = None;
  shape = shape.Polyline (points_from c many most samples);
}

-- Epochs

abbrev pub epoch_line : ℕ → Sample → Element
epoch_line many s = record {
  class = class.Crash;
  title = Some (codes "epoch " ++ decimal s.epoch);
  shape = shape.Line (record { x = across many s.index; y = 60 }) (record { x = across many s.index; y = 260 });
}

-- a line where a sample has another epoch than the one before it
abbrev pub epochs_from : ℕ → ℕ → List Sample → List Element
epochs_from many before [] = []
epochs_from many before (s ∷ samples) =
    (if s.epoch == before then [] else epoch_line many s ∷ []) ++ epochs_from many s.epoch samples

-- The axis and the legend

abbrev pub axis : Element
axis = record {
  class = class.Lane;
  title = None;
  shape = shape.Line (record { x = 120; y = 260 }) (record { x = 1120; y = 260 });
}

-- with the word of what stands along it
abbrev pub axis_elements : List ℕ → List Element
axis_elements word = axis ∷ word_at 1130 264 word ∷ []

-- Scales: at both ends and in the middle of an axis the number that stands there

abbrev pub counts_axis : Element
counts_axis = record {
  class = class.Lane;
  title = None;
  shape = shape.Line (record { x = 120; y = 60 }) (record { x = 120; y = 260 });
}

-- beside the axis of counts, where the greatest is this
abbrev pub count_mark : ℕ → ℕ → List Element
count_mark most n = number_at 100 (upwards most n) n

-- below that of events, of which there are so many
abbrev pub event_mark : ℕ → ℕ → List Element
event_mark many i = number_at (across many i) 272 i

abbrev pub count_marks : ℕ → List Element
count_marks most = count_mark most 0 ++ count_mark most (most / 2) ++ count_mark most most

abbrev pub scales : ℕ → ℕ → List Element
scales many most =
    (counts_axis ∷ []) ++ count_marks most
    ++ (event_mark many 0 ++ event_mark many (many / 2) ++ event_mark many many)

-- a thing of the legend with its word
unfoldable pub key_of : ℕ → Class → Shape → List ℕ → List Element
key_of x c s word = (record { class = c; title = None; shape = s }) ∷ word_at (x + 24) 284 word ∷ []

abbrev pub line_key : ℕ → Class → List ℕ → List Element
line_key x c word =
    key_of x c (shape.Line (record { x = x; y = 280 }) (record { x = x + 18; y = 280 })) word

abbrev pub curve_keys : List Element
curve_keys =
    line_key 120 class.Fed (codes "packets that came in")
    ++ line_key 320 class.Left (codes "outputs released")
    ++ line_key 500 class.Held (codes "outputs that wait")

abbrev pub bar_key : List Element
bar_key = key_of 840 class.Bar (shape.Rectangle (record { x = 840; y = 272 }) 18 16) (codes "moves of a thread")

abbrev pub other_keys : List Element
other_keys = line_key 680 class.Crash (codes "a new epoch") ++ bar_key

-- The chart

-- the curve of the packets of some samples, and those of the outputs of others
abbrev pub curves : ℕ → ℕ → List Sample → List Sample → List Element
curves many most came samples =
    curve count.Fed many most came ∷ curve count.Left many most samples ∷ curve count.Held many most samples ∷ []

abbrev pub chart_of : ℕ → ℕ → List Sample → List Element
chart_of many most samples =
    axis_elements (codes "events") ++ scales many most ++ epochs_from many 1 samples ++ curves many most samples samples

abbrev pub event_chart : List Note → List Element
event_chart notes = chart_of (length notes) (most_from 0 notes) (samples_of notes)
