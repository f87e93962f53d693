-- The picture of a run, from what was noted behind its events.
use Rattle.std.specs.Prelude.{ℕ, zero, suc, ◌+◌, ◌-◌, ◌*◌, ◌%◌, ◌==◌, ◌&&◌, nat_le, Bool, true, false, if◌then◌else◌}
use Rattle.std.specs.Prelude.{max, min}
use Rattle.std.specs.Prelude.{List, [], ◌∷◌, ◌++◌, length, take, drop, Option, Some, None, codes, decimal}
use Rattle.std.specs.List.{list_all}
use Rattle.recovery_world.specs.declared.event.Event.{Event}
use Rattle.recovery_world.specs.declared.event.Event.TheVariants as event
use Rattle.recovery_world.specs.declared.event.Outcome.{Outcome}
use Rattle.recovery_world.specs.declared.event.Outcome.TheVariants as outcome
use Rattle.plain_text.specs.declared.kind.Kind.{Kind}
use Rattle.plain_text.specs.declared.kind.Kind.TheVariants as kind
use Rattle.entry_order.specs.declared.what.What.TheVariants as what
use Rattle.made_moves.specs.declared.made.Did.{Did}
use Rattle.made_moves.specs.declared.made.Did.TheVariants as did
use Rattle.made_moves.specs.declared.made.Made.{Made}
use Rattle.svg_text.specs.declared.class.Class.{Class}
use Rattle.svg_text.specs.declared.class.Class.TheVariants as class
use Rattle.svg_text.specs.declared.drawing.Drawing.{Drawing}
use Rattle.svg_text.specs.declared.drawing.Element.{Element}
use Rattle.svg_text.specs.declared.drawing.Point.{Point}
use Rattle.svg_text.specs.declared.drawing.Shape.{Shape}
use Rattle.svg_text.specs.declared.drawing.Shape.TheVariants as shape
use Rattle.run_drawing.specs.declared.note.Cell.{Cell}
use Rattle.run_drawing.specs.declared.note.Note.{Note}
use Rattle.run_drawing.specs.Marks.{access_before, arrow_from, entry_with, mark_of, move_title, shape_of}
use Rattle.run_drawing.specs.Marks.{var_of}
use Rattle.run_drawing.specs.Places.{arrivals, columns, entry_lane, in_cell, left, output_lane, top, width}
use Rattle.run_drawing.specs.Scales.{overview_high}
use Rattle.run_drawing.specs.TimeChart.{overview}

-- Moves

abbrev pub cell_at : ℕ → Made → Cell
cell_at column m = record { made = m; column = column }

-- the cells of moves, from this column on
abbrev pub cells_from : ℕ → List Made → List Cell
cells_from column [] = []
cells_from column (m ∷ made) = cell_at column m ∷ cells_from (column + 1) made

-- several events were performed as one
abbrev pub is_several : Outcome → Bool
is_several (outcome.Summary m r e) = true
is_several _ = false

-- What is drawn of a move behind these of its master: an arrow from the access before it, its mark, and its entry where
-- that arrives with it. Those that were lost stand in gone.
abbrev pub move_elements : ℕ → List ℕ → Bool → List Cell → List Note → ℕ → List Cell → Made → List Element
move_elements threads line several gone later column earlier m =
    arrow_from column m.thread (access_before (var_of m.did) earlier)
    ++ (mark_of line gone later (length earlier) column m ∷ [])
    ++ entry_with several (entry_lane threads) column (move_title line m) m.did

-- and of those that are new behind an event, from this column on
abbrev pub moves_from : ℕ → List ℕ → Bool → List Cell → List Note → ℕ → List Cell → List Made → List Element
moves_from threads line several gone later column earlier [] = []
moves_from threads line several gone later column earlier (m ∷ made) =
    move_elements threads line several gone later column earlier m
    ++ moves_from threads line several gone later (column + 1) (earlier ++ cell_at column m ∷ []) made

-- Events of one

abbrev pub is_output_event : Event → Bool
is_output_event (event.Out t j) = true
is_output_event (event.Late e kind.Out t j) = true
is_output_event (event.Cut kind.Out t j len) = true
is_output_event _ = false

-- what the sign of an event stands for, if it has one
abbrev pub sign_class : Event → Outcome → Option Class
sign_class ev (outcome.Copied c) = Some class.Snap
sign_class ev (outcome.Covers c) = Some class.Store
sign_class ev outcome.Crashed = Some class.Crash
sign_class ev (outcome.Recovered e k d) = Some class.Recover
sign_class ev outcome.New = Some class.Entry
sign_class ev (outcome.Waits u n) = if is_output_event ev then Some class.Waiting else None
sign_class ev _ = None

-- at the output logger a circle, and else a line through all lanes
abbrev pub sign_at : ℕ → ℕ → List ℕ → Class → Element
sign_at threads column line class.Entry = record {
  class = class.Entry;
  title = Some line;
  shape = shape.Circle (in_cell column (entry_lane threads) 10 20) 5;
}
sign_at threads column line class.Waiting = record {
  class = class.Waiting;
  title = Some line;
  shape = shape.Circle (in_cell column (output_lane threads) 10 20) 7;
}
sign_at threads column line c = record {
  class = c;
  title = Some line;
  shape = shape.Line (in_cell column 0 10 0) (in_cell column (threads + 2) 10 0);
}

abbrev pub signs_of : ℕ → ℕ → List ℕ → Option Class → List Element
signs_of threads column line None = []
signs_of threads column line (Some c) = sign_at threads column line c ∷ []

-- Released outputs

-- a full mark, with the number of the release
abbrev pub full_mark : ℕ → ℕ → List ℕ → ℕ → Element
full_mark threads column line number = record {
  class = class.Released;
  title = Some (codes "released " ++ decimal number ++ codes "\n" ++ line);
  shape = shape.Circle (in_cell column (output_lane threads) 10 20) 7;
}

abbrev pub number_note : ℕ → ℕ → ℕ → Element
number_note threads column number = record {
  class = class.Note;
  title = None;
  shape = shape.Words (in_cell column (output_lane threads) 10 38) (decimal number);
}

-- so many of them, from this number on
abbrev pub releases_from : ℕ → ℕ → List ℕ → ℕ → ℕ → List Element
releases_from threads column line number zero = []
releases_from threads column line number (suc many) =
    (full_mark threads column line number ∷ number_note threads column number ∷ [])
    ++ releases_from threads (column + 1) line (number + 1) many

-- All events

-- where a picture has come to: the next column, the moves of the present master, those that were lost, and how many
-- outputs were released
pub record Drawn : Type 0 where
  pub column : ℕ
  pub earlier : List Cell
  pub gone : List Cell
  pub released : ℕ

abbrev pub at_first : Drawn
at_first = record { column = 0; earlier = []; gone = []; released = 0 }

abbrev pub after_note : Drawn → Note → Drawn
after_note d n = record {
  column = d.column + width d.released n;
  earlier = take n.kept d.earlier ++ cells_from d.column n.made;
  gone = d.gone ++ drop n.kept d.earlier;
  released = n.released;
}

-- what is drawn of an event, with those that follow it
abbrev pub event_elements : ℕ → Drawn → Note → List Note → List Element
event_elements threads d n later =
    moves_from threads n.line (is_several n.outcome) (d.gone ++ drop n.kept d.earlier) later d.column
    (take n.kept d.earlier) n.made
    ++ signs_of threads (arrivals d.column n) n.line (sign_class n.event n.outcome)
    ++ releases_from threads (arrivals d.column n) n.line (d.released + 1) (n.released - d.released)

abbrev pub events_from : ℕ → Drawn → List Note → List Element
events_from threads d [] = []
events_from threads d (n ∷ later) = event_elements threads d n later ++ events_from threads (after_note d n) later

-- The ground

-- a master that is down has the ground of the paper, and epochs take turns
abbrev pub band_class : Bool → ℕ → Class
band_class false epoch = class.Paper
band_class true epoch = if epoch % 2 == 1 then class.OtherBand else class.Band

abbrev pub band_of : ℕ → ℕ → ℕ → Note → Element
band_of threads column before n = record {
  class = band_class n.up n.epoch;
  title = Some (codes "epoch " ++ decimal n.epoch);
  shape = shape.Rectangle (in_cell column 0 0 0) (24 * min (width before n) 10000) (40 * min (threads + 2) 100);
}

abbrev pub bands_from : ℕ → ℕ → ℕ → List Note → List Element
bands_from threads column before [] = []
bands_from threads column before (n ∷ later) =
    band_of threads column before n ∷ bands_from threads (column + width before n) n.released later

abbrev pub words_at : Class → Point → List ℕ → Element
words_at c at words = record { class = c; title = None; shape = shape.Words at words }

-- a lane with its word
unfoldable pub lane_elements : ℕ → ℕ → List ℕ → List Element
lane_elements many lane word =
    (record {
      class = class.Lane;
      title = None;
      shape = shape.Line (in_cell 0 lane 0 20) (in_cell many lane 0 20);
    }) ∷ words_at class.Label (record { x = 10; y = top lane + 24 }) word ∷ []

-- of so many threads, from this one on
abbrev pub thread_lanes : ℕ → ℕ → ℕ → List Element
thread_lanes many t zero = []
thread_lanes many t (suc rest) =
    lane_elements many t (codes "thread " ++ decimal t) ++ thread_lanes many (t + 1) rest

abbrev pub logger_lanes : ℕ → ℕ → List Element
logger_lanes many threads =
    lane_elements many (entry_lane threads) (codes "entries")
    ++ lane_elements many (output_lane threads) (codes "outputs")

-- The picture

-- The legend, below the lanes: in two rows, each thing with its word

unfoldable pub legend_item : ℕ → ℕ → Class → Shape → List ℕ → List Element
legend_item column lane c s word =
    (record { class = c; title = None; shape = s }) ∷ words_at class.Label (in_cell column lane 24 24) word ∷ []

abbrev pub move_item : ℕ → ℕ → Class → Did → List ℕ → List Element
move_item column lane c d word = legend_item column lane c (shape_of column lane d) word

abbrev pub first_moves : ℕ → List Element
first_moves lane =
    move_item 0 lane class.Take (did.Took 0) (codes "take")
    ++ move_item 5 lane class.Touch (did.Logged 0 (what.Access 0 0)) (codes "touch")
    ++ move_item 10 lane class.Read (did.Logged 0 (what.Read 0 0)) (codes "read")

abbrev pub told_moves : ℕ → List Element
told_moves lane =
    move_item 15 lane class.Clock (did.Logged 0 (what.Clock 0)) (codes "clock")
    ++ move_item 20 lane class.Draw (did.Logged 0 (what.Draw 0)) (codes "draw")
    ++ move_item 25 lane class.Send (did.Sent 0) (codes "send")

abbrev pub last_moves : ℕ → List Element
last_moves lane =
    move_item 30 lane class.End (did.Ended 0) (codes "end")
    ++ move_item 35 lane class.Again (did.Logged 0 (what.Access 0 0)) (codes "made again")
    ++ move_item 40 lane class.Lost (did.Logged 0 (what.Access 0 0)) (codes "lost")

abbrev pub circle_item : ℕ → ℕ → Class → ℕ → List ℕ → List Element
circle_item column lane c radius word = legend_item column lane c (shape.Circle (in_cell column lane 10 20) radius) word

abbrev pub line_item : ℕ → ℕ → Class → List ℕ → List Element
line_item column lane c word =
    legend_item column lane c (shape.Line (in_cell column lane 2 20) (in_cell column lane 20 20)) word

abbrev pub logger_items : ℕ → List Element
logger_items lane =
    circle_item 0 lane class.Entry 5 (codes "entry")
    ++ circle_item 5 lane class.Waiting 7 (codes "output waits")
    ++ circle_item 10 lane class.Released 7 (codes "released")

abbrev pub event_items : ℕ → List Element
event_items lane =
    line_item 15 lane class.Snap (codes "snapshot")
    ++ line_item 20 lane class.Store (codes "stored")
    ++ line_item 25 lane class.Crash (codes "crash")
    ++ line_item 30 lane class.Recover (codes "recovery")

abbrev pub legend : ℕ → ℕ → List Element
legend moves_row signs_row =
    first_moves moves_row ++ told_moves moves_row ++ last_moves moves_row
    ++ (logger_items signs_row ++ event_items signs_row)

-- The picture

-- the paper, the title, and the last line of the report
abbrev pub frame_elements : ℕ → ℕ → List ℕ → List ℕ → List Element
frame_elements wide high title last =
    (record {
      class = class.Paper;
      title = None;
      shape = shape.Rectangle (record { x = 0; y = 0 }) wide high;
    })
    ∷ words_at class.Heading (record { x = 10; y = 24 }) title
    ∷ words_at class.Label (record { x = 10; y = 44 }) last ∷ []

-- so many columns and threads: the ground, the lanes, what happened, and the legend
abbrev pub run_elements : ℕ → ℕ → List Note → List Element
run_elements many threads notes =
    bands_from threads 0 0 notes ++ (thread_lanes many 0 threads ++ logger_lanes many threads)
    ++ events_from threads at_first notes ++ legend (threads + 2) (threads + 3)

-- A run is drawn move by move where no master makes more than 400 moves, and where there are at most 400 columns.
abbrev pub are_short : List Note → Bool
are_short notes = list_all (λ (n : Note). nat_le n.moves 400) notes

abbrev pub is_small : List Note → Bool
is_small notes = are_short notes && nat_le (columns 0 notes) 400

-- and else told in an overview, with these times of the packets
abbrev pub drawn_elements : ℕ → List ℕ → List Note → List Element
drawn_elements threads times notes =
    if is_small notes then run_elements (columns 0 notes) threads notes else overview threads times notes

-- It is as wide as its columns, and an overview 1300, however long the run is.
abbrev pub wide_of : List Note → ℕ
wide_of notes = if is_small notes then max 1300 (left (columns 0 notes) + 40) else 1300

abbrev pub high_of : ℕ → List Note → ℕ
high_of threads notes = if is_small notes then max 300 (top (threads + 4) + 20) else overview_high threads

abbrev pub picture : List ℕ → List ℕ → ℕ → List ℕ → List Note → Drawing
picture title last threads times notes = record {
  width = wide_of notes;
  height = high_of threads notes;
  title = title;
  elements = frame_elements (wide_of notes) (high_of threads notes) title last ++ drawn_elements threads times notes;
}
