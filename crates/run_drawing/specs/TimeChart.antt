-- The overview of a long run. A run of few events in which many packets came in is drawn by time: how many packets came
-- in, as the times of the capture have it, and at the time of each event how many outputs were released and how many
-- wait. Any other is drawn event by event. Below stands how many moves each thread made.
use Rattle.std.specs.Prelude.{ℕ, ◌+◌, ◌-◌, ◌/◌, ◌%◌, ◌&&◌, ◌||◌, max, nat_eq, nat_le, nat_lt, Bool, if◌then◌else◌}
use Rattle.std.specs.Prelude.{List, [], ◌∷◌, ◌++◌, codes, length, take}
use Rattle.svg_text.specs.declared.drawing.Element.{Element}
use Rattle.run_drawing.specs.declared.note.Note.{Note}
use Rattle.run_drawing.specs.declared.samples.Sample.{Sample}
use Rattle.run_drawing.specs.declared.samples.TimeUnit.{TimeUnit}
use Rattle.run_drawing.specs.declared.samples.TimeUnit.TheVariants as unit
use Rattle.run_drawing.specs.Overview.{axis_elements, count_marks, counts_axis, curve_keys, curves, epochs_from}
use Rattle.run_drawing.specs.Overview.{event_chart, first_sample, most_from, other_keys, sample_of}
use Rattle.run_drawing.specs.Scales.{across}
use Rattle.run_drawing.specs.Slices.{floors_of, number_at}

-- Which runs

-- how many packets came in until the last of these events, where so many had come before them
abbrev pub last_fed : ℕ → List Note → ℕ
last_fed before [] = before
last_fed before (n ∷ later) = last_fed n.fed later

-- at most 20 events, and more packets than events
abbrev pub is_by_time : List Note → Bool
is_by_time notes = nat_le (length notes) 20 && nat_lt (length notes) (last_fed 0 notes)

-- Times, in microseconds

-- the times of the packets that came in
abbrev pub came : List ℕ → List Note → List ℕ
came times notes = take (last_fed 0 notes) times

-- the time of the first packet
abbrev pub first_time : List ℕ → ℕ
first_time [] = 0
first_time (t ∷ times) = t

-- how long after the first time the latest of these is, or this long: a time that goes backwards is passed over
abbrev pub latest : ℕ → ℕ → List ℕ → ℕ
latest first so [] = so
latest first so (t ∷ times) = latest first (max so (t - first)) times

-- from the first packet to the last of those that came in
abbrev pub span_of : List ℕ → List Note → ℕ
span_of times notes = latest (first_time times) 0 (came times notes)

-- The packets: before the first of them, after every so many one sample, and one after the last of so many

abbrev pub came_sample : ℕ → ℕ → Sample
came_sample time many = record { index = time; fed = many; released = 0; waiting = 0; epoch = 1 }

-- where this number of them came before these, the latest at this time
abbrev pub came_from : ℕ → ℕ → ℕ → ℕ → ℕ → List ℕ → List Sample
came_from every many first so i [] = []
came_from every many first so i (t ∷ times) =
    (if nat_eq ((i + 1) % every) 0 || nat_eq (i + 1) many then came_sample (max so (t - first)) (i + 1) ∷ [] else [])
    ++ came_from every many first (max so (t - first)) (i + 1) times

abbrev pub came_samples : List ℕ → List Note → List Sample
came_samples times notes =
    first_sample
    ∷ came_from (length (came times notes) / 200 + 1) (length (came times notes)) (first_time times) 0 0
    (came times notes)

-- The events: each stands upright at the time of the last packet that came in until then

abbrev pub moved_to : ℕ → Sample → Sample
moved_to time s = record {
  index = time;
  fed = s.fed;
  released = s.released;
  waiting = s.waiting;
  epoch = s.epoch;
}

-- the time of an event, before which this is how things stood
abbrev pub time_of : List ℕ → Sample → Note → ℕ
time_of times before n = latest (first_time times) before.index (take n.fed times)

-- what stood before it, and what stands after it
abbrev pub steps_from : List ℕ → Sample → List Note → List Sample
steps_from times before [] = []
steps_from times before (n ∷ later) =
    moved_to (time_of times before n) before ∷ sample_of (time_of times before n) n
    ∷ steps_from times (sample_of (time_of times before n) n) later

abbrev pub steps_of : List ℕ → List Note → List Sample
steps_of times notes = first_sample ∷ steps_from times first_sample notes

-- The scale of the times, in a unit in which the span is a number of few digits

abbrev pub unit_of : ℕ → TimeUnit
unit_of span =
    if nat_le 10000000 span then unit.Second else if nat_le 10000 span then unit.Millisecond else unit.Microsecond

abbrev pub unit_length : TimeUnit → ℕ
unit_length unit.Second = 1000000
unit_length unit.Millisecond = 1000
unit_length unit.Microsecond = 1

abbrev pub unit_word : TimeUnit → List ℕ
unit_word unit.Second = codes "seconds"
unit_word unit.Millisecond = codes "milliseconds"
unit_word unit.Microsecond = codes "microseconds"

-- the whole units of a time
abbrev pub whole_units : TimeUnit → ℕ → ℕ
whole_units u time = time - time % unit_length u

-- a number of units below the axis, at its place
abbrev pub time_mark : TimeUnit → ℕ → ℕ → List Element
time_mark u span time = number_at (across span time) 272 (time / unit_length u)

abbrev pub time_marks : TimeUnit → ℕ → List Element
time_marks u span =
    time_mark u span 0 ++ time_mark u span (whole_units u (span / 2)) ++ time_mark u span (whole_units u span)

abbrev pub time_scales : TimeUnit → ℕ → ℕ → List Element
time_scales u span most = (counts_axis ∷ []) ++ count_marks most ++ time_marks u span

-- The chart by time

abbrev pub time_ground : ℕ → ℕ → List Sample → List Element
time_ground span most steps =
    axis_elements (unit_word (unit_of span)) ++ time_scales (unit_of span) span most ++ epochs_from span 1 steps

abbrev pub time_curves : List ℕ → List Note → List Element
time_curves times notes =
    curves (span_of times notes) (most_from 0 notes) (came_samples times notes) (steps_of times notes)

abbrev pub time_chart : List ℕ → List Note → List Element
time_chart times notes =
    time_ground (span_of times notes) (most_from 0 notes) (steps_of times notes) ++ time_curves times notes

-- The overview

abbrev pub chart : List ℕ → List Note → List Element
chart times notes = if is_by_time notes then time_chart times notes else event_chart notes

-- of so many threads
abbrev pub overview : ℕ → List ℕ → List Note → List Element
overview threads times notes = chart times notes ++ (curve_keys ++ other_keys) ++ floors_of threads notes
