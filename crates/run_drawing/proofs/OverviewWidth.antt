-- An overview is 1300 wide, and nothing in it reaches further to the right.
use Rattle.std.proofs.Common.{◌≡◌, ℕ, zero, suc, ◌+◌, ◌-◌, ◌*◌, ◌/◌, ◌≤◌, Bool, true, false, List, [], ◌∷◌, ◌++◌}
use Rattle.std.proofs.Common.{◌<◌, ◌^◌, ap, arith, length-append, refl}
use Rattle.std.specs.Prelude.{All, max, min, if◌then◌else◌, ◌==◌, nat_le, length, codes, decimal, None}
use Rattle.std.proofs.lemmas.List.Elements.{All-append, All-cons, All-nil}
use Rattle.std.proofs.lemmas.Fmt.{length-decimal-le}
use Rattle.std.proofs.lemmas.Bool.{leb-true}
use Rattle.svg_text.specs.declared.class.Class.{Class}
use Rattle.svg_text.specs.declared.class.Class.TheVariants as class
use Rattle.svg_text.specs.declared.drawing.Element.{Element}
use Rattle.svg_text.specs.declared.drawing.Shape.{Shape}
use Rattle.svg_text.specs.declared.drawing.Shape.TheVariants as shape
use Rattle.run_drawing.specs.declared.note.Note.{Note}
use Rattle.run_drawing.specs.declared.samples.Sample.{Sample}
use Rattle.run_drawing.specs.declared.samples.Count.{Count}
use Rattle.run_drawing.specs.declared.samples.Count.TheVariants as count
use Rattle.run_drawing.specs.declared.samples.Slice.{Slice}
use Rattle.run_drawing.specs.Overview.{axis, axis_elements, bar_key, count_mark, count_marks, counts_axis, curve}
use Rattle.run_drawing.specs.Overview.{curve_keys, curves, epoch_line, epochs_from, event_chart, event_mark, key_of}
use Rattle.run_drawing.specs.Overview.{line_key, most_from, other_keys, points_from, samples_of, scales}
use Rattle.run_drawing.specs.Picture.{is_small, wide_of}
use Rattle.run_drawing.specs.Places.{columns, left}
use Rattle.run_drawing.specs.Promises.{furthest, reach}
use Rattle.run_drawing.specs.Scales.{across, floor_of}
use Rattle.run_drawing.specs.Slices.{bar_of, bars_of, floor_elements, floor_line, floors_from, floors_of, most_moves}
use Rattle.run_drawing.specs.Slices.{number_at, number_element, slices_of, word_at}
use Rattle.run_drawing.specs.declared.samples.TimeUnit.{TimeUnit}
use Rattle.run_drawing.specs.declared.samples.TimeUnit.TheVariants as unit
use Rattle.run_drawing.specs.TimeChart.{came_samples, chart, is_by_time, overview, span_of, steps_of, time_chart}
use Rattle.run_drawing.specs.TimeChart.{time_curves, time_ground, time_mark, time_marks, time_scales, unit_length}
use Rattle.run_drawing.specs.TimeChart.{unit_of, unit_word, whole_units}

pub overview_wide : (notes : List Note) → is_small notes ≡ false → wide_of notes ≡ 1300
overview_wide notes large = ap (λ (b : Bool). if b then max 1300 (left (columns 0 notes) + 40) else 1300) large

abbrev Fits : Element → Type 0
Fits e = reach e.shape ≤ 1300

one_fits : (e : Element) → Fits e → All Fits (e ∷ [])
one_fits e fits = All-cons Fits e [] fits (All-nil Fits)

two_fit : (a b : Element) → Fits a → Fits b → All Fits (a ∷ b ∷ [])
two_fit a b one two = All-cons Fits a (b ∷ []) one (one_fits b two)

capped : (n : ℕ) → 120 + min n 1000 ≤ 1300
capped n = omega arith

across_low : (many i : ℕ) → across many i ≤ 1300
across_low many i = capped (min i 10000000000000000 * 1000 / max 1 many)

max_low : (a b : ℕ) → a ≤ 1300 → b ≤ 1300 → max a b ≤ 1300
max_low a b one two = omega (arith, one, two)

points_low : (c : Count) (many most : ℕ) (samples : List Sample)
    → furthest (points_from c many most samples) ≤ 1300
points_low c many most [] = omega arith
points_low c many most (s ∷ samples) =
    max_low (across many s.index) _ (across_low many s.index) (points_low c many most samples)

curves_fit : (many most : ℕ) (came samples : List Sample) → All Fits (curves many most came samples)
curves_fit many most came samples =
    All-cons Fits (curve count.Fed many most came)
    (curve count.Left many most samples ∷ curve count.Held many most samples ∷ [])
    (points_low count.Fed many most came)
    (two_fit (curve count.Left many most samples) (curve count.Held many most samples)
    (points_low count.Left many most samples) (points_low count.Held many most samples))

line_fits : (many : ℕ) (s : Sample) → Fits (epoch_line many s)
line_fits many s =
    max_low (across many s.index) (across many s.index) (across_low many s.index) (across_low many s.index)

epochs_fit : (many before : ℕ) (samples : List Sample) → All Fits (epochs_from many before samples)
epochs_fit many before [] = All-nil Fits
epochs_fit many before (s ∷ samples) =
    All-append Fits _ (epochs_from many s.epoch samples) (by (s.epoch == before)) (epochs_fit many s.epoch samples)
  where
    by : (b : Bool) → All Fits (if b then [] else epoch_line many s ∷ [])
    by true = All-nil Fits
    by false = one_fits (epoch_line many s) (line_fits many s)

axis_fits : (word : List ℕ) → length word ≤ 20 → All Fits (axis_elements word)
axis_fits word short = two_fit axis (word_at 1130 264 word) (omega arith) (omega (arith, short))

nine_digits : (n : ℕ) → nat_le n 999999999 ≡ true → n < 10 ^ 9
nine_digits n is = let low = leb-true n 999999999 is in omega (arith, low)

below_64 : (n : ℕ) → nat_le n 999999999 ≡ true → n < 2 ^ 64
below_64 n is = let low = leb-true n 999999999 is in omega (arith, low)

number_fits : (x y n : ℕ) → x ≤ 1120 → All Fits (number_at x y n)
number_fits x y n left = by (nat_le n 999999999) refl
  where
    by : (b : Bool) → nat_le n 999999999 ≡ b
        → All Fits (if b then number_element x y n ∷ [] else [])
    by true is =
        let few : length (decimal n) ≤ 9 = length-decimal-le 9 n (omega arith) (nine_digits n is) (below_64 n is) in
        one_fits (number_element x y n) (omega (arith, left, few))
    by false is = All-nil Fits

across_there : (many i : ℕ) → across many i ≤ 1120
across_there many i = inside (min i 10000000000000000 * 1000 / max 1 many)
  where
    inside : (n : ℕ) → 120 + min n 1000 ≤ 1120
    inside n = omega arith

-- three numbers one after another
three_fit : (a b c : List Element) → All Fits a → All Fits b → All Fits c → All Fits (a ++ b ++ c)
three_fit a b c one two three = All-append Fits (a ++ b) c (All-append Fits a b one two) three

count_marks_fit : (most : ℕ) → All Fits (count_marks most)
count_marks_fit most =
    three_fit (count_mark most 0) (count_mark most (most / 2)) (count_mark most most)
    (number_fits 100 _ 0 (omega arith)) (number_fits 100 _ (most / 2) (omega arith))
    (number_fits 100 _ most (omega arith))

scales_fit : (many most : ℕ) → All Fits (scales many most)
scales_fit many most =
    three_fit (counts_axis ∷ []) (count_marks most)
    (event_mark many 0 ++ event_mark many (many / 2) ++ event_mark many many)
    (one_fits counts_axis (omega arith)) (count_marks_fit most)
    (three_fit (event_mark many 0) (event_mark many (many / 2)) (event_mark many many)
    (number_fits _ 272 0 (across_there many 0)) (number_fits _ 272 (many / 2) (across_there many (many / 2)))
    (number_fits _ 272 many (across_there many many)))

event_chart_fits : (notes : List Note) → All Fits (event_chart notes)
event_chart_fits notes =
    let many = length notes in
    let most = most_from 0 notes in
    let samples = samples_of notes in
    let word = codes "events" in
    All-append Fits (axis_elements word ++ scales many most ++ epochs_from many 1 samples)
    (curves many most samples samples)
    (three_fit (axis_elements word) (scales many most) (epochs_from many 1 samples) (axis_fits word (omega arith))
    (scales_fit many most) (epochs_fit many 1 samples)) (curves_fit many most samples samples)

-- The chart by time

word_short : (u : TimeUnit) → length (unit_word u) ≤ 20
word_short unit.Second = omega arith
word_short unit.Millisecond = omega arith
word_short unit.Microsecond = omega arith

time_mark_fits : (u : TimeUnit) (span time : ℕ) → All Fits (time_mark u span time)
time_mark_fits u span time = number_fits _ 272 (time / unit_length u) (across_there span time)

time_scales_fit : (u : TimeUnit) (span most : ℕ) → All Fits (time_scales u span most)
time_scales_fit u span most =
    three_fit (counts_axis ∷ []) (count_marks most) (time_marks u span) (one_fits counts_axis (omega arith))
    (count_marks_fit most)
    (three_fit (time_mark u span 0) (time_mark u span (whole_units u (span / 2))) (time_mark u span (whole_units u span))
    (time_mark_fits u span 0) (time_mark_fits u span (whole_units u (span / 2)))
    (time_mark_fits u span (whole_units u span)))

time_ground_fits : (span most : ℕ) (steps : List Sample) → All Fits (time_ground span most steps)
time_ground_fits span most steps =
    let u = unit_of span in
    three_fit (axis_elements (unit_word u)) (time_scales u span most) (epochs_from span 1 steps)
    (axis_fits (unit_word u) (word_short u)) (time_scales_fit u span most) (epochs_fit span 1 steps)

time_chart_fits : (times : List ℕ) (notes : List Note) → All Fits (time_chart times notes)
time_chart_fits times notes =
    let span = span_of times notes in
    let most = most_from 0 notes in
    let steps = steps_of times notes in
    All-append Fits (time_ground span most steps) (time_curves times notes) (time_ground_fits span most steps)
    (curves_fit span most (came_samples times notes) steps)

chart_fits : (times : List ℕ) (notes : List Note) → All Fits (chart times notes)
chart_fits times notes = by (is_by_time notes)
  where
    by : (b : Bool) → All Fits (if b then time_chart times notes else event_chart notes)
    by true = time_chart_fits times notes
    by false = event_chart_fits notes

-- The legend

key_fits : (x : ℕ) (c : Class) (s : Shape) (words : List ℕ) → reach s ≤ 1300 → x + 24 + 8 * length words ≤ 1300
    → All Fits (key_of x c s words)
unfolding key_of
key_fits x c s words one low =
    two_fit (record { class = c; title = None; shape = s }) (word_at (x + 24) 284 words) one low

line_key_fits : (x : ℕ) (c : Class) (words : List ℕ) → x + 24 + 8 * length words ≤ 1300
    → All Fits (line_key x c words)
line_key_fits x c words low =
    let line : max x (x + 18) ≤ 1300 = omega (arith, low) in
    key_fits x c (shape.Line (record { x = x; y = 280 }) (record { x = x + 18; y = 280 })) words line low

legend_fits : All Fits (curve_keys ++ other_keys)
legend_fits =
    let fed = codes "packets that came in" in
    let left = codes "outputs released" in
    let held = codes "outputs that wait" in
    let epoch = codes "a new epoch" in
    All-append Fits curve_keys other_keys
    (All-append Fits (line_key 120 class.Fed fed ++ line_key 320 class.Left left) (line_key 500 class.Held held)
    (All-append Fits (line_key 120 class.Fed fed) (line_key 320 class.Left left)
    (line_key_fits 120 class.Fed fed (omega arith)) (line_key_fits 320 class.Left left (omega arith)))
    (line_key_fits 500 class.Held held (omega arith)))
    (All-append Fits (line_key 680 class.Crash epoch) bar_key (line_key_fits 680 class.Crash epoch (omega arith))
    (key_fits 840 class.Bar (shape.Rectangle (record { x = 840; y = 272 }) 18 16) (codes "moves of a thread")
    (omega arith) (omega arith)))

-- The bars

between : (a b : ℕ) → a ≤ 1300 → b ≤ 1300 → a + (b - a) ≤ 1300
between a b one two = omega (arith, one, two)

bar_fits : (many most t : ℕ) (s : Slice) → Fits (bar_of many most t s)
bar_fits many most t s =
    between (across many s.first) (across many (s.first + s.events)) (across_low many s.first)
    (across_low many (s.first + s.events))

bars_fit : (many most t : ℕ) (slices : List Slice) → All Fits (bars_of many most t slices)
bars_fit many most t [] = All-nil Fits
bars_fit many most t (s ∷ slices) =
    All-cons Fits (bar_of many most t s) (bars_of many most t slices) (bar_fits many most t s)
    (bars_fit many most t slices)

word_fits : (t : ℕ) → t < 1000 → Fits (word_at 10 (floor_of t) (codes "thread " ++ decimal t))
word_fits t low =
    let digits : length (decimal t) ≤ 3 = length-decimal-le 3 t (omega arith) low (omega (arith, low)) in
    let all : length (codes "thread " ++ decimal t) ≡ 7 + length (decimal t) =
    length-append (codes "thread ") (decimal t) in omega (arith, digits, all)

floor_fits : (most t : ℕ) (notes : List Note) → t < 1000 → All Fits (floor_elements most t notes)
floor_fits most t notes low =
    let word = word_at 10 (floor_of t) (codes "thread " ++ decimal t) in
    three_fit (word ∷ floor_line t ∷ []) (number_at 100 (floor_of t - 22) most)
    (bars_of (length notes) most t (slices_of t notes)) (two_fit word (floor_line t) (word_fits t low) (omega arith))
    (number_fits 100 (floor_of t - 22) most (omega arith)) (bars_fit (length notes) most t (slices_of t notes))

floors_fit : (most t rest : ℕ) (notes : List Note) → t + rest ≤ 1000 → All Fits (floors_from most t rest notes)
floors_fit most t zero notes low = All-nil Fits
floors_fit most t (suc rest) notes low =
    All-append Fits (floor_elements most t notes) (floors_from most (t + 1) rest notes)
    (floor_fits most t notes (omega (arith, low))) (floors_fit most (t + 1) rest notes (omega (arith, low)))

pub overview_within : (threads : ℕ) (times : List ℕ) (notes : List Note) → threads < 1000
    → All (λ (e : Element). reach e.shape ≤ 1300) (overview threads times notes)
overview_within threads times notes low =
    All-append Fits (chart times notes ++ (curve_keys ++ other_keys)) (floors_of threads notes)
    (All-append Fits (chart times notes) (curve_keys ++ other_keys) (chart_fits times notes) legend_fits)
    (floors_fit (most_moves 0 0 threads notes) 0 threads notes (omega (arith, low)))
