-- The curves of a chart by time go right, end with all counts, and stand upright at the time of each event.
use Rattle.std.proofs.Common.{◌≡◌, ℕ, suc, ◌+◌, ◌-◌, ◌*◌, ◌/◌, ◌%◌, ◌≤◌, Bool, true, false, List, [], ◌∷◌, ◌++◌}
use Rattle.std.proofs.Common.{◌<◌, refl, ap, ◌∙◌, arith, length, take}
use Rattle.std.specs.Prelude.{All, ◌||◌, Option, Some, if◌then◌else◌, nat_eq, map, max, min}
use Rattle.std.specs.List.Sorted.{IsNonDecreasing}
use Rattle.std.proofs.lemmas.List.Elements.{All-cons, All-nil}
use Rattle.std.proofs.lemmas.Bool.{eq-eqb}
use Rattle.std.proofs.lemmas.Nat.{le-div}
use Rattle.std.proofs.Math.Nat.{div-mul-le_self}
use Rattle.svg_text.specs.declared.drawing.Element.{Element}
use Rattle.svg_text.specs.declared.drawing.Point.{Point}
use Rattle.run_drawing.specs.declared.note.Note.{Note}
use Rattle.run_drawing.specs.declared.samples.Sample.{Sample}
use Rattle.run_drawing.specs.declared.samples.Count.{Count}
use Rattle.run_drawing.specs.declared.samples.Count.TheVariants as count
use Rattle.run_drawing.specs.Overview.{counted, curve, first_sample, most_from, points_from, sample_of}
use Rattle.run_drawing.specs.Promises.{end_of, last_count, last_height, line_places, note_count, spot_at, time_until}
use Rattle.run_drawing.specs.Scales.{across, upwards}
use Rattle.run_drawing.specs.TimeChart.{came, came_from, came_sample, came_samples, first_time, latest}
use Rattle.run_drawing.specs.TimeChart.{span_of, steps_from, steps_of, time_curves, time_of}
use Rattle.run_drawing.proofs.Rising.{Rises, rises}

-- To the right

parts_up : (a b m : ℕ) → 0 < m → a ≤ b → a / m ≤ b / m
parts_up a b m some up = le-div (a / m) b m some (let low = div-mul-le_self a m in omega (arith, up, low))

across_up : (many a b : ℕ) → a ≤ b → across many a ≤ across many b
across_up many a b up =
    let parts = parts_up (min a 10000000000000000 * 1000) (min b 10000000000000000 * 1000) (max 1 many)
    (omega arith) (omega (arith, up)) in
    capped_up _ _ parts
  where
    capped_up : (x y : ℕ) → x ≤ y → 120 + min x 1000 ≤ 120 + min y 1000
    capped_up x y up = omega (arith, up)

-- samples at times that go from one on, and never fall
abbrev RisesAll : ℕ → List Sample → Type 0
RisesAll low [] = Unit {0}
RisesAll low (s ∷ samples) = (low ≤ s.index) × RisesAll s.index samples

points_rise : (c : Count) (many most low : ℕ) (samples : List Sample) → RisesAll low samples
    → Rises (across many low) 1120 (map (λ (p : Point). p.x) (points_from c many most samples))
points_rise c many most low [] rise = capped (min low 10000000000000000 * 1000 / max 1 many)
  where
    capped : (n : ℕ) → 120 + min n 1000 ≤ 1120
    capped n = omega arith
points_rise c many most low (s ∷ samples) rise =
    (across_up many low s.index rise.0, points_rise c many most s.index samples rise.1)

latest_up : (first so : ℕ) (times : List ℕ) → so ≤ latest first so times
latest_up first so [] = omega arith
latest_up first so (t ∷ times) = let on = latest_up first (max so (t - first)) times in omega (arith, on)

all_low : (less low : ℕ) (samples : List Sample) → less ≤ low → RisesAll low samples → RisesAll less samples
all_low less low [] below rise = tt
all_low less low (s ∷ samples) below rise = (omega (arith, below, rise.0), rise.1)

came_rise : (every many first so i : ℕ) (times : List ℕ) → RisesAll so (came_from every many first so i times)
came_rise every many first so i [] = tt
came_rise every many first so i (t ∷ times) =
    by (nat_eq ((i + 1) % every) 0 || nat_eq (i + 1) many) (came_rise every many first (max so (t - first)) (i + 1) times)
  where
    up : so ≤ max so (t - first)
    up = omega arith

    by : (b : Bool)
        → RisesAll (max so (t - first)) (came_from every many first (max so (t - first)) (i + 1) times)
        → RisesAll so ((if b then came_sample (max so (t - first)) (i + 1) ∷ [] else [])
        ++ came_from every many first (max so (t - first)) (i + 1) times)
    by true rise = (up, rise)
    by false rise = all_low so (max so (t - first)) _ up rise

steps_rise : (times : List ℕ) (before : Sample) (notes : List Note)
    → RisesAll before.index (steps_from times before notes)
steps_rise times before [] = tt
steps_rise times before (n ∷ later) = (
  latest_up (first_time times) before.index (take n.fed times),
  (omega arith, steps_rise times (sample_of (time_of times before n) n) later),
)

curve_right : (c : Count) (many most : ℕ) (samples : List Sample) → RisesAll 0 samples
    → IsNonDecreasing (line_places (curve c many most samples).shape)
curve_right c many most samples rise =
    rises (across many 0) 1120 _ (points_rise c many most 0 samples rise)

abbrev Right : Element → Type 0
Right e = IsNonDecreasing (line_places e.shape)

pub curves_right : (times : List ℕ) (notes : List Note)
    → All (λ (e : Element). IsNonDecreasing (line_places e.shape)) (time_curves times notes)
curves_right times notes =
    let span = span_of times notes in
    let most = most_from 0 notes in
    let all = came times notes in
    let packets = came_samples times notes in
    let steps = steps_of times notes in
    let came_up : RisesAll 0 packets =
    (omega arith, came_rise (length all / 200 + 1) (length all) (first_time times) 0 0 all) in
    let steps_up : RisesAll 0 steps = (omega arith, steps_rise times first_sample notes) in
    All-cons Right (curve count.Fed span most packets)
    (curve count.Left span most steps ∷ curve count.Held span most steps ∷ [])
    (curve_right count.Fed span most packets came_up)
    (All-cons Right (curve count.Left span most steps) (curve count.Held span most steps ∷ [])
    (curve_right count.Left span most steps steps_up)
    (All-cons Right (curve count.Held span most steps) [] (curve_right count.Held span most steps steps_up)
    (All-nil Right)))

-- The ends

-- the count of the last of samples; this, where there is none
abbrev last_counted : Count → ℕ → List Sample → ℕ
last_counted c before [] = before
last_counted c before (s ∷ samples) = last_counted c (counted c s) samples

height_of : (c : Count) (many most : ℕ) (s : Sample) (samples : List Sample)
    → last_height (points_from c many most (s ∷ samples)) ≡ Some (upwards most (last_counted c (counted c s) samples))
height_of c many most s [] = refl
height_of c many most s (next ∷ samples) = height_of c many most next samples

came_all : (every many first so i before t : ℕ) (times : List ℕ) → i + suc (length times) ≡ many
    → last_counted count.Fed before (came_from every many first so i (t ∷ times)) ≡ many
came_all every many first so i before t [] all =
    by (nat_eq ((i + 1) % every) 0) (nat_eq (i + 1) many) (eq-eqb (i + 1) many (omega (arith, all)))
  where
    by : (a b : Bool) → b ≡ true
        → last_counted count.Fed before
        ((if a || b then came_sample (max so (t - first)) (i + 1) ∷ [] else []) ++ []) ≡ many
    by true b is = omega (arith, all)
    by false true is = omega (arith, all)
    by false false is = absurd (cc)
came_all every many first so i before t (u ∷ times) all =
    by (nat_eq ((i + 1) % every) 0 || nat_eq (i + 1) many)
    (λ (k : ℕ). came_all every many first (max so (t - first)) (i + 1) k u times (omega (arith, all)))
  where
    by : (b : Bool)
        → ((k : ℕ) → last_counted count.Fed k (came_from every many first (max so (t - first)) (i + 1) (u ∷ times)) ≡ many)
        → last_counted count.Fed before
        ((if b then came_sample (max so (t - first)) (i + 1) ∷ [] else [])
        ++ came_from every many first (max so (t - first)) (i + 1) (u ∷ times)) ≡ many
    by true rest = rest (i + 1)
    by false rest = rest before

all_came : (every first : ℕ) (times : List ℕ)
    → last_counted count.Fed 0 (came_from every (length times) first 0 0 times) ≡ length times
all_came every first [] = refl
all_came every first (t ∷ times) = came_all every (suc (length times)) first 0 0 0 t times (omega arith)

steps_all : (c : Count) (times : List ℕ) (before : Sample) (notes : List Note)
    → last_counted c (counted c before) (steps_from times before notes) ≡ last_count c (counted c before) notes
steps_all c times before [] = refl
steps_all count.Fed times before (n ∷ later) =
    steps_all count.Fed times (sample_of (time_of times before n) n) later
steps_all count.Left times before (n ∷ later) =
    steps_all count.Left times (sample_of (time_of times before n) n) later
steps_all count.Held times before (n ∷ later) =
    steps_all count.Held times (sample_of (time_of times before n) n) later

pub curves_end : (times : List ℕ) (notes : List Note)
    → map (λ (e : Element). end_of e.shape) (time_curves times notes)
    ≡ Some (upwards (most_from 0 notes) (length (came times notes)))
    ∷ Some (upwards (most_from 0 notes) (last_count count.Left 0 notes))
    ∷ Some (upwards (most_from 0 notes) (last_count count.Held 0 notes)) ∷ []
curves_end times notes =
    let most = most_from 0 notes in
    let all = came times notes in
    three (ends count.Fed first_sample
    (came_from (length all / 200 + 1) (length all) (first_time times) 0 0 all) (length all)
    (all_came (length all / 200 + 1) (first_time times) all))
    (ends count.Left first_sample (steps_from times first_sample notes) (last_count count.Left 0 notes)
    (steps_all count.Left times first_sample notes))
    (ends count.Held first_sample (steps_from times first_sample notes) (last_count count.Held 0 notes)
    (steps_all count.Held times first_sample notes))
  where
    ends : (c : Count) (s : Sample) (samples : List Sample) (n : ℕ) → last_counted c (counted c s) samples ≡ n
        → last_height (points_from c (span_of times notes) (most_from 0 notes) (s ∷ samples))
        ≡ Some (upwards (most_from 0 notes) n)
    ends c s samples n is =
        height_of c (span_of times notes) (most_from 0 notes) s samples
        ∙ ap (λ (k : ℕ). Some (upwards (most_from 0 notes) k)) is

    three : {a b c x y z : Option ℕ} → a ≡ x → b ≡ y → c ≡ z → a ∷ b ∷ c ∷ [] ≡ x ∷ y ∷ z ∷ []
    three {a} {b} {c} {x} {y} {z} one two last =
        ap (λ (o : Option ℕ). o ∷ b ∷ c ∷ []) one
        ∙ (ap (λ (o : Option ℕ). x ∷ o ∷ c ∷ []) two ∙ ap (λ (o : Option ℕ). x ∷ y ∷ o ∷ []) last)

-- Upright

upright_from : (c : Count) (span most : ℕ) (times : List ℕ) (before : Sample) (earlier : List Note) (n : Note)
    → points_from c span most (steps_from times before (earlier ++ n ∷ []))
    ≡ points_from c span most (steps_from times before earlier)
    ++ spot_at span most (time_until times before.index (earlier ++ n ∷ [])) (last_count c (counted c before) earlier)
    ∷ spot_at span most (time_until times before.index (earlier ++ n ∷ [])) (note_count c n) ∷ []
upright_from count.Fed span most times before [] n = refl
upright_from count.Left span most times before [] n = refl
upright_from count.Held span most times before [] n = refl
upright_from count.Fed span most times before (m ∷ earlier) n =
    let time = time_of times before m in
    ap
    (λ (l : List Point). spot_at span most time before.fed ∷ spot_at span most time m.fed ∷ l)
    (upright_from count.Fed span most times (sample_of time m) earlier n)
upright_from count.Left span most times before (m ∷ earlier) n =
    let time = time_of times before m in
    ap
    (λ (l : List Point). spot_at span most time before.released ∷ spot_at span most time m.released ∷ l)
    (upright_from count.Left span most times (sample_of time m) earlier n)
upright_from count.Held span most times before (m ∷ earlier) n =
    let time = time_of times before m in
    ap
    (λ (l : List Point). spot_at span most time before.waiting ∷ spot_at span most time m.waiting ∷ l)
    (upright_from count.Held span most times (sample_of time m) earlier n)

pub upright : (c : Count) (span most : ℕ) (times : List ℕ) (earlier : List Note) (n : Note)
    → points_from c span most (steps_of times (earlier ++ n ∷ []))
    ≡ points_from c span most (steps_of times earlier)
    ++ spot_at span most (time_until times 0 (earlier ++ n ∷ [])) (last_count c 0 earlier)
    ∷ spot_at span most (time_until times 0 (earlier ++ n ∷ [])) (note_count c n) ∷ []
upright count.Fed span most times earlier n =
    ap (λ (l : List Point). spot_at span most 0 0 ∷ l)
    (upright_from count.Fed span most times first_sample earlier n)
upright count.Left span most times earlier n =
    ap (λ (l : List Point). spot_at span most 0 0 ∷ l)
    (upright_from count.Left span most times first_sample earlier n)
upright count.Held span most times earlier n =
    ap (λ (l : List Point). spot_at span most 0 0 ∷ l)
    (upright_from count.Held span most times first_sample earlier n)
