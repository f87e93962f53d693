-- What is drawn of the events stands from left to right, in the order in which it is drawn.
use Rattle.std.proofs.Common.{◌≡◌, ℕ, zero, suc, ◌+◌, ◌-◌, ◌*◌, ◌/◌, ◌≤◌, Bool, true, false, List, [], ◌∷◌, ◌++◌}
use Rattle.std.proofs.Common.{refl, sym, ap, ◌∙◌, subst, arith, length, take, drop}
use Rattle.std.specs.Prelude.{Option, Some, None, if◌then◌else◌, filter, map, min, max}
use Rattle.std.specs.List.Sorted.{IsNonDecreasing}
use Rattle.entry_order.specs.declared.what.What.TheVariants as what
use Rattle.made_moves.specs.declared.made.Did.{Did}
use Rattle.made_moves.specs.declared.made.Did.TheVariants as did
use Rattle.made_moves.specs.declared.made.Made.{Made}
use Rattle.svg_text.specs.declared.class.Class.{Class}
use Rattle.svg_text.specs.declared.class.Class.TheVariants as class
use Rattle.svg_text.specs.declared.drawing.Element.{Element}
use Rattle.run_drawing.specs.declared.note.Cell.{Cell}
use Rattle.run_drawing.specs.declared.note.Note.{Note}
use Rattle.run_drawing.specs.Marks.{access_before, arrow_from, entry_with, is_again, is_lost, mark_class, mark_of}
use Rattle.run_drawing.specs.Marks.{move_title, shape_of, var_of}
use Rattle.run_drawing.specs.Picture.{Drawn, after_note, cell_at, event_elements, events_from, full_mark}
use Rattle.run_drawing.specs.Picture.{is_several, moves_from, number_note, releases_from, sign_at, sign_class}
use Rattle.run_drawing.specs.Picture.{signs_of}
use Rattle.run_drawing.specs.Places.{arrivals, columns, entry_lane, left, width}
use Rattle.run_drawing.specs.Promises.{is_placed, place_of, places}
use Rattle.run_drawing.proofs.Rising.{Rises, rises, rises_append}

places_append : (xs ys : List Element) → places (xs ++ ys) ≡ places xs ++ places ys
places_append [] ys = refl
places_append (x ∷ xs) ys = by (is_placed x.class) (places_append xs ys)
  where
    by : (b : Bool) → places (xs ++ ys) ≡ places xs ++ places ys
        → map (λ (e : Element). place_of e.shape) (if b then x ∷ filter (λ (e : Element). is_placed e.class) (xs ++ ys)
        else filter (λ (e : Element). is_placed e.class) (xs ++ ys))
        ≡ map (λ (e : Element). place_of e.shape) (if b then x ∷ filter (λ (e : Element). is_placed e.class) xs
        else filter (λ (e : Element). is_placed e.class) xs) ++ places ys
    by true h = ap (λ (l : List ℕ). place_of x.shape ∷ l) h
    by false h = h

-- two pieces one after another
both : (low mid high : ℕ) (xs ys : List Element) → Rises low mid (places xs) → Rises mid high (places ys)
    → Rises low high (places (xs ++ ys))
both low mid high xs ys first second =
    subst (λ (l : List ℕ). Rises low high l) (sym (places_append xs ys))
    (rises_append low mid high (places xs) (places ys) first second)

-- The middle of a column

abbrev spot : ℕ → ℕ
spot column = left column + 10

spot_up : (a b : ℕ) → a ≤ b → spot a ≤ spot b
spot_up a b up = omega (arith, up)

same : (a : ℕ) → a ≤ a
same a = omega arith

at_spot : (a b : ℕ) → a ≡ b → Rises a a (b ∷ [])
at_spot a b is = let low : a ≤ b = omega (arith, is) in let high : b ≤ a = omega (arith, is) in (low, high)

-- Of one move

took_middle : (l : ℕ) → (min (l + 4) (min (l + 17) (l + 4)) + max (l + 4) (max (l + 17) (max (l + 4) 0))) / 2 ≡ l + 10
took_middle l = omega arith

sent_middle : (l : ℕ) → (min (l + 10) (min (l + 17) (l + 3)) + max (l + 10) (max (l + 17) (max (l + 3) 0))) / 2 ≡ l + 10
sent_middle l = omega arith

draw_middle : (l : ℕ) → (min (l + 3) (min (l + 17) (l + 10)) + max (l + 3) (max (l + 17) (max (l + 10) 0))) / 2 ≡ l + 10
draw_middle l = omega arith

clock_middle : (l : ℕ)
    → (min (l + 10) (min (l + 18) (min (l + 10) (l + 2)))
    + max (l + 10) (max (l + 18) (max (l + 10) (max (l + 2) 0)))) / 2 ≡ l + 10
clock_middle l = omega arith

touch_middle : (l : ℕ) → l + 4 + 12 / 2 ≡ l + 10
touch_middle l = omega arith

end_middle : (l : ℕ) → l + 8 + 4 / 2 ≡ l + 10
end_middle l = omega arith

mark_middle : (column lane : ℕ) (d : Did) → place_of (shape_of column lane d) ≡ spot column
mark_middle column lane (did.Took k) = took_middle (left column)
mark_middle column lane (did.Logged n (what.Access v p)) = touch_middle (left column)
mark_middle column lane (did.Logged n (what.Read v a)) = refl
mark_middle column lane (did.Logged n (what.Clock a)) = clock_middle (left column)
mark_middle column lane (did.Logged n (what.Draw a)) = draw_middle (left column)
mark_middle column lane (did.Sent j) = sent_middle (left column)
mark_middle column lane (did.Ended k) = end_middle (left column)

mark_placed : (lost again : Bool) (d : Did) → is_placed (mark_class lost again d) ≡ true
mark_placed true again d = refl
mark_placed false true d = refl
mark_placed false false (did.Took k) = refl
mark_placed false false (did.Logged n (what.Access v p)) = refl
mark_placed false false (did.Logged n (what.Read v a)) = refl
mark_placed false false (did.Logged n (what.Clock a)) = refl
mark_placed false false (did.Logged n (what.Draw a)) = refl
mark_placed false false (did.Sent j) = refl
mark_placed false false (did.Ended k) = refl

arrow_rises : (column t : ℕ) (o : Option Cell) → Rises (spot column) (spot column) (places (arrow_from column t o))
arrow_rises column t None = same (spot column)
arrow_rises column t (Some c) = same (spot column)

mark_rises : (line : List ℕ) (gone : List Cell) (later : List Note) (place column : ℕ) (m : Made)
    → Rises (spot column) (spot column) (places (mark_of line gone later place column m ∷ []))
mark_rises line gone later place column m =
    let mark = mark_of line gone later place column m in
    let shown : places (mark ∷ []) ≡ place_of mark.shape ∷ [] =
    ap (λ (b : Bool). map (λ (e : Element). place_of e.shape) (if b then mark ∷ [] else []))
    (mark_placed (is_lost place later) (is_again m gone) m.did) in
    subst (λ (l : List ℕ). Rises (spot column) (spot column) l) (sym shown)
    (at_spot (spot column) (place_of mark.shape) (sym (mark_middle column m.thread m.did)))

entry_rises : (several : Bool) (lane column : ℕ) (title : List ℕ) (d : Did)
    → Rises (spot column) (spot column) (places (entry_with several lane column title d))
entry_rises true lane column title (did.Took k) = same (spot column)
entry_rises true lane column title (did.Logged n w) = (same (spot column), same (spot column))
entry_rises true lane column title (did.Sent j) = same (spot column)
entry_rises true lane column title (did.Ended k) = same (spot column)
entry_rises false lane column title (did.Took k) = same (spot column)
entry_rises false lane column title (did.Logged n w) = same (spot column)
entry_rises false lane column title (did.Sent j) = same (spot column)
entry_rises false lane column title (did.Ended k) = same (spot column)

-- Of the moves of an event

moves_rise : (threads : ℕ) (line : List ℕ) (several : Bool) (gone : List Cell) (later : List Note) (column : ℕ)
    (earlier : List Cell) (made : List Made)
    → Rises (spot column) (spot (column + length made))
    (places (moves_from threads line several gone later column earlier made))
moves_rise threads line several gone later column earlier [] = spot_up column (column + 0) (omega arith)
moves_rise threads line several gone later column earlier (m ∷ made) =
    let at = spot column in
    let arrow = arrow_from column m.thread (access_before (var_of m.did) earlier) in
    let mark = mark_of line gone later (length earlier) column m ∷ [] in
    let entry = entry_with several (entry_lane threads) column (move_title line m) m.did in
    let rest = moves_from threads line several gone later (column + 1) (earlier ++ cell_at column m ∷ []) made in
    let end = spot (column + length (m ∷ made)) in
    let on = moves_rise threads line several gone later (column + 1) (earlier ++ cell_at column m ∷ []) made in
    let next : column + 1 + length made ≡ column + length (m ∷ made) = omega arith in
    let later_on : Rises at end (places rest) =
    rises_append at (spot (column + 1)) end [] (places rest) (spot_up column (column + 1) (omega arith))
    (subst (λ (k : ℕ). Rises (spot (column + 1)) (spot k) (places rest)) next on) in
    both at at end (arrow ++ mark ++ entry) rest
    (both at at at (arrow ++ mark) entry
    (both at at at arrow mark (arrow_rises column m.thread (access_before (var_of m.did) earlier))
    (mark_rises line gone later (length earlier) column m))
    (entry_rises several (entry_lane threads) column (move_title line m) m.did)) later_on

-- Of the rest

line_middle : (l : ℕ) → l + 10 ≡ (l + 10 + (l + 10)) / 2
line_middle l = omega arith

one_sign : (threads column : ℕ) (line : List ℕ) (c : Class)
    → Rises (spot column) (spot column) (places (sign_at threads column line c ∷ []))
one_sign threads column line class.Entry = (same (spot column), same (spot column))
one_sign threads column line class.Waiting = (same (spot column), same (spot column))
one_sign threads column line class.Arrow = same (spot column)
one_sign threads column line class.Paper = at_spot _ _ (line_middle (left column))
one_sign threads column line class.Heading = at_spot _ _ (line_middle (left column))
one_sign threads column line class.Label = at_spot _ _ (line_middle (left column))
one_sign threads column line class.Note = at_spot _ _ (line_middle (left column))
one_sign threads column line class.Lane = at_spot _ _ (line_middle (left column))
one_sign threads column line class.Band = at_spot _ _ (line_middle (left column))
one_sign threads column line class.OtherBand = at_spot _ _ (line_middle (left column))
one_sign threads column line class.Take = at_spot _ _ (line_middle (left column))
one_sign threads column line class.Touch = at_spot _ _ (line_middle (left column))
one_sign threads column line class.Read = at_spot _ _ (line_middle (left column))
one_sign threads column line class.Clock = at_spot _ _ (line_middle (left column))
one_sign threads column line class.Draw = at_spot _ _ (line_middle (left column))
one_sign threads column line class.Send = at_spot _ _ (line_middle (left column))
one_sign threads column line class.End = at_spot _ _ (line_middle (left column))
one_sign threads column line class.Again = at_spot _ _ (line_middle (left column))
one_sign threads column line class.Lost = at_spot _ _ (line_middle (left column))
one_sign threads column line class.Released = at_spot _ _ (line_middle (left column))
one_sign threads column line class.Snap = at_spot _ _ (line_middle (left column))
one_sign threads column line class.Store = at_spot _ _ (line_middle (left column))
one_sign threads column line class.Crash = at_spot _ _ (line_middle (left column))
one_sign threads column line class.Recover = at_spot _ _ (line_middle (left column))
one_sign threads column line class.Fed = at_spot _ _ (line_middle (left column))
one_sign threads column line class.Left = at_spot _ _ (line_middle (left column))
one_sign threads column line class.Held = at_spot _ _ (line_middle (left column))
one_sign threads column line class.Bar = at_spot _ _ (line_middle (left column))

sign_rises : (threads column : ℕ) (line : List ℕ) (o : Option Class)
    → Rises (spot column) (spot column) (places (signs_of threads column line o))
sign_rises threads column line None = same (spot column)
sign_rises threads column line (Some c) = one_sign threads column line c

releases_rise : (threads column : ℕ) (line : List ℕ) (number many : ℕ)
    → Rises (spot column) (spot (column + many)) (places (releases_from threads column line number many))
releases_rise threads column line number zero = spot_up column (column + 0) (omega arith)
releases_rise threads column line number (suc many) =
    let at = spot column in
    let rest = places (releases_from threads (column + 1) line (number + 1) many) in
    let next : column + 1 + many ≡ column + suc many = omega arith in
    let on : Rises at (spot (column + suc many)) rest =
    rises_append at (spot (column + 1)) (spot (column + suc many)) [] rest
    (spot_up column (column + 1) (omega arith))
    (subst (λ (k : ℕ). Rises (spot (column + 1)) (spot k) rest) next
    (releases_rise threads (column + 1) line (number + 1) many)) in
    (same at, (same at, on))

-- Of all events

fits : (column made freed : ℕ) → column + made + freed ≤ column + max 1 (made + freed)
fits column made freed = omega arith

events_rise : (threads : ℕ) (notes : List Note) (d : Drawn)
    → Rises (spot d.column) (spot (d.column + columns d.released notes)) (places (events_from threads d notes))
events_rise threads [] d = spot_up d.column (d.column + 0) (omega arith)
events_rise threads (n ∷ later) d =
    let freed = n.released - d.released in
    let gone = d.gone ++ drop n.kept d.earlier in
    let here = arrivals d.column n in
    let next = d.column + width d.released n in
    let end = spot (d.column + columns d.released (n ∷ later)) in
    let made = moves_from threads n.line (is_several n.outcome) gone later d.column (take n.kept d.earlier) n.made in
    let signs = signs_of threads here n.line (sign_class n.event n.outcome) in
    let outputs = releases_from threads here n.line (d.released + 1) freed in
    let rest = events_from threads (after_note d n) later in
    let on = events_rise threads later (after_note d n) in
    let far : next + columns n.released later ≡ d.column + columns d.released (n ∷ later) = omega arith in
    let first : Rises (spot d.column) (spot here) (places (made ++ signs)) =
    both (spot d.column) (spot here) (spot here) made signs
    (moves_rise threads n.line (is_several n.outcome) gone later d.column (take n.kept d.earlier) n.made)
    (sign_rises threads here n.line (sign_class n.event n.outcome)) in
    let event : Rises (spot d.column) (spot (here + freed)) (places (made ++ signs ++ outputs)) =
    both (spot d.column) (spot here) (spot (here + freed)) (made ++ signs) outputs first
    (releases_rise threads here n.line (d.released + 1) freed) in
    let gap : spot (here + freed) ≤ spot next =
    spot_up (here + freed) next (fits d.column (length n.made) freed) in
    both (spot d.column) (spot (here + freed)) end (made ++ signs ++ outputs) rest event
    (rises_append (spot (here + freed)) (spot next) end [] (places rest) gap
    (subst (λ (k : ℕ). Rises (spot next) (spot k) (places rest)) far on))

pub to_the_right : (threads : ℕ) (notes : List Note) (d : Drawn)
    → IsNonDecreasing (places (events_from threads d notes))
to_the_right threads notes d = rises (spot d.column) _ _ (events_rise threads notes d)
