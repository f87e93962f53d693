-- Pieces of a picture, one behind another.
use Rattle.std.proofs.Common.{◌≡◌, ℕ, suc, ◌+◌, ◌-◌, ◌<◌, List, [], ◌∷◌, ◌++◌, sym, ap, ◌∙◌, subst, append_assoc, arith}
use Rattle.std.proofs.Common.{drop, get_or, length, take, zero}
use Rattle.std.proofs.lemmas.List.{drop_min, drop_more, take_min, take_rest}
use Rattle.std.specs.Prelude.{codes, decimal, min}
use Rattle.svg_text.specs.declared.drawing.Element.{Element}
use Rattle.run_drawing.specs.declared.note.Note.{Note}
use Rattle.run_drawing.specs.Picture.{Drawn, after_note, event_elements, events_from, full_mark, lane_elements}
use Rattle.run_drawing.specs.Picture.{number_note, releases_from, thread_lanes}
use Rattle.run_drawing.specs.declared.samples.Slice.{Slice}
use Rattle.run_drawing.specs.Slices.{floor_elements, floors_from, most_in, most_moves, slice_of, slices_from, slices_of}

-- one piece more of those that are left
pub behind : (out new whole piece rest : List Element) → out ++ (piece ++ rest) ≡ whole → new ≡ out ++ piece
    → new ++ rest ≡ whole
behind out new whole piece rest so_far is =
    ap (λ (l : List Element). l ++ rest) is ∙ append_assoc out piece rest ∙ so_far

pub two_put : (out mid new : List Element) (a b : Element) → mid ≡ out ++ a ∷ [] → new ≡ mid ++ b ∷ []
    → new ≡ out ++ a ∷ b ∷ []
two_put out mid new a b first second =
    second ∙ ap (λ (l : List Element). l ++ b ∷ []) first ∙ append_assoc out (a ∷ []) (b ∷ [])

-- two or three pieces one after another
pub pieces_put : (out mid new a b : List Element) → mid ≡ out ++ a → new ≡ mid ++ b → new ≡ out ++ (a ++ b)
pieces_put out mid new a b first second =
    second ∙ ap (λ (l : List Element). l ++ b) first ∙ append_assoc out a b

pub three_put : (out one two new a b c : List Element) → one ≡ out ++ a → two ≡ one ++ b → new ≡ two ++ c
    → new ≡ out ++ (a ++ b ++ c)
three_put out one two new a b c first second third =
    pieces_put out two new (a ++ b) c (pieces_put out one two a b first second) third

pub lanes_next : (many t n : ℕ) (out new whole : List Element) → t < n
    → out ++ thread_lanes many t (n - t) ≡ whole
    → new ≡ out ++ lane_elements many t (codes "thread " ++ decimal t)
    → new ++ thread_lanes many (t + 1) (n - (t + 1)) ≡ whole
lanes_next many t n out new whole less so_far is =
    let left : n - t ≡ suc (n - (t + 1)) = omega arith in
    behind out new whole (lane_elements many t (codes "thread " ++ decimal t))
    (thread_lanes many (t + 1) (n - (t + 1)))
    (subst (λ (k : ℕ). out ++ thread_lanes many t k ≡ whole) left so_far) is

pub releases_next : (threads column next number after counter many : ℕ) (line : List ℕ)
    (out mid new whole : List Element) → counter < many → next ≡ column + 1 → after ≡ number + 1
    → out ++ releases_from threads column line number (many - counter) ≡ whole
    → mid ≡ out ++ full_mark threads column line number ∷ [] → new ≡ mid ++ number_note threads column number ∷ []
    → new ++ releases_from threads next line after (many - (counter + 1)) ≡ whole
releases_next threads column next number after counter many line out mid new whole less one two so_far first second =
    let left : many - counter ≡ suc (many - (counter + 1)) = omega arith in
    let marks : List Element = full_mark threads column line number ∷ number_note threads column number ∷ [] in
    let put : new ≡ out ++ marks =
    second
    ∙ ap (λ (l : List Element). l ++ number_note threads column number ∷ []) first
    ∙ append_assoc out (full_mark threads column line number ∷ []) (number_note threads column number ∷ []) in
    subst (λ (k : ℕ). new ++ releases_from threads k line after (many - (counter + 1)) ≡ whole) (sym one)
    (subst (λ (k : ℕ). new ++ releases_from threads (column + 1) line k (many - (counter + 1)) ≡ whole) (sym two)
    (behind out new whole marks (releases_from threads (column + 1) line (number + 1) (many - (counter + 1)))
    (subst (λ (k : ℕ). out ++ releases_from threads column line number k ≡ whole) left so_far) put))

-- one event more
pub events_next : (threads : ℕ) (notes : List Note) (i : ℕ) (note : Note) (d next : Drawn)
    (out new whole : List Element) → i < length notes → note ≡ get_or notes i note
    → out ++ events_from threads d (drop i notes) ≡ whole
    → new ≡ out ++ event_elements threads d note (drop (i + 1) notes) → next ≡ after_note d note
    → new ++ events_from threads next (drop (i + 1) notes) ≡ whole
events_next threads notes i note d next out new whole less is so_far put after =
    let there : drop i notes ≡ note ∷ drop (i + 1) notes =
    drop_more notes i note less ∙ ap (λ (n : Note). n ∷ drop (i + 1) notes) (sym is) in
    subst (λ (x : Drawn). new ++ events_from threads x (drop (i + 1) notes) ≡ whole) (sym after)
    (behind out new whole (event_elements threads d note (drop (i + 1) notes))
    (events_from threads (after_note d note) (drop (i + 1) notes))
    (subst (λ (l : List Note). out ++ events_from threads d l ≡ whole) there so_far) put)

-- one thread more of an overview
pub floors_next : (most t n : ℕ) (notes : List Note) (out new whole : List Element) → t < n
    → out ++ floors_from most t (n - t) notes ≡ whole → new ≡ out ++ floor_elements most t notes
    → new ++ floors_from most (t + 1) (n - (t + 1)) notes ≡ whole
floors_next most t n notes out new whole less so_far is =
    let left : n - t ≡ suc (n - (t + 1)) = omega arith in
    behind out new whole (floor_elements most t notes) (floors_from most (t + 1) (n - (t + 1)) notes)
    (subst (λ (k : ℕ). out ++ floors_from most t k notes ≡ whole) left so_far) is

pub most_next : (most new t n : ℕ) (notes : List Note) (slices slice : List Slice) (all : ℕ) → t < n
    → most_moves most t (n - t) notes ≡ all → slices ≡ slices_of t notes → slice ≡ slices
    → new ≡ most_in most slice → most_moves new (t + 1) (n - (t + 1)) notes ≡ all
most_next most new t n notes slices slice all less so_far are same is =
    let left : n - t ≡ suc (n - (t + 1)) = omega arith in
    let now : new ≡ most_in most (slices_of t notes) = is ∙ ap (most_in most) (same ∙ are) in
    subst (λ (m : ℕ). most_moves m (t + 1) (n - (t + 1)) notes ≡ all) (sym now)
    (subst (λ (k : ℕ). most_moves most t k notes ≡ all) left so_far)

-- one slice more
pub slices_next : (t every left first next many : ℕ) (rest : List Note) (slice : Slice) (out new whole : List Slice)
    → 0 < left → 0 < length rest → many ≡ min every (length rest) → out ++ slices_from t every left first rest ≡ whole
    → slice ≡ slice_of t first (take many rest) → next ≡ first + every → new ≡ out ++ slice ∷ []
    → new ++ slices_from t every (left - 1) next (take (length rest - many) (drop many rest)) ≡ whole
slices_next t every zero first next many rest slice out new whole low some fits so_far is on put =
    absurd (omega (arith, low))
slices_next t every (suc left) first next many [] slice out new whole low some fits so_far is on put =
    absurd (omega (arith, some))
slices_next t every (suc left) first next many (n ∷ notes) slice out new whole low some fits so_far is on put =
    let rest : List Note = n ∷ notes in
    let less : suc left - 1 ≡ left = omega arith in
    let one : take many rest ≡ take every rest = ap (λ (k : ℕ). take k rest) fits ∙ take_min every rest in
    let others : take (length rest - many) (drop many rest) ≡ drop every rest =
    take_rest rest many ∙ (ap (λ (k : ℕ). drop k rest) fits ∙ drop_min every rest) in
    let more : List Slice = slices_from t every left (first + every) (drop every rest) in
    subst (λ (k : ℕ). new ++ slices_from t every k next (take (length rest - many) (drop many rest)) ≡ whole) (sym less)
    (subst (λ (k : ℕ). new ++ slices_from t every left k (take (length rest - many) (drop many rest)) ≡ whole) (sym on)
    (subst (λ (l : List Note). new ++ slices_from t every left (first + every) l ≡ whole) (sym others)
    (ap (λ (l : List Slice). l ++ more)
    (put ∙ ap (λ (x : Slice). out ++ x ∷ []) (is ∙ ap (λ (l : List Note). slice_of t first l) one))
    ∙ (append_assoc out (slice_of t first (take every rest) ∷ []) more ∙ so_far))))
