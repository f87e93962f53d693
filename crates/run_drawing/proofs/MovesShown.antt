-- Each move has one mark, and nothing else of what happens has a mark of a move.
use Rattle.std.proofs.Common.{◌≡◌, ℕ, ◌+◌, ◌-◌, List, [], ◌∷◌, ◌++◌, refl, ap, ◌∙◌, append-nil, take, drop}
use Rattle.std.specs.List.{flat_map}
use Rattle.run_drawing.specs.declared.note.Note.{Note}
use Rattle.run_drawing.specs.Picture.{Drawn, after_note, event_elements, events_from, is_several, moves_from}
use Rattle.run_drawing.specs.Picture.{releases_from, sign_class, signs_of}
use Rattle.run_drawing.specs.Places.{arrivals}
use Rattle.run_drawing.specs.Promises.{is_move, move_titles, titles_where}
use Rattle.run_drawing.proofs.EventsShown.{mark_chosen, moves_show, releases_hidden, sign_hidden}
use Rattle.run_drawing.proofs.Titles.{first_shown, titles_append}

pub moves_shown : (threads : ℕ) (notes : List Note) (d : Drawn)
    → titles_where is_move (events_from threads d notes) ≡ flat_map move_titles notes
moves_shown threads [] d = refl
moves_shown threads (n ∷ later) d =
    let here = arrivals d.column n in
    let gone = d.gone ++ drop n.kept d.earlier in
    let made = moves_from threads n.line (is_several n.outcome) gone later d.column (take n.kept d.earlier) n.made in
    let signs = signs_of threads here n.line (sign_class n.event n.outcome) in
    let freed = releases_from threads here n.line (d.released + 1) (n.released - d.released) in
    titles_append is_move (event_elements threads d n later) (events_from threads (after_note d n) later)
    ∙ (ap (λ l. l ++ titles_where is_move (events_from threads (after_note d n) later))
    (first_shown is_move made signs freed (move_titles n)
    (moves_show is_move refl refl (mark_chosen is_move _ refl refl refl refl refl refl refl refl refl) threads n.line
    (is_several n.outcome) gone later d.column (take n.kept d.earlier) n.made)
    (sign_hidden is_move refl refl refl refl refl refl threads here n.line n.event n.outcome)
    (releases_hidden is_move refl threads n.line refl here (d.released + 1) (n.released - d.released))
    ∙ append-nil (move_titles n))
    ∙ ap (λ l. move_titles n ++ l) (moves_shown threads later (after_note d n)))
