-- Moves and releases are drawn in the order in which they happened.
use Rattle.std.proofs.Common.{◌≡◌, ℕ, ◌+◌, ◌-◌, List, [], ◌∷◌, ◌++◌, refl, ap, ◌∙◌, append-nil, take, drop}
use Rattle.run_drawing.specs.declared.note.Note.{Note}
use Rattle.run_drawing.specs.Picture.{Drawn, after_note, event_elements, events_from, is_several, moves_from}
use Rattle.run_drawing.specs.Picture.{releases_from, sign_class, signs_of}
use Rattle.run_drawing.specs.Places.{arrivals}
use Rattle.run_drawing.specs.Promises.{happened, is_move_or_release, move_titles, numbered_releases, titles_where}
use Rattle.run_drawing.proofs.EventsShown.{mark_chosen, moves_show, releases_show, sign_hidden}
use Rattle.run_drawing.proofs.Titles.{titles_append}

pub all_happened : (threads : ℕ) (notes : List Note) (d : Drawn)
    → titles_where is_move_or_release (events_from threads d notes) ≡ happened d.released notes
all_happened threads [] d = refl
all_happened threads (n ∷ later) d =
    let is = is_move_or_release in
    let here = arrivals d.column n in
    let gone = d.gone ++ drop n.kept d.earlier in
    let made = moves_from threads n.line (is_several n.outcome) gone later d.column (take n.kept d.earlier) n.made in
    let signs = signs_of threads here n.line (sign_class n.event n.outcome) in
    let freed = releases_from threads here n.line (d.released + 1) (n.released - d.released) in
    let numbers = numbered_releases n.line (d.released + 1) (n.released - d.released) in
    let rest = events_from threads (after_note d n) later in
    titles_append is (event_elements threads d n later) rest
    ∙ (ap (λ l. l ++ titles_where is rest) (titles_append is (made ++ signs) freed
    ∙ (ap (λ l. titles_where is (made ++ signs) ++ l)
    (releases_show is refl threads n.line refl here (d.released + 1) (n.released - d.released))
    ∙ ap (λ l. l ++ numbers) (titles_append is made signs
    ∙ (ap (λ l. titles_where is made ++ l)
    (sign_hidden is refl refl refl refl refl refl threads here n.line n.event n.outcome)
    ∙ (append-nil (titles_where is made)
    ∙ moves_show is refl refl (mark_chosen is _ refl refl refl refl refl refl refl refl refl) threads n.line
    (is_several n.outcome) gone later d.column (take n.kept d.earlier) n.made)))))
    ∙ ap (λ l. (move_titles n ++ numbers) ++ l) (all_happened threads later (after_note d n)))
