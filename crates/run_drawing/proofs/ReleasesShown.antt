-- Each released output has one full mark, and nothing else of what happens has one.
use Rattle.std.proofs.Common.{◌≡◌, ℕ, ◌+◌, ◌-◌, List, [], ◌∷◌, ◌++◌, refl, ap, ◌∙◌, take, drop}
use Rattle.run_drawing.specs.declared.note.Note.{Note}
use Rattle.run_drawing.specs.Picture.{Drawn, after_note, event_elements, events_from, is_several, moves_from}
use Rattle.run_drawing.specs.Picture.{releases_from, sign_class, signs_of}
use Rattle.run_drawing.specs.Places.{arrivals}
use Rattle.run_drawing.specs.Promises.{is_released, numbered_releases, release_titles, titles_where}
use Rattle.run_drawing.proofs.EventsShown.{mark_chosen, moves_hidden, releases_show, sign_hidden}
use Rattle.run_drawing.proofs.Titles.{last_shown, titles_append}

pub releases_shown : (threads : ℕ) (notes : List Note) (d : Drawn)
    → titles_where is_released (events_from threads d notes) ≡ release_titles d.released notes
releases_shown threads [] d = refl
releases_shown threads (n ∷ later) d =
    let here = arrivals d.column n in
    let gone = d.gone ++ drop n.kept d.earlier in
    let made = moves_from threads n.line (is_several n.outcome) gone later d.column (take n.kept d.earlier) n.made in
    let signs = signs_of threads here n.line (sign_class n.event n.outcome) in
    let freed = releases_from threads here n.line (d.released + 1) (n.released - d.released) in
    let numbers = numbered_releases n.line (d.released + 1) (n.released - d.released) in
    titles_append is_released (event_elements threads d n later) (events_from threads (after_note d n) later)
    ∙ (ap (λ l. l ++ titles_where is_released (events_from threads (after_note d n) later))
    (last_shown is_released made signs freed numbers
    (moves_hidden is_released refl refl (mark_chosen is_released _ refl refl refl refl refl refl refl refl refl)
    threads n.line (is_several n.outcome) gone later d.column (take n.kept d.earlier) n.made)
    (sign_hidden is_released refl refl refl refl refl refl threads here n.line n.event n.outcome)
    (releases_show is_released refl threads n.line refl here (d.released + 1) (n.released - d.released)))
    ∙ ap (λ l. numbers ++ l) (releases_shown threads later (after_note d n)))
