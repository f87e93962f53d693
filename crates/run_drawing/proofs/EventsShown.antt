-- What is shown of the pieces of an event, where some classes are chosen.
use Rattle.std.proofs.Common.{◌≡◌, ℕ, zero, suc, ◌+◌, Bool, true, false, List, [], ◌∷◌, ◌++◌, refl, ap, ◌∙◌, length}
use Rattle.std.specs.Prelude.{Option, Some, None, if◌then◌else◌, map, codes, decimal}
use Rattle.entry_order.specs.declared.what.What.TheVariants as what
use Rattle.recovery_world.specs.declared.event.Event.{Event}
use Rattle.recovery_world.specs.declared.event.Outcome.{Outcome}
use Rattle.recovery_world.specs.declared.event.Outcome.TheVariants as outcome
use Rattle.made_moves.specs.declared.made.Did.{Did}
use Rattle.made_moves.specs.declared.made.Did.TheVariants as did
use Rattle.made_moves.specs.declared.made.Made.{Made}
use Rattle.svg_text.specs.declared.class.Class.{Class}
use Rattle.svg_text.specs.declared.class.Class.TheVariants as class
use Rattle.svg_text.specs.declared.drawing.Element.{Element}
use Rattle.run_drawing.specs.declared.note.Cell.{Cell}
use Rattle.run_drawing.specs.declared.note.Note.{Note}
use Rattle.run_drawing.specs.Marks.{access_before, arrow_from, entry_with, is_again, is_lost, mark_class, mark_of}
use Rattle.run_drawing.specs.Marks.{move_title, var_of}
use Rattle.run_drawing.specs.Picture.{cell_at, full_mark, is_output_event, moves_from, number_note, releases_from}
use Rattle.run_drawing.specs.Picture.{sign_at, sign_class, signs_of}
use Rattle.run_drawing.specs.Places.{entry_lane}
use Rattle.run_drawing.specs.Promises.{numbered_releases, titles_where}
use Rattle.run_drawing.proofs.Titles.{last_shown, titles_append}

pub shown : (is : Class → Bool) (e : Element) → is e.class ≡ true → titles_where is (e ∷ []) ≡ e.title ∷ []
shown is e chosen = ap (λ (b : Bool). map (λ (x : Element). x.title) (if b then e ∷ [] else [])) chosen

pub hidden : (is : Class → Bool) (e : Element) → is e.class ≡ false → titles_where is (e ∷ []) ≡ []
hidden is e left_out = ap (λ (b : Bool). map (λ (x : Element). x.title) (if b then e ∷ [] else [])) left_out

-- Of the moves, where arrows and entries are not chosen

module _ (is : Class → Bool) (no_arrows : is class.Arrow ≡ false) (no_entries : is class.Entry ≡ false) where
  arrow_hidden : (column t : ℕ) (o : Option Cell) → titles_where is (arrow_from column t o) ≡ []
  arrow_hidden column t None = refl
  arrow_hidden column t (Some c) = hidden is _ no_arrows

  entry_hidden : (several : Bool) (lane column : ℕ) (title : List ℕ) (d : Did)
      → titles_where is (entry_with several lane column title d) ≡ []
  entry_hidden true lane column title (did.Took k) = refl
  entry_hidden true lane column title (did.Logged n w) = hidden is _ no_entries
  entry_hidden true lane column title (did.Sent j) = refl
  entry_hidden true lane column title (did.Ended k) = refl
  entry_hidden false lane column title (did.Took k) = refl
  entry_hidden false lane column title (did.Logged n w) = refl
  entry_hidden false lane column title (did.Sent j) = refl
  entry_hidden false lane column title (did.Ended k) = refl

  pub moves_show : ((lost again : Bool) (d : Did) → is (mark_class lost again d) ≡ true) → (threads : ℕ)
      (line : List ℕ) (several : Bool) (gone : List Cell) (later : List Note) (column : ℕ) (earlier : List Cell)
      (made : List Made) → titles_where is (moves_from threads line several gone later column earlier made)
      ≡ map (λ m. Some (move_title line m)) made
  moves_show chosen threads line several gone later column earlier [] = refl
  moves_show chosen threads line several gone later column earlier (m ∷ made) =
      let arrow = arrow_from column m.thread (access_before (var_of m.did) earlier) in
      let mark = mark_of line gone later (length earlier) column m in
      let entry = entry_with several (entry_lane threads) column (move_title line m) m.did in
      let rest = moves_from threads line several gone later (column + 1) (earlier ++ cell_at column m ∷ []) made in
      titles_append is (arrow ++ (mark ∷ []) ++ entry) rest
      ∙ (ap (λ l. l ++ titles_where is rest) (titles_append is (arrow ++ (mark ∷ [])) entry
      ∙ (ap (λ l. titles_where is (arrow ++ (mark ∷ [])) ++ l) (entry_hidden several (entry_lane threads) column
      (move_title line m) m.did)
      ∙ ap (λ l. l ++ []) (titles_append is arrow (mark ∷ [])
      ∙ (ap (λ l. l ++ titles_where is (mark ∷ []))
      (arrow_hidden column m.thread (access_before (var_of m.did) earlier))
      ∙ shown is mark (chosen (is_lost (length earlier) later) (is_again m gone) m.did)))))
      ∙ ap (λ l. Some (move_title line m) ∷ l) (moves_show chosen threads line several gone later (column + 1)
      (earlier ++ cell_at column m ∷ []) made))

  pub moves_hidden : ((lost again : Bool) (d : Did) → is (mark_class lost again d) ≡ false) → (threads : ℕ)
      (line : List ℕ) (several : Bool) (gone : List Cell) (later : List Note) (column : ℕ) (earlier : List Cell)
      (made : List Made) → titles_where is (moves_from threads line several gone later column earlier made) ≡ []
  moves_hidden chosen threads line several gone later column earlier [] = refl
  moves_hidden chosen threads line several gone later column earlier (m ∷ made) =
      let arrow = arrow_from column m.thread (access_before (var_of m.did) earlier) in
      let mark = mark_of line gone later (length earlier) column m in
      let entry = entry_with several (entry_lane threads) column (move_title line m) m.did in
      let rest = moves_from threads line several gone later (column + 1) (earlier ++ cell_at column m ∷ []) made in
      titles_append is (arrow ++ (mark ∷ []) ++ entry) rest
      ∙ (ap (λ l. l ++ titles_where is rest) (last_shown is arrow (mark ∷ []) entry []
      (arrow_hidden column m.thread (access_before (var_of m.did) earlier))
      (hidden is mark (chosen (is_lost (length earlier) later) (is_again m gone) m.did))
      (entry_hidden several (entry_lane threads) column (move_title line m) m.did))
      ∙ moves_hidden chosen threads line several gone later (column + 1) (earlier ++ cell_at column m ∷ []) made)

-- Of the sign, where no class of signs is chosen

pub sign_hidden : (is : Class → Bool) → is class.Snap ≡ false → is class.Store ≡ false → is class.Crash ≡ false
    → is class.Recover ≡ false → is class.Entry ≡ false → is class.Waiting ≡ false → (threads column : ℕ)
    (line : List ℕ) (ev : Event) (to : Outcome)
    → titles_where is (signs_of threads column line (sign_class ev to)) ≡ []
sign_hidden is snap store crash recover entry waiting threads column line ev to = by to
  where
    waits : (b : Bool) → titles_where is (signs_of threads column line (if b then Some class.Waiting else None)) ≡ []
    waits true = hidden is (sign_at threads column line class.Waiting) waiting
    waits false = refl

    by : (to : Outcome) → titles_where is (signs_of threads column line (sign_class ev to)) ≡ []
    by (outcome.Total n) = refl
    by outcome.Set = refl
    by (outcome.Take k) = refl
    by (outcome.Touched n v p) = refl
    by (outcome.Looked n v p) = refl
    by (outcome.ClockTold n a) = refl
    by (outcome.Drawn n a) = refl
    by (outcome.Emitted j) = refl
    by (outcome.Ended k) = refl
    by outcome.Idle = refl
    by (outcome.Waits u n) = waits (is_output_event ev)
    by outcome.Down = refl
    by outcome.Nothing = refl
    by outcome.New = hidden is (sign_at threads column line class.Entry) entry
    by outcome.Known = refl
    by outcome.Released = refl
    by outcome.Again = refl
    by outcome.Old = refl
    by outcome.Short = refl
    by (outcome.Copied c) = hidden is (sign_at threads column line class.Snap) snap
    by (outcome.Covers c) = hidden is (sign_at threads column line class.Store) store
    by outcome.Crashed = hidden is (sign_at threads column line class.Crash) crash
    by (outcome.Recovered e k d) = hidden is (sign_at threads column line class.Recover) recover
    by outcome.Up = refl
    by (outcome.Shown text) = refl
    by (outcome.Summary m r e) = refl

-- Of the releases, where their numbers are not chosen

module _ (is : Class → Bool) (no_numbers : is class.Note ≡ false) (threads : ℕ) (line : List ℕ) where
  number_hidden : (column number : ℕ) (rest : List Element)
      → titles_where is (number_note threads column number ∷ rest) ≡ titles_where is rest
  number_hidden column number rest =
      titles_append is (number_note threads column number ∷ []) rest
      ∙ ap (λ l. l ++ titles_where is rest) (hidden is (number_note threads column number) no_numbers)

  pub releases_show : is class.Released ≡ true → (column number many : ℕ)
      → titles_where is (releases_from threads column line number many) ≡ numbered_releases line number many
  releases_show chosen column number zero = refl
  releases_show chosen column number (suc many) =
      let rest = releases_from threads (column + 1) line (number + 1) many in
      let mark = full_mark threads column line number in
      titles_append is (mark ∷ []) (number_note threads column number ∷ rest)
      ∙ (ap (λ l. l ++ titles_where is (number_note threads column number ∷ rest)) (shown is mark chosen)
      ∙ ap (λ (l : List (Option (List ℕ))). Some (codes "released " ++ decimal number ++ codes "\n" ++ line) ∷ l)
      (number_hidden column number rest ∙ releases_show chosen (column + 1) (number + 1) many))

  pub releases_hidden : is class.Released ≡ false → (column number many : ℕ)
      → titles_where is (releases_from threads column line number many) ≡ []
  releases_hidden chosen column number zero = refl
  releases_hidden chosen column number (suc many) =
      let rest = releases_from threads (column + 1) line (number + 1) many in
      let mark = full_mark threads column line number in
      titles_append is (mark ∷ []) (number_note threads column number ∷ rest)
      ∙ (ap (λ l. l ++ titles_where is (number_note threads column number ∷ rest)) (hidden is mark chosen)
      ∙ (number_hidden column number rest ∙ releases_hidden chosen (column + 1) (number + 1) many))

-- Of one choice or the other

pub mark_chosen : (is : Class → Bool) (b : Bool) → is class.Take ≡ b → is class.Touch ≡ b → is class.Read ≡ b
    → is class.Clock ≡ b → is class.Draw ≡ b → is class.Send ≡ b → is class.End ≡ b → is class.Again ≡ b
    → is class.Lost ≡ b → (lost again : Bool) (d : Did) → is (mark_class lost again d) ≡ b
mark_chosen is b take touch read clock draw send end again lost true made d = lost
mark_chosen is b take touch read clock draw send end again lost false true d = again
mark_chosen is b take touch read clock draw send end again lost false false (did.Took k) = take
mark_chosen is b take touch read clock draw send end again lost false false (did.Logged n (what.Access v p)) = touch
mark_chosen is b take touch read clock draw send end again lost false false (did.Logged n (what.Read v a)) = read
mark_chosen is b take touch read clock draw send end again lost false false (did.Logged n (what.Clock a)) = clock
mark_chosen is b take touch read clock draw send end again lost false false (did.Logged n (what.Draw a)) = draw
mark_chosen is b take touch read clock draw send end again lost false false (did.Sent j) = send
mark_chosen is b take touch read clock draw send end again lost false false (did.Ended k) = end
