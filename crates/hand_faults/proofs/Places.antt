-- How many lines the text of an image has, and that each fault has one of them.
use Rattle.std.proofs.Common.{◌≡◌, ◌≢◌, ◌⊎◌, ℕ, zero, suc, ◌+◌, ◌-◌, ◌*◌, ◌/◌, ◌%◌, ◌≤◌, ◌<◌, Bool, true}
use Rattle.std.proofs.Common.{false, List, []}
use Rattle.std.proofs.Common.{◌∷◌, inl, inr}
use Rattle.std.proofs.Common.{◌++◌, length, refl, sym, ap, ◌∙◌, subst, arith, Some, Result, Ok, Err, map}
use Rattle.std.proofs.lemmas.List.{length-append, length-map}
use Rattle.std.proofs.lemmas.Bool.{cases_lt}
use Rattle.std.specs.Prelude.{cond, nat_eq, slice_get, ◌&&◌}
use Rattle.plain_text.specs.Lines.{counted_lines}
use Rattle.plain_machine.specs.declared.plain_move.PlainMove.{PlainMove}
use Rattle.plain_machine.specs.declared.plain_move.PlayCause.{PlayCause}
use Rattle.plain_machine.specs.declared.plain_move.PlayFault.{PlayFault}
use Rattle.plain_text.specs.declared.packet.Packet.{Packet}
use Rattle.plain_machine.specs.Program.{Meaning}
use Rattle.plain_machine.specs.History.{Step, plain_move, numbered, and_moves}
use Rattle.plain_machine.proofs.PlayedLists.{move_is_step, stuck}
use Rattle.recovery_world.specs.World.{Setting, inputs_fed}
use Rattle.handover.specs.declared.image.Ended.{Ended}
use Rattle.handover.specs.declared.image.Image.{Image}
use Rattle.handover.specs.declared.line.ImageLine.TheVariants as line
use Rattle.handover.specs.Images.{IsImage, image_form, lines_of, released_line}
use Rattle.handover.specs.StagedFiles.{StagedForm, Begins}
use Rattle.handover_world.specs.declared.fault.ResumeError.{ResumeError}
use Rattle.handover_world.specs.declared.fault.ResumeError.TheVariants.{Count, Move, Released, NoMemory}
use Rattle.handover_world.specs.Faults.{IsFault, WrongReleased, wrong_row}
use Rattle.hand_faults.specs.declared.fault.HandCause.TheVariants as cause
use Rattle.hand_faults.specs.declared.fault.HandFault.{HandFault}
use Rattle.hand_faults.specs.HandFaults.{IsLineAt, IsRowLine, IsRefusedAt}
use Rattle.hand_faults.proofs.TextLines.{counted_few}

begins_length : {S A : Type 0} (form : StagedForm S A) (stage : S) (lines : List (ℕ × List ℕ)) (things : List A)
    → Begins form stage lines things [] → length lines ≡ length things
begins_length form stage lines [] h = ap length h
begins_length form stage [] (thing ∷ things) h = absurd h
begins_length form stage (first ∷ lines) (thing ∷ things) h =
    ap suc (begins_length form (form.behind thing) lines things h.1)

lines_count : (image : Image) → length (lines_of image)
    ≡ 2 + length image.ended + length image.released + length image.past
lines_count image =
    let a = length-append (map line.Ended image.ended)
    (map released_line image.released ++ map line.Move image.past) in
    let b = length-append (map released_line image.released) (map line.Move image.past) in
    let c = length-map image.ended line.Ended in
    let d = length-map image.released released_line in
    let e = length-map image.past line.Move in
    omega (arith, a, b, c, d, e)

-- so many lines of the text count
pub counted : (text : List ℕ) (image : Image) → IsImage text image
    → length (counted_lines text) ≡ 2 + length image.ended + length image.released + length image.past
counted text image is =
    begins_length image_form image_form.first (counted_lines text) (lines_of image) is.begins ∙ lines_count image

-- Rows

row_near : (threads before more : ℕ) (rows : List Ended) (row : ℕ) → wrong_row threads before more rows ≡ Some row
    → row ≤ before + length rows + 1
row_near threads before zero [] row e = absurd (cc)
row_near threads before zero (first ∷ rows) row e =
    let same : before + 1 ≡ row = cc in omega (arith, same)
row_near threads before (suc more) [] row e =
    let same : before + 1 ≡ row = cc in omega (arith, same)
row_near threads before (suc more) (first ∷ rows) row e =
    by_next (nat_eq first.epoch (before / threads + 1) && nat_eq first.thread (before % threads))
    (row_near threads (before + 1) more rows row) e
  where
    by_next : (next : Bool) → (wrong_row threads (before + 1) more rows ≡ Some row
        → row ≤ before + 1 + length rows + 1)
        → cond next (wrong_row threads (before + 1) more rows) (Some (before + 1)) ≡ Some row
        → row ≤ before + length (first ∷ rows) + 1
    by_next true behind e = let near = behind e in omega (arith, near)
    by_next false behind e = let same : before + 1 ≡ row = cc in omega (arith, same)

pub row_there : {V : Type 0} (s : Setting V) (image : Image) (row : ℕ) → IsFault s image (Count row)
    → row ≤ length image.ended + 1
row_there s image zero h = omega arith
row_there s image (suc row) h =
    let near = row_near s.threads 0 ((image.epoch - 1) * s.threads) image.ended (suc row) h.1 in omega (arith, near)

-- Moves

module _ {V : Type 0} (m : Meaning V) (inputs : ℕ → List Packet) (threads : ℕ) where
  move_near : (moves : List PlainMove) (steps : List (Step V)) (fault : PlayFault)
      → and_moves m inputs threads (Ok steps) moves ≡ Err fault → fault.number ≤ length steps + length moves
  move_near [] steps fault e = absurd (cc)
  move_near (move ∷ moves) steps fault e =
      by_move (plain_move m inputs threads steps move) refl e (λ next. move_near moves next fault)
    where
      by_move : (o : Result (List (Step V)) PlayCause) → plain_move m inputs threads steps move ≡ o
          → and_moves m inputs threads (numbered (length steps) o) moves ≡ Err fault
          → ((next : List (Step V)) → and_moves m inputs threads (Ok next) moves ≡ Err fault
          → fault.number ≤ length next + length moves) → fault.number ≤ length steps + length (move ∷ moves)
      by_move (Err cause) k e behind =
          let n : Err (record { number = length steps + 1; cause = cause }) ≡ Err fault =
          sym (stuck m inputs threads moves _) ∙ e in
          let same : record { number = length steps + 1; cause = cause } ≡ fault = cc in
          let number : length steps + 1 ≡ fault.number = ap (λ (f : PlayFault). f.number) same in
          omega (arith, number)
      by_move (Ok next) k e behind =
          let step = move_is_step m inputs threads steps next move k in
          let near = behind next e in
          let longer : length next ≡ suc (length steps) = ap length step.2 in
          omega (arith, near, longer)

pub move_there : {V : Type 0} (s : Setting V) (image : Image) (fault : PlayFault) → IsFault s image (Move fault)
    → fault.number ≤ length image.past
move_there s image fault h =
    let near = move_near s.meaning (inputs_fed s image.fed) s.threads image.past [] fault h.2 in omega (arith, near)

-- Released outputs

output_near : {V : Type 0} (steps : List (Step V)) (outputs : List (ℕ × ℕ)) (place : ℕ)
    → WrongReleased steps outputs place → place ≤ length outputs
output_near steps outputs place wrong =
    let all = ap length wrong.outputs_are in
    let parts = length-append wrong.before (wrong.output ∷ wrong.rest) in
    let at = wrong.place_is in
    omega (arith, all, parts, at)

pub output_there : {V : Type 0} (s : Setting V) (image : Image) (place : ℕ) → IsFault s image (Released place)
    → place ≤ length image.released
output_there s image place h = output_near h.2 image.released place h.4

-- Walking to a place

-- none is left to go: it is the first line
pub first_there : (text : List ℕ) (place left : ℕ) (lines rest : List (ℕ × List ℕ)) (number : ℕ) (bytes : List ℕ)
    → slice_get (counted_lines text) place ≡ slice_get lines left → lines ≡ (number, bytes) ∷ rest → left ≡ 0
    → IsLineAt text place number
first_there text place left lines rest number bytes same first none = (bytes, same ∙ at lines left first none)
  where
    at : (lines : List (ℕ × List ℕ)) (left : ℕ) → lines ≡ (number, bytes) ∷ rest → left ≡ 0
        → slice_get lines left ≡ Some (number, bytes)
    at lines left first none = rw first (rw none refl)

-- else it is so far behind the first
pub next_there : (text : List ℕ) (place left : ℕ) (lines rest : List (ℕ × List ℕ)) (number : ℕ) (bytes : List ℕ)
    → left < length lines → slice_get (counted_lines text) place ≡ slice_get lines left
    → lines ≡ (number, bytes) ∷ rest → 0 < left
    → (left - 1 < length rest) × (slice_get (counted_lines text) place ≡ slice_get rest (left - 1))
next_there text place zero lines rest number bytes there same first some = absurd (omega (arith, some))
next_there text place (suc left) lines rest number bytes there same first some =
    let more : length lines ≡ suc (length rest) = ap length first in
    let at : slice_get lines (suc left) ≡ slice_get rest left = rw first refl in
    let back : suc left - 1 ≡ left = omega arith in
    subst (λ (n : ℕ). (n < length rest) × (slice_get (counted_lines text) place ≡ slice_get rest n)) (sym back)
    (omega (arith, there, more), same ∙ at)

-- Each fault has a line

-- the text has room for all lines of its image
pub room : (text : List ℕ) (image : Image) → IsImage text image
    → 2 + length image.ended + length image.released + length image.past ≤ length text
room text image is =
    let all = counted text image is in let few = counted_few text in omega (arith, all, few)

found : (lines : List (ℕ × List ℕ)) (place : ℕ) → place < length lines
    → (number : ℕ) × (bytes : List ℕ) × (slice_get lines place ≡ Some (number, bytes))
found [] place there = absurd (omega (arith, there))
found ((number, bytes) ∷ lines) zero there = (number, bytes, refl)
found (line ∷ lines) (suc place) there = found lines place (omega (arith, there))

pub line_there : (text : List ℕ) (place : ℕ) → place < length (counted_lines text)
    → (number : ℕ) × IsLineAt text place number
line_there text place there = let line = found (counted_lines text) place there in (line.0, (line.1, line.2))

row_line_there : (text : List ℕ) (rows row : ℕ) → row < length (counted_lines text)
    → (row ≤ rows → row + 1 < length (counted_lines text)) → (number : ℕ) × IsRowLine text rows row number
row_line_there text rows row last there = by_row (cases_lt rows row)
  where
    by_row : (rows < row) ⊎ (row ≤ rows) → (number : ℕ) × IsRowLine text rows row number
    by_row (inl many) =
        let line = line_there text row last in (line.0 + 1, inr (many, line.0, line.1, refl))
    by_row (inr few) = let line = line_there text (row + 1) (there few) in (line.0, inl (few, line.1))

-- Each fault but want of memory is at a line.
pub place_there : {V : Type 0} (s : Setting V) (text : List ℕ) (image : Image) → IsImage text image
    → (e : ResumeError) → e ≢ NoMemory → IsFault s image e → (fault : HandFault) × IsRefusedAt text image e fault
place_there s text image is (Count row) some h =
    let all = counted text image is in
    let near = row_there s image row h in
    let line = row_line_there text (length image.ended) row (omega (arith, all, near))
    (λ few. omega (arith, all, few)) in
    (record { line = line.0; cause = cause.Count }, (line.1, refl))
place_there s text image is (Move play) some h =
    let all = counted text image is in
    let near = move_there s image play h in
    let line = line_there text (1 + length image.ended + length image.released + play.number)
    (omega (arith, all, near)) in
    (record { line = line.0; cause = cause.Move play.cause }, (line.1, refl))
place_there s text image is (Released place) some h =
    let all = counted text image is in
    let near = output_there s image place h in
    let line = line_there text (1 + length image.ended + place) (omega (arith, all, near)) in
    (record { line = line.0; cause = cause.Released }, (line.1, refl))
place_there s text image is NoMemory some h = absurd (some refl)
