-- What was written is read back: the text of an image is that image's.
use Rattle.std.proofs.Common.{◌≡◌, ℕ, ◌^◌, ◌<◌, arith, List, [], ◌∷◌, ◌++◌, refl, sym, ap}
use Rattle.std.proofs.Common.{subst}
use Rattle.std.proofs.Common.{Option, Some, None, true, append-nil}
use Rattle.std.specs.Prelude.{All, codes, decimal, map}
use Rattle.std.proofs.lemmas.List.Elements.{All-head, All-tail}
use Rattle.plain_text.specs.Grammar.{PlacesSay}
use Rattle.plain_text.specs.LineFiles.{LineForm, text_of}
use Rattle.plain_text.specs.LineFiles as plain
use Rattle.plain_text.specs.Lines.{counted_lines, words_count}
use Rattle.plain_text.proofs.WrittenFiles as written
use Rattle.plain_text.proofs.WrittenFiles.{IsSpelled}
use Rattle.plain_text.proofs.WrittenWords.{spaced, AreWords, above_test, decimal_word, decimal_number}
use Rattle.plain_machine.specs.declared.plain_move.PlainMove.{PlainMove}
use Rattle.plain_player.specs.ScheduleText.{answer_text}
use Rattle.plain_player.specs.Schedules.{IsAnswer}
use Rattle.handover.specs.declared.form.Form.TheVariants as form
use Rattle.handover.specs.declared.image.Ended.{Ended as EndedThread}
use Rattle.handover.specs.declared.image.Image.{Image}
use Rattle.handover.specs.declared.line.ImageLine.{ImageLine}
use Rattle.handover.specs.declared.line.ImageLine.TheVariants as line
use Rattle.handover.specs.declared.stage.Stage.{Stage}
use Rattle.handover.specs.declared.stage.Stage.TheVariants.{Heading, State, Ended, Released, Moves}
use Rattle.handover.specs.StagedFiles.{Begins, stage_behind}
use Rattle.handover.specs.declared.values.Part.TheVariants.{Narrow, Wide}
use Rattle.handover.specs.Images.{image_form, SaysAt, IsImage, lines_of, numbered, line_text, image_text, FitsLine}
use Rattle.handover.specs.Images.{FitsImage, lists_of, released_line}
use Rattle.handover.specs.Table.{behind, is_whole, parts_of, place_of}
use Rattle.handover.proofs.OneLine.{may_stand, kind_of}
use Rattle.handover.proofs.PlaceValues.{wide_within, within_32}

-- The words of a line

abbrev told_words : Option ℕ → List (List ℕ)
told_words None = []
told_words (Some answer) = codes "=" ∷ decimal answer ∷ []

abbrev first_word : ImageLine → List ℕ
first_word line.Heading = codes "handover"
first_word (line.State fed clock draws epoch moves bytes) = codes "state"
first_word (line.Ended ended) = codes "ended"
first_word (line.Released thread number) = codes "released"
first_word (line.Move plain) = codes "move"

abbrev other_words : ImageLine → List (List ℕ)
other_words line.Heading = codes "1" ∷ []
other_words (line.State fed clock draws epoch moves bytes) =
    decimal fed ∷ decimal clock ∷ decimal draws ∷ decimal epoch ∷ decimal moves ∷ decimal bytes ∷ []
other_words (line.Ended ended) =
    decimal ended.epoch ∷ decimal ended.thread ∷ decimal ended.entries ∷ decimal ended.outputs ∷ []
other_words (line.Released thread number) = decimal thread ∷ decimal number ∷ []
other_words (line.Move plain) = decimal plain.thread ∷ told_words plain.answer

small : (n : ℕ) → n < 2 ^ 32 → n < 2 ^ 64
small n less = omega arith

-- They are what is written

spaced_numbers : (word : List ℕ) (numbers : List ℕ) → word ++ numbered numbers ≡ spaced (word ∷ map decimal numbers)
spaced_numbers word [] = append-nil word
spaced_numbers word (n ∷ numbers) =
    ap (λ (rest : List ℕ). word ++ 32 ∷ rest) (spaced_numbers (decimal n) numbers)

spaced_move : (thread : ℕ) (answer : Option ℕ)
    → codes "move " ++ (decimal thread ++ answer_text answer)
    ≡ spaced (codes "move" ∷ decimal thread ∷ told_words answer)
spaced_move thread None = ap (λ (rest : List ℕ). codes "move " ++ rest) (append-nil (decimal thread))
spaced_move thread (Some answer) = refl

written_words : (ln : ImageLine) → line_text ln ≡ spaced (first_word ln ∷ other_words ln)
written_words line.Heading = refl
written_words (line.State fed clock draws epoch moves bytes) =
    spaced_numbers (codes "state") (fed ∷ clock ∷ draws ∷ epoch ∷ moves ∷ bytes ∷ [])
written_words (line.Ended ended) =
    spaced_numbers (codes "ended") (ended.epoch ∷ ended.thread ∷ ended.entries ∷ ended.outputs ∷ [])
written_words (line.Released thread number) = spaced_numbers (codes "released") (thread ∷ number ∷ [])
written_words (line.Move plain) = spaced_move plain.thread plain.answer

move_words : (thread : ℕ) (answer : Option ℕ) → thread < 2 ^ 32 → IsAnswer answer
    → AreWords (codes "move" ∷ decimal thread ∷ told_words answer)
move_words thread None less fits =
    ((refl, above_test 32 (codes "move") refl), (decimal_word thread (small thread less), tt))
move_words thread (Some answer) less fits = (
  (refl, above_test 32 (codes "move") refl),
  (decimal_word thread (small thread less), ((refl, above_test 32 (codes "=") refl), (decimal_word answer fits, tt))),
)

are_words : (ln : ImageLine) → FitsLine ln → AreWords (first_word ln ∷ other_words ln)
are_words line.Heading fits =
    ((refl, above_test 32 (codes "handover") refl), ((refl, above_test 32 (codes "1") refl), tt))
are_words (line.State fed clock draws epoch moves bytes) fits = (
  (refl, above_test 32 (codes "state") refl),
  (
    decimal_word fed fits.0,
    (
      decimal_word clock fits.1,
      (
        decimal_word draws fits.2,
        (
          decimal_word epoch (small epoch fits.3),
          (
            decimal_word moves fits.4,
            (decimal_word bytes fits.5, tt),
          ),
        ),
      ),
    ),
  ),
)
are_words (line.Ended ended) fits = (
  (refl, above_test 32 (codes "ended") refl),
  (
    decimal_word ended.epoch (small ended.epoch fits.0),
    (
      decimal_word ended.thread (small ended.thread fits.1),
      (
        decimal_word ended.entries fits.2,
        (decimal_word ended.outputs fits.3, tt),
      ),
    ),
  ),
)
are_words (line.Released thread number) fits = (
  (refl, above_test 32 (codes "released") refl),
  (decimal_word thread (small thread fits.0), (decimal_word number fits.1, tt)),
)
are_words (line.Move plain) fits = move_words plain.thread plain.answer fits.0 fits.1

-- a line by its very words
abbrev by_words : LineForm ImageLine
by_words = record {
  says = λ words ln. words ≡ first_word ln ∷ other_words ln;
  fault = λ words. None;
  weight = λ ln. 1;
}

counts : (ln : ImageLine) → words_count (first_word ln ∷ other_words ln) ≡ true
counts line.Heading = refl
counts (line.State fed clock draws epoch moves bytes) = refl
counts (line.Ended ended) = refl
counts (line.Released thread number) = refl
counts (line.Move plain) = refl

spells : (ln : ImageLine) → FitsLine ln → IsSpelled by_words (line_text ln) ln
spells ln fits = record {
  word = first_word ln;
  words = other_words ln;
  spelled = written_words ln;
  are_words = are_words ln fits;
  counts = counts ln;
  says = refl;
}

-- They say the line where it may stand

narrow_says : (n : ℕ) → n < 2 ^ 32 → PlacesSay (place_of Narrow ∷ []) (decimal n ∷ []) (n ∷ [])
narrow_says n less = (decimal_number n (small n less), within_32 n less, tt)

wide_says : (n : ℕ) → n < 2 ^ 64 → PlacesSay (place_of Wide ∷ []) (decimal n ∷ []) (n ∷ [])
wide_says n less = (decimal_number n less, wide_within n less, tt)

counts_say : (fed clock draws epoch moves bytes : ℕ) → FitsLine (line.State fed clock draws epoch moves bytes)
    → PlacesSay (map place_of (parts_of form.State)) (other_words (line.State fed clock draws epoch moves bytes))
    (fed ∷ clock ∷ draws ∷ epoch ∷ moves ∷ bytes ∷ [])
counts_say fed clock draws epoch moves bytes fits =
    let a = wide_says fed fits.0 in
    let b = wide_says clock fits.1 in
    let c = wide_says draws fits.2 in
    let d = narrow_says epoch fits.3 in
    let e = wide_says moves fits.4 in
    let f = wide_says bytes fits.5 in
    (a.0, a.1, (b.0, b.1, (c.0, c.1, (d.0, d.1, (e.0, e.1, (f.0, f.1, tt))))))

ended_say : (epoch thread entries outputs : ℕ)
    → (epoch < 2 ^ 32) × (thread < 2 ^ 32) × (entries < 2 ^ 64) × (outputs < 2 ^ 64)
    → PlacesSay (map place_of (parts_of form.Ended))
    (decimal epoch ∷ decimal thread ∷ decimal entries ∷ decimal outputs ∷ [])
    (epoch ∷ thread ∷ entries ∷ outputs ∷ [])
ended_say epoch thread entries outputs fits =
    let a = narrow_says epoch fits.0 in
    let b = narrow_says thread fits.1 in
    let c = wide_says entries fits.2 in
    let d = wide_says outputs fits.3 in
    (a.0, a.1, (b.0, b.1, (c.0, c.1, (d.0, d.1, tt))))

released_say : (thread number : ℕ) → (thread < 2 ^ 32) × (number < 2 ^ 64)
    → PlacesSay (map place_of (parts_of form.Released)) (decimal thread ∷ decimal number ∷ []) (thread ∷ number ∷ [])
released_say thread number fits =
    let a = narrow_says thread fits.0 in
    let b = wide_says number fits.1 in
    (a.0, a.1, (b.0, b.1, tt))

abbrev made_move : ℕ → Option ℕ → ImageLine
made_move thread answer = line.Move (record { thread = thread; answer = answer })

move_says : (at : Stage) (thread : ℕ) (answer : Option ℕ) → may_stand at form.Move ≡ true → thread < 2 ^ 32
    → IsAnswer answer → SaysAt at (codes "move" ∷ decimal thread ∷ told_words answer) (made_move thread answer)
move_says Heading thread answer stands less fits = absurd (cc)
move_says State thread answer stands less fits = absurd (cc)
move_says Ended thread None stands less fits = (refl, narrow_says thread less, refl)
move_says Ended thread (Some answer) stands less fits =
    let a = narrow_says thread less in
    (refl, (a.0, a.1, (refl, refl, wide_says answer fits)), refl)
move_says Released thread None stands less fits = (refl, narrow_says thread less, refl)
move_says Released thread (Some answer) stands less fits =
    let a = narrow_says thread less in
    (refl, (a.0, a.1, (refl, refl, wide_says answer fits)), refl)
move_says Moves thread None stands less fits = (refl, narrow_says thread less, refl)
move_says Moves thread (Some answer) stands less fits =
    let a = narrow_says thread less in
    (refl, (a.0, a.1, (refl, refl, wide_says answer fits)), refl)

words_say : (at : Stage) (ln : ImageLine) → may_stand at (kind_of ln) ≡ true → FitsLine ln
    → SaysAt at (first_word ln ∷ other_words ln) ln
words_say Heading line.Heading stands fits = (refl, (refl, refl, tt), refl)
words_say State (line.State fed clock draws epoch moves bytes) stands fits =
    (refl, counts_say fed clock draws epoch moves bytes fits, refl)
words_say Ended (line.Ended ended) stands fits =
    (refl, ended_say ended.epoch ended.thread ended.entries ended.outputs fits, refl)
words_say Ended (line.Released thread number) stands fits = (refl, released_say thread number fits, refl)
words_say Released (line.Released thread number) stands fits = (refl, released_say thread number fits, refl)
words_say at (line.Move plain) stands fits = move_says at plain.thread plain.answer stands fits.0 fits.1
words_say Heading (line.State fed clock draws epoch moves bytes) stands fits = absurd (cc)
words_say Heading (line.Ended ended) stands fits = absurd (cc)
words_say Heading (line.Released thread number) stands fits = absurd (cc)
words_say State line.Heading stands fits = absurd (cc)
words_say State (line.Ended ended) stands fits = absurd (cc)
words_say State (line.Released thread number) stands fits = absurd (cc)
words_say Ended line.Heading stands fits = absurd (cc)
words_say Ended (line.State fed clock draws epoch moves bytes) stands fits = absurd (cc)
words_say Released line.Heading stands fits = absurd (cc)
words_say Released (line.State fed clock draws epoch moves bytes) stands fits = absurd (cc)
words_say Released (line.Ended ended) stands fits = absurd (cc)
words_say Moves line.Heading stands fits = absurd (cc)
words_say Moves (line.State fed clock draws epoch moves bytes) stands fits = absurd (cc)
words_say Moves (line.Ended ended) stands fits = absurd (cc)
words_say Moves (line.Released thread number) stands fits = absurd (cc)

-- The lines of an image stand in their order

abbrev AreInOrder : Stage → List ImageLine → Type 0
AreInOrder at [] = Unit {0}
AreInOrder at (ln ∷ lines) = (may_stand at (kind_of ln) ≡ true) × AreInOrder (behind ln) lines

moves_in_order : (at : Stage) (ms : List PlainMove) → may_stand at form.Move ≡ true → AreInOrder at (map line.Move ms)
moves_in_order at [] stands = tt
moves_in_order at (m ∷ ms) stands = (stands, moves_in_order Moves ms refl)

released_in_order : (at : Stage) (rs : List (ℕ × ℕ)) (ms : List PlainMove) → may_stand at form.Released ≡ true
    → may_stand at form.Move ≡ true → AreInOrder at (map released_line rs ++ map line.Move ms)
released_in_order at [] ms stands moves = moves_in_order at ms moves
released_in_order at (r ∷ rs) ms stands moves = (stands, released_in_order Released rs ms refl refl)

lists_in_order : (es : List EndedThread) (rs : List (ℕ × ℕ)) (ms : List PlainMove)
    → AreInOrder Ended (lists_of es rs ms)
lists_in_order [] rs ms = released_in_order Ended rs ms refl refl
lists_in_order (e ∷ es) rs ms = (refl, lists_in_order es rs ms)

image_in_order : (image : Image) → AreInOrder Heading (lines_of image)
image_in_order image = (refl, (refl, lists_in_order image.ended image.released image.past))

whole_behind : (at : Stage) (ln : ImageLine) → is_whole at ≡ true → may_stand at (kind_of ln) ≡ true
    → is_whole (behind ln) ≡ true
whole_behind Heading line.Heading w stands = absurd (cc)
whole_behind State line.Heading w stands = absurd (cc)
whole_behind Ended line.Heading w stands = absurd (cc)
whole_behind Released line.Heading w stands = absurd (cc)
whole_behind Moves line.Heading w stands = absurd (cc)
whole_behind at (line.State fed clock draws epoch moves bytes) w stands = refl
whole_behind at (line.Ended ended) w stands = refl
whole_behind at (line.Released thread number) w stands = refl
whole_behind at (line.Move plain) w stands = refl

stays_whole : (at : Stage) (lines : List ImageLine) → is_whole at ≡ true → AreInOrder at lines
    → is_whole (stage_behind image_form at lines) ≡ true
stays_whole at [] w order = w
stays_whole at (ln ∷ lines) w order = stays_whole (behind ln) lines (whole_behind at ln w order.0) order.1

-- So their text is read

staged : (at : Stage) (lines : List (ℕ × List ℕ)) (things : List ImageLine) → plain.Begins by_words lines things []
    → All FitsLine things → AreInOrder at things → Begins image_form at lines things []
staged at lines [] b fit order = b
staged at [] (ln ∷ things) b fit order = absurd b
staged at (first ∷ lines) (ln ∷ things) b fit order = (
  subst (λ (words : List (List ℕ)). SaysAt at words ln) (sym b.0)
      (words_say at ln order.0 (All-head FitsLine ln things fit)),
  staged (behind ln) lines things b.1 (All-tail FitsLine ln things fit) order.1,
)

pub read_back : (image : Image) → FitsImage image → IsImage (image_text image) image
read_back image fit = record {
  begins = staged Heading (counted_lines (image_text image)) (lines_of image)
      (written.read_back by_words line_text FitsLine spells (lines_of image) fit) fit (image_in_order image);
  whole = stays_whole Ended (lists_of image.ended image.released image.past) refl
      (lists_in_order image.ended image.released image.past);
}
