-- What was written is read back: a text of the lines of moves is their schedule.
use Rattle.std.proofs.Common.{◌≡◌, ℕ, ◌-◌, ◌^◌, ◌<◌, ◌==◌, arith, List, [], ◌∷◌, ◌++◌, length, refl, Option, Some, None}
use Rattle.std.proofs.Common.{false, ap, append_assoc, append-nil, get_or, sym, subst, take, ◌∙◌, ◌+◌, ◌≤◌}
use Rattle.std.specs.Prelude.{All, codes, decimal, not, slice_index}
use Rattle.std.proofs.lemmas.List.{flat_map_more, take_more}
use Rattle.std.proofs.lemmas.List.Elements.{All-more}
use Rattle.std.specs.Str.Parse.{AllDigits}
use Rattle.std.proofs.lemmas.Bool.Decides.{nat_tests}
use Rattle.std.proofs.lemmas.Fmt.{decimal_is_IsNumeral, decimal_digit}
use Rattle.std.proofs.lemmas.Str.Parse.{digit_from_value}
use Rattle.plain_text.proofs.WrittenFiles as files
use Rattle.plain_text.proofs.WrittenFiles.{IsSpelled}
use Rattle.plain_text.specs.LineFiles.{text_of}
use Rattle.plain_text.specs.Lines.{words_of}
use Rattle.plain_text.proofs.WrittenWords.{spaced, AreWords, above_test, decimal_word, decimal_number, words_of_spaced}
use Rattle.plain_machine.specs.declared.plain_move.PlainMove.{PlainMove}
use Rattle.plain_player.specs.ScheduleText.{answer_text, move_line, schedule_text}
use Rattle.plain_player.specs.Schedules.{SaysMove, IsSchedule, IsAnswer, FitsLine, FitLines, schedule_form}
use Rattle.plain_player.proofs.OneMove.{within}

-- The words of a move

abbrev told_words : Option ℕ → List (List ℕ)
told_words None = []
told_words (Some answer) = codes "=" ∷ decimal answer ∷ []

abbrev line_words : ℕ → Option ℕ → List (List ℕ)
line_words thread answer = decimal thread ∷ told_words answer

thread_small : (thread : ℕ) → thread < 2 ^ 32 → thread < 2 ^ 64
thread_small thread small = omega arith

are_words : (thread : ℕ) (answer : Option ℕ) → thread < 2 ^ 32 → IsAnswer answer → AreWords (line_words thread answer)
are_words thread None small fits = (decimal_word thread (thread_small thread small), tt)
are_words thread (Some answer) small fits = (
  decimal_word thread (thread_small thread small),
  ((refl, above_test 32 (codes "=") refl), (decimal_word answer fits, tt)),
)

-- They say the move

words_say : (thread : ℕ) (answer : Option ℕ) → thread < 2 ^ 32 → IsAnswer answer
    → SaysMove (line_words thread answer) (record { thread = thread; answer = answer })
words_say thread None small fits =
    (decimal_number thread (thread_small thread small), within thread (2 ^ 32 - 1) (omega arith), tt)
words_say thread (Some answer) small fits = (
  decimal_number thread (thread_small thread small),
  within thread (2 ^ 32 - 1) (omega arith),
  (refl, refl, (decimal_number answer fits, within answer (2 ^ 64 - 1) (omega arith), tt)),
)

-- And they are what is written

abbrev written : ℕ → Option ℕ → List ℕ
written thread answer = decimal thread ++ answer_text answer

written_words : (thread : ℕ) (answer : Option ℕ) → written thread answer ≡ spaced (line_words thread answer)
written_words thread None = append-nil (decimal thread)
written_words thread (Some answer) = refl

-- a decimal number begins with a digit
digit_first : (n : ℕ) → n < 2 ^ 64 → (slice_index (decimal n) 0 == 35) ≡ false
digit_first n small = by (decimal n) (decimal_is_IsNumeral n small).0.0 (decimal_is_IsNumeral n small).0.1
  where
    by : (ds : List ℕ) → 0 < length ds → AllDigits 10 ds → (slice_index ds 0 == 35) ≡ false
    by [] some all = absurd (omega arith)
    by (c ∷ ds) some all = let r = digit_from_value c all.0 in grind (arith, nat_tests)

spells : (plain : PlainMove) → FitsLine plain → IsSpelled schedule_form (move_line plain) plain
spells plain fits = record {
  word = decimal plain.thread;
  words = told_words plain.answer;
  spelled = written_words plain.thread plain.answer;
  are_words = are_words plain.thread plain.answer fits.0 fits.1;
  counts = ap not (digit_first plain.thread (thread_small plain.thread fits.0));
  says = words_say plain.thread plain.answer fits.0 fits.1;
}

pub read_back : (moves : List PlainMove) → FitLines moves → IsSchedule (schedule_text moves) moves
read_back moves fit = files.read_back schedule_form move_line FitsLine spells moves fit

-- a line of one digit says the move of a thread
pub one_digit_says : (line : List ℕ) (d : ℕ) → line ≡ d ∷ [] → 48 ≤ d → d < 58
    → SaysMove (words_of line) (record { thread = d - 48; answer = None })
one_digit_says line d is low high =
    let thread = d - 48 in
    let small : thread < 10 = omega (arith, low, high) in
    let same : 48 + thread ≡ d = omega (arith, low) in
    let text : line ≡ decimal thread = is ∙ ap (λ (n : ℕ). n ∷ []) (sym same) ∙ sym (decimal_digit thread small) in
    let fits : thread < 2 ^ 32 = omega (arith, small) in
    let words : words_of line ≡ decimal thread ∷ [] =
    ap words_of text ∙ words_of_spaced (decimal thread) [] (are_words thread None fits tt) in
    subst (λ (ws : List (List ℕ)). SaysMove ws (record { thread = thread; answer = None })) (sym words)
    (words_say thread None fits tt)

-- a number of one digit
pub digit_text : (n : ℕ) → n < 10 → decimal n ≡ (48 + n) ∷ []
digit_text n small = decimal_digit n small

-- the lines of the first moves, and one more
pub line_more : (line : PlainMove → List ℕ) (moves : List PlainMove) (i : ℕ) (plain : PlainMove) (before put after : List ℕ)
    → i < length moves → ((other : PlainMove) → plain ≡ get_or moves i other) → before ≡ text_of line (take i moves)
    → put ≡ before ++ line plain → after ≡ put ++ codes "\n" → after ≡ text_of line (take (i + 1) moves)
line_more line moves i plain before put after within is so_far put_is ends =
    let fed : PlainMove → List ℕ = λ plain. line plain ++ codes "\n" in
    ends ∙ ap (λ t. t ++ codes "\n") put_is ∙ append_assoc before (line plain) (codes "\n")
    ∙ ap (λ t. t ++ fed plain) so_far ∙ flat_map_more fed [] (take i moves) plain
    ∙ ap (λ p. text_of line (take i moves ++ p ∷ [])) (is plain)
    ∙ ap (text_of line) (sym (take_more moves i plain within))

-- and they fit, with it
pub fits_more : (fits : PlainMove → Type 0) (moves : List PlainMove) (i : ℕ) (plain : PlainMove) → i < length moves
    → ((other : PlainMove) → plain ≡ get_or moves i other) → All fits (take i moves) → fits plain
    → All fits (take (i + 1) moves)
fits_more fits moves i plain within is so_far fit =
    All-more fits moves i plain within so_far (subst fits (is plain) fit)
