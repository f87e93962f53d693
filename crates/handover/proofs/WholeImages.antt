-- What the reader makes of the lines is the image of which they are the lines.
use Rattle.std.proofs.Common.{◌≡◌, ℕ, ◌+◌, ◌≤◌, ◌⊎◌, inl, inr, arith, List, [], ◌∷◌, ◌++◌, length, refl, sym, ap}
use Rattle.std.proofs.Common.{◌∙◌, subst}
use Rattle.std.proofs.Common.{true, false, Some, append_assoc, append-nil}
use Rattle.std.specs.Prelude.{map}
use Rattle.std.specs.Str.Lines.{lines}
use Rattle.plain_text.specs.declared.fault.LineCause.{LineCause}
use Rattle.plain_text.specs.declared.fault.LineCause.TheVariants.{MissingLine}
use Rattle.plain_text.specs.declared.limit.TheConstants.{MOST_EVENTS}
use Rattle.plain_text.specs.Lines.{counted_lines, words_of}
use Rattle.plain_machine.specs.declared.plain_move.PlainMove.{PlainMove}
use Rattle.handover.specs.declared.fault.ImageError.TheVariants.{Fault}
use Rattle.handover.specs.declared.image.Ended.{Ended as EndedThread}
use Rattle.handover.specs.declared.image.Image.{Image}
use Rattle.handover.specs.declared.line.ImageLine.{ImageLine}
use Rattle.handover.specs.declared.line.ImageLine.TheVariants as line
use Rattle.handover.specs.declared.stage.Stage.{Stage}
use Rattle.handover.specs.declared.stage.Stage.TheVariants.{Heading, State, Ended, Released, Moves}
use Rattle.handover.specs.StagedFiles.{Begins, stage_behind, IsFile}
use Rattle.handover.specs.Images.{image_form, SaysAt, IsImage, FirstFault, empty, with_line, lines_of, lists_of}
use Rattle.handover.specs.Images.{counts_of, fault_at, released_line, HasTooMany, IsRefused}
use Rattle.handover.specs.Table.{behind, is_whole}
use Rattle.handover.proofs.OneLine.{may_stand, kind_of, says_stands, lines_are_decisive}
use Rattle.handover.proofs.StagedTexts.{begins_more, stage_more, either, faulty, one_file}

-- The lines that were read, by the stage that they lead to

abbrev pub lines_at : Stage → Image → List ImageLine
lines_at Heading image = []
lines_at State image = line.Heading ∷ []
lines_at Ended image = lines_of image
lines_at Released image = lines_of image
lines_at Moves image = lines_of image

-- the lists of which no line was read have nothing
abbrev pub IsAt : Stage → Image → Type 0
IsAt Heading image = (image.ended ≡ []) × (image.released ≡ []) × (image.past ≡ [])
IsAt State image = (image.ended ≡ []) × (image.released ≡ []) × (image.past ≡ [])
IsAt Ended image = (image.released ≡ []) × (image.past ≡ [])
IsAt Released image = image.past ≡ []
IsAt Moves image = Unit {0}

-- One line more

map_more : {A B : Type 0} (f : A → B) (xs : List A) (x : A) → map f (xs ++ x ∷ []) ≡ map f xs ++ f x ∷ []
map_more {A} {B} f [] x = refl
map_more {A} {B} f (y ∷ xs) x = ap (λ (l : List B). f y ∷ l) (map_more f xs x)

one_ended : (es : List EndedThread) (rs : List (ℕ × ℕ)) (ms : List PlainMove) (e : EndedThread) → rs ≡ [] → ms ≡ []
    → lists_of (es ++ e ∷ []) rs ms ≡ lists_of es rs ms ++ line.Ended e ∷ []
one_ended es rs ms e no_rs no_ms = rw (no_rs, no_ms) (
    append-nil (map line.Ended (es ++ e ∷ [])) ∙ map_more line.Ended es e
    ∙ ap (λ (l : List ImageLine). l ++ line.Ended e ∷ []) (sym (append-nil (map line.Ended es)))
    )

one_released : (es : List EndedThread) (rs : List (ℕ × ℕ)) (ms : List PlainMove) (r : ℕ × ℕ) → ms ≡ []
    → lists_of es (rs ++ r ∷ []) ms ≡ lists_of es rs ms ++ released_line r ∷ []
one_released es rs ms r no_ms = rw (no_ms) (
    ap (λ (l : List ImageLine). map line.Ended es ++ l)
    (append-nil (map released_line (rs ++ r ∷ [])) ∙ map_more released_line rs r
    ∙ ap (λ (l : List ImageLine). l ++ released_line r ∷ []) (sym (append-nil (map released_line rs))))
    ∙ sym (append_assoc (map line.Ended es) (map released_line rs ++ []) (released_line r ∷ []))
    )

one_move : (es : List EndedThread) (rs : List (ℕ × ℕ)) (ms : List PlainMove) (m : PlainMove)
    → lists_of es rs (ms ++ m ∷ []) ≡ lists_of es rs ms ++ line.Move m ∷ []
one_move es rs ms m =
    ap (λ (l : List ImageLine). map line.Ended es ++ (map released_line rs ++ l)) (map_more line.Move ms m)
    ∙ ap (λ (l : List ImageLine). map line.Ended es ++ l)
    (sym (append_assoc (map released_line rs) (map line.Move ms) (line.Move m ∷ [])))
    ∙ sym (append_assoc (map line.Ended es) (map released_line rs ++ map line.Move ms) (line.Move m ∷ []))

-- the image with one line more
record Stepped (at : Stage) (image : Image) (ln : ImageLine) : Type 0 where
  pub lines : lines_at (behind ln) (with_line image ln) ≡ lines_at at image ++ ln ∷ []
  pub is_at : IsAt (behind ln) (with_line image ln)

behind_counts : (image : Image) (more lists : List ImageLine) → lists ≡ more
    → line.Heading ∷ counts_of image ∷ lists ≡ line.Heading ∷ counts_of image ∷ more
behind_counts image more lists e = ap (λ (l : List ImageLine). line.Heading ∷ counts_of image ∷ l) e

no_lists : (es : List EndedThread) (rs : List (ℕ × ℕ)) (ms : List PlainMove) → es ≡ [] → rs ≡ [] → ms ≡ []
    → lists_of es rs ms ≡ []
no_lists es rs ms no_es no_rs no_ms = rw (no_es, no_rs, no_ms) refl

step : (at : Stage) (image : Image) (ln : ImageLine) → may_stand at (kind_of ln) ≡ true → IsAt at image
    → Stepped at image ln
step Heading image line.Heading stands is = record { lines = refl; is_at = is }
step Heading image (line.State fed clock draws epoch moves bytes) stands is = absurd (cc)
step Heading image (line.Ended e) stands is = absurd (cc)
step Heading image (line.Released t n) stands is = absurd (cc)
step Heading image (line.Move m) stands is = absurd (cc)
step State image line.Heading stands is = absurd (cc)
step State image (line.State fed clock draws epoch moves bytes) stands is = record {
  lines = ap (λ (l : List ImageLine). line.Heading ∷ line.State fed clock draws epoch moves bytes ∷ l)
      (no_lists image.ended image.released image.past is.0 is.1 is.2);
  is_at = (is.1, is.2);
}
step State image (line.Ended e) stands is = absurd (cc)
step State image (line.Released t n) stands is = absurd (cc)
step State image (line.Move m) stands is = absurd (cc)
step Ended image line.Heading stands is = absurd (cc)
step Ended image (line.State fed clock draws epoch moves bytes) stands is = absurd (cc)
step Ended image (line.Ended e) stands is = record {
  lines = behind_counts image (lists_of image.ended image.released image.past ++ line.Ended e ∷ [])
      (lists_of (image.ended ++ e ∷ []) image.released image.past)
      (one_ended image.ended image.released image.past e is.0 is.1);
  is_at = is;
}
step Ended image (line.Released t n) stands is = record {
  lines = behind_counts image (lists_of image.ended image.released image.past ++ line.Released t n ∷ [])
      (lists_of image.ended (image.released ++ (t, n) ∷ []) image.past)
      (one_released image.ended image.released image.past (t, n) is.1);
  is_at = is.1;
}
step Ended image (line.Move m) stands is = record {
  lines = behind_counts image (lists_of image.ended image.released image.past ++ line.Move m ∷ [])
      (lists_of image.ended image.released (image.past ++ m ∷ []))
      (one_move image.ended image.released image.past m);
  is_at = tt;
}
step Released image line.Heading stands is = absurd (cc)
step Released image (line.State fed clock draws epoch moves bytes) stands is = absurd (cc)
step Released image (line.Ended e) stands is = absurd (cc)
step Released image (line.Released t n) stands is = record {
  lines = behind_counts image (lists_of image.ended image.released image.past ++ line.Released t n ∷ [])
      (lists_of image.ended (image.released ++ (t, n) ∷ []) image.past)
      (one_released image.ended image.released image.past (t, n) is);
  is_at = is;
}
step Released image (line.Move m) stands is = record {
  lines = behind_counts image (lists_of image.ended image.released image.past ++ line.Move m ∷ [])
      (lists_of image.ended image.released (image.past ++ m ∷ []))
      (one_move image.ended image.released image.past m);
  is_at = tt;
}
step Moves image line.Heading stands is = absurd (cc)
step Moves image (line.State fed clock draws epoch moves bytes) stands is = absurd (cc)
step Moves image (line.Ended e) stands is = absurd (cc)
step Moves image (line.Released t n) stands is = absurd (cc)
step Moves image (line.Move m) stands is = record {
  lines = behind_counts image (lists_of image.ended image.released image.past ++ line.Move m ∷ [])
      (lists_of image.ended image.released (image.past ++ m ∷ []))
      (one_move image.ended image.released image.past m);
  is_at = tt;
}

-- As the reader keeps it

-- the lines before the rest are those of the image so far
pub record IsRead (text : List ℕ) (at : Stage) (image : Image) (rest : List (ℕ × List ℕ)) : Type 0 where
  pub begins : Begins image_form Heading (counted_lines text) (lines_at at image) rest
  pub stage : stage_behind image_form Heading (lines_at at image) ≡ at
  pub is_at : IsAt at image

pub at_first : (text : List ℕ) → IsRead text Heading empty (counted_lines text)
at_first text = record { begins = refl; stage = refl; is_at = (refl, refl, refl) }

length_more : (xs : List ImageLine) (x : ImageLine) → length (xs ++ x ∷ []) ≡ length xs + 1
length_more [] x = omega arith
length_more (y ∷ xs) x = let more = length_more xs x in omega arith

pub read_more : (text : List ℕ) (at next : Stage) (image new : Image) (number : ℕ) (bytes : List ℕ) (ln : ImageLine)
    (all rest : List (ℕ × List ℕ)) → IsRead text at image all → all ≡ (number, bytes) ∷ rest
    → SaysAt at (words_of bytes) ln → next ≡ behind ln → new ≡ with_line image ln
    → IsRead text next new rest × (length (lines_at next new) ≡ length (lines_at at image) + 1)
read_more text at next image new number bytes ln all rest read front says next_is new_is =
    let stepped = step at image ln (says_stands at (words_of bytes) ln says) read.is_at in
    let begins : Begins image_form Heading (counted_lines text) (lines_at at image) ((number, bytes) ∷ rest) =
    subst (Begins image_form Heading (counted_lines text) (lines_at at image)) front read.begins in
    let says2 : SaysAt (stage_behind image_form Heading (lines_at at image)) (words_of bytes) ln =
    subst (λ (s : Stage). SaysAt s (words_of bytes) ln) (sym read.stage) says in
    let longer = begins_more image_form Heading (counted_lines text) (lines_at at image) (number, bytes) rest ln
    begins says2 in
    let here : IsRead text (behind ln) (with_line image ln) rest = record {
      begins = subst (λ (ls : List ImageLine). Begins image_form Heading (counted_lines text) ls rest)
          (sym stepped.lines) longer;
      stage = ap (stage_behind image_form Heading) stepped.lines
          ∙ stage_more image_form Heading (lines_at at image) ln;
      is_at = stepped.is_at;
    } in
    let count : length (lines_at (behind ln) (with_line image ln)) ≡ length (lines_at at image) + 1 =
    ap (length {A = ImageLine}) stepped.lines ∙ length_more (lines_at at image) ln in
    subst (λ (s : Stage). IsRead text s new rest × (length (lines_at s new) ≡ length (lines_at at image) + 1))
    (sym next_is)
    (subst (λ (i : Image). IsRead text (behind ln) i rest
    × (length (lines_at (behind ln) i) ≡ length (lines_at at image) + 1)) (sym new_is) (here, count))

pub all_read : (text : List ℕ) (at : Stage) (image : Image) (rest : List (ℕ × List ℕ)) → IsRead text at image rest
    → rest ≡ [] → is_whole at ≡ true → IsImage text image
all_read text Heading image rest read none w = absurd (cc)
all_read text State image rest read none w = absurd (cc)
all_read text Ended image rest read none w = record {
  begins = subst (Begins image_form Heading (counted_lines text) (lines_of image)) none read.begins;
  whole = ap is_whole read.stage;
}
all_read text Released image rest read none w = record {
  begins = subst (Begins image_form Heading (counted_lines text) (lines_of image)) none read.begins;
  whole = ap is_whole read.stage;
}
all_read text Moves image rest read none w = record {
  begins = subst (Begins image_form Heading (counted_lines text) (lines_of image)) none read.begins;
  whole = ap is_whole read.stage;
}

pub few_read : (most room : ℕ) (at : Stage) (image : Image) → room + length (lines_at at image) ≡ most
    → is_whole at ≡ true → length (lines_of image) ≤ most
few_read most room Heading image left w = absurd (cc)
few_read most room State image left w = absurd (cc)
few_read most room Ended image left w = omega arith
few_read most room Released image left w = omega arith
few_read most room Moves image left w = omega arith

-- where the next line has a fault
pub refused_there : (text : List ℕ) (at : Stage) (image : Image) (room number : ℕ) (bytes : List ℕ)
    (all rest : List (ℕ × List ℕ)) (cause : LineCause) → IsRead text at image all
    → room + length (lines_at at image) ≡ MOST_EVENTS → all ≡ (number, bytes) ∷ rest
    → fault_at at (words_of bytes) ≡ Some cause → IsRefused text (Fault (record { line = number; cause = cause }))
refused_there text at image room number bytes all rest cause read left front bad =
    let begins : Begins image_form Heading (counted_lines text) (lines_at at image) ((number, bytes) ∷ rest) =
    subst (Begins image_form Heading (counted_lines text) (lines_at at image)) front read.begins in
    let bad2 : fault_at (stage_behind image_form Heading (lines_at at image)) (words_of bytes) ≡ Some cause =
    ap (λ (s : Stage). fault_at s (words_of bytes)) read.stage ∙ bad in
    faulty image_form lines_are_decisive MOST_EVENTS text (lines_at at image) ((number, bytes) ∷ rest) room number cause
    begins left (refl, bad2)

-- where a line is missing behind all lines
pub refused_behind : (text : List ℕ) (at : Stage) (image : Image) (room number : ℕ) (rest : List (ℕ × List ℕ))
    → IsRead text at image rest → room + length (lines_at at image) ≡ MOST_EVENTS → rest ≡ [] → is_whole at ≡ false
    → number ≡ length (lines text) + 1 → IsRefused text (Fault (record { line = number; cause = MissingLine }))
refused_behind text at image room number rest read left none early is =
    let begins : Begins image_form Heading (counted_lines text) (lines_at at image) [] =
    subst (Begins image_form Heading (counted_lines text) (lines_at at image)) none read.begins in
    faulty image_form lines_are_decisive MOST_EVENTS text (lines_at at image) [] room number MissingLine
    begins left (ap is_whole read.stage ∙ early, is, refl)

-- where one line more has no room
pub refused_many : (text : List ℕ) (at : Stage) (image : Image) (room number : ℕ) (bytes : List ℕ) (ln : ImageLine)
    (all rest : List (ℕ × List ℕ)) → IsRead text at image all → room + length (lines_at at image) ≡ MOST_EVENTS
    → room ≡ 0 → all ≡ (number, bytes) ∷ rest → SaysAt at (words_of bytes) ln → HasTooMany text
refused_many text at image room number bytes ln all rest read left none front says =
    let begins : Begins image_form Heading (counted_lines text) (lines_at at image) ((number, bytes) ∷ rest) =
    subst (Begins image_form Heading (counted_lines text) (lines_at at image)) front read.begins in
    let says2 : SaysAt (stage_behind image_form Heading (lines_at at image)) (words_of bytes) ln =
    subst (λ (s : Stage). SaysAt s (words_of bytes) ln) (sym read.stage) says in
    let count = length_more (lines_at at image) ln in
    record {
      things = lines_at at image ++ ln ∷ [];
      rest = rest;
      begins = begins_more image_form Heading (counted_lines text) (lines_at at image) (number, bytes) rest ln
          begins says2;
      many = omega (arith, count, left, none);
    }

-- Each file of staged lines is that of an image

-- the image that lines read further make
record Made (at : Stage) (image : Image) (things : List ImageLine) : Type 0 where
  pub last : Stage
  pub made : Image
  pub lines : lines_at last made ≡ lines_at at image ++ things
  pub stage : stage_behind image_form at things ≡ last

made_of : (at : Stage) (image : Image) (lines : List (ℕ × List ℕ)) (things : List ImageLine)
    (rest : List (ℕ × List ℕ)) → IsAt at image → Begins image_form at lines things rest → Made at image things
made_of at image lines [] rest is b =
    record { last = at; made = image; lines = sym (append-nil (lines_at at image)); stage = refl }
made_of at image [] (ln ∷ things) rest is b = absurd b
made_of at image (first ∷ lines) (ln ∷ things) rest is b =
    let stepped = step at image ln (says_stands at (words_of first.1) ln b.0) is in
    let more = made_of (behind ln) (with_line image ln) lines things rest stepped.is_at b.1 in
    record {
      last = more.last;
      made = more.made;
      lines = more.lines ∙ ap (λ (l : List ImageLine). l ++ things) stepped.lines
          ∙ append_assoc (lines_at at image) (ln ∷ []) things;
      stage = more.stage;
    }

pub file_is_image : (text : List ℕ) (things : List ImageLine) → IsFile image_form text things
    → (image : Image) × IsImage text image
file_is_image text things x =
    let made = made_of Heading empty (counted_lines text) things [] (refl, refl, refl) x.begins in
    by made.last made.made made.lines (sym (ap is_whole made.stage) ∙ x.whole)
  where
    whole_image : (image : Image) → lines_of image ≡ things → (image : Image) × IsImage text image
    whole_image image e = (image, subst (IsFile image_form text) (sym e) x)

    by : (last : Stage) (image : Image) → lines_at last image ≡ things → is_whole last ≡ true
        → (image : Image) × IsImage text image
    by Heading image e w = absurd (cc)
    by State image e w = absurd (cc)
    by Ended image e w = whole_image image e
    by Released image e w = whole_image image e
    by Moves image e w = whole_image image e

pub one_or_fault : (text : List ℕ)
    → ((image : Image) × IsImage text image)
    ⊎ ((number : ℕ) × (cause : LineCause) × FirstFault text number cause)
one_or_fault text = by (either image_form lines_are_decisive text)
  where
    by : ((things : List ImageLine) × IsFile image_form text things)
        ⊎ ((number : ℕ) × (cause : LineCause) × FirstFault text number cause)
        → ((image : Image) × IsImage text image)
        ⊎ ((number : ℕ) × (cause : LineCause) × FirstFault text number cause)
    by (inl x) = inl (file_is_image text x.0 x.1)
    by (inr f) = inr f

-- An image by its lines

abbrev onto_ended : ImageLine → List EndedThread → List EndedThread
onto_ended line.Heading es = es
onto_ended (line.State fed clock draws epoch moves bytes) es = es
onto_ended (line.Ended e) es = e ∷ es
onto_ended (line.Released t n) es = es
onto_ended (line.Move m) es = es

abbrev ended_in : List ImageLine → List EndedThread
ended_in [] = []
ended_in (ln ∷ lines) = onto_ended ln (ended_in lines)

abbrev onto_released : ImageLine → List (ℕ × ℕ) → List (ℕ × ℕ)
onto_released line.Heading rs = rs
onto_released (line.State fed clock draws epoch moves bytes) rs = rs
onto_released (line.Ended e) rs = rs
onto_released (line.Released t n) rs = (t, n) ∷ rs
onto_released (line.Move m) rs = rs

abbrev released_in : List ImageLine → List (ℕ × ℕ)
released_in [] = []
released_in (ln ∷ lines) = onto_released ln (released_in lines)

abbrev onto_past : ImageLine → List PlainMove → List PlainMove
onto_past line.Heading ms = ms
onto_past (line.State fed clock draws epoch moves bytes) ms = ms
onto_past (line.Ended e) ms = ms
onto_past (line.Released t n) ms = ms
onto_past (line.Move m) ms = m ∷ ms

abbrev past_in : List ImageLine → List PlainMove
past_in [] = []
past_in (ln ∷ lines) = onto_past ln (past_in lines)

abbrev counts_in : ImageLine → List EndedThread → List (ℕ × ℕ) → List PlainMove → Image
counts_in line.Heading es rs ms = empty
counts_in (line.State fed clock draws epoch moves bytes) es rs ms = record {
  fed = fed;
  clock = clock;
  draws = draws;
  epoch = epoch;
  moves = moves;
  bytes = bytes;
  ended = es;
  released = rs;
  past = ms;
}
counts_in (line.Ended e) es rs ms = empty
counts_in (line.Released t n) es rs ms = empty
counts_in (line.Move m) es rs ms = empty

abbrev image_in : List ImageLine → Image
image_in [] = empty
image_in (first ∷ []) = empty
image_in (first ∷ counts ∷ lists) = counts_in counts (ended_in lists) (released_in lists) (past_in lists)

-- the lists of each kind
moves_past : (ms : List PlainMove) → past_in (map line.Move ms) ≡ ms
moves_past [] = refl
moves_past (m ∷ ms) = ap (λ (l : List PlainMove). m ∷ l) (moves_past ms)

moves_released : (ms : List PlainMove) → released_in (map line.Move ms) ≡ []
moves_released [] = refl
moves_released (m ∷ ms) = moves_released ms

moves_ended : (ms : List PlainMove) → ended_in (map line.Move ms) ≡ []
moves_ended [] = refl
moves_ended (m ∷ ms) = moves_ended ms

past_back : (es : List EndedThread) (rs : List (ℕ × ℕ)) (ms : List PlainMove) → past_in (lists_of es rs ms) ≡ ms
past_back [] [] ms = moves_past ms
past_back [] (r ∷ rs) ms = past_back [] rs ms
past_back (e ∷ es) rs ms = past_back es rs ms

released_back : (es : List EndedThread) (rs : List (ℕ × ℕ)) (ms : List PlainMove)
    → released_in (lists_of es rs ms) ≡ rs
released_back [] [] ms = moves_released ms
released_back [] (r ∷ rs) ms = ap (λ (l : List (ℕ × ℕ)). r ∷ l) (released_back [] rs ms)
released_back (e ∷ es) rs ms = released_back es rs ms

ended_back : (es : List EndedThread) (rs : List (ℕ × ℕ)) (ms : List PlainMove) → ended_in (lists_of es rs ms) ≡ es
ended_back [] [] ms = moves_ended ms
ended_back [] (r ∷ rs) ms = ended_back [] rs ms
ended_back (e ∷ es) rs ms = ap (λ (l : List EndedThread). e ∷ l) (ended_back es rs ms)

image_back : (image : Image) → image_in (lines_of image) ≡ image
image_back image =
    let es = image.ended in
    let rs = image.released in
    let ms = image.past in
    ap (λ (l : List EndedThread). counts_in (counts_of image) l (released_in (lists_of es rs ms)) (past_in
    (lists_of es rs ms))) (ended_back es rs ms)
    ∙ ap (λ (l : List (ℕ × ℕ)). counts_in (counts_of image) es l (past_in (lists_of es rs ms))) (released_back es rs ms)
    ∙ ap (λ (l : List PlainMove). counts_in (counts_of image) es rs l) (past_back es rs ms)

pub one_image : (text : List ℕ) (a b : Image) → IsImage text a → IsImage text b → a ≡ b
one_image text a b x y =
    let same = one_file image_form lines_are_decisive text (lines_of a) (lines_of b) x y in
    sym (image_back a) ∙ ap image_in same ∙ image_back b
