-- What a number that is put into a frame leaves alone.
use Rattle.std.proofs.Common.{◌≡◌, ◌≢◌, ℕ, ◌+◌, ◌-◌, ◌/◌, ◌%◌, ◌<◌, ◌≤◌, List, ◌++◌, length, get_or, set, take, drop}
use Rattle.std.proofs.Common.{◌∙◌, sym, ap, arith, refl}
use Rattle.std.proofs.lemmas.List.{get_or-set_other, get_or-set_same, length-set, length-take, length-drop}
use Rattle.std.proofs.lemmas.List.{get_or_append_left, get_or-take, get_or-drop, drop-set-lt, drop-set-add, take-set-le}
use Rattle.std.proofs.lemmas.List.{set-append_left}
use Rattle.std.proofs.Math.Seq.{take-set-lt}
use Rattle.packet_headers.specs.Fields.{word_at, put_word}

pub length-put_word : (frame : List ℕ) (place word : ℕ) → length (put_word frame place word) ≡ length frame
length-put_word frame place word = simp length-set refl

pub get_or-put_word_other : (frame : List ℕ) (place word k : ℕ) → k ≢ place → k ≢ place + 1
    → get_or (put_word frame place word) k 0 ≡ get_or frame k 0
get_or-put_word_other frame place word k not_high not_low =
    get_or-set_other (set frame place (word / 256)) (place + 1) k (word % 256) 0 not_low
    ∙ get_or-set_other frame place k (word / 256) 0 not_high

word_at-put_word_other : (frame : List ℕ) (place word other : ℕ) → other ≢ place → other ≢ place + 1 → other + 1 ≢ place
    → other + 1 ≢ place + 1 → word_at (put_word frame place word) other ≡ word_at frame other
word_at-put_word_other frame place word other a b c d =
    let high = get_or-put_word_other frame place word other a b in
    let low = get_or-put_word_other frame place word (other + 1) c d in
    omega arith

-- a word read before the place, behind it, and at it
pub word_before : (frame : List ℕ) (place word other : ℕ) → other + 1 < place
    → word_at (put_word frame place word) other ≡ word_at frame other
word_before frame place word other before =
    word_at-put_word_other frame place word other (λ e. omega arith) (λ e. omega arith) (λ e. omega arith)
    (λ e. omega arith)

pub word_behind : (frame : List ℕ) (place word other : ℕ) → place + 1 < other
    → word_at (put_word frame place word) other ≡ word_at frame other
word_behind frame place word other behind =
    word_at-put_word_other frame place word other (λ e. omega arith) (λ e. omega arith) (λ e. omega arith)
    (λ e. omega arith)

pub word_there : (frame : List ℕ) (place word : ℕ) → place + 1 < length frame
    → word_at (put_word frame place word) place ≡ word
word_there frame place word inside =
    let high =
    get_or-set_other (set frame place (word / 256)) (place + 1) place (word % 256) 0 (λ e. omega arith)
    ∙ get_or-set_same frame place (word / 256) 0 (omega arith) in
    let low = get_or-set_same (set frame place (word / 256)) (place + 1) (word % 256) 0 (simp length-set inside) in
    omega arith

-- a piece of a frame that the place is a part of, comes before, or is behind; more may follow the piece
set_in_piece : (frame more : List ℕ) (from to place byte : ℕ) → from + place < to → from + place < length frame
    → take (to - from) (drop from (set frame (from + place) byte)) ++ more
    ≡ set (take (to - from) (drop from frame) ++ more) place byte
set_in_piece frame more from to place byte inside in_frame =
    let long_enough : place < length (take (to - from) (drop from frame)) =
    simp (length-take, length-drop) (omega arith) in
    ap (λ (rest : List ℕ). take (to - from) rest ++ more) (drop-set-add from frame place byte)
    ∙ ap (λ (piece : List ℕ). piece ++ more) (take-set-lt (to - from) (drop from frame) place byte (omega arith))
    ∙ sym (set-append_left (take (to - from) (drop from frame)) more place byte long_enough)

pub put_word_in_piece : (frame more : List ℕ) (from to place word : ℕ) → from + place + 1 < to
    → from + place + 1 < length frame
    → take (to - from) (drop from (put_word frame (from + place) word)) ++ more
    ≡ put_word (take (to - from) (drop from frame) ++ more) place word
put_word_in_piece frame more from to place word inside in_frame =
    let frame' = set frame (from + place) (word / 256) in
    let next : from + place + 1 ≡ from + (place + 1) = omega arith in
    ap (λ (k : ℕ). take (to - from) (drop from (set frame' k (word % 256))) ++ more) next
    ∙ set_in_piece frame' more from to (place + 1) (word % 256) (omega arith) (simp length-set (omega arith))
    ∙ ap (λ (piece : List ℕ). set piece (place + 1) (word % 256))
    (set_in_piece frame more from to place (word / 256) (omega arith) (omega arith))

pub put_word_before_piece : (frame : List ℕ) (from to place word : ℕ) → place + 1 < from
    → take (to - from) (drop from (put_word frame place word)) ≡ take (to - from) (drop from frame)
put_word_before_piece frame from to place word before =
    ap (λ (rest : List ℕ). take (to - from) rest)
    (drop-set-lt from (set frame place (word / 256)) (place + 1) (word % 256) before
    ∙ drop-set-lt from frame place (word / 256) (omega arith))

set_behind_piece : (frame : List ℕ) (from to place byte : ℕ) → from ≤ to → to ≤ place
    → take (to - from) (drop from (set frame place byte)) ≡ take (to - from) (drop from frame)
set_behind_piece frame from to place byte ordered behind =
    let apart : from + (place - from) ≡ place = omega arith in
    ap (λ (k : ℕ). take (to - from) (drop from (set frame k byte))) (sym apart)
    ∙ ap (λ (rest : List ℕ). take (to - from) rest) (drop-set-add from frame (place - from) byte)
    ∙ take-set-le (to - from) (drop from frame) (place - from) byte (omega arith)

pub put_word_behind_piece : (frame : List ℕ) (from to place word : ℕ) → from ≤ to → to ≤ place
    → take (to - from) (drop from (put_word frame place word)) ≡ take (to - from) (drop from frame)
put_word_behind_piece frame from to place word ordered behind =
    set_behind_piece (set frame place (word / 256)) from to (place + 1) (word % 256) ordered (omega arith)
    ∙ set_behind_piece frame from to place (word / 256) ordered behind

-- a word of a piece is the frame's
get_or_piece : (frame more : List ℕ) (from to place : ℕ) → from + place < to → from + place < length frame
    → get_or (take (to - from) (drop from frame) ++ more) place 0 ≡ get_or frame (from + place) 0
get_or_piece frame more from to place inside in_frame =
    let long_enough : place < length (take (to - from) (drop from frame)) =
    simp (length-take, length-drop) (omega arith) in
    get_or_append_left (take (to - from) (drop from frame)) more 0 place long_enough
    ∙ get_or-take (to - from) (drop from frame) place 0 (omega arith)
    ∙ get_or-drop from frame place 0

pub word_at_piece : (frame more : List ℕ) (from to place : ℕ) → from + place + 1 < to → from + place + 1 < length frame
    → word_at (take (to - from) (drop from frame) ++ more) place ≡ word_at frame (from + place)
word_at_piece frame more from to place inside in_frame =
    let high = get_or_piece frame more from to place (omega arith) (omega arith) in
    let low = get_or_piece frame more from to (place + 1) (omega arith) (omega arith) in
    let next : from + (place + 1) ≡ from + place + 1 = omega arith in
    let low' = low ∙ ap (λ (k : ℕ). get_or frame k 0) next in
    omega arith
