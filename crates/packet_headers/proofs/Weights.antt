-- How the sum of a list's words changes with one of them.
use Rattle.std.proofs.Common.{◌≡◌, ℕ, zero, suc, ◌+◌, ◌*◌, ◌/◌, ◌%◌, ◌<◌, ◌≤◌, List, [], ◌∷◌, ◌++◌, ◌-◌, length, get_or}
use Rattle.std.proofs.Common.{set, take, drop, sum, ◌∙◌, sym, ap, arith, add-one, subst, refl}
use Rattle.std.proofs.lemmas.List.Sums.{sum_by-cons}
use Rattle.std.proofs.lemmas.List.{length-append, length-take, length-drop}
use Rattle.inet_checksum.specs.OnesComplement.{words}
use Rattle.packet_headers.specs.Fields.{word_at, put_word}
use Rattle.packet_headers.proofs.Places.{put_word_in_piece, put_word_before_piece, put_word_behind_piece, word_at_piece}

abbrev double : ℕ → ℕ
double zero = zero
double (suc n) = suc (suc (double n))

double-is : (n : ℕ) → double n ≡ 2 * n
double-is zero = refl
double-is (suc n) = let before = double-is n in omega arith

sum_words_sets : (n : ℕ) (bytes : List ℕ) (high low : ℕ) → suc (double n) < length bytes
    → sum (words (set (set bytes (double n) high) (suc (double n)) low))
    + (256 * get_or bytes (double n) 0 + get_or bytes (suc (double n)) 0)
    ≡ sum (words bytes) + (256 * high + low)
sum_words_sets n [] high low inside = absurd (omega arith)
sum_words_sets n (a ∷ []) high low inside = absurd (omega arith)
sum_words_sets zero (a ∷ b ∷ rest) high low inside =
    let new = sum_by-cons (λ x. x) (256 * high + low) (words rest) in
    let old = sum_by-cons (λ x. x) (256 * a + b) (words rest) in
    omega arith
sum_words_sets (suc n) (a ∷ b ∷ rest) high low inside =
    let new = sum_by-cons (λ x. x) (256 * a + b) (words (set (set rest (double n) high) (suc (double n)) low)) in
    let old = sum_by-cons (λ x. x) (256 * a + b) (words rest) in
    let later = sum_words_sets n rest high low (omega arith) in
    omega arith

-- a word that is put in place of another changes the sum by their difference
pub sum_words-put_word : (n : ℕ) (bytes : List ℕ) (word : ℕ) → 2 * n + 1 < length bytes
    → sum (words (put_word bytes (2 * n) word)) + word_at bytes (2 * n) ≡ sum (words bytes) + word
sum_words-put_word n bytes word inside =
    let Changes : ℕ → Type 0 = λ k.
    sum (words (set (set bytes k (word / 256)) (suc k) (word % 256)))
    + (256 * get_or bytes k 0 + get_or bytes (suc k) 0)
    ≡ sum (words bytes) + (256 * (word / 256) + word % 256) in
    let even = double-is n in
    let changes = subst Changes even (sum_words_sets n bytes (word / 256) (word % 256) (omega arith)) in
    let value : 256 * (word / 256) + word % 256 ≡ word = omega arith in
    simp add-one (changes ∙ ap (λ (w : ℕ). sum (words bytes) + w) value)

-- the sum of the words of a piece of a frame, and of what follows it
abbrev pub weight : List ℕ → ℕ → ℕ → List ℕ → ℕ
weight frame from to more = sum (words (take (to - from) (drop from frame) ++ more))

-- a word that is put into the piece at an even place of it, before it, or behind it
weight_at : (frame more : List ℕ) (from to n word : ℕ) → from + 2 * n + 1 < to → from + 2 * n + 1 < length frame
    → weight (put_word frame (from + 2 * n) word) from to more + word_at frame (from + 2 * n)
    ≡ weight frame from to more + word
weight_at frame more from to n word inside in_frame =
    let piece = take (to - from) (drop from frame) ++ more in
    let long_enough : 2 * n + 1 < length piece = simp (length-append, length-take, length-drop) (omega arith) in
    let put =
    ap (λ (bytes : List ℕ). sum (words bytes)) (put_word_in_piece frame more from to (2 * n) word inside in_frame) in
    let old = word_at_piece frame more from to (2 * n) inside in_frame in
    let changes = sum_words-put_word n piece word long_enough in
    omega arith

pub weight_inside : (frame more : List ℕ) (from to n place word : ℕ) → place ≡ from + 2 * n → place + 1 < to
    → place + 1 < length frame
    → weight (put_word frame place word) from to more + word_at frame place ≡ weight frame from to more + word
weight_inside frame more from to n place word is inside in_frame =
    let Changes : ℕ → Type 0 =
    λ k. weight (put_word frame k word) from to more + word_at frame k ≡ weight frame from to more + word in
    subst Changes (sym is) (weight_at frame more from to n word (omega arith) (omega arith))

pub weight_before : (frame more : List ℕ) (from to place word : ℕ) → place + 1 < from
    → weight (put_word frame place word) from to more ≡ weight frame from to more
weight_before frame more from to place word before =
    ap (λ (bytes : List ℕ). sum (words (bytes ++ more))) (put_word_before_piece frame from to place word before)

pub weight_behind : (frame more : List ℕ) (from to place word : ℕ) → from ≤ to → to ≤ place
    → weight (put_word frame place word) from to more ≡ weight frame from to more
weight_behind frame more from to place word ordered behind =
    ap (λ (bytes : List ℕ). sum (words (bytes ++ more))) (put_word_behind_piece frame from to place word ordered behind)
