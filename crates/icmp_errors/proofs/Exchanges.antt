-- What one exchanged word keeps, whose checksum stands before it.
use Rattle.std.proofs.Common.{◌≡◌, ◌≢◌, ◌⊎◌, ℕ, ◌+◌, ◌*◌, ◌/◌, ◌%◌, ◌<◌, ◌≤◌, ◌==◌, Bool, true, false, List, [], length}
use Rattle.std.proofs.Common.{get_or, set, ◌∙◌, arith, refl}
use Rattle.std.proofs.lemmas.Bool.Decides.{nat_tests}
use Rattle.std.proofs.lemmas.List.{get_or-set_other, get_or-set_same, length-set}
use Rattle.inet_checksum.specs.OnesComplement.{adjusted_16}
use Rattle.inet_checksum.proofs.AdjustedSums.{adjusted_16-le, adjusted_16-residue}
use Rattle.packet_headers.specs.Fields.{AreBytes, word_at, put_word}
use Rattle.packet_headers.proofs.Places.{length-put_word, get_or-put_word_other, word_behind, word_there}
use Rattle.packet_headers.proofs.Weights.{weight, weight_inside, weight_before, weight_behind}
use Rattle.packet_headers.proofs.Laws.{word_at-le}
use Rattle.icmp_errors.specs.ErrorRewriting.{exchanged_word}

pub length-exchanged : (frame : List ℕ) (checksum place word : ℕ)
    → length (exchanged_word frame checksum place word) ≡ length frame
length-exchanged frame checksum place word = length-put_word _ _ _ ∙ length-put_word _ _ _

-- ---- bytes

set_keeps_bytes : (frame : List ℕ) (place byte : ℕ) → place < length frame → byte < 256 → AreBytes frame
    → AreBytes (set frame place byte)
set_keeps_bytes frame place byte inside small bytes k = by (k == place) refl
  where
    by : (same : Bool) → (k == place) ≡ same → get_or (set frame place byte) k 0 < 256
    by true is =
        let here : k ≡ place = grind (arith, nat_tests) in
        rw (here, get_or-set_same frame place byte 0 inside) small
    by false is =
        let apart : k ≢ place = grind (arith, nat_tests) in
        rw (get_or-set_other frame place k byte 0 apart) (bytes k)

pub put_keeps_bytes : (frame : List ℕ) (place word : ℕ) → place + 1 < length frame → word ≤ 65535 → AreBytes frame
    → AreBytes (put_word frame place word)
put_keeps_bytes frame place word inside small bytes =
    set_keeps_bytes (set frame place (word / 256)) (place + 1) (word % 256) (rw length-set inside) (omega arith)
    (set_keeps_bytes frame place (word / 256) (omega arith) (omega arith) bytes)

pub exchange_keeps_bytes : (frame : List ℕ) (checksum place word : ℕ) → checksum + 1 < length frame
    → place + 1 < length frame → word ≤ 65535 → AreBytes frame
    → AreBytes (exchanged_word frame checksum place word)
exchange_keeps_bytes frame checksum place word checksum_in place_in small bytes =
    let adjusted = adjusted_16 (word_at frame checksum) (word_at frame place) word in
    let fits = adjusted_16-le (word_at frame checksum) (word_at frame place) word in
    put_keeps_bytes (put_word frame checksum adjusted) place word (rw length-put_word place_in) small
    (put_keeps_bytes frame checksum adjusted checksum_in fits bytes)

-- a byte is beside a word
abbrev pub Beside : ℕ → ℕ → Type 0
Beside k place = (k < place) ⊎ (place + 2 ≤ k)

pub byte_beside : (frame : List ℕ) (checksum place word k : ℕ) → Beside k checksum → Beside k place
    → get_or (exchanged_word frame checksum place word) k 0 ≡ get_or frame k 0
byte_beside frame checksum place word k beside_checksum beside_place =
    let adjusted = adjusted_16 (word_at frame checksum) (word_at frame place) word in
    get_or-put_word_other (put_word frame checksum adjusted) place word k (λ e. omega arith) (λ e. omega arith)
    ∙ get_or-put_word_other frame checksum adjusted k (λ e. omega arith) (λ e. omega arith)

-- the word is there
pub exchanged_there : (frame : List ℕ) (checksum place word : ℕ) → place + 1 < length frame
    → word_at (exchanged_word frame checksum place word) place ≡ word
exchanged_there frame checksum place word inside =
    let adjusted = adjusted_16 (word_at frame checksum) (word_at frame place) word in
    word_there (put_word frame checksum adjusted) place word (rw length-put_word inside)

-- ---- sums of words

net : (w0 w1 w2 checksum adjusted old old' word : ℕ) → w1 + checksum ≡ w0 + adjusted → w2 + old' ≡ w1 + word
    → old' ≡ old → (adjusted + word) % 65535 ≡ (checksum + old) % 65535 → w2 % 65535 ≡ w0 % 65535
net w0 w1 w2 checksum adjusted old old' word a b c d = omega arith

difference : (w0 w1 w2 old old' word : ℕ) → w1 ≡ w0 → w2 + old' ≡ w1 + word → old' ≡ old → w2 + old ≡ w0 + word
difference w0 w1 w2 old old' word a b c = omega arith

-- of a piece that has both places, the remainder stays
pub exchange_inside : (frame : List ℕ) (from to n m checksum place word : ℕ) → AreBytes frame
    → checksum ≡ from + 2 * n → place ≡ from + 2 * m → n < m → place + 1 < to → to ≤ length frame
    → weight (exchanged_word frame checksum place word) from to [] % 65535 ≡ weight frame from to [] % 65535
exchange_inside frame from to n m checksum place word bytes checksum_is place_is before inside in_frame =
    let old = word_at frame place in
    let adjusted = adjusted_16 (word_at frame checksum) old word in
    let first = weight_inside frame [] from to n checksum adjusted checksum_is (omega arith) (omega arith) in
    let second = weight_inside (put_word frame checksum adjusted) [] from to m place word place_is (omega arith)
    (rw length-put_word (omega arith)) in
    let same = word_behind frame checksum adjusted place (omega arith) in
    let balance = adjusted_16-residue (word_at frame checksum) old word (word_at-le frame checksum bytes)
    (word_at-le frame place bytes) in
    net _ _ _ (word_at frame checksum) adjusted old (word_at (put_word frame checksum adjusted) place) word first second
    same balance

-- of a piece behind both, or before both, the sum stays
pub exchange_before : (frame : List ℕ) (from to checksum place word : ℕ) → checksum + 1 < from → place + 1 < from
    → weight (exchanged_word frame checksum place word) from to [] ≡ weight frame from to []
exchange_before frame from to checksum place word first second =
    let adjusted = adjusted_16 (word_at frame checksum) (word_at frame place) word in
    weight_before (put_word frame checksum adjusted) [] from to place word second
    ∙ weight_before frame [] from to checksum adjusted first

pub exchange_behind : (frame : List ℕ) (from to checksum place word : ℕ) → from ≤ to → to ≤ checksum → to ≤ place
    → weight (exchanged_word frame checksum place word) from to [] ≡ weight frame from to []
exchange_behind frame from to checksum place word order first second =
    let adjusted = adjusted_16 (word_at frame checksum) (word_at frame place) word in
    weight_behind (put_word frame checksum adjusted) [] from to place word order second
    ∙ weight_behind frame [] from to checksum adjusted order first

-- of a piece between the checksum and the place too; and of one that has the place alone, it changes with the word
pub exchange_around : (frame : List ℕ) (from to checksum place word : ℕ) → checksum + 1 < from → from ≤ to → to ≤ place
    → weight (exchanged_word frame checksum place word) from to [] ≡ weight frame from to []
exchange_around frame from to checksum place word first order second =
    let adjusted = adjusted_16 (word_at frame checksum) (word_at frame place) word in
    weight_behind (put_word frame checksum adjusted) [] from to place word order second
    ∙ weight_before frame [] from to checksum adjusted first

pub exchange_within : (frame : List ℕ) (from to n checksum place word : ℕ) → checksum + 1 < from
    → place ≡ from + 2 * n → place + 1 < to → to ≤ length frame
    → weight (exchanged_word frame checksum place word) from to [] + word_at frame place
    ≡ weight frame from to [] + word
exchange_within frame from to n checksum place word first place_is inside in_frame =
    let old = word_at frame place in
    let adjusted = adjusted_16 (word_at frame checksum) old word in
    let before = weight_before frame [] from to checksum adjusted first in
    let second = weight_inside (put_word frame checksum adjusted) [] from to n place word place_is (omega arith)
    (rw length-put_word (omega arith)) in
    let same = word_behind frame checksum adjusted place (omega arith) in
    difference _ _ _ old (word_at (put_word frame checksum adjusted) place) word before second same
