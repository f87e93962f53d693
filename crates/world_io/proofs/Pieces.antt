-- What is copied of the first of some bytes to the first places of a piece.
use Rattle.std.proofs.Common.{◌≡◌, ◌+◌, ◌-◌, ◌≤◌, ℕ, List, ◌++◌, length, take, drop, arith, sym, ap, ◌∙◌, length-take}
use Rattle.std.proofs.Common.{length-drop}
use Rattle.std.proofs.lemmas.List.{take-append-drop, drop-take, drop-drop, take-take, take_at}

-- the bytes are those in the piece and those behind them
pub first_copied : (left : List ℕ) (n : ℕ) (copied rest : List ℕ) → n ≤ length left → copied ≡ take n left
    → left ≡ take n (copied ++ rest) ++ drop n left
first_copied left n copied rest within same =
    let len : length copied ≡ n = ap length same ∙ simp length-take (omega arith) in
    sym (take-append-drop n left) ∙ ap (λ l. l ++ drop n left) (sym same ∙ sym (take_at copied rest n len))

-- the same of the bytes behind those that were given before
pub rest_copied : (bytes : List ℕ) (given n : ℕ) (copied rest : List ℕ) → given + n ≤ length bytes
    → copied ≡ take n (drop given bytes) → drop given bytes ≡ take n (copied ++ rest) ++ drop (given + n) bytes
rest_copied bytes given n copied rest within same =
    first_copied (drop given bytes) n copied rest (simp length-drop (omega arith)) same
    ∙ ap (λ l. take n (copied ++ rest) ++ l) (drop-drop n given bytes)

-- the same of the filled part of a buffer
pub held_copied : (buffer : List ℕ) (given filled n : ℕ) (copied rest : List ℕ) → given + n ≤ filled
    → filled ≤ length buffer → copied ≡ take (given + n - given) (drop given buffer)
    → drop given (take filled buffer) ≡ take n (copied ++ rest) ++ drop (given + n) (take filled buffer)
held_copied buffer given filled n copied rest within fits same =
    let count : given + n - given ≡ n = omega arith in
    let all : given + (filled - given) ≡ filled = omega arith in
    let window : drop given (take filled buffer) ≡ take (filled - given) (drop given buffer) =
    ap (λ k. drop given (take k buffer)) (sym all) ∙ drop-take given (filled - given) buffer in
    let same' : copied ≡ take n (drop given buffer) = rw count at same in
    rest_copied (take filled buffer) given n copied rest (simp length-take (omega arith))
    (same' ∙ sym (take-take n (filled - given) (drop given buffer) (omega arith)) ∙ ap (take n) (sym window))
