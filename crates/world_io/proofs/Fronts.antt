-- What reading the front of a source keeps of the last piece, and what it answers where there is no memory.
use Rattle.std.proofs.Common.{◌≡◌, ◌+◌, ◌-◌, ◌<◌, ◌≤◌, ℕ, List, ◌++◌, length, take, drop, arith, sym, ap, ◌∙◌}
use Rattle.std.proofs.Common.{append_assoc, length-append, length-take, length-drop, Result, Ok, Err}
use Rattle.std.specs.Prelude.{IsErrAnd}
use Rattle.std.proofs.lemmas.List.{take-append-drop, take-append-le, take-take, take_at}
use Rattle.world_io.specs.declared.beginning.Front.{Front}
use Rattle.world_io.specs.declared.beginning.FrontError.{FrontError}
use Rattle.world_io.specs.declared.beginning.FrontError.TheVariants.{NoMemory}
use Rattle.world_io.specs.Beginning.{ReadsFront}
use Rattle.world_io.specs.Taking.{TakesSome}

pub no_memory : {S : Type 0} (reads : S → List ℕ → S → Type 0) (r : Result Front FrontError) (limit : ℕ) (old new : S)
    → IsErrAnd r (λ e. e ≡ NoMemory) → TakesSome reads old new → ReadsFront reads r limit old new
no_memory reads (Ok front) limit old new is taken = absurd is
no_memory reads (Err e) limit old new is taken = taken

-- what is kept of a piece, and what is not, are what was taken
pub parts_of_piece : (bytes piece tail : List ℕ) (count kept : ℕ) → kept ≤ count → count ≤ length piece
    → (bytes ++ take kept (piece ++ tail)) ++ drop kept (take count piece) ≡ bytes ++ take count piece
parts_of_piece bytes piece tail count kept less within =
    let first : take kept (piece ++ tail) ≡ take kept (take count piece) =
    take-append-le kept piece tail (omega (arith, less, within)) ∙ sym (take-take kept count piece less) in
    append_assoc bytes (take kept (piece ++ tail)) (drop kept (take count piece))
    ∙ ap (λ l. bytes ++ (l ++ drop kept (take count piece))) first
    ∙ ap (λ l. bytes ++ l) (take-append-drop kept (take count piece))

-- all of it is kept
pub whole_piece : (now bytes piece tail : List ℕ) (count kept : ℕ) → now ≡ bytes ++ take kept (piece ++ tail)
    → kept ≡ count → count ≤ length piece → now ≡ bytes ++ take count piece
whole_piece now bytes piece tail count kept is same within =
    is ∙ ap (λ k. bytes ++ take k (piece ++ tail)) same ∙ ap (λ l. bytes ++ l) (take-append-le count piece tail within)

pub left_of_piece : (piece : List ℕ) (count kept : ℕ) → count ≤ length piece
    → length (drop kept (take count piece)) ≡ count - kept
left_of_piece piece count kept within = simp (length-drop, length-take) (omega arith)

pub kept_length : (now bytes piece tail : List ℕ) (kept : ℕ) → now ≡ bytes ++ take kept (piece ++ tail)
    → kept ≤ length piece → length now ≡ length bytes + kept
kept_length now bytes piece tail kept is within =
    ap length is
    ∙ length-append bytes (take kept (piece ++ tail))
    ∙ ap (λ l. length bytes + length l) (take-append-le kept piece tail within)
    ∙ ap (λ n. length bytes + n) (taken_length kept piece within)
  where
    taken_length : (k : ℕ) (l : List ℕ) → k ≤ length l → length (take k l) ≡ k
    taken_length k l low = simp length-take (omega arith)

-- the first bytes of what was left, where there was more
pub is_front : (first next rest all : List ℕ) (limit : ℕ) → all ≡ (first ++ next) ++ rest → length first ≡ limit
    → length next ≡ 1 → (first ≡ take limit all) × (limit < length all)
is_front first next rest all limit parts size more =
    let behind : all ≡ first ++ (next ++ rest) = parts ∙ append_assoc first next rest in
    let count : length all ≡ length first + (length next + length rest) =
    ap length behind ∙ length-append first (next ++ rest) ∙ ap (λ n. length first + n) (length-append next rest) in
    (sym (ap (take limit) behind ∙ take_at first (next ++ rest) limit size), omega (arith, count, size, more))
