-- The lines of a text that count: there are no more of them than bytes, and so no number is larger.
use Rattle.std.proofs.Common.{◌≡◌, ℕ, zero, suc, ◌+◌, ◌≤◌, ◌<◌, Bool, true, false, List, [], ◌∷◌, length}
use Rattle.std.proofs.Common.{arith, Some, ap}
use Rattle.std.specs.Prelude.{cond, filter, if◌then◌else◌, slice_get, ◌==◌}
use Rattle.std.specs.List.{slice_split, enumerate_from, onto_first}
use Rattle.std.specs.Str.Lines.{lines, lines_of_parts}
use Rattle.plain_text.specs.Lines.{counted_lines, words_count, words_of}

-- Of all lines

one_more : (parts : List (List ℕ)) → length (lines_of_parts ([] ∷ parts)) ≤ length (lines_of_parts parts) + 1
one_more [] = omega arith
one_more (part ∷ parts) = omega arith

-- an empty last part is no line
last_few : (part : List ℕ) → length (lines_of_parts (part ∷ [])) ≤ 1
last_few part = by_empty (length part == 0)
  where
    by_empty : (empty : Bool) → length {A = List ℕ} (if empty then [] else part ∷ []) ≤ 1
    by_empty true = omega arith
    by_empty false = omega arith

onto_more : (x : ℕ) (parts : List (List ℕ))
    → length (lines_of_parts (onto_first x parts)) ≤ length (lines_of_parts parts) + 1
onto_more x [] = omega arith
onto_more x (part ∷ []) = let few = last_few (x ∷ part) in omega (arith, few)
onto_more x (part ∷ other ∷ parts) = omega arith

pub lines_few : (text : List ℕ) → length (lines text) ≤ length text
lines_few [] = omega arith
lines_few (x ∷ text) = by_feed (x == 10) (slice_split (λ b. b == 10) text) (lines_few text)
  where
    by_feed : (feed : Bool) (parts : List (List ℕ)) → length (lines_of_parts parts) ≤ length text
        → length (lines_of_parts (cond feed ([] ∷ parts) (onto_first x parts))) ≤ length (x ∷ text)
    by_feed true parts few = let more = one_more parts in omega (arith, few, more)
    by_feed false parts few = let more = onto_more x parts in omega (arith, few, more)

-- Of those that count

abbrev Numbered : ℕ → List (List ℕ) → List (ℕ × List ℕ)
Numbered first all = filter (λ line. words_count (words_of line.1)) (enumerate_from first all)

few_from : (first : ℕ) (all : List (List ℕ)) → length (Numbered first all) ≤ length all
few_from first [] = omega arith
few_from first (line ∷ all) = by_count (words_count (words_of line)) (few_from (first + 1) all)
  where
    by_count : (counts : Bool) → length (Numbered (first + 1) all) ≤ length all
        → length (cond counts ((first, line) ∷ Numbered (first + 1) all) (Numbered (first + 1) all))
        ≤ length (line ∷ all)
    by_count true less = omega (arith, less)
    by_count false less = omega (arith, less)

same_number : (p q : ℕ × List ℕ) → Some p ≡ Some q → p.0 ≡ q.0
same_number p q e = let same : p ≡ q = cc in ap (λ (r : ℕ × List ℕ). r.0) same

below_from : (first : ℕ) (all : List (List ℕ)) (place number : ℕ) (bytes : List ℕ)
    → slice_get (Numbered first all) place ≡ Some (number, bytes) → number < first + length all
below_from first [] place number bytes e = absurd (cc)
below_from first (line ∷ all) place number bytes e =
    by_count (words_count (words_of line)) place (λ at. below_from (first + 1) all at number bytes) e
  where
    by_count : (counts : Bool) (place : ℕ)
        → ((at : ℕ) → slice_get (Numbered (first + 1) all) at ≡ Some (number, bytes)
        → number < first + 1 + length all)
        → slice_get (cond counts ((first, line) ∷ Numbered (first + 1) all) (Numbered (first + 1) all)) place
        ≡ Some (number, bytes) → number < first + length (line ∷ all)
    by_count true zero behind e =
        let same : first ≡ number = same_number (first, line) (number, bytes) e in omega (arith, same)
    by_count true (suc at) behind e = let less = behind at e in omega (arith, less)
    by_count false at behind e = let less = behind at e in omega (arith, less)

pub counted_few : (text : List ℕ) → length (counted_lines text) ≤ length text
counted_few text = let a = few_from 1 (lines text) in let b = lines_few text in omega (arith, a, b)

-- a number of a line that counts
pub number_few : (text : List ℕ) (place number : ℕ) (bytes : List ℕ)
    → slice_get (counted_lines text) place ≡ Some (number, bytes) → number ≤ length text
number_few text place number bytes e =
    let a = below_from 1 (lines text) place number bytes e in let b = lines_few text in omega (arith, a, b)
