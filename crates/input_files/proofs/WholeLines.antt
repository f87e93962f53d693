-- The lines that end in a text, by its last byte.
use Rattle.std.proofs.Common.{◌≡◌, ℕ, suc, ◌-◌, ◌≤◌, true, false, List, [], ◌∷◌, ◌++◌, length, take, get_or, refl, sym}
use Rattle.std.proofs.Common.{ap, ◌∙◌, subst, arith}
use Rattle.std.proofs.Math.Seq.{take-length, take-suc}
use Rattle.std.proofs.lemmas.Bool.Decides.{nat_tests}
use Rattle.std.specs.Prelude.{◌==◌}
use Rattle.input_files.specs.Texts.{before_lines, whole_lines}

before_some : (b : ℕ) (front : List ℕ) (last : ℕ) → before_lines b (front ++ last ∷ []) ≡ b ∷ (front ++ last ∷ [])
before_some b [] last = refl
before_some b (c ∷ front) last = refl

-- one that ends in a line feed is all of whole lines
ends_in_feed : (front : List ℕ) (last : ℕ) → (last == 10) ≡ true → whole_lines (front ++ last ∷ []) ≡ front ++ last ∷ []
ends_in_feed [] last feed = rw feed refl
ends_in_feed (b ∷ front) last feed = ap (before_lines b) (ends_in_feed front last feed) ∙ before_some b front last

-- any other last byte is in no line that ends
drops_last : (front : List ℕ) (last : ℕ) → (last == 10) ≡ false → whole_lines (front ++ last ∷ []) ≡ whole_lines front
drops_last [] last other = rw other refl
drops_last (b ∷ front) last other = ap (before_lines b) (drops_last front last other)

by_last : (text : List ℕ) → 1 ≤ length text → text ≡ take (length text - 1) text ++ get_or text (length text - 1) 0 ∷ []
by_last text some =
    let whole : text ≡ take (length text) text = sym (take-length text) in
    let one_more : length text ≡ suc (length text - 1) = omega arith in
    whole ∙ ap (λ (n : ℕ). take n text) one_more ∙ take-suc text (length text - 1) 0 (omega arith)

-- the same of a text that has bytes
pub feed_is_last : (text : List ℕ) → 1 ≤ length text → get_or text (length text - 1) 0 ≡ 10 → whole_lines text ≡ text
feed_is_last text some feed =
    let Whole : List ℕ → Type 0 = λ bytes. whole_lines bytes ≡ bytes in
    subst Whole (sym (by_last text some))
    (ends_in_feed (take (length text - 1) text) (get_or text (length text - 1) 0) (grind (arith, nat_tests)))

pub other_is_last : (text : List ℕ) → 1 ≤ length text → (get_or text (length text - 1) 0 ≡ 10 → ⊥)
    → whole_lines text ≡ whole_lines (take (length text - 1) text)
other_is_last text some other =
    ap whole_lines (by_last text some)
    ∙ drops_last (take (length text - 1) text) (get_or text (length text - 1) 0) (grind (arith, nat_tests))
