-- The counting box writes to bytes that stand in front of the tag.
use Rattle.std.proofs.Common.{◌≡◌, ℕ, zero, suc, ◌+◌, ◌≤◌, Bool, true, false, if◌then◌else◌, List, [], ◌∷◌, ◌++◌}
use Rattle.std.proofs.Common.{length, take, drop, ap, sym, subst, ◌∙◌, arith, refl}
use Rattle.std.proofs.Math.Seq.{drop-nil}
use Rattle.std.specs.Prelude.{nat_lt, ◌%◌, ◌^◌}
use Rattle.std.specs.Int.{to_be_bytes, w32}
use Rattle.tagged_frames.specs.Tags.{is_tagged, tag_length}
use Rattle.tagged_frames.proofs.TagLemmas.{drop_first, tag_within}
use Rattle.box_program.specs.Count.{numbered}
use Rattle.kept_tags.specs.Tag.{tag_of}
use Rattle.kept_tags.proofs.TagBytes.{tag_is_4}

drop_both : (k m n : ℕ) (xs : List ℕ) → n ≡ k + m → drop m (drop k xs) ≡ drop n xs
drop_both zero m n xs is =
    let e : m ≡ n = omega arith in ap (λ (j : ℕ). drop j xs) e
drop_both (suc k) m zero xs is = absurd (omega (arith, is))
drop_both (suc k) m (suc n) [] is = drop-nil m
drop_both (suc k) m (suc n) (x ∷ xs) is = drop_both k m n xs (omega (arith, is))

-- what stands behind the number stays, with the first two bytes behind that
number_leaves : (bytes : List ℕ) (number : ℕ) (short : Bool)
    → drop 8 (if short then bytes else take 2 bytes ++ to_be_bytes w32 number ++ drop 6 bytes) ≡ drop 8 bytes
number_leaves bytes number true = refl
number_leaves [] number false = refl
number_leaves (a ∷ []) number false = refl
number_leaves (a ∷ b ∷ bytes) number false = drop_both 4 2 6 bytes refl

tag_stays : (frame : List ℕ) (n : ℕ) → 4 ≤ length frame
    → tag_of (take 4 frame ++ numbered (drop 4 frame) n) ≡ tag_of frame
tag_stays frame n long =
    let behind = drop 4 frame in
    let out = take 4 frame ++ numbered behind n in
    ap (λ (bytes : List ℕ). take 4 bytes)
    (sym (drop_both 4 8 12 out refl)
    ∙ ap (λ (bytes : List ℕ). drop 8 bytes) (drop_first 4 frame (numbered behind n) long)
    ∙ number_leaves behind (n % 2 ^ 32) (nat_lt (length behind) 6)
    ∙ drop_both 4 8 12 frame refl)

pub count_leaves : (frame : List ℕ) (n : ℕ) → is_tagged frame ≡ true
    → tag_of (take (tag_length true frame) frame ++ numbered (drop (tag_length true frame) frame) n) ≡ tag_of frame
count_leaves frame n tagged =
    let four = tag_is_4 frame tagged in
    let long = subst (λ (k : ℕ). k ≤ length frame) four (tag_within true frame) in
    subst (λ (k : ℕ). tag_of (take k frame ++ numbered (drop k frame) n) ≡ tag_of frame) (sym four)
    (tag_stays frame n long)
