-- A piece that is filled from its first byte on.
use Rattle.std.proofs.Common.{◌≡◌, ℕ, ◌+◌, ◌≤◌, List, [], ◌++◌, length, take, ap, subst, ◌∙◌, arith, add-zero, zero-le}
use Rattle.std.proofs.lemmas.List.{take-append-le, length-take}
use Rattle.std.proofs.Math.Seq.{take-append-add}
use borrow.Rule.Slice.PartMut.{put_mid, post_of}

-- the first bytes of a piece after a call that filled what was behind them
pub take-put_mid_more : (a k n : ℕ) (xs ys : List ℕ) → a ≤ length xs → n ≤ length ys
    → take (a + n) (put_mid a k xs ys) ≡ take a xs ++ take n ys
take-put_mid_more a k n xs ys in_xs in_ys =
    let first = take a xs in
    let len : length first ≡ a = omega (arith, length-take a xs) in
    let P : ℕ → Type 0 = λ m. take (m + n) (first ++ (ys ++ post_of a k xs)) ≡ first ++ take n ys in
    subst P len
    (take-append-add first (ys ++ post_of a k xs) n ∙ ap (λ l. first ++ l) (take-append-le n ys (post_of a k xs) in_ys))

-- the first bytes of a piece after a call that filled nothing behind them
pub take-put_mid : (a k : ℕ) (xs ys : List ℕ) → a ≤ length xs → take a (put_mid a k xs ys) ≡ take a xs ++ []
take-put_mid a k xs ys in_xs =
    let P : ℕ → Type 0 = λ m. take m (put_mid a k xs ys) ≡ take a xs ++ [] in
    subst P (add-zero a) (take-put_mid_more a k 0 xs ys in_xs zero-le)
