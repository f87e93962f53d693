-- A list of two pieces, the second written over what stood there.
use Rattle.std.proofs.Common.{◌≡◌, ℕ, List, [], ◌++◌, length, drop, refl, subst}
use Rattle.std.proofs.lemmas.List.{append-nil}
use Rattle.std.proofs.Math.Seq.{take-append_seam, drop-append_seam, drop-length}
use borrow.Rule.Slice.PartMut.{put_mid}

pub put_mid_last : {X : Type 0} (a k : ℕ) (xs ys zs : List X) → length xs ≡ a → length zs ≡ k
    → put_mid a k (xs ++ zs) ys ≡ xs ++ ys
put_mid_last {X} a k xs ys zs first last =
    let nothing : drop k zs ≡ [] = subst (λ (m : ℕ). drop m zs ≡ []) last (drop-length zs) in
    let P : ℕ → Type 0 = λ m. put_mid m k (xs ++ zs) ys ≡ xs ++ ys in
    subst P first (rw (take-append_seam xs zs, drop-append_seam xs zs, nothing, append-nil ys) refl)
