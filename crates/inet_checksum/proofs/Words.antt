-- The words of bytes, eight bytes at a time.
use Rattle.std.proofs.Common.{◌≡◌, ℕ, ◌+◌, ◌-◌, ◌*◌, ◌≤◌, ◌^◌, List, [], ◌∷◌, length, get_or, take, drop, sum, ◌∙◌, ap}
use Rattle.std.proofs.Common.{arith}
use Rattle.std.proofs.lemmas.List.Sums.{sum_by_from}
use Rattle.std.proofs.lemmas.List.{take_rest}
use Rattle.std.specs.Int.{from_be_bytes, w64}
use Rattle.inet_checksum.specs.OnesComplement.{words, ones_value}
use Rattle.inet_checksum.proofs.Values.{same_more, ones_value-wide}

-- eight bytes that were added as one number of 64 bits are as good as their four words
pub ones_value_eight : (xs : List ℕ) (total word result value : ℕ) → 8 ≤ length xs
    → word
    ≡ from_be_bytes w64 (get_or xs 0 0 ∷ get_or xs 1 0 ∷ get_or xs 2 0 ∷ get_or xs 3 0 ∷ get_or xs 4 0 ∷ get_or xs 5 0
    ∷ get_or xs 6 0 ∷ get_or xs 7 0 ∷ []) → ones_value result ≡ ones_value (total + word)
    → ones_value (total + sum (words xs)) ≡ value
    → ones_value (result + sum (words (take (length xs - 8) (drop 8 xs)))) ≡ value
ones_value_eight (a ∷ b ∷ c ∷ d ∷ e ∷ f ∷ g ∷ h ∷ rest) total word result value long is added before =
    let ab = 256 * a + b in
    let cd = 256 * c + d in
    let ef = 256 * e + f in
    let gh = 256 * g + h in
    let left = sum (words rest) in
    let all : sum (words (a ∷ b ∷ c ∷ d ∷ e ∷ f ∷ g ∷ h ∷ rest)) ≡ ab + cd + ef + gh + left =
    sum_by_from (λ x. x) (0 + ab + cd + ef + gh) (words rest) ∙ omega arith in
    let wide = ones_value-wide ab cd ef gh (total + left) in
    let step = same_more result (total + word) left added in
    let from : total + word + left ≡ ab * 2 ^ 48 + cd * 2 ^ 32 + ef * 2 ^ 16 + gh + (total + left) = omega arith in
    let to : ab + cd + ef + gh + (total + left) ≡ total + sum (words (a ∷ b ∷ c ∷ d ∷ e ∷ f ∷ g ∷ h ∷ rest)) =
    omega arith in
    ap (λ (more : List ℕ). ones_value (result + sum (words more))) (take_rest (a ∷ b ∷ c ∷ d ∷ e ∷ f ∷ g ∷ h ∷ rest) 8)
    ∙ step ∙ ap ones_value from ∙ wide ∙ ap ones_value to ∙ before
ones_value_eight _ total word result value long is added before = absurd (omega arith)
