-- Texts as they are shown are texts of XML, and so are numbers.
use Rattle.std.proofs.Common.{◌≡◌, ℕ, zero, suc, ◌<◌, ◌==◌, ◌/◌, ◌%◌, Bool, true, false, List, [], ◌∷◌, ◌++◌}
use Rattle.std.proofs.Common.{refl, sym, subst, arith, append_assoc}
use Rattle.std.proofs.Math.Nat.{mod-lt}
use Rattle.std.specs.Prelude.{codes, decimal, if◌then◌else◌}
use Rattle.std.specs.Fmt.{digits, digits_onto, digit_glyph}
use Rattle.std.specs.List.{list_all}
use Rattle.std.proofs.lemmas.Bool.{and_parts}
use Rattle.std.proofs.lemmas.Bool.Decides.{nat_tests}
use Rattle.svg_text.specs.Drawing.{escaped, shown_byte, is_shown}
use Rattle.svg_text.specs.WellFormed.{IsText, End, Character, Reference, is_in_content, is_in_value}

-- Text behind text

pub text_append : (itself : ℕ → Bool) (xs ys : List ℕ) → IsText itself xs → IsText itself ys → IsText itself (xs ++ ys)
text_append itself xs ys End t = t
text_append itself xs ys (Character b rest is more) t = Character b (rest ++ ys) is (text_append itself rest ys more t)
text_append itself xs ys (Reference word rest is more) t =
    subst (IsText itself) (sym (append_assoc word rest ys))
    (Reference word (rest ++ ys) is (text_append itself rest ys more t))

pub plain_text : (itself : ℕ → Bool) (xs : List ℕ) → list_all itself xs ≡ true → IsText itself xs
plain_text itself [] all = End
plain_text itself (x ∷ xs) all =
    let parts = and_parts (itself x) (list_all itself xs) all in Character x xs parts.0 (plain_text itself xs parts.1)

-- Bytes that are shown

-- a byte that is shown as itself stands for itself
module _ (itself : ℕ → Bool)
    (plain : (b : ℕ) → is_shown b ≡ true → (b == 38) ≡ false → (b == 60) ≡ false → (b == 62) ≡ false
    → (b == 34) ≡ false → itself b ≡ true) (unknown : itself 63 ≡ true) where
  byte : (b : ℕ) (p q r s t : Bool) → (b == 38) ≡ p → (b == 60) ≡ q → (b == 62) ≡ r → (b == 34) ≡ s → is_shown b ≡ t
      → IsText itself (if p then codes "&amp;" else if q then codes "&lt;" else if r then codes "&gt;"
      else if s then codes "&quot;" else if t then b ∷ [] else codes "?")
  byte b true q r s t one two three four five = Reference (codes "&amp;") [] refl End
  byte b false true r s t one two three four five = Reference (codes "&lt;") [] refl End
  byte b false false true s t one two three four five = Reference (codes "&gt;") [] refl End
  byte b false false false true t one two three four five = Reference (codes "&quot;") [] refl End
  byte b false false false false true one two three four five = Character b [] (plain b five one two three four) End
  byte b false false false false false one two three four five = Character 63 [] unknown End

  pub shown : (b : ℕ) → IsText itself (shown_byte b)
  shown b = byte b (b == 38) (b == 60) (b == 62) (b == 34) (is_shown b) refl refl refl refl refl

  pub shown_all : (text : List ℕ) → IsText itself (escaped text)
  shown_all [] = End
  shown_all (b ∷ text) = text_append itself (shown_byte b) (escaped text) (shown b) (shown_all text)

plain_content : (b : ℕ) → is_shown b ≡ true → (b == 38) ≡ false → (b == 60) ≡ false → (b == 62) ≡ false
    → (b == 34) ≡ false → is_in_content b ≡ true
plain_content b shown one two three four = grind (arith, nat_tests)

plain_value : (b : ℕ) → is_shown b ≡ true → (b == 38) ≡ false → (b == 60) ≡ false → (b == 62) ≡ false
    → (b == 34) ≡ false → is_in_value b ≡ true
plain_value b shown one two three four = grind (arith, nat_tests)

pub escaped_in_content : (text : List ℕ) → IsText is_in_content (escaped text)
escaped_in_content text = shown_all is_in_content plain_content refl text

pub escaped_in_value : (text : List ℕ) → IsText is_in_value (escaped text)
escaped_in_value text = shown_all is_in_value plain_value refl text

-- Numbers

glyph_in_value : (d : ℕ) → d < 10 → is_in_value (digit_glyph false d) ≡ true
glyph_in_value d small = grind (arith, nat_tests)

onto_in_value : (k n : ℕ) (text : List ℕ) → IsText is_in_value text → IsText is_in_value (digits_onto k 10 false n text)
onto_in_value zero n text t = t
onto_in_value (suc k) n text t =
    let glyph = glyph_in_value (n % 10) (mod-lt n (omega arith)) in
    let more = Character (digit_glyph false (n % 10)) text glyph t in
    either (n / 10 == 0) _ _ more (onto_in_value k (n / 10) _ more)
  where
    either : (b : Bool) (xs ys : List ℕ) → IsText is_in_value xs → IsText is_in_value ys
        → IsText is_in_value (if b then xs else ys)
    either true xs ys p q = p
    either false xs ys p q = q

pub decimal_in_value : (n : ℕ) → IsText is_in_value (decimal n)
unfolding digits
decimal_in_value n = onto_in_value 64 n [] End
