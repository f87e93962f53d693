-- The text that is judged of a file within the limit, and of a larger one.
use Rattle.std.proofs.Common.{◌≡◌, ℕ, ◌<◌, ◌≤◌, true, false, List, length, take, refl, arith}
use Rattle.std.specs.Prelude.{nat_lt}
use Rattle.std.proofs.lemmas.Bool.Decides.{nat_tests}
use Rattle.input_files.specs.Texts.{judged_text, whole_lines}

few : (n : ℕ) → n ≤ 67108864 → nat_lt 67108864 n ≡ false
few n low = grind (arith, nat_tests)

many : (n : ℕ) → 67108864 < n → nat_lt 67108864 n ≡ true
many n high = grind (arith, nat_tests)

pub within : (bytes : List ℕ) → length bytes ≤ 67108864 → judged_text bytes ≡ bytes
within bytes low = rw (few (length bytes) low) refl

pub beyond : (bytes : List ℕ) → 67108864 < length bytes → judged_text bytes ≡ whole_lines (take 67108864 bytes)
beyond bytes high = rw (many (length bytes) high) refl
