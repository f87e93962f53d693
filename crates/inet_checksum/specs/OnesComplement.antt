-- One's complement arithmetic on 16-bit words: RFC 1071, and RFC 1624 for a checksum that is brought up to date.
use Rattle.std.specs.Prelude.{◌≡◌, ◌≢◌, ◌↔◌, ℕ, ◌+◌, ◌-◌, ◌*◌, ◌/◌, ◌%◌, ◌<◌, ◌==◌, if◌then◌else◌, List, [], ◌∷◌}
use Rattle.std.specs.Prelude.{length, sum, slice_index, slice_set}

-- the 16-bit words of bytes, the high byte first; a last odd byte is the high byte of its word
abbrev pub words : List ℕ → List ℕ
words [] = []
words (high ∷ []) = (256 * high) ∷ []
words (high ∷ low ∷ rest) = (256 * high + low) ∷ words rest

-- a total in one's complement: 0 for 0, else the number from 1 to 65,535 with its remainder modulo 65,535
abbrev pub ones_value : ℕ → ℕ
ones_value total = if total == 0 then 0 else (total - 1) % 65535 + 1

-- the one's complement sum of words
abbrev pub ones_sum : List ℕ → ℕ
ones_sum ws = ones_value (sum ws)

-- the residue of words: of words that are not all zero, 0 where they verify, and else by how much they are wrong
abbrev pub residue : List ℕ → ℕ
residue ws = sum ws % 65535

-- each of the 16 bits turned
abbrev pub complement : ℕ → ℕ
complement word = 65535 - word

-- the Internet checksum of words
abbrev pub checksum_of : List ℕ → ℕ
checksum_of ws = complement (ones_sum ws)

-- words that hold their checksum verify where their one's complement sum is all ones
abbrev pub Verifies : List ℕ → Type 0
Verifies ws = ones_sum ws ≡ 65535

-- words that are as right or as wrong as others: their residue is the same, and they verify where the others do
pub record AreAsRight (old new : List ℕ) : Type 0 where
  pub same_residue : residue new ≡ residue old
  pub same_verdict : Verifies new ↔ Verifies old

-- the checksum that words should hold at a place: it is computed with a zero there
abbrev pub checksum_at : List ℕ → ℕ → ℕ
checksum_at ws place = checksum_of (slice_set ws place 0)

-- a checksum after a word of what it covers became another one: RFC 1624, equation 3
abbrev pub adjusted_16 : ℕ → ℕ → ℕ → ℕ
adjusted_16 checksum old new = complement (ones_sum (complement checksum ∷ complement old ∷ new ∷ []))

-- the same after a change of 32 bits: first its high half, then its low half
abbrev pub adjusted_32 : ℕ → ℕ → ℕ → ℕ
adjusted_32 checksum old new =
    adjusted_16 (adjusted_16 checksum (old / 65536) (new / 65536)) (old % 65536) (new % 65536)

-- words before and after a change, with their checksum at a place: before it they verified and the checksum was not
-- 0xFFFF, and after it the words other than the checksum are not all zero
pub record CanRecompute (before after : List ℕ) (place checksum : ℕ) : Type 0 where
  pub place_in : place < length before
  pub checksum_there : slice_index before place ≡ checksum
  pub verified : Verifies before
  pub not_all_ones : checksum ≢ 65535
  pub not_all_zero : 0 < sum (slice_set after place 0)

-- the adjusted checksum is the one computed anew, wherever the checksum and the old word stood in whatever words
abbrev pub EqualsRecomputing_16 : ℕ → ℕ → ℕ → ℕ → Type 0
EqualsRecomputing_16 checksum old new adjusted =
    (before : List ℕ) (place changed : ℕ) →
    changed < length before → place ≢ changed → slice_index before changed ≡ old →
    CanRecompute before (slice_set before changed new) place checksum →
    adjusted ≡ checksum_at (slice_set before changed new) place

-- words with a number of 32 bits in two of them, its high half first
abbrev pub with_32 : List ℕ → ℕ → ℕ → List ℕ
with_32 ws place number = slice_set (slice_set ws place (number / 65536)) (place + 1) (number % 65536)

abbrev pub EqualsRecomputing_32 : ℕ → ℕ → ℕ → ℕ → Type 0
EqualsRecomputing_32 checksum old new adjusted =
    (before : List ℕ) (place changed : ℕ) →
    changed + 1 < length before → place ≢ changed → place ≢ changed + 1 →
    slice_index before changed ≡ old / 65536 → slice_index before (changed + 1) ≡ old % 65536 →
    CanRecompute before (with_32 before changed new) place checksum →
    adjusted ≡ checksum_at (with_32 before changed new) place
