-- Words that ask for taps: pairs of `tap` and a name in front of the words of a run.
use Rattle.std.specs.Prelude.{◌≡◌, ◌⊎◌, ℕ, ◌+◌, ◌*◌, ◌<◌, ◌≤◌, List, [], ◌∷◌, codes, length, drop, slice_get}
use Rattle.std.specs.Prelude.{slice_index_or, Some}
use Rattle.release_taps.specs.declared.split.Split.{Split}
use Rattle.release_taps.specs.declared.split.Split.TheVariants.{Plain, Bad, Taps}

-- the first word is `tap`
abbrev pub BeginsWithTap : List (List ℕ) → Type 0
BeginsWithTap words = slice_get words 0 ≡ Some (codes "tap")

-- `run` with five names, or `live` with six
abbrev pub IsRunLine : List (List ℕ) → Type 0
IsRunLine [] = ⊥
IsRunLine (command ∷ names) =
    ((command ≡ codes "run") × (length names ≡ 5)) ⊎ ((command ≡ codes "live") × (length names ≡ 6))

-- the words after this many pairs
abbrev pub behind_pairs : ℕ → List (List ℕ) → List (List ℕ)
behind_pairs pairs words = drop (2 * pairs) words

-- of a run line: the place of the name of its released capture, the first of its outputs
abbrev pub released_place : ℕ
released_place = 4

-- the name of the released capture that the run line after this many pairs has
abbrev pub released_name : ℕ → List (List ℕ) → List ℕ
released_name pairs words = slice_index_or words (2 * pairs + released_place) []

-- no other word is the one at this place
abbrev pub IsAlone : List (List ℕ) → ℕ → Type 0
IsAlone words place = (j : ℕ) → j < length words → ¬ (j ≡ place) → ¬ (slice_get words j ≡ slice_get words place)

-- The words are 1 to 64 pairs of `tap` and a name, and after them `run` or `live` with its names; and no tap has a
-- name that is another word of the line.
pub record AsksForTaps (words : List (List ℕ)) (pairs : ℕ) : Type 0 where
  pub some : 1 ≤ pairs
  pub most : pairs ≤ 64
  pub taps : (k : ℕ) → k < pairs → slice_get words (2 * k) ≡ Some (codes "tap")
  pub run : IsRunLine (behind_pairs pairs words)
  pub alone : (k : ℕ) → k < pairs → IsAlone words (2 * k + 1)

-- Which answer the words have: one, since words of which the first is not `tap` ask for no taps.
abbrev pub Splits : List (List ℕ) → Split → Type 0
Splits words Plain = ¬ BeginsWithTap words
Splits words Bad = BeginsWithTap words × ((pairs : ℕ) → ¬ AsksForTaps words pairs)
Splits words (Taps pairs name) = AsksForTaps words pairs × (name ≡ 2 * pairs + released_place)
