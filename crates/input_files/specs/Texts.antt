-- The text that is judged of a file.
use Rattle.std.specs.Prelude.{◌≡◌, ℕ, ◌<◌, ◌≤◌, ◌==◌, List, [], ◌∷◌, length, take, nat_lt, if◌then◌else◌}
use Rattle.plain_text.specs.declared.limit.TheConstants.{MOST_FILE_BYTES}
use Rattle.world_io.specs.declared.beginning.Front.{Front}
use Rattle.world_io.specs.declared.beginning.Front.TheVariants.{All, More}

-- a byte before whole lines; where there are none behind it, it ends a line or is dropped
abbrev pub before_lines : ℕ → List ℕ → List ℕ
before_lines b [] = if b == 10 then b ∷ [] else []
before_lines b (c ∷ more) = b ∷ c ∷ more

-- the longest front of a text that is empty or ends in a line feed
abbrev pub whole_lines : List ℕ → List ℕ
whole_lines [] = []
whole_lines (b ∷ bytes) = before_lines b (whole_lines bytes)

-- all of a file within the limit; of a larger one the lines that end within it
abbrev pub judged_text : List ℕ → List ℕ
judged_text bytes = if nat_lt MOST_FILE_BYTES (length bytes) then whole_lines (take MOST_FILE_BYTES bytes) else bytes

-- what was read of a file of these bytes: all within the limit, or as many as the limit
abbrev pub IsFrontOf : Front → List ℕ → Type 0
IsFrontOf (All front) bytes = (bytes ≡ front) × (length bytes ≤ MOST_FILE_BYTES)
IsFrontOf (More front) bytes = (front ≡ take MOST_FILE_BYTES bytes) × (MOST_FILE_BYTES < length bytes)
