-- Stamps as the lists of their 16 components, one for each thread that there may be: vector clocks (Fidge 1988, Mattern
-- 1989).
use Rattle.std.specs.Prelude.{◌≡◌, ℕ, ◌≤◌, List, max, slice_index}

-- no component of the first stamp is above that of the second
abbrev pub AtMost : List ℕ → List ℕ → Type 0
AtMost stamp other = (u : ℕ) → slice_index stamp u ≤ slice_index other u

-- each component of the joined stamp is the greater of those of the two
abbrev pub IsJoin : List ℕ → List ℕ → List ℕ → Type 0
IsJoin stamp other joined = (u : ℕ) → slice_index joined u ≡ max (slice_index stamp u) (slice_index other u)
