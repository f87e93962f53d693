-- When the answers of calls are those of files.
use Rattle.std.specs.Prelude.{◌≡◌, ℕ, List, [], ◌∷◌, ◌++◌, Option, Some, None, length, drop}
use Rattle.world_io.specs.World.{Start, Shown}
use Rattle.world_told.specs.declared.record.Call.{Call}
use Rattle.world_told.specs.declared.record.Call.TheVariants.{Opened, Read, Ended, Created, Wrote}
use Rattle.world_told.specs.Events.{Event, shown_after}

abbrev pub IsThere : Option (List ℕ) → Type 0
IsThere None = ⊥
IsThere (Some bytes) = Unit {0}

-- A name that was opened was there; bytes that were read are the first of those that were left; the end was found where
-- nothing was left. Of what is created and written nothing is asked.
abbrev pub IsAnswerOf : Shown → Call → List ℕ → Type 0
IsAnswerOf s (Opened file) name = IsThere (s.names name)
IsAnswerOf s (Read file) bytes = s.left file ≡ bytes ++ drop (length bytes) (s.left file)
IsAnswerOf s (Ended file) bytes = s.left file ≡ []
IsAnswerOf s (Created file) name = Unit {0}
IsAnswerOf s (Wrote file) bytes = Unit {0}

-- each answer is that of files which held these bytes at the beginning
abbrev pub IsHonest : Start → List Event → Type 0
IsHonest start [] = Unit {0}
IsHonest start (e ∷ earlier) = IsAnswerOf (shown_after start earlier) e.0 e.1 × IsHonest start earlier
