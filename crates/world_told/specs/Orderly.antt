-- Calls in an order for which there can be a beginning, and answers for which there is one.
use Rattle.std.specs.Prelude.{◌≡◌, ◌⊎◌, ℕ, ◌==◌, ◌&&◌, ◌||◌, Bool, true, false, not, List, [], ◌∷◌, ◌++◌}
use Rattle.std.specs.Prelude.{if◌then◌else◌}
use Rattle.std.specs.Str.{bytes_eq}
use Rattle.world_told.specs.declared.record.Call.{Call}
use Rattle.world_told.specs.declared.record.Call.TheVariants.{Opened, Read, Ended, Created, Wrote}
use Rattle.world_told.specs.Events.{Event}

-- What one call says of the file of a number, or of a name

abbrev pub opens : ℕ → Call → Bool
opens file (Opened k) = file == k
opens file (Read k) = false
opens file (Ended k) = false
opens file (Created k) = false
opens file (Wrote k) = false

abbrev pub ends : ℕ → Call → Bool
ends file (Opened k) = false
ends file (Read k) = false
ends file (Ended k) = file == k
ends file (Created k) = false
ends file (Wrote k) = false

abbrev pub creates : ℕ → Call → Bool
creates file (Opened k) = false
creates file (Read k) = false
creates file (Ended k) = false
creates file (Created k) = file == k
creates file (Wrote k) = false

abbrev pub creates_name : List ℕ → Call → List ℕ → Bool
creates_name name (Opened k) own = false
creates_name name (Read k) bytes = false
creates_name name (Ended k) bytes = false
creates_name name (Created k) own = bytes_eq name own
creates_name name (Wrote k) bytes = false

-- some call does

abbrev pub opened_in : ℕ → List Event → Bool
opened_in file [] = false
opened_in file (e ∷ earlier) = opens file e.0 || opened_in file earlier

abbrev pub ended_in : ℕ → List Event → Bool
ended_in file [] = false
ended_in file (e ∷ earlier) = ends file e.0 || ended_in file earlier

abbrev pub created_in : ℕ → List Event → Bool
created_in file [] = false
created_in file (e ∷ earlier) = creates file e.0 || created_in file earlier

abbrev pub name_created : List ℕ → List Event → Bool
name_created name [] = false
name_created name (e ∷ earlier) = creates_name name e.0 e.1 || name_created name earlier

-- A name is opened that was not created before, and its file gets a new number; what is read was opened, and its end was
-- not found; an end is that of an opened file; what is written was created, or is the report.
abbrev pub follows : Call → List ℕ → List Event → Bool
follows (Opened file) name earlier = not (name_created name earlier) && not (opened_in file earlier)
follows (Read file) bytes earlier = opened_in file earlier && not (ended_in file earlier)
follows (Ended file) bytes earlier = opened_in file earlier
follows (Created file) name earlier = true
follows (Wrote file) bytes earlier = (file == 0) || created_in file earlier

-- each of these calls, the newest first, follows those before it
abbrev pub are_orderly : List Event → Bool
are_orderly [] = true
are_orderly (e ∷ earlier) = follows e.0 e.1 earlier && are_orderly earlier

-- What was read

abbrev pub read_by : ℕ → Call → List ℕ → List ℕ
read_by file (Opened k) name = []
read_by file (Read k) bytes = if file == k then bytes else []
read_by file (Ended k) bytes = []
read_by file (Created k) name = []
read_by file (Wrote k) bytes = []

-- what calls read of a file, in order
abbrev pub read_of : ℕ → List Event → List ℕ
read_of file [] = []
read_of file (e ∷ earlier) = read_of file earlier ++ read_by file e.0 e.1

abbrev pub IsFirstPart : List ℕ → List ℕ → Type 0
IsFirstPart part whole = (rest : List ℕ) × (whole ≡ part ++ rest)

-- The two files gave the same bytes, as far as both were read: what was read of the one is a first part of what was read
-- of the other, and a file whose end was found gave all that the other gave.
pub record Agree (a b : ℕ) (calls : List Event) : Type 0 where
  pub same : IsFirstPart (read_of a calls) (read_of b calls) ⊎ IsFirstPart (read_of b calls) (read_of a calls)
  pub whole : ended_in a calls ≡ true → IsFirstPart (read_of b calls) (read_of a calls)

abbrev pub IsIn : Event → List Event → Type 0
IsIn e [] = ⊥
IsIn e (x ∷ xs) = (x ≡ e) ⊎ IsIn e xs

-- any two files that were opened by one name agree
abbrev pub AnswersAgree : List Event → Type 0
AnswersAgree calls =
    (name : List ℕ) (a b : ℕ) → IsIn (Opened a, name) calls → IsIn (Opened b, name) calls → Agree a b calls

-- no name was opened twice
abbrev pub OpensOnce : List Event → Type 0
OpensOnce calls = (name : List ℕ) (a b : ℕ) → IsIn (Opened a, name) calls → IsIn (Opened b, name) calls → a ≡ b
