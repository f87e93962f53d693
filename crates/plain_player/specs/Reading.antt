-- What the reader of schedules does with the words behind a line's thread: the answer that they tell, or their fault.
use Rattle.std.specs.Prelude.{ℕ, List, [], ◌∷◌, codes, if◌then◌else◌, Option, Some, None, Result, Ok, Err}
use Rattle.std.specs.Str.{bytes_eq}
use Rattle.plain_text.specs.declared.fault.LineCause.{LineCause}
use Rattle.plain_text.specs.declared.fault.LineCause.TheVariants.{UnknownWord, MissingWord, ExtraWord, BadNumber}
use Rattle.plain_text.specs.Lines.{number_of}

-- an answer, if the word is one, and no word behind it
abbrev pub then_ends : Option ℕ → List (List ℕ) → Result (Option ℕ) LineCause
then_ends None words = Err BadNumber
then_ends (Some answer) [] = Ok (Some answer)
then_ends (Some answer) (word ∷ words) = Err ExtraWord

-- behind the sign
abbrev pub told_by : List (List ℕ) → Result (Option ℕ) LineCause
told_by [] = Err MissingWord
told_by (word ∷ words) = then_ends (number_of word) words

abbrev pub answer_in : List (List ℕ) → Result (Option ℕ) LineCause
answer_in [] = Ok None
answer_in (sign ∷ words) = if bytes_eq sign (codes "=") then told_by words else Err UnknownWord
