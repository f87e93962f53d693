-- The words of a line after its first, by a table of what stands at each place. In this order the first fault is named:
-- word by word a missing word, a fixed word that is another, a number or an address that is none; then a word too many.
use Rattle.std.specs.Prelude.{ℕ, List, [], ◌∷◌, if◌then◌else◌, Option, Some, None, Result, Ok, Err}
use Rattle.std.specs.Str.{bytes_eq}
use Rattle.plain_text.specs.declared.fault.LineCause.{LineCause}
use Rattle.plain_text.specs.declared.fault.LineCause.TheVariants.{UnknownWord, MissingWord, ExtraWord, BadNumber}
use Rattle.plain_text.specs.declared.field.Field.{Field}
use Rattle.plain_text.specs.declared.field.Field.TheVariants.{Number, Address, Fixed}
use Rattle.plain_text.specs.Lines.{address_of, number_of}

abbrev pub number_or_bad : Option ℕ → Result ℕ LineCause
number_or_bad (Some n) = Ok n
number_or_bad None = Err BadNumber

-- a fixed word counts as 0
abbrev pub field_value : Field → List ℕ → Result ℕ LineCause
field_value Number word = number_or_bad (number_of word)
field_value Address word = number_or_bad (address_of word)
field_value (Fixed fixed) word = if bytes_eq word fixed.now then Ok 0 else Err UnknownWord

abbrev pub with_rest : Result ℕ LineCause → List (List ℕ) → Result (ℕ × List (List ℕ)) LineCause
with_rest (Ok n) rest = Ok (n, rest)
with_rest (Err cause) rest = Err cause

-- the field at the front of the words, and the words after it
abbrev pub take_field : Field → List (List ℕ) → Result (ℕ × List (List ℕ)) LineCause
take_field field [] = Err MissingWord
take_field field (word ∷ words) = with_rest (field_value field word) words

abbrev pub before : ℕ → Result (List ℕ) LineCause → Result (List ℕ) LineCause
before n (Ok ns) = Ok (n ∷ ns)
before n (Err cause) = Err cause

abbrev pub and_fields : Result (ℕ × List (List ℕ)) LineCause → (List (List ℕ) → Result (List ℕ) LineCause)
    → Result (List ℕ) LineCause
and_fields (Ok taken) more = before taken.0 (more taken.1)
and_fields (Err cause) more = Err cause

-- the numbers of a line whose words are these fields
abbrev pub fields_of : List Field → List (List ℕ) → Result (List ℕ) LineCause
fields_of [] [] = Ok []
fields_of [] (word ∷ words) = Err ExtraWord
fields_of (field ∷ fields) words = and_fields (take_field field words) (λ rest. fields_of fields rest)
