-- What may stand at the places of a line, and the values of words that stand there.
use Rattle.std.specs.Prelude.{◌≡◌, ℕ, ◌<◌, ◌-◌, ◌^◌, List, [], ◌∷◌, codes, nat_eq, if◌then◌else◌, Option, Some, None}
use Rattle.std.specs.Prelude.{Result, Ok, Err}
use Rattle.plain_text.specs.declared.fault.LineCause.{LineCause}
use Rattle.plain_text.specs.declared.fault.LineCause.TheVariants.{MissingWord, ExtraWord}
use Rattle.plain_text.specs.Grammar.{Place, OneOf, value_at, misfit}
use Rattle.plain_text.specs.Grammar as place
use Rattle.plain_text.specs.declared.kind.Kind.{Kind as LinkKind}
use Rattle.plain_text.specs.declared.kind.Kind.TheVariants as kind
use Rattle.line_tables.specs.declared.part.Part.{Part}
use Rattle.line_tables.specs.declared.part.Part.TheVariants.{Number, Equals, Kind}

-- the words of the kinds, in the order of their values
abbrev pub kind_words : List (List ℕ)
kind_words = codes "log" ∷ codes "out" ∷ []

-- what may stand at a place: any number below 2^64, the sign `=`, or the word of a kind
abbrev pub grammar_place : Part → Place
grammar_place Number = place.Number 0 (2 ^ 64 - 1)
grammar_place Equals = OneOf (codes "=" ∷ [])
grammar_place Kind = OneOf kind_words

-- the place of a kind's word among the words of the kinds
abbrev pub kind_value : LinkKind → ℕ
kind_value kind.Log = 0
kind_value kind.Out = 1

abbrev pub kind_from : ℕ → LinkKind
kind_from value = if nat_eq value 0 then kind.Log else kind.Out

-- The values of words

abbrev pub value_or_misfit : Place → Option ℕ → Result ℕ LineCause
value_or_misfit place (Some n) = Ok n
value_or_misfit place None = Err (misfit place)

abbrev pub onto_values : ℕ → Result (List ℕ) LineCause → Result (List ℕ) LineCause
onto_values n (Ok values) = Ok (n ∷ values)
onto_values n (Err cause) = Err cause

abbrev pub and_values : Result ℕ LineCause → Result (List ℕ) LineCause → Result (List ℕ) LineCause
and_values (Ok n) more = onto_values n more
and_values (Err cause) more = Err cause

-- the values of words at places, or the first fault
abbrev pub values_at : List Place → List (List ℕ) → Result (List ℕ) LineCause
values_at [] [] = Ok []
values_at [] (word ∷ words) = Err ExtraWord
values_at (place ∷ places) [] = Err MissingWord
values_at (place ∷ places) (word ∷ words) =
    and_values (value_or_misfit place (value_at place word)) (values_at places words)

-- Values that words can have

-- each is below 2^64, and so may stand in a text
abbrev pub AreNumbers : List ℕ → Type 0
AreNumbers [] = Unit {0}
AreNumbers (n ∷ values) = (n < 2 ^ 64) × AreNumbers values

abbrev pub IsValue : Part → ℕ → Type 0
IsValue Number n = Unit {0}
IsValue Equals n = n ≡ 0
IsValue Kind n = kind_value (kind_from n) ≡ n

abbrev pub AreValues : List Part → List ℕ → Type 0
AreValues [] [] = Unit {0}
AreValues [] (n ∷ values) = ⊥
AreValues (part ∷ parts) [] = ⊥
AreValues (part ∷ parts) (n ∷ values) = IsValue part n × AreValues parts values
