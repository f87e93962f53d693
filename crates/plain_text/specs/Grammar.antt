-- Grammars of text files as tables. A row of a table is a line that may stand: its first word, what stands at each
-- place after it, how its values fit one another, whether it may stand again, and whether it has to stand. A table says
-- of each line which row it is and which values it has, or its first fault; and of a file's lines whether all are lines
-- of the table, or which is the first that is not; and where all are, whether one is missing.
use Rattle.std.specs.Prelude.{◌≡◌, ◌⊎◌, ℕ, ◌<◌, ◌≤◌, ◌&&◌, Bool, true, false, List, [], ◌∷◌, nat_le, if◌then◌else◌}
use Rattle.std.specs.Prelude.{Option, Some, None, unwrap_or, option_map, ◌+◌}
use Rattle.std.specs.Str.{bytes_eq}
use Rattle.plain_text.specs.declared.fault.LineCause.{LineCause}
use Rattle.plain_text.specs.declared.fault.LineCause.TheVariants.{UnknownWord, MissingWord, ExtraWord, BadNumber}
use Rattle.plain_text.specs.declared.fault.LineCause.TheVariants.{OutOfRange, Twice, MissingLine}
use Rattle.plain_text.specs.Lines.{address_of, number_of, words_of}

-- what may stand at a place of a line
pub data Place : Type 0 where
  -- a number, with the least and the greatest that it may be
  Number : ℕ → ℕ → Place
  -- one of these words, whose value is its index among them
  OneOf : List (List ℕ) → Place
  -- an address, whose value is its number of 32 bits
  Address : Place

pub record Row : Type 0 where
  pub word : List ℕ
  pub places : List Place
  -- whether values, each in its range, fit one another
  pub fits : List ℕ → Bool
  -- whether more than one line of the row may stand
  pub again : Bool
  -- whether a line of the row has to stand
  pub required : Bool

-- a row of which any number of lines may stand, with whatever values its places allow
abbrev pub free_row : List ℕ → List Place → Row
free_row word places = record { word = word; places = places; fits = λ values. true; again = true; required = false }

-- Of one line

-- the index of a word among words, if it is one of them
abbrev pub index_in : List ℕ → List (List ℕ) → Option ℕ
index_in word [] = None
index_in word (known ∷ words) = if bytes_eq word known then Some 0 else option_map (λ n. n + 1) (index_in word words)

-- the value of a word at a place, if it has the form that the place asks for
abbrev pub value_at : Place → List ℕ → Option ℕ
value_at (Number low high) word = number_of word
value_at (OneOf words) word = index_in word words
value_at Address word = address_of word

-- the fault of a word that has another form
abbrev pub misfit : Place → LineCause
misfit (Number low high) = BadNumber
misfit (OneOf words) = UnknownWord
misfit Address = BadNumber

abbrev pub is_within : Place → ℕ → Bool
is_within (Number low high) n = nat_le low n && nat_le n high
is_within (OneOf words) n = true
is_within Address n = true

-- the row of the table that begins with this word
abbrev pub row_named : List ℕ → List Row → Option Row
row_named word [] = None
row_named word (row ∷ rows) = if bytes_eq word row.word then Some row else row_named word rows

-- the words stand at these places, and have these values
abbrev pub PlacesSay : List Place → List (List ℕ) → List ℕ → Type 0
PlacesSay [] [] [] = Unit {0}
PlacesSay [] [] (n ∷ values) = ⊥
PlacesSay [] (word ∷ words) values = ⊥
PlacesSay (place ∷ places) [] values = ⊥
PlacesSay (place ∷ places) (word ∷ words) [] = ⊥
PlacesSay (place ∷ places) (word ∷ words) (n ∷ values) =
    (value_at place word ≡ Some n) × (is_within place n ≡ true) × PlacesSay places words values

-- a line with these words is one of this row, and has these values
abbrev pub LineSays : List Row → List (List ℕ) → Row → List ℕ → Type 0
LineSays rows [] row values = ⊥
LineSays rows (word ∷ words) row values =
    (row_named word rows ≡ Some row) × PlacesSay row.places words values × (row.fits values ≡ true)

-- The first fault, in this order: word by word, a missing one or one of another form; a word too many; a number out of
-- its range; numbers that do not fit one another, which are out of range too.

abbrev pub or_else : Option LineCause → Option LineCause → Option LineCause
or_else (Some cause) next = Some cause
or_else None next = next

-- at a place whose word has this value, if it has one, where the faults behind it come to the next
abbrev pub form_at : Place → Option ℕ → Option LineCause → Option LineCause
form_at place None next = Some (misfit place)
form_at place (Some n) next = next

abbrev pub form_fault : List Place → List (List ℕ) → Option LineCause
form_fault [] [] = None
form_fault [] (word ∷ words) = Some ExtraWord
form_fault (place ∷ places) [] = Some MissingWord
form_fault (place ∷ places) (word ∷ words) = form_at place (value_at place word) (form_fault places words)

abbrev pub range_at : Place → Option ℕ → Option LineCause → Option LineCause
range_at place None next = next
range_at place (Some n) next = if is_within place n then next else Some OutOfRange

abbrev pub range_fault : List Place → List (List ℕ) → Option LineCause
range_fault [] words = None
range_fault (place ∷ places) [] = None
range_fault (place ∷ places) (word ∷ words) = range_at place (value_at place word) (range_fault places words)

-- the values of words that have the forms of these places
abbrev pub values_in : List Place → List (List ℕ) → List ℕ
values_in [] words = []
values_in (place ∷ places) [] = []
values_in (place ∷ places) (word ∷ words) = unwrap_or (value_at place word) 0 ∷ values_in places words

abbrev pub fit_fault : Row → List (List ℕ) → Option LineCause
fit_fault row words = if row.fits (values_in row.places words) then None else Some OutOfRange

-- of words that have the forms of their places
abbrev pub numbers_fault : Row → List (List ℕ) → Option LineCause
numbers_fault row words = or_else (range_fault row.places words) (fit_fault row words)

abbrev pub row_fault : Option Row → List (List ℕ) → Option LineCause
row_fault None words = Some UnknownWord
row_fault (Some row) words = or_else (form_fault row.places words) (numbers_fault row words)

-- the first fault of a line with these words, whatever lines stand before it
abbrev pub line_fault : List Row → List (List ℕ) → Option LineCause
line_fault rows [] = Some UnknownWord
line_fault rows (word ∷ words) = row_fault (row_named word rows) words

-- Of the lines of a file, each with its number

abbrev pub Has : List (ℕ × List ℕ) → ℕ × List ℕ → Type 0
Has [] line = ⊥
Has (first ∷ lines) line = (line ≡ first) ⊎ Has lines line

-- it is a line of this row, with these values
abbrev pub Says : List Row → ℕ × List ℕ → Row → List ℕ → Type 0
Says rows line row values = LineSays rows (words_of line.1) row values

-- a line of the row stands before the line with this number
pub record StandsBefore (rows : List Row) (lines : List (ℕ × List ℕ)) (row : Row) (number : ℕ) : Type 0 where
  pub earlier : ℕ × List ℕ
  pub values : List ℕ
  pub stands : Has lines earlier
  pub before : earlier.0 < number
  pub says : Says rows earlier row values

-- a line of a row that may stand once, and another stands before it
pub record Repeats (rows : List Row) (lines : List (ℕ × List ℕ)) (line : ℕ × List ℕ) : Type 0 where
  pub row : Row
  pub values : List ℕ
  pub says : Says rows line row values
  pub once : row.again ≡ false
  pub stood : StandsBefore rows lines row line.0

-- the line leaves the table, by a fault of its own, or since it repeats another
abbrev pub Leaves : List Row → List (ℕ × List ℕ) → ℕ × List ℕ → LineCause → Type 0
Leaves rows lines line cause =
    (line_fault rows (words_of line.1) ≡ Some cause) ⊎ (Repeats rows lines line × (cause ≡ Twice))

-- all lines are of the table, in any order, and each row stands at most once that may stand once
pub record AreLines (rows : List Row) (lines : List (ℕ × List ℕ)) : Type 0 where
  pub described : (line : ℕ × List ℕ) → Has lines line → (row : Row) × (values : List ℕ) × Says rows line row values
  pub once : (a b : ℕ × List ℕ) (row : Row) (ns ms : List ℕ) → Has lines a → Has lines b → row.again ≡ false
      → Says rows a row ns → Says rows b row ms → a.0 ≡ b.0

-- the line with this number is the first that leaves the table, for this cause
pub record FirstToLeave (rows : List Row) (lines : List (ℕ × List ℕ)) (number : ℕ) (cause : LineCause) : Type 0 where
  pub line : ℕ × List ℕ
  pub numbered : line.0 ≡ number
  pub stands : Has lines line
  pub leaves : Leaves rows lines line cause
  pub least : (other : ℕ × List ℕ) (why : LineCause) → Has lines other → Leaves rows lines other why → number ≤ other.0

-- Of a whole file

abbrev pub IsRow : List Row → Row → Type 0
IsRow [] row = ⊥
IsRow (first ∷ rows) row = (row ≡ first) ⊎ IsRow rows row

-- each row that has to stand has a line
abbrev pub AllStand : List Row → List (ℕ × List ℕ) → Type 0
AllStand rows lines =
    (row : Row) → IsRow rows row → row.required ≡ true
    → (line : ℕ × List ℕ) × (values : List ℕ) × Has lines line × Says rows line row values

-- a row has to stand, and no line is one of it
pub record Lacks (rows : List Row) (lines : List (ℕ × List ℕ)) : Type 0 where
  pub row : Row
  pub listed : IsRow rows row
  pub required : row.required ≡ true
  pub absent : (line : ℕ × List ℕ) (values : List ℕ) → Has lines line → Says rows line row values → ⊥

-- The first fault of a file that has this count of lines in all: its first line that leaves the table; or, where none
-- does, a line that is missing, behind all lines.
abbrev pub FirstOfFile : List Row → List (ℕ × List ℕ) → ℕ → ℕ → LineCause → Type 0
FirstOfFile rows lines count number cause = FirstToLeave rows lines number cause ⊎ Ends
  where
    Ends : Type 0
    Ends = AreLines rows lines × Lacks rows lines × (number ≡ count + 1) × (cause ≡ MissingLine)

-- the values of a row's line, or the usual ones where no line of the row stands
abbrev pub Sets : List Row → List (ℕ × List ℕ) → Row → List ℕ → List ℕ → Type 0
Sets rows lines row usual values = Stated ⊎ Left
  where
    Stated : Type 0
    Stated = (line : ℕ × List ℕ) × Has lines line × Says rows line row values

    Left : Type 0
    Left = (values ≡ usual) × ((line : ℕ × List ℕ) (ns : List ℕ) → Has lines line → Says rows line row ns → ⊥)
