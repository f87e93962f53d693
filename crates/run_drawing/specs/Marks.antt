-- The marks of moves: each kind has its own shape and its own colour.
use Rattle.std.specs.Prelude.{ℕ, ◌+◌, ◌&&◌, ◌==◌, nat_eq, nat_le, Bool, true, false, if◌then◌else◌, List, [], ◌∷◌, ◌++◌}
use Rattle.std.specs.Prelude.{length, Option, Some, None, codes, decimal}
use Rattle.std.specs.List.{list_any}
use Rattle.entry_order.specs.declared.what.What.{What}
use Rattle.entry_order.specs.declared.what.What.TheVariants as what
use Rattle.made_moves.specs.declared.made.Did.{Did}
use Rattle.made_moves.specs.declared.made.Did.TheVariants as did
use Rattle.made_moves.specs.declared.made.Made.{Made}
use Rattle.svg_text.specs.declared.class.Class.{Class}
use Rattle.svg_text.specs.declared.class.Class.TheVariants as class
use Rattle.svg_text.specs.declared.drawing.Element.{Element}
use Rattle.svg_text.specs.declared.drawing.Shape.{Shape}
use Rattle.svg_text.specs.declared.drawing.Shape.TheVariants as shape
use Rattle.run_drawing.specs.declared.note.Cell.{Cell}
use Rattle.run_drawing.specs.declared.note.Note.{Note}
use Rattle.run_drawing.specs.Places.{in_cell}

-- Its words

-- of a thread
abbrev pub what_words : What → List ℕ
what_words (what.Access v place) = codes " touch " ++ decimal v ++ codes " place " ++ decimal place
what_words (what.Read v after) = codes " read " ++ decimal v ++ codes " after " ++ decimal after
what_words (what.Clock a) = codes " clock " ++ decimal a
what_words (what.Draw a) = codes " draw " ++ decimal a

abbrev pub did_words : Did → List ℕ
did_words (did.Took k) = codes " take " ++ decimal k
did_words (did.Logged n w) = codes " entry " ++ decimal n ++ what_words w
did_words (did.Sent j) = codes " output " ++ decimal j
did_words (did.Ended k) = codes " end " ++ decimal k

-- what is shown of a move: its words, and the line of the report that it was made with
abbrev pub move_title : List ℕ → Made → List ℕ
move_title line m = codes "thread " ++ decimal m.thread ++ did_words m.did ++ codes "\n" ++ line

-- Its shape

-- a square on its corner
abbrev pub clock_shape : ℕ → ℕ → Shape
clock_shape c t =
    shape.Polygon (in_cell c t 10 12 ∷ in_cell c t 18 20 ∷ in_cell c t 10 28 ∷ in_cell c t 2 20 ∷ [])

abbrev pub entry_shape : ℕ → ℕ → What → Shape
entry_shape c t (what.Access v place) = shape.Rectangle (in_cell c t 4 14) 12 12
entry_shape c t (what.Read v after) = shape.Circle (in_cell c t 10 20) 6
entry_shape c t (what.Clock a) = clock_shape c t
entry_shape c t (what.Draw a) = shape.Polygon (in_cell c t 3 14 ∷ in_cell c t 17 14 ∷ in_cell c t 10 27 ∷ [])

-- in this column and lane
abbrev pub shape_of : ℕ → ℕ → Did → Shape
shape_of c t (did.Took k) = shape.Polygon (in_cell c t 4 13 ∷ in_cell c t 17 20 ∷ in_cell c t 4 27 ∷ [])
shape_of c t (did.Logged n w) = entry_shape c t w
shape_of c t (did.Sent j) = shape.Polygon (in_cell c t 10 13 ∷ in_cell c t 17 26 ∷ in_cell c t 3 26 ∷ [])
shape_of c t (did.Ended k) = shape.Rectangle (in_cell c t 8 12) 4 16

-- Its class

abbrev pub entry_class : What → Class
entry_class (what.Access v place) = class.Touch
entry_class (what.Read v after) = class.Read
entry_class (what.Clock a) = class.Clock
entry_class (what.Draw a) = class.Draw

abbrev pub did_class : Did → Class
did_class (did.Took k) = class.Take
did_class (did.Logged n w) = entry_class w
did_class (did.Sent j) = class.Send
did_class (did.Ended k) = class.End

-- The move at this place of the master's moves is lost: behind a later event the master has no longer made it.
abbrev pub is_lost : ℕ → List Note → Bool
is_lost place later = list_any (λ (n : Note). nat_le n.kept place) later

abbrev pub same_what : What → What → Bool
same_what (what.Access v p) (what.Access w q) = nat_eq v w && nat_eq p q
same_what (what.Read v p) (what.Read w q) = nat_eq v w && nat_eq p q
same_what (what.Clock a) (what.Clock b) = nat_eq a b
same_what (what.Draw a) (what.Draw b) = nat_eq a b
same_what _ _ = false

abbrev pub same_did : Did → Did → Bool
same_did (did.Took k) (did.Took l) = nat_eq k l
same_did (did.Logged n w) (did.Logged m u) = nat_eq n m && same_what w u
same_did (did.Sent j) (did.Sent i) = nat_eq j i
same_did (did.Ended k) (did.Ended l) = nat_eq k l
same_did _ _ = false

-- The move is made again: one of those that were lost is the same move of the thread.
abbrev pub is_again : Made → List Cell → Bool
is_again m gone = list_any (λ (c : Cell). nat_eq c.made.thread m.thread && same_did c.made.did m.did) gone

abbrev pub mark_class : Bool → Bool → Did → Class
mark_class true again d = class.Lost
mark_class false true d = class.Again
mark_class false false d = did_class d

-- the mark of a move in this column, where the report has this line, and these are lost and follow
abbrev pub mark_of : List ℕ → List Cell → List Note → ℕ → ℕ → Made → Element
mark_of line gone later place column m = record {
  class = mark_class (is_lost place later) (is_again m gone) m.did;
  title = Some (move_title line m);
  shape = shape_of column m.thread m.did;
}

-- The access before it

-- the variable that a move touches or reads
abbrev pub entry_var : What → Option ℕ
entry_var (what.Access v place) = Some v
entry_var (what.Read v after) = Some v
entry_var (what.Clock a) = None
entry_var (what.Draw a) = None

abbrev pub var_of : Did → Option ℕ
var_of (did.Took k) = None
var_of (did.Logged n w) = entry_var w
var_of (did.Sent j) = None
var_of (did.Ended k) = None

abbrev pub is_var : ℕ → Option ℕ → Bool
is_var v None = false
is_var v (Some w) = nat_eq w v

-- the last of these that accesses the variable, where this one was found before them
abbrev pub last_access : ℕ → Option Cell → List Cell → Option Cell
last_access v found [] = found
last_access v found (c ∷ cells) = last_access v (if is_var v (var_of c.made.did) then Some c else found) cells

abbrev pub access_before : Option ℕ → List Cell → Option Cell
access_before None cells = None
access_before (Some v) cells = last_access v None cells

-- an arrow from the access before it
abbrev pub arrow_from : ℕ → ℕ → Option Cell → List Element
arrow_from column t None = []
arrow_from column t (Some c) = record {
  class = class.Arrow;
  title = None;
  shape = shape.Line (in_cell c.column c.made.thread 18 20) (in_cell column t 2 20);
} ∷ []

-- where an event is of several, the entry of a logged move arrives with it
abbrev pub entry_with : Bool → ℕ → ℕ → List ℕ → Did → List Element
entry_with true lane column title (did.Logged n w) = record {
  class = class.Entry;
  title = Some title;
  shape = shape.Circle (in_cell column lane 10 20) 5;
} ∷ []
entry_with _ lane column title d = []
