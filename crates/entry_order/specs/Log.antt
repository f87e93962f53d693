-- A log: the logged moves of a run, NEWEST FIRST, and which of them precede which. It follows the packet access logs of
-- Sherry and others, Rollback-Recovery for Middleboxes (SIGCOMM 2015), sections 4 and 5, with shared reads added.
-- What precedes what is an order of events as Lamport has it (Time, Clocks, and the Ordering of Events, 1978), where
-- threads meet at variables in place of messages.
use Rattle.std.specs.Prelude.{◌≡◌, ℕ, ◌+◌, Bool, false, List, [], ◌∷◌, nat_eq, ◌⊎◌, cond}
use Rattle.entry_order.specs.declared.what.What.{What}
use Rattle.entry_order.specs.declared.what.What.TheVariants.{Access, Read, Clock, Draw}

-- entry (t, n): the n-th logged move of thread t, counted from 1
pub record Entry : Type 0 where
  pub thread : ℕ
  pub number : ℕ
  pub what : What

-- how many entries the thread has in the log
abbrev pub entries : ℕ → List Entry → ℕ
entries t [] = 0
entries t (e ∷ earlier) = cond (nat_eq e.thread t) (entries t earlier + 1) (entries t earlier)

abbrev pub touches : ℕ → What → Bool
touches v (Access w place) = nat_eq w v
touches v (Read w after) = false
touches v (Clock a) = false
touches v (Draw a) = false

-- how many touches of the variable are in the log
abbrev pub places : ℕ → List Entry → ℕ
places v [] = 0
places v (e ∷ earlier) = cond (touches v e.what) (places v earlier + 1) (places v earlier)

-- a touch has the next place of its variable, and a read stands after the touches so far
abbrev pub HasPlace : List Entry → What → Type 0
HasPlace earlier what =
    ((v place : ℕ) → what ≡ Access v place → place ≡ places v earlier + 1)
    × ((v after : ℕ) → what ≡ Read v after → after ≡ places v earlier)

-- The entries of each thread are numbered from 1, the touches of each variable have the places from 1, and each read
-- stands after the touches before it.
abbrev pub IsLog : List Entry → Type 0
IsLog [] = Unit {0}
IsLog (e ∷ earlier) = (e.number ≡ entries e.thread earlier + 1) × HasPlace earlier e.what × IsLog earlier

-- a set of entries is a list that is read through its members alone
abbrev pub IsIn : Entry → List Entry → Type 0
IsIn e [] = ⊥
IsIn e (x ∷ xs) = (x ≡ e) ⊎ IsIn e xs

-- every member of the second is one of the first: the log keeps each entry of the set, with its thread, number and
-- content
abbrev pub Keeps : List Entry → List Entry → Type 0
Keeps log set = (e : Entry) → IsIn e set → IsIn e log

-- e stands before f in the log
abbrev pub StandsBefore : List Entry → Entry → Entry → Type 0
StandsBefore [] e f = ⊥
StandsBefore (x ∷ earlier) e f = ((x ≡ f) × IsIn e earlier) ⊎ StandsBefore earlier e f

-- the touches of a variable at two places in a row
abbrev pub IsNextTouch : What → What → Type 0
IsNextTouch what next = (v place : ℕ) × (what ≡ Access v place) × (next ≡ Access v (place + 1))

-- a touch, and a read of what it left
abbrev pub IsReadOf : What → What → Type 0
IsReadOf what next = (v place : ℕ) × (what ≡ Access v place) × (next ≡ Read v place)

-- a read, and the touch that ends what it read
abbrev pub IsTouchPast : What → What → Type 0
IsTouchPast what next = (v place : ℕ) × (what ≡ Read v place) × (next ≡ Access v (place + 1))

-- e is an immediate predecessor of f: the entry before it of its thread, or before it on its variable
abbrev pub IsNext : Entry → Entry → Type 0
IsNext e f =
    ((e.thread ≡ f.thread) × (f.number ≡ e.number + 1))
    ⊎ (IsNextTouch e.what f.what ⊎ (IsReadOf e.what f.what ⊎ IsTouchPast e.what f.what))

-- a chain of immediate predecessors, all of the log, leads from e to f
pub data Precedes (log : List Entry) : Entry → Entry → Type 0 where
  AtOnce : {e f : Entry} → IsIn e log → IsIn f log → IsNext e f → Precedes log e f
  Through : {e g f : Entry} → IsIn e log → IsNext e g → Precedes log g f → Precedes log e f

abbrev pub PrecedesOrIs : List Entry → Entry → Entry → Type 0
PrecedesOrIs log e f = (e ≡ f) ⊎ Precedes log e f

-- e is a predecessor of what the thread sends out after its first n entries: entry (t, n), or one that precedes it
abbrev pub PrecedesOutput : List Entry → ℕ → ℕ → Entry → Type 0
PrecedesOutput log t n e =
    (last : Entry) × IsIn last log × (last.thread ≡ t) × (last.number ≡ n) × PrecedesOrIs log e last

-- each immediate predecessor of a member is a member
abbrev pub IsClosed : List Entry → List Entry → Type 0
IsClosed log set = (e f : Entry) → IsIn e log → IsIn f set → IsNext e f → IsIn e set
