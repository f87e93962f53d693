-- In which turns the threads' receipts are drawn for the woven list, by their weights alone.
use Rattle.std.specs.Prelude.{◌≡◌, ◌≢◌, ℕ, zero, suc, ◌+◌, ◌<◌, ◌≤◌, ◌⊎◌, List, [], ◌∷◌, length, Option, Some, None}
use Rattle.std.specs.Prelude.{slice_index, slice_index_or, slice_set}
use Rattle.plain_text.specs.declared.packet.Packet.{Packet}
use Rattle.plain_machine.specs.Program.{Meaning}
use Rattle.plain_machine.specs.History.{Act, Took, Did, Emitted, Ended, Step}
use Rattle.round_order.specs.Receipts.{Receipt, Receipts, weight}
use Rattle.round_order.specs.Linked.{IsLinked}
use Rattle.round_order.specs.Woven.{IsWoven}
use Rattle.round_order.specs.Growth.{update}

-- What the order looks at in a receipt: the weight of its entry, where it is of a logged move.
abbrev mark_by : {V : Type 0} → Act V → ℕ → Option ℕ
mark_by (Took k) n = None
mark_by (Did e left) n = Some n
mark_by (Emitted o) n = None
mark_by (Ended k) n = None

abbrev pub mark_of : {V : Type 0} → Receipt V → Option ℕ
mark_of r = mark_by r.step.act (weight r)

-- these receipts, newest first, have the first n of these marks, oldest first
abbrev pub AreMarked : {V : Type 0} → List (Receipt V) → List (Option ℕ) → ℕ → Type 0
AreMarked [] marks n = n ≡ 0
AreMarked (r ∷ earlier) marks n =
    (k : ℕ) × (n ≡ k + 1) × (slice_index_or marks k None ≡ mark_of r) × AreMarked earlier marks k

-- each thread's receipts have the marks of its list
abbrev pub AreMarksOf : {V : Type 0} → Receipts V → List (List (Option ℕ)) → Type 0
AreMarksOf rs lists = (t : ℕ) → AreMarked (rs t) (slice_index_or lists t []) (length (slice_index_or lists t []))

-- a receipt that is not logged is heavier than each that is
abbrev pub IsLighter : Option ℕ → Option ℕ → Type 0
IsLighter (Some a) (Some b) = a < b
IsLighter (Some a) None = Unit {0}
IsLighter None b = ⊥

-- the last of the first n marks
abbrev pub last_mark : List (Option ℕ) → ℕ → Option ℕ
last_mark marks zero = None
last_mark marks (suc n) = slice_index_or marks n None

-- the newest of a thread's receipts, where this number of each thread are left
abbrev pub newest : List (List (Option ℕ)) → List ℕ → ℕ → Option ℕ
newest lists left t = last_mark (slice_index_or lists t []) (slice_index left t)

abbrev pub GoesFirst : List (List (Option ℕ)) → List ℕ → ℕ → ℕ → Type 0
GoesFirst lists left u t =
    IsLighter (newest lists left u) (newest lists left t) ⊎ ((newest lists left u ≡ newest lists left t) × (u < t))

-- The thread has a receipt left, and its newest one is heavier than those of the other threads below n, or as heavy and
-- of a greater thread.
abbrev pub IsLatest : List (List (Option ℕ)) → List ℕ → ℕ → ℕ → Type 0
IsLatest lists left n t =
    (0 < slice_index left t) × ((u : ℕ) → u < n → u ≢ t → 0 < slice_index left u → GoesFirst lists left u t)

-- the latest of the threads below n, if one of them has a receipt left
abbrev pub HasLatest : List (List (Option ℕ)) → List ℕ → ℕ → Option ℕ → Type 0
HasLatest lists left n None = (u : ℕ) → u < n → slice_index left u ≡ 0
HasLatest lists left n (Some t) = (t < n) × IsLatest lists left n t

-- of each thread no more are left than it has
abbrev pub AreLeft : List (List (Option ℕ)) → List ℕ → Type 0
AreLeft lists left =
    (length left ≡ length lists)
    × ((t : ℕ) → t < length lists → slice_index left t ≤ length (slice_index_or lists t []))

-- The turns, newest first: the thread whose newest receipt is the latest, and so on with those that are left.
abbrev pub AreTurns : List (List (Option ℕ)) → List ℕ → List ℕ → Type 0
AreTurns lists left [] = (t : ℕ) → t < length lists → slice_index left t ≡ 0
AreTurns lists left (t ∷ turns) =
    (t < length lists) × IsLatest lists left (length lists) t × (n : ℕ) × (slice_index left t ≡ n + 1)
    × AreTurns lists (slice_set left t n) turns

-- how many there are of each thread
abbrev pub lengths : List (List (Option ℕ)) → List ℕ
lengths [] = []
lengths (marks ∷ lists) = length marks ∷ lengths lists

-- the receipts in these turns: each is the newest that is left of its thread
abbrev pub AreInTurn : {V : Type 0} → Receipts V → List ℕ → List (Receipt V) → Type 0
AreInTurn rs [] order = order ≡ []
AreInTurn rs (t ∷ turns) [] = ⊥
AreInTurn {V} rs (t ∷ turns) (r ∷ order) =
    (rest : List (Receipt V)) × (rs t ≡ r ∷ rest) × AreInTurn (update t rest rs) turns order

-- Linked receipts are woven in the turns of their marks.
abbrev pub TurnsWeave : Type 0 → Type 0
TurnsWeave X =
    (m : Meaning X) (inputs : ℕ → List Packet) (threads : ℕ) (past : List (Step X)) (rs : Receipts X)
    (lists : List (List (Option ℕ))) (turns : List ℕ) → threads ≤ 16 → IsLinked m inputs threads past rs
    → AreMarksOf rs lists → AreTurns lists (lengths lists) turns
    → (order : List (Receipt X)) × AreInTurn rs turns order × IsWoven rs order
