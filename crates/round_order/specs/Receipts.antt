-- What the threads of a round did, each thread apart from the others. A receipt is one move, with notes; the receipts
-- of a thread are a list, NEWEST FIRST.
use Rattle.std.specs.Prelude.{◌≡◌, ◌⊎◌, ℕ, ◌+◌, List, [], ◌∷◌, ◌++◌, cond, nat_eq, Option, Some, None, slice_index}
use Rattle.entry_order.specs.declared.what.What.TheVariants.{Access, Read, Clock, Draw}
use Rattle.entry_order.specs.Log.{Entry}
use Rattle.entry_order.specs.Stamps.{sum_below}
use Rattle.plain_machine.specs.declared.plain_move.PlainMove.{PlainMove}
use Rattle.plain_machine.specs.Machine.{Effect, Takes, Touches, Looks, HearsClock, HearsDraw, Sends, Ends}
use Rattle.plain_machine.specs.History.{Act, Took, Did, Emitted, Ended, Step, log_more, log_of, sent_of, entry_of}
use Rattle.plain_machine.specs.History.{emission_of}

pub record Receipt (V : Type 0) : Type 0 where
  -- what the move did, and its thread after it
  pub step : Step V
  -- what it was told, where it was told something
  pub answer : Option ℕ
  -- of a touch or a read: the value that it found, and how many touches of the variable stood before it
  pub found : V
  pub place : ℕ
  -- of a logged move: the stamp of its entry
  pub stamp : List ℕ

-- the receipts of a round: for each thread its own
abbrev pub Receipts : Type 0 → Type 0
Receipts V = ℕ → List (Receipt V)

-- a round that has not begun
abbrev pub no_receipts : {V : Type 0} → Receipts V
no_receipts t = []

abbrev pub Among : {V : Type 0} → Receipt V → List (Receipt V) → Type 0
Among r [] = ⊥
Among r (x ∷ rest) = (x ≡ r) ⊎ Among r rest

abbrev pub InRound : {V : Type 0} → Receipts V → Receipt V → Type 0
InRound rs r = Among r (rs r.step.thread)

-- Lists of receipts of several threads

-- those of one thread
abbrev pub own : {V : Type 0} → ℕ → List (Receipt V) → List (Receipt V)
own t [] = []
own t (r ∷ earlier) = cond (nat_eq r.step.thread t) (r ∷ own t earlier) (own t earlier)

-- the history that goes on from a past with their steps
abbrev pub after : {V : Type 0} → List (Receipt V) → List (Step V) → List (Step V)
after [] past = past
after (r ∷ earlier) past = r.step ∷ after earlier past

-- their moves, oldest first
abbrev pub moved : {V : Type 0} → Receipt V → PlainMove
moved r = record { thread = r.step.thread; answer = r.answer }

abbrev pub moves_in : {V : Type 0} → List (Receipt V) → List PlainMove
moves_in [] = []
moves_in (r ∷ earlier) = moves_in earlier ++ moved r ∷ []

-- their entries, newest first
abbrev pub entries_in : {V : Type 0} → List (Receipt V) → List Entry
entries_in [] = []
entries_in (r ∷ earlier) = log_more r.step.act (entries_in earlier)

-- What a receipt is of

-- of a move that was logged so
abbrev pub IsLogged : {V : Type 0} → Receipt V → Entry → Type 0
IsLogged {V} r e = (left : Option V) × (r.step.act ≡ Did e left)

abbrev pub IsUnlogged : {V : Type 0} → Receipt V → Type 0
IsUnlogged r = (e : Entry) → IsLogged r e → ⊥

-- of a touch of this variable, which left that value, or of a read of it
abbrev pub IsTouch : {V : Type 0} → Receipt V → ℕ → V → Type 0
IsTouch r v left = (e : Entry) × (r.step.act ≡ Did e (Some left)) × (e.what ≡ Access v (r.place + 1))

abbrev pub IsRead : {V : Type 0} → Receipt V → ℕ → Type 0
IsRead r v = (e : Entry) × (r.step.act ≡ Did e None) × (e.what ≡ Read v r.place)

-- What an effect of a thread did that has this number of inputs taken now: its numbers go on from those of the thread's
-- own moves, and this number of touches of the variable stand before it.
abbrev pub act_at : {V : Type 0} → ℕ → List (Step V) → ℕ → ℕ → Effect V → Act V
act_at t mine taken place Takes = Took taken
act_at t mine taken place (Touches v left) = Did (entry_of t (log_of mine) (Access v (place + 1))) (Some left)
act_at t mine taken place (Looks v) = Did (entry_of t (log_of mine) (Read v place)) None
act_at t mine taken place (HearsClock a) = Did (entry_of t (log_of mine) (Clock a)) None
act_at t mine taken place (HearsDraw a) = Did (entry_of t (log_of mine) (Draw a)) None
act_at t mine taken place (Sends packet) = Emitted (emission_of t (sent_of mine) taken packet)
act_at t mine taken place Ends = Ended taken

-- the weight of a logged move: the sum of the components of its stamp
abbrev pub weight : {V : Type 0} → Receipt V → ℕ
weight r = sum_below 16 (λ u. slice_index r.stamp u)
