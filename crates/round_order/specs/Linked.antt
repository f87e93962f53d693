-- Receipts that are linked from the history after which a round began: each is looked at beside its immediate
-- predecessors alone, so that a thread can see to it with what it has and what it found.
use Rattle.std.specs.Prelude.{◌≡◌, ℕ, ◌+◌, ◌<◌, ◌≤◌, ◌⊎◌, List, [], ◌∷◌, slice_index}
use Rattle.plain_text.specs.declared.packet.Packet.{Packet}
use Rattle.entry_order.specs.Log.{Entry, places, IsIn, IsNext}
use Rattle.entry_order.specs.Stamps.{IsStamp, bumped}
use Rattle.plain_machine.specs.Program.{Meaning}
use Rattle.plain_machine.specs.Machine.{Effect, Moves, thread_move}
use Rattle.plain_machine.specs.History.{Step, log_of, thread_after, value_after}
use Rattle.round_order.specs.Receipts.{Receipt, Receipts, InRound, after, act_at, IsLogged, IsTouch, IsRead}

-- The move is legal after its thread's own moves, where the variable has the value that it found; its numbers go on
-- from theirs.
abbrev pub IsOwnMove : {V : Type 0} → Meaning V → (ℕ → List Packet) → List (Step V) → Receipt V → Type 0
IsOwnMove {V} m inputs mine r =
    (effect : Effect V)
    × (thread_move m (inputs r.step.thread) (λ v. r.found) (thread_after mine r.step.thread) r.answer
    ≡ Moves r.step.after effect)
    × (r.step.act ≡ act_at r.step.thread mine r.step.after.taken r.place effect)

-- each is so after those behind it, and all are of one thread
abbrev pub AreOwnMoves : {V : Type 0} → Meaning V → (ℕ → List Packet) → List (Step V) → ℕ → List (Receipt V) → Type 0
AreOwnMoves m inputs past t [] = Unit {0}
AreOwnMoves m inputs past t (r ∷ earlier) =
    (r.step.thread ≡ t) × IsOwnMove m inputs (after earlier past) r × AreOwnMoves m inputs past t earlier

-- What a touch or a read of a variable found: what the touch at the place before it left or, where no touch of the
-- round stands before it, the opening value.
abbrev pub HasFound : {V : Type 0} → Meaning V → List (Step V) → Receipts V → ℕ → Receipt V → Type 0
HasFound {V} m past rs v r =
    ((r.place ≡ places v (log_of past)) × (r.found ≡ value_after m past v))
    ⊎ ((f : Receipt V) × InRound rs f × IsTouch f v r.found × (f.place + 1 ≡ r.place))

-- An entry so far, with its stamp: one of the round with the noted stamp, or one of the opening log with its stamp
-- there.
abbrev pub IsKnown : {V : Type 0} → List (Step V) → Receipts V → Entry → (ℕ → ℕ) → Type 0
IsKnown {V} past rs d stamp =
    ((f : Receipt V) × InRound rs f × IsLogged f d × ((u : ℕ) → slice_index f.stamp u ≡ stamp u))
    ⊎ (IsIn d (log_of past) × IsStamp (log_of past) d stamp)

-- the join of the stamps of these entries: for each thread, the greatest of their components, or 0
pub record IsJoinOf {V : Type 0} (past : List (Step V)) (rs : Receipts V) (These : Entry → Type 0)
    (join : ℕ → ℕ) : Type 0 where
  pub above : (d : Entry) (stamp : ℕ → ℕ) → These d → IsKnown past rs d stamp → (u : ℕ) → stamp u ≤ join u
  pub reached : (u : ℕ)
      → (join u ≡ 0) ⊎ ((d : Entry) × (stamp : ℕ → ℕ) × These d × IsKnown past rs d stamp × (stamp u ≡ join u))

-- The join of the stamps of the immediate predecessors has the number before the entry's own in the place of its
-- thread, and the noted stamp is this join with the entry's own number there.
pub record HasJoin {V : Type 0} (past : List (Step V)) (rs : Receipts V) (r : Receipt V) (e : Entry) : Type 0 where
  pub join : ℕ → ℕ
  pub joins : IsJoinOf past rs (λ d. IsNext d e) join
  pub before : join e.thread + 1 ≡ e.number
  pub stamp : (u : ℕ) → slice_index r.stamp u ≡ bumped e join u

pub record IsLinked {V : Type 0} (m : Meaning V) (inputs : ℕ → List Packet) (threads : ℕ) (past : List (Step V))
    (rs : Receipts V) : Type 0 where
  -- the moves of each thread, alone and in order
  pub alone : (t : ℕ) → AreOwnMoves m inputs past t (rs t)
  pub below : (r : Receipt V) → InRound rs r → r.step.thread < threads
  -- the places of the touches of a variable go on from the opening count without a gap, each once; a read is after one
  -- of them
  pub touched : (r : Receipt V) (v : ℕ) (left : V) → InRound rs r → IsTouch r v left
      → (places v (log_of past) ≤ r.place) × HasFound m past rs v r
  pub looked : (r : Receipt V) (v : ℕ) → InRound rs r → IsRead r v
      → (places v (log_of past) ≤ r.place) × HasFound m past rs v r
  pub once : (f g : Receipt V) (v : ℕ) (x y : V) → InRound rs f → InRound rs g → IsTouch f v x → IsTouch g v y
      → f.place ≡ g.place → f ≡ g
  -- the stamps are joins of those of the immediate predecessors
  pub joined : (r : Receipt V) (e : Entry) → InRound rs r → IsLogged r e → HasJoin past rs r e
