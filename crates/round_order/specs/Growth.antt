-- How the receipts of a round grow by one: by a move on no variable, by a touch of what is at home, or by a read of it.
-- Each is told by what its thread has and what it found alone, and keeps what holds between any two moves.
use Rattle.std.specs.Prelude.{◌≡◌, ◌≢◌, ℕ, ◌+◌, ◌<◌, ◌≤◌, List, ◌∷◌, cond, max, nat_eq, replicate, slice_index}
use Rattle.plain_text.specs.declared.packet.Packet.{Packet}
use Rattle.entry_order.specs.Log.{Entry, IsLog}
use Rattle.entry_order.specs.Stamps.{bumped}
use Rattle.box_program.specs.Hands.{local_in}
use Rattle.plain_machine.specs.Program.{Meaning}
use Rattle.plain_machine.specs.History.{Act, Took, Did, Emitted, Ended, Step, log_of}
use Rattle.master_core.specs.declared.parts.VarPart.{VarPart}
use Rattle.master_core.specs.declared.parts.ThreadPart.{ThreadPart}
use Rattle.master_core.specs.declared.parts.Counts.{Counts}
use Rattle.master_core.specs.Mastered.{in_hand_count}
use Rattle.master_core.specs.Effects.{before_touch, before_read}
use Rattle.round_order.specs.Receipts.{Receipt, Receipts, no_receipts, InRound, after, IsLogged, IsUnlogged, IsTouch}
use Rattle.round_order.specs.Receipts.{IsRead}
use Rattle.round_order.specs.Linked.{IsOwnMove, IsLinked}
use Rattle.round_order.specs.Home.{IsHome, IsSeat, count}

-- no stamp has a component above the number of entries of that thread
abbrev pub AreWithin : {V : Type 0} → List (Step V) → Receipts V → Type 0
AreWithin {V} past rs = (q : Receipt V) (u : ℕ) → InRound rs q → slice_index q.stamp u ≤ count past rs u

-- other receipts of one thread
abbrev pub update : {V : Type 0} → ℕ → List (Receipt V) → Receipts V → Receipts V
update t xs rs u = cond (nat_eq u t) xs (rs u)

-- the receipts with one more of its thread
abbrev pub with_one : {V : Type 0} → Receipts V → Receipt V → Receipts V
with_one rs r = update r.step.thread (r ∷ rs r.step.thread) rs

-- What holds between any two moves of a round.
pub record IsRound {V : Type 0} (m : Meaning V) (inputs : ℕ → List Packet) (threads : ℕ) (past : List (Step V))
    (rs : Receipts V) : Type 0 where
  pub opening : IsLog (log_of past)
  pub linked : IsLinked m inputs threads past rs
  pub within : AreWithin past rs

-- The receipt is of the next move of its thread, which has this part.
pub record IsNextOf {V : Type 0} (m : Meaning V) (inputs : ℕ → List Packet) (threads : ℕ) (past : List (Step V))
    (rs : Receipts V) (part : ThreadPart) (r : Receipt V) : Type 0 where
  pub below : r.step.thread < threads
  pub alone : IsOwnMove m inputs (after (rs r.step.thread) past) r
  pub seat : IsSeat past rs r.step.thread part
  -- a packet in hand was taken
  pub held : in_hand_count part.hand ≤ part.counts.taken

-- It is of a move on no variable. The stamp of its entry, where it has one, is that of its thread with the entry's
-- number.
pub record IsPrivate {V : Type 0} (part : ThreadPart) (r : Receipt V) : Type 0 where
  pub no_touch : (v : ℕ) (left : V) → IsTouch r v left → ⊥
  pub no_read : (v : ℕ) → IsRead r v → ⊥
  pub stamp : (e : Entry) → IsLogged r e → (u : ℕ) → slice_index r.stamp u ≡ bumped e (λ w. slice_index part.stamp w) u
  pub none : IsUnlogged r → (u : ℕ) → slice_index r.stamp u ≡ 0

-- It is of a touch of variable v, of which this was at home, and that came home.
pub record Touches {V : Type 0} (v : ℕ) (part : ThreadPart) (x y : VarPart V) (r : Receipt V) : Type 0 where
  pub touch : IsTouch r v y.value
  pub found : r.found ≡ x.value
  pub place : r.place ≡ x.places
  pub stamp : (u : ℕ) → slice_index r.stamp u ≡ bumped touch.0 (before_touch part x) u
  pub left : y ≡ record { value = y.value; places = x.places + 1; stamp = r.stamp; readers = replicate 16 0 }

-- It is of a read of variable v.
pub record Reads {V : Type 0} (v : ℕ) (part : ThreadPart) (x y : VarPart V) (r : Receipt V) : Type 0 where
  pub read : IsRead r v
  pub found : r.found ≡ x.value
  pub place : r.place ≡ x.places
  pub stamp : (u : ℕ) → slice_index r.stamp u ≡ bumped read.0 (before_read part x) u
  pub readers : (u : ℕ) → slice_index y.readers u ≡ max (slice_index x.readers u) (slice_index r.stamp u)
  pub left : y ≡ record { value = x.value; places = x.places; stamp = x.stamp; readers = y.readers }

-- What the thread has after it: it counts the move, holds what the move leaves in hand, and has the stamp of the move's
-- entry.

abbrev pub counts_after : {V : Type 0} → Act V → Counts → Counts
counts_after (Took k) c = record c { taken = c.taken + 1 }
counts_after (Did e left) c = record c { entries = c.entries + 1 }
counts_after (Emitted o) c = record c { outputs = c.outputs + 1 }
counts_after (Ended k) c = c

abbrev pub stamp_after : {V : Type 0} → Act V → List ℕ → List ℕ → List ℕ
stamp_after (Took k) before own = before
stamp_after (Did e left) before own = own
stamp_after (Emitted o) before own = before
stamp_after (Ended k) before own = before

abbrev pub part_after : {V : Type 0} → ThreadPart → Receipt V → ThreadPart
part_after part r = record {
  counts = counts_after r.step.act part.counts;
  hand = local_in r.step.after.hand;
  stamp = stamp_after r.step.act part.stamp r.stamp;
}

-- With it, what holds between any two moves holds again. Its thread has what the move left, the other threads have what
-- they had, and what is at home of the other variables stays.
pub record IsKept {V : Type 0} (m : Meaning V) (inputs : ℕ → List Packet) (threads : ℕ) (past : List (Step V))
    (rs : Receipts V) (part : ThreadPart) (r : Receipt V) (IsOther : ℕ → Type 0) : Type 0 where
  pub round : IsRound m inputs threads past (with_one rs r)
  pub seat : IsSeat past (with_one rs r) r.step.thread (part_after part r)
  pub held : in_hand_count (part_after part r).hand ≤ (part_after part r).counts.taken
  pub seats : (u : ℕ) (other : ThreadPart) → u ≢ r.step.thread → IsSeat past rs u other
      → IsSeat past (with_one rs r) u other
  pub homes : (w : ℕ) (z : VarPart V) → IsOther w → IsHome m past rs w z → IsHome m past (with_one rs r) w z

-- It holds when the round begins.
abbrev pub RoundBegins : Type 0 → Type 0
RoundBegins X =
    (m : Meaning X) (inputs : ℕ → List Packet) (threads : ℕ) (past : List (Step X)) → IsLog (log_of past)
    → IsRound m inputs threads past no_receipts

abbrev pub PrivateMoves : Type 0 → Type 0
PrivateMoves X =
    (m : Meaning X) (inputs : ℕ → List Packet) (threads : ℕ) (past : List (Step X)) (rs : Receipts X)
    (part : ThreadPart) (r : Receipt X) → IsRound m inputs threads past rs → IsNextOf m inputs threads past rs part r
    → IsPrivate part r → IsKept m inputs threads past rs part r (λ w. Unit {0})

abbrev pub TouchMoves : Type 0 → Type 0
TouchMoves X =
    (m : Meaning X) (inputs : ℕ → List Packet) (threads : ℕ) (past : List (Step X)) (rs : Receipts X) (v : ℕ)
    (part : ThreadPart) (x y : VarPart X) (r : Receipt X) → IsRound m inputs threads past rs
    → IsNextOf m inputs threads past rs part r → IsHome m past rs v x → Touches v part x y r
    → IsKept m inputs threads past rs part r (λ w. w ≢ v) × IsHome m past (with_one rs r) v y

abbrev pub ReadMoves : Type 0 → Type 0
ReadMoves X =
    (m : Meaning X) (inputs : ℕ → List Packet) (threads : ℕ) (past : List (Step X)) (rs : Receipts X) (v : ℕ)
    (part : ThreadPart) (x y : VarPart X) (r : Receipt X) → IsRound m inputs threads past rs
    → IsNextOf m inputs threads past rs part r → IsHome m past rs v x → Reads v part x y r
    → IsKept m inputs threads past rs part r (λ w. w ≢ v) × IsHome m past (with_one rs r) v y
