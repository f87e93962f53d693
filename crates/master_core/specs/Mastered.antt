-- What a master has: its variables and its threads.
use Rattle.std.specs.Prelude.{◌≡◌, ◌⊎◌, ℕ, ◌+◌, ◌-◌, ◌^◌, ◌<◌, ◌≤◌, List, length, sum_by, slice_get, slice_index_or}
use Rattle.std.specs.Prelude.{Option, Some, None}
use Rattle.std.specs.Prelude.{HoldsAt}
use Rattle.box_program.specs.Hands.{hand_of}
use Rattle.plain_machine.specs.declared.local.Local.{Local}
use Rattle.plain_machine.specs.declared.local.Move.{Move}
use Rattle.plain_machine.specs.declared.local.Move.TheVariants as move
use Rattle.plain_machine.specs.Program.{Meaning}
use Rattle.master_core.specs.declared.parts.VarPart.{VarPart}
use Rattle.master_core.specs.declared.parts.ThreadPart.{ThreadPart}

pub record Mastered (V : Type 0) : Type 0 where
  pub vars : List (VarPart V)
  pub threads : List ThreadPart

-- the master of these parts
abbrev pub master_of : {V : Type 0} → List (VarPart V) → List ThreadPart → Mastered V
master_of vars threads = record { vars = vars; threads = threads }

-- the value in a variable's part
abbrev pub value_of : {V : Type 0} → VarPart V → V
value_of part = part.value

-- 1 for a packet in hand
abbrev pub in_hand_count : Option Local → ℕ
in_hand_count None = 0
in_hand_count (Some place) = 1

-- how many moves a thread made: it took, ended, logged and sent out
abbrev pub moves_made : ThreadPart → ℕ
moves_made part =
    part.counts.taken + (part.counts.taken - in_hand_count part.hand) + part.counts.entries + part.counts.outputs

-- where the thread is with its packet in hand, if there is one
abbrev pub place_in_hand : {V : Type 0} → Mastered V → ℕ → Option Local
place_in_hand p t = hand_of (λ part. part.hand) (slice_get p.threads t)

-- the thread has a packet in hand, at this place; it has none; and it made few enough moves to make another
abbrev pub HasHand : {V : Type 0} → Mastered V → ℕ → Local → Type 0
HasHand p t place = HoldsAt (λ part. part.hand ≡ Some place) p.threads t

abbrev pub HasNoHand : {V : Type 0} → Mastered V → ℕ → Type 0
HasNoHand p t = HoldsAt (λ part. part.hand ≡ None) p.threads t

abbrev pub HasRoom : {V : Type 0} → Mastered V → ℕ → Type 0
HasRoom p t = HoldsAt (λ part. moves_made part < 2 ^ 56) p.threads t

-- The number of the input in hand: the last one that was taken.
abbrev pub input_in_hand : ThreadPart → Option ℕ
input_in_hand part = numbered part.hand
  where
    numbered : Option Local → Option ℕ
    numbered None = None
    numbered (Some place) = Some part.counts.taken

-- the touch or read that is next is of this variable
abbrev pub IsOnVariable : Move → ℕ → Type 0
IsOnVariable next v = (next ≡ move.Access v) ⊎ (next ≡ move.Read v)

-- the thread has a packet in hand, and touches or reads a variable next
abbrev pub WantsVariable : {V : Type 0} → Meaning V → Option Local → Type 0
WantsVariable m None = ⊥
WantsVariable m (Some place) = (v : ℕ) × IsOnVariable (m.next place) v

-- Counts stay within 64 bits: there are at most 16 threads, none made more than 2^56 moves, and a variable has at most
-- as many touches as there are entries. A packet in hand was taken.
pub record IsBounded {V : Type 0} (vars : List (VarPart V)) (threads : List ThreadPart) : Type 0 where
  pub few : length threads ≤ 16
  pub made : (t : ℕ) (d : ThreadPart) → t < length threads → moves_made (slice_index_or threads t d) ≤ 2 ^ 56
  pub taken : (t : ℕ) (d : ThreadPart) → t < length threads
      → in_hand_count (slice_index_or threads t d).hand ≤ (slice_index_or threads t d).counts.taken
  pub places : (v : ℕ) (d : VarPart V) → v < length vars
      → (slice_index_or vars v d).places ≤ sum_by (λ part. part.counts.entries) threads
