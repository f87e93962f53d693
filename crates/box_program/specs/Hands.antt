-- What a machine in memory keeps of a program: the place of each packet in hand, while the packet itself stays with the
-- inputs, and a value of each variable.
use Rattle.std.specs.Prelude.{◌≡◌, ℕ, ◌+◌, ◌<◌, Bool, List, Option, Some, None, length, is_some, slice_get}
use Rattle.std.specs.Prelude.{slice_index_or}
use Rattle.plain_machine.specs.FromPlainText.{Packet}
use Rattle.plain_machine.specs.declared.local.Local.{Local}
use Rattle.plain_machine.specs.Program.{Meaning}
use Rattle.plain_machine.specs.Machine.{Hand}
use Rattle.plain_machine.specs.History.{Step, thread_after}

-- the place of a thread's packet in hand
abbrev pub local_in : Option Hand → Option Local
local_in None = None
local_in (Some h) = Some h.place

-- the packet that a move of a thread with these inputs is made with: the one in hand, else the next input, if there is
-- one
abbrev pub input_for : List Packet → ℕ → Option Hand → Option Packet
input_for packets taken None = slice_get packets taken
input_for packets taken (Some h) = Some h.packet

-- the input that the next move of a thread is made with, after this history
abbrev pub IsInputAfter : {V : Type 0} → (ℕ → List Packet) → ℕ → List (Step V) → Option Packet → Type 0
IsInputAfter inputs t steps input =
    input ≡ input_for (inputs t) (thread_after steps t).taken (thread_after steps t).hand

-- the place in hand of a thread's part, if there is such a part
abbrev pub hand_of : {X : Type 0} → (X → Option Local) → Option X → Option Local
hand_of hand None = None
hand_of hand (Some part) = hand part

-- whether a packet is in hand
abbrev pub has_hand : Option Local → Bool
has_hand place = is_some place

-- how many moves are made at most until the packet in hand has ended
abbrev pub moves_left : {V : Type 0} → Meaning V → Option Local → ℕ
moves_left m None = 0
moves_left m (Some place) = m.rank place + 1

-- one part for each variable, with a value that the variable may have
pub record FitsProgram {V X : Type 0} (m : Meaning V) (fits : ℕ → V → Type 0) (value : X → V)
    (parts : List X) : Type 0 where
  pub count : length parts ≡ m.vars
  pub fit : (v : ℕ) (d : X) → v < m.vars → fits v (value (slice_index_or parts v d))
