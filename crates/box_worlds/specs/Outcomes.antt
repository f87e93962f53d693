-- What became of each input of each thread, of a box that counts dropped packets by touches of variable 0.
use Rattle.std.specs.Prelude.{◌≡◌, ◌⊎◌, ℕ, ◌+◌, ◌<◌, ◌&&◌, cond, nat_eq, if◌then◌else◌, List, [], ◌∷◌, length}
use Rattle.plain_text.specs.declared.packet.Packet.{Packet}
use Rattle.entry_order.specs.Log.{touches}
use Rattle.plain_machine.specs.History.{Act, Took, Did, Emitted, Ended, Step}
use Rattle.recovery_world.specs.World.{Sent}
use Rattle.recovery_world.specs.Events.{IsAmong}
use Rattle.settled_boxes.specs.EachOnce.{times_sent}

abbrev pub drops_by : {V : Type 0} → Act V → ℕ
drops_by (Took k) = 0
drops_by (Did entry left) = if touches 0 entry.what then 1 else 0
drops_by (Emitted o) = 0
drops_by (Ended k) = 0

-- how often the thread counted a packet as dropped
abbrev pub drops_of : {V : Type 0} → ℕ → List (Step V) → ℕ
drops_of t [] = 0
drops_of t (x ∷ earlier) = cond (nat_eq x.thread t) (drops_by x.act + drops_of t earlier) (drops_of t earlier)

-- and how often while its input j was in hand, which is the last that it took; inputs are numbered from 1
abbrev pub drops_with : {V : Type 0} → ℕ → ℕ → List (Step V) → ℕ
drops_with t j [] = 0
drops_with t j (x ∷ earlier) =
    cond (nat_eq x.thread t && nat_eq x.after.taken j) (drops_by x.act + drops_with t j earlier)
    (drops_with t j earlier)

-- how many outputs of the thread are in the list
abbrev pub outputs_in : ℕ → List Sent → ℕ
outputs_in t [] = 0
outputs_in t (o ∷ sent) = cond (nat_eq o.emission.thread t) (outputs_in t sent + 1) (outputs_in t sent)

-- one of both happened, once
abbrev pub IsEither : ℕ → ℕ → Type 0
IsEither left counted = ((left ≡ 1) × (counted ≡ 0)) ⊎ ((left ≡ 0) × (counted ≡ 1))

-- What was released, and what these steps counted, are all inputs of all threads.
pub record LeftOrCounted {V : Type 0} (threads : ℕ) (inputs : ℕ → List Packet) (released : List Sent)
    (steps : List (Step V)) : Type 0 where
  -- each input of each thread was released exactly once, or was counted exactly once as dropped, and not both
  pub each : (t k : ℕ) → t < threads → k < length (inputs t)
      → IsEither (times_sent t (k + 1) released) (drops_with t (k + 1) steps)
  -- nothing else was released
  pub only : (o : Sent) → IsAmong o released
      → (k : ℕ) × (k < length (inputs o.emission.thread)) × (o.emission.input ≡ k + 1)
  -- so the packets that were released of a thread, and those that it counted as dropped, are all its inputs
  pub total : (t : ℕ) → t < threads → outputs_in t released + drops_of t steps ≡ length (inputs t)
