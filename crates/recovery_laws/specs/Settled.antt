-- What a settling and a flow leave: what came in was taken, ended and released.
use Rattle.std.specs.Prelude.{◌≡◌, ℕ, ◌+◌, ◌≤◌, ◌<◌, min, List, length, None}
use Rattle.plain_machine.specs.History.{Step, thread_after}
use Rattle.plain_machine.specs.Agree.{SendsAfter}
use Rattle.recovery_world.specs.World.{Setting, Sent, World, inputs_fed, all_inputs}
use Rattle.recovery_world.specs.Events.{IsAmong}
use Rattle.recovery_laws.specs.Sound.{times}

pub record IsSettled {V : Type 0} (s : Setting V) (w : World V) (steps : List (Step V)) : Type 0 where
  -- each thread has taken all its inputs of the capture, and ended them
  pub taken : (t : ℕ) → t < s.threads → (thread_after steps t).taken ≡ length (all_inputs s t)
  pub ended : (t : ℕ) → t < s.threads → (thread_after steps t).hand ≡ None
  -- what was released is what the run sends out, each output once, and nothing waits
  pub released : (o : Sent) → SendsAfter steps o.emission o.after → IsAmong o w.released
  pub only : (o : Sent) → IsAmong o w.released → SendsAfter steps o.emission o.after
  pub once : (t j : ℕ) → times t j w.released ≤ 1
  pub none_waits : (o : Sent) → IsAmong o w.waiting → ⊥

-- What a flow of packets leaves, where the master is up: they have come in, or as many as were left; each thread has
-- taken all that came in, and ended it; and all that was sent out is released.
pub record HasFlowed {V : Type 0} (s : Setting V) (w : World V) (n : ℕ) (new : World V) : Type 0 where
  pub fed : new.fed ≡ min (w.fed + n) (length s.packets)
  pub taken : (t : ℕ) → t < s.threads → (thread_after new.past t).taken ≡ length (inputs_fed s new.fed t)
  pub ended : (t : ℕ) → t < s.threads → (thread_after new.past t).hand ≡ None
  pub released : (o : Sent) → SendsAfter new.past o.emission o.after → IsAmong o new.released
  pub none_waits : (o : Sent) → IsAmong o new.waiting → ⊥
