-- A thread that the guide lets wait for an entry which no thread of a round made waits still after the round.
use Rattle.std.specs.Prelude.{◌≡◌, ℕ, ◌+◌, ◌<◌, ◌≤◌, Bool, true, List, [], Option, Some}
use Rattle.entry_order.specs.declared.what.What.{What}
use Rattle.entry_order.specs.Log.{entries, places}
use Rattle.access_log.specs.Held.{Lane}
use Rattle.plain_machine.specs.Program.{Meaning}
use Rattle.plain_machine.specs.Machine.{Hand}
use Rattle.plain_machine.specs.History.{Step, log_of, thread_after}
use Rattle.recovery_world.specs.declared.event.Event.TheVariants as event
use Rattle.recovery_world.specs.declared.event.Outcome.TheVariants as outcome
use Rattle.recovery_world.specs.World.{Setting, World, inputs_fed}
use Rattle.recovery_world.specs.Events.{On}
use Rattle.recovery_laws.specs.Sound.{Sound}
use Rattle.replay_guide.specs.Following.{Follows}
use Rattle.replay_guide.specs.Turns.{WaitsFor}
use Rattle.replay_guide.specs.Worlds.{Guides}
use Rattle.round_order.specs.Receipts.{Receipt, Receipts, after}
use Rattle.round_order.specs.Linked.{IsKnown, IsLinked}
use Rattle.round_order.specs.Woven.{IsOrder}
use Rattle.var_locks.specs.TouchedParts.{wanted_move}
use Rattle.round_events.specs.Leading.{AllKeep, world_after}

-- neither the round nor what was before it has the followed entry (u, k)
abbrev pub IsNotMade : {V : Type 0} → List Lane → List (Step V) → Receipts V → ℕ → ℕ → Type 0
IsNotMade guide past rs u k =
    (what : What) (stamp : ℕ → ℕ) → Follows guide u k what
    → IsKnown past rs (record { thread = u; number = k; what = what }) stamp → ⊥

-- After this history thread t wants to touch a variable, or to read it. As it found it, now or earlier, the guide said
-- to wait for entry (u, k).
pub record IsHeldUp {V : Type 0} (m : Meaning V) (guide : List Lane) (steps : List (Step V)) (t u k : ℕ) : Type 0 where
  pub var : ℕ
  pub read : Bool
  pub found : ℕ
  pub readers : List ℕ
  pub hand : Hand
  pub hand_is : (thread_after steps t).hand ≡ Some hand
  pub next : m.next hand.place ≡ wanted_move var read
  pub waits : WaitsFor guide t (entries t (log_of steps) + 1) var read found readers u k
  pub touched : found ≤ places var (log_of steps)

-- a step of the thread waits for an entry
abbrev pub StepWaits : {V : Type 0} → Setting V → World V → ℕ → Option ℕ → Type 0
StepWaits s w t given = (a : ℕ) × (b : ℕ) × On s w (event.Step t given) (outcome.Waits a b) [] w

-- After linked receipts that keep to what is followed, a thread that was held up waits still if the entry was not made.
abbrev pub MissedStillWait : Type 0 → Type 0
MissedStillWait X = (s : Setting X) (w : World X) (guide : List Lane) (rs : Receipts X) (order : List (Receipt X))
    (t u k : ℕ) (given : Option ℕ) → s.threads ≤ 16 → Sound s w → Guides w.followed (log_of w.past) guide
    → IsLinked s.meaning (inputs_fed s w.fed) s.threads w.past rs → IsOrder rs order → AllKeep guide order
    → t < s.threads → w.up ≡ true → IsNotMade guide w.past rs u k → IsHeldUp s.meaning guide (after order w.past) t u k
    → StepWaits s (world_after w order) t given
