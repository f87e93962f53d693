-- What every world keeps, part by part.
use Rattle.std.specs.Prelude.{◌≡◌, ℕ, ◌+◌, ◌≤◌, ◌⊎◌, false, List, Some, None}
use Rattle.entry_order.specs.declared.what.What.{What}
use Rattle.entry_order.specs.declared.what.What.TheVariants as what
use Rattle.entry_order.specs.Log.{Entry, entries, IsIn, Keeps, PrecedesOutput}
use Rattle.entry_order.specs.Closed.{IsClosedOver}
use Rattle.plain_machine.specs.declared.local.Move.{Move}
use Rattle.plain_machine.specs.declared.local.Move.TheVariants.{Access, Read, Clock, Draw, Emit, End}
use Rattle.plain_machine.specs.History.{Step, log_of}
use Rattle.plain_machine.specs.Agree.{IsEarlier, SendsAfter}
use Rattle.recovery_world.specs.World.{Sent, World}
use Rattle.recovery_world.specs.Events.{IsKnown, MayGo, IsAmong}
use Rattle.recovery_laws.specs.Sound.{times, IsEachOnce}

-- The stored snapshot is an earlier moment of the past, and the one under way is a moment of the past that is not
-- earlier than the stored one. None is under way while the master is down.
pub record SnapshotsStand {V : Type 0} (w : World V) : Type 0 where
  pub stored : IsEarlier w.stored w.past
  pub copied : (copy : List (Step V)) → w.copy ≡ Some copy → IsEarlier w.stored copy × IsEarlier copy w.past
  pub down : w.up ≡ false → w.copy ≡ None

-- A line of the world, which is a legal run on the capture, makes each entry that is held, as it was logged. No entry
-- is held twice. What the master follows is held, and is closed over what is stored; each held entry is followed, or
-- the past made it.
pub record LineStands {V : Type 0} (w : World V) (line : List (Step V)) : Type 0 where
  pub keeps : Keeps (log_of line) w.held
  pub once : IsEachOnce w.held
  pub followed : Keeps w.held w.followed
  pub closed : IsClosedOver (log_of line) (log_of w.stored) w.followed
  pub made : (e : Entry) → IsIn e w.held → IsIn e w.followed ⊎ IsIn e (log_of w.past)

-- The thread of a released output makes in the line all entries after which it was sent out, and all of its
-- predecessors, read in the line, are held or stored.
pub record ReleasedStands {V : Type 0} (w : World V) (line : List (Step V)) (o : Sent) : Type 0 where
  pub reached : o.after ≤ entries o.emission.thread (log_of line)
  pub known : (e : Entry) → PrecedesOutput (log_of line) o.emission.thread o.after e → IsKnown w e

-- The past sent out what waits, and it is not due. Each output was released once or waits once, and not both.
pub record WaitingStands {V : Type 0} (w : World V) : Type 0 where
  pub sent : (o : Sent) → IsAmong o w.waiting → SendsAfter w.past o.emission o.after
  pub not_due : (o : Sent) → IsAmong o w.waiting → MayGo w o → ⊥
  pub once : (t j : ℕ) → times t j w.released + times t j w.waiting ≤ 1

-- What the move logs is of this kind; a move that is not logged logs nothing.
abbrev pub IsKindOf : Move → What → Type 0
IsKindOf (Access v) w = (place : ℕ) × (w ≡ what.Access v place)
IsKindOf (Read v) w = (after : ℕ) × (w ≡ what.Read v after)
IsKindOf Clock w = (a : ℕ) × (w ≡ what.Clock a)
IsKindOf Draw w = (a : ℕ) × (w ≡ what.Draw a)
IsKindOf Emit w = Unit {0}
IsKindOf End w = Unit {0}
