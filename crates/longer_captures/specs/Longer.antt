-- A capture to which more packets are added behind its own, while a system is at work on it.
use Rattle.std.specs.Prelude.{ℕ, ◌-◌, List, ◌∷◌, [], ◌++◌}
use Rattle.plain_text.specs.declared.packet.Packet.{Packet}
use Rattle.recovery_world.specs.declared.event.Event.{Event}
use Rattle.recovery_world.specs.declared.event.Event.TheVariants as event
use Rattle.recovery_world.specs.World.{Setting, World, opening}
use Rattle.recovery_world.specs.Events.{fed_after}
use Rattle.recovery_world.specs.Files.{Performs}

-- the setting, with these packets behind those of its capture
abbrev pub with_more : {V : Type 0} → Setting V → List Packet → Setting V
with_more s more = record s { packets = s.packets ++ more }

-- The event that does on a longer capture what this one does: it feeds as many packets as were fed here, where the
-- capture may have ended sooner. Every other event is the same one.
abbrev pub as_fed : {V : Type 0} → Setting V → World V → Event → Event
as_fed s w (event.Feed n) = event.Feed (fed_after s w n - w.fed)
as_fed s w (event.Time n) = event.Time n
as_fed s w (event.Step t given) = event.Step t given
as_fed s w (event.Log t n) = event.Log t n
as_fed s w (event.Out t n) = event.Out t n
as_fed s w (event.Late e k t n) = event.Late e k t n
as_fed s w (event.Cut k t n len) = event.Cut k t n len
as_fed s w event.Snap = event.Snap
as_fed s w event.Store = event.Store
as_fed s w event.Crash = event.Crash
as_fed s w event.Recover = event.Recover
as_fed s w (event.Show v) = event.Show v
as_fed s w event.Settle = event.Settle
as_fed s w (event.Flow n) = event.Flow n
as_fed s w (event.Auto seed n) = event.Auto seed n

-- Some script leads from the opening to the world.
pub record IsPerformed {V : Type 0} (s : Setting V) (w : World V) : Type 0 where
  pub events : List Event
  pub lines : List ℕ
  pub performs : Performs s (opening V) events lines w
