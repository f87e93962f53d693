-- What performing the events of a picture comes to.
use Rattle.std.specs.Prelude.{◌≡◌, List, length}
use Rattle.recovery_world.specs.declared.event.Event.{Event}
use Rattle.recovery_world.specs.World.{Setting, World as SystemWorld}
use Rattle.run_drawing.specs.Noted.{Noted}
use Rattle.noted_runs.specs.declared.picture.running.Gone.{Gone}

-- The events were all performed and noted, and these are the counts of their world.
pub record HasGone {V : Type 0} (s : Setting V) (events : List Event) (gone : Gone) : Type 0 where
  pub world : SystemWorld V
  pub noted : Noted s events gone.notes world
  pub fed : gone.fed ≡ world.fed
  pub epoch : gone.epoch ≡ world.epoch
  pub released : gone.released ≡ length world.released
