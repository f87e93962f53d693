-- How the threads of a round with no limits end.
use Rattle.std.specs.Prelude.{◌≡◌, ℕ, ◌<◌, true, [], None}
use Rattle.recovery_world.specs.declared.event.Event.TheVariants as event
use Rattle.recovery_world.specs.declared.event.Outcome.TheVariants as outcome
use Rattle.recovery_world.specs.World.{Setting, World}
use Rattle.recovery_world.specs.Events.{On}
use Rattle.recovery_laws.specs.Sound.{Sound}
use Rattle.plan_script.specs.Rounds.{HasStopped}

-- Where each thread has stopped, and no limit stopped it, none waits for an entry: each is idle.
abbrev pub EndIdle : Type 0 → Type 0
EndIdle X =
    (s : Setting X) (w : World X) (made : ℕ → ℕ) → Sound s w → w.up ≡ true
    → ((t : ℕ) → t < s.threads → HasStopped s w t None (made t))
    → (t : ℕ) → t < s.threads → On s w (event.Step t None) outcome.Idle [] w
