-- A system that is ready comes to rest by the last four events, and its world is counted.
use Rattle.std.proofs.Common.{ℕ, List, Ok}
use Rattle.recovery_laws.specs.Sound.{Sound}
use Rattle.recovery_world.specs.declared.event.Event.{Event}
use Rattle.recovery_world.specs.World.{Setting, World as SystemWorld, opening}
use Rattle.recovery_world.specs.Files.{Performs}
use Rattle.handover_world.specs.Counted.{IsCounted}
use Rattle.handover_world.specs.Handing.{ComesToRest}
use Rattle.handover_world.specs.Images.{IsAtRest}
use Rattle.handover_world.specs.Ready.{IsReadiness}
use Rattle.hand_command.specs.Hand.{resting}

-- the laws of worlds that are handed over
pub record RestingLaws (V : Type 0) : Type 0 where
  pub script : (s : Setting V) (w new : SystemWorld V) (lines : List ℕ) → Performs s w resting lines new
      → ComesToRest s w new
  pub rest : (s : Setting V) (w new : SystemWorld V) → Sound s w → IsReadiness w (Ok tt) → ComesToRest s w new
      → IsAtRest new
  pub performed : (s : Setting V) (events : List Event) (lines : List ℕ) (w : SystemWorld V)
      → Performs s (opening V) events lines w → IsCounted w
  pub goes_on : (s : Setting V) (w : SystemWorld V) (events : List Event) (lines : List ℕ) (new : SystemWorld V)
      → Sound s w → IsCounted w → Performs s w events lines new → IsCounted new
