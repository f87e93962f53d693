-- A system whose master was taken out: which worlds the rest of its parts stand for.
use Rattle.std.specs.Prelude.{◌≡◌, ◌≤◌, length}
use Rattle.plain_machine.specs.Program.{Meaning}
use Rattle.recovery_world.specs.World.{Setting, World}
use Rattle.recovery_world.specs.Limits.{IsWithin}
use Rattle.recovery_world.specs.Files.{moves_made}
use Rattle.replay_guide.specs.FromRecoveryLaws.{Sound}
use Rattle.system_parts.specs.Parts.{Parts}
use Rattle.system_parts.specs.SystemStanding.{HasInputs, HasSnapshots, HasEnded, HasGuide, HasSent, HasLogger}
use Rattle.system_parts.specs.SystemStanding.{NotesNames}

-- the moves of the master and those of all masters are counted, wherever the master is
pub record HasMoves {P V : Type 0} (w : World V) (y : Parts P V) : Type 0 where
  pub up : y.up ≡ w.up
  pub schedule : y.schedule ≡ moves_made w.past
  pub past : length w.past ≤ w.moves
  pub moves : y.moves ≡ w.moves
  pub bytes : y.bytes ≡ w.bytes

-- All parts but the master stand for the world.
pub record RestsFor {P V : Type 0} (m : Meaning V) (s : Setting V) (w : World V) (y : Parts P V) : Type 0 where
  pub sound : Sound s w
  pub within : IsWithin w
  pub inputs : HasInputs m s w y
  pub moved : HasMoves w y
  pub snapshots : HasSnapshots s w.stored w.copy y.store
  pub ended : HasEnded s.threads w.epoch w.ended y.ended
  pub guide : HasGuide w.followed w.past y.guide
  pub sent : HasSent w.epoch w.past y.logger.held y.logger.released y.sent
  pub logger : HasLogger w y.logger
  pub released : NotesNames w y
