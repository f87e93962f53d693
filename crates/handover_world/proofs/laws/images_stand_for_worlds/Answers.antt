use Rattle.recovery_world.specs.World.{inputs_fed}
use Rattle.handover_world.proofs.ImageWorlds.{world_there, played_moves}
use Rattle.handover_world.proofs.laws.images_stand_for_worlds.Goals as goal

pub returns-clause-world : goal.returns-clause-world
returns-clause-world g c = world_there

pub returns-clause-moves : goal.returns-clause-moves
returns-clause-moves g c = λ s image. played_moves s.meaning (inputs_fed s image.fed) s.threads image.past
