use Rattle.world_io.proofs.MemoryLemmas.{Opens-healthy}
use Rattle.world_io.proofs.memory_world.MemoryWorldWorld.open_file.Goals as goal

pub returns-clause-stays_healthy : goal.returns-clause-stays_healthy
returns-clause-stays_healthy c =
    Opens-healthy c.args.self.now c.open.new.self c.args.name.now c.open.result c.open.ensures
