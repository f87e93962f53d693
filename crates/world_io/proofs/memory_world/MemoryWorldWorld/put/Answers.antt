use Rattle.world_io.proofs.MemoryLemmas.{Puts-ledger, Puts-told}
use Rattle.world_io.proofs.memory_world.MemoryWorldWorld.put.Goals as goal

pub returns-clause-shows : goal.returns-clause-shows
returns-clause-shows c =
    λ _ _. Puts-told c.args.self.now c.append.new.self c.args.file c.append.result c.args.piece.now c.append.ensures

pub returns-clause-ledger : goal.returns-clause-ledger
returns-clause-ledger c =
    Puts-ledger c.args.self.now c.append.new.self c.args.file c.append.result c.args.piece.now c.append.ensures
