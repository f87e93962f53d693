use Rattle.output_logger.proofs.KeptLemmas.{once_either}
use Rattle.output_logger.proofs.logger.OutputLogger.covered.Goals as goal

pub returns-clause-once : goal.returns-clause-once
returns-clause-once c = rw (c.from_vec.ensures, ← c.take_items-items.ensures)
    (once_either c.cover-covered.result c.args.self.now c.cover-covered.new.self c.take_items-items.result.items
    c.cover-covered.new.out.items c.cover-covered.ensures.err c.cover-covered.ensures.released)
