use Rattle.std.proofs.Common.{arith}
use Rattle.nat_tables.proofs.GroupLemmas.{words_with, group_few}
use Rattle.nat_tables.proofs.port_group.Group.put.Goals as goal

pub overflow_add-self : goal.overflow_add-self
overflow_add-self c = let few = group_few c.args.self.now c.requires.counted in omega arith

pub returns-then-missing-clause-ports : goal.returns-then-missing-clause-ports
returns-then-missing-clause-ports c =
    words_with c.args.self.now.words c.args.port c.put_into_word-missing.new.word c.args.first c.from-index.result
    c.requires.counted.words c.requires.low c.requires.high c.from-index.ensures c.put_into_word-missing.ensures.ports

pub returns-else-missing-clause-ports : goal.returns-else-missing-clause-ports
returns-else-missing-clause-ports c =
    words_with c.args.self.now.words c.args.port c.put_into_word-missing.new.word c.args.first c.from-index.result
    c.requires.counted.words c.requires.low c.requires.high c.from-index.ensures c.put_into_word-missing.ensures.ports
