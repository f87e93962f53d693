use Rattle.std.proofs.Common.{◌∙◌, sym}
use Rattle.nat_tables.proofs.GroupLemmas.{words_index, words_removed}
use Rattle.nat_tables.proofs.port_group.Group.take.Goals as goal

pub returns-clause-port : goal.returns-clause-port
returns-clause-port c =
    c.take_from_word-port.ensures.port
    ∙ sym (words_index c.args.self.now.words c.args.first c.args.at c.find_word-index.result.0
    c.find_word-index.result.1 c.find_word-index.ensures)

pub returns-clause-others : goal.returns-clause-others
returns-clause-others c =
    words_removed c.args.self.now.words c.take_from_word-port.new.word c.args.first c.args.at c.find_word-index.result.0
    c.find_word-index.result.1 c.find_word-index.ensures c.take_from_word-port.ensures.others
