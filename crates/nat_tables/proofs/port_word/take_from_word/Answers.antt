use Rattle.std.proofs.Common.{sym, arith}
use Rattle.nat_tables.proofs.WordLemmas.{word_inside, word_index, word_removed, word_less}
use Rattle.nat_tables.proofs.port_word.take_from_word.Goals as goal

pub without_bit-requires : goal.without_bit-requires
without_bit-requires c = word_inside c.args.word.now c.args.at c.find_bit-bit.result c.find_bit-bit.ensures

pub overflow_cast-result : goal.overflow_cast-result
overflow_cast-result c =
    let low = word_inside c.args.word.now c.args.at c.find_bit-bit.result c.find_bit-bit.ensures in omega arith

pub overflow_mul-result : goal.overflow_mul-result
overflow_mul-result c =
    let low = word_inside c.args.word.now c.args.at c.find_bit-bit.result c.find_bit-bit.ensures in omega arith

pub overflow_add-result : goal.overflow_add-result
overflow_add-result c =
    let low = word_inside c.args.word.now c.args.at c.find_bit-bit.result c.find_bit-bit.ensures in
    let fits = c.requires.fits in omega arith

pub returns-clause-port : goal.returns-clause-port
returns-clause-port c =
    sym (word_index c.args.word.now c.args.first c.args.at c.find_bit-bit.result c.find_bit-bit.ensures)

pub returns-clause-others : goal.returns-clause-others
returns-clause-others c = word_removed c.args.word.now c.without_bit.result c.args.first c.args.at c.find_bit-bit.result
    c.find_bit-bit.ensures c.without_bit.ensures

pub returns-clause-count : goal.returns-clause-count
returns-clause-count c = word_less c.args.word.now c.without_bit.result c.args.at c.find_bit-bit.result
    c.find_bit-bit.ensures c.without_bit.ensures
